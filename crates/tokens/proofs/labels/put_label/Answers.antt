use mathlib.Core.Path.{refl}
use Rattle.tokens.proofs.CopySteps.{copy-slash, copying}
use Rattle.tokens.proofs.labels.put_label.Goals.{then-b-eq-BACKSLASH+in-len1-up-rest, else-b-eq-BACKSLASH}
use Rattle.tokens.proofs.labels.put_label.Goals as goal

pub overflow_add-rest : goal.overflow_add-rest
overflow_add-rest c = search copying

pub slice_bounds-rest-count : goal.slice_bounds-rest-count
slice_bounds-rest-count c = search copying

pub slice_bounds-rest-start : goal.slice_bounds-rest-start
slice_bounds-rest-start c = search copying

pub loop-rest-init : goal.loop-rest-init
loop-rest-init c = search copying

pub returns-then-b-eq-QUOTE : goal.returns-then-b-eq-QUOTE
returns-then-b-eq-QUOTE c = search copying

pub returns-in_default-rest : goal.returns-in_default-rest
returns-in_default-rest c =
    let s = copy-slash _ _ _ _ _ _ _ _ c.requires c.loop-rest.invariant c.in-len1-up.len_at_least refl c.if-b-eq-BACKSLASH.true in
    search copying

pub bounds-out-next : goal.bounds-out-next
bounds-out-next c =
    let s = copy-slash _ _ _ _ _ _ _ _ c.requires c.loop-rest.invariant c.in-len1-up.len_at_least refl c.if-b-eq-BACKSLASH.true in
    search copying

pub bounds-out-next-else-b-eq-BACKSLASH : goal.bounds-out-next-else-b-eq-BACKSLASH
bounds-out-next-else-b-eq-BACKSLASH c = search copying

pub loop-rest-preserved : goal.loop-rest-preserved
loop-rest-preserved c =
    elim c.if-b-eq-BACKSLASH.branch [
      | then-b-eq-BACKSLASH+in-len1-up-rest w ↦ rw (w.out-is, w.rest-is) (search copying)
      | else-b-eq-BACKSLASH w ↦ rw (w.out-is, w.rest-is) (search copying)
    ]

pub returns : goal.returns
returns c = search copying
