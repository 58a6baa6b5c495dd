use mathlib.Core.Path.{refl}
use Rattle.tokens.proofs.LabelSteps.{label-slash, labels}
use Rattle.tokens.proofs.labels.label.Goals.{then-text-at-via-then-text-at, then-text-at-via-else-text-at+then-text-at-ne-QUOTE}
use Rattle.tokens.proofs.labels.label.Goals.{in_default-rest-via-then-rest-lt1-2, in_default-rest-via-in-len1-up-rest+else-is_escaped}
use Rattle.tokens.proofs.labels.label.Goals.{then-b-eq-BACKSLASH+in-len1-up-rest, else-b-eq-BACKSLASH}
use Rattle.tokens.proofs.labels.label.Goals as goal

pub returns-then-text-at : goal.returns-then-text-at
returns-then-text-at c =
    elim c.then-text-at.branch [
      | then-text-at-via-then-text-at w ↦ search labels
      | then-text-at-via-else-text-at+then-text-at-ne-QUOTE w ↦ search labels
    ]

pub loop-rest-init : goal.loop-rest-init
loop-rest-init c = search labels

pub returns-then-b-eq-QUOTE : goal.returns-then-b-eq-QUOTE
returns-then-b-eq-QUOTE c = search labels

pub returns-then-b-eq-NEWLINE : goal.returns-then-b-eq-NEWLINE
returns-then-b-eq-NEWLINE c = search labels

pub returns-in_default-rest : goal.returns-in_default-rest
returns-in_default-rest c =
    let s = label-slash _ _ _ _ _ c.loop-rest.invariant c.in-len1-up.len_at_least refl c.if-b-eq-BACKSLASH.true in
    elim c.in_default-rest.branch [
      | in_default-rest-via-then-rest-lt1-2 w ↦ search labels
      | in_default-rest-via-in-len1-up-rest+else-is_escaped w ↦ search labels
    ]

pub loop-rest-preserved : goal.loop-rest-preserved
loop-rest-preserved c =
    elim c.if-b-eq-BACKSLASH.branch [
      | then-b-eq-BACKSLASH+in-len1-up-rest w ↦ rw w.rest-is (search labels)
      | else-b-eq-BACKSLASH w ↦ rw w.rest-is (search labels)
    ]

pub returns : goal.returns
returns c = search labels
