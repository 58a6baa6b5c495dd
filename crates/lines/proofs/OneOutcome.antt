-- No second outcome meets the contract of reading on in a chunk. For a printed line `one-laid` of `ascii` says so.
-- Assumes nothing.
use mathlib.Core.Path.{◌≡◌, sym, ap, ◌∙◌}
use mathlib.Core.List.{List}
use Prim.Native.Nat.{ℕ}
use Rattle.ascii.proofs.OneOutcome.{same-both}
use Rattle.lines.specs.declared.Fed.{Fed}
use Rattle.lines.specs.Input.{Feeds}

module _ (chunk line n n' : List ℕ) (at have : ℕ) (r r' : Fed) (p : Feeds chunk at line have n r) (q : Feeds chunk at line have n' r') where
  pub feeds-same-answer : r ≡ r'
  feeds-same-answer = p.answer ∙ sym q.answer

  pub feeds-same : n ≡ n'
  feeds-same =
      let e : r'.have ≡ r.have = ap (λ (f : Fed). f.have) (sym feeds-same-answer) in
      same-both n n' r.have (p.kept ∙ sym (rw e at q.kept)) (p.others ∙ sym (rw e at q.others))
