-- No second outcome meets the contract of a call that lays bytes: those before the answer and those after it are both given.
-- Assumes nothing.
use mathlib.Core.Path.{◌≡◌, sym, ap, ◌∙◌}
use mathlib.Core.List.{List, ◌++◌}
use Prim.Native.Nat.{ℕ}
use lib.ListN.{take, drop, take-append-drop}
use Rattle.ascii.specs.Laying.{Laid}

-- two lists that are alike before a place and from it on
pub same-both : (xs ys : List ℕ) (k : ℕ) → take k xs ≡ take k ys → drop k xs ≡ drop k ys → xs ≡ ys
same-both xs ys k p q = sym (take-append-drop k xs) ∙ ap (λ (l : List ℕ). l ++ drop k xs) p ∙ ap (λ (l : List ℕ). take k ys ++ l) q ∙ take-append-drop k ys

module _ (o bytes n n' : List ℕ) (at r r' : ℕ) (p : Laid o at bytes n r) (q : Laid o at bytes n' r') where
  pub one-stop : r ≡ r'
  one-stop = p.stop ∙ sym q.stop

  pub one-laid : n ≡ n'
  one-laid =
      let e : r' ≡ r = sym one-stop in
      same-both n n' r (p.front ∙ sym (rw e at q.front)) (p.others ∙ sym (rw e at q.others))
