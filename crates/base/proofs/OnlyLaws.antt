-- Laws of striking out: one element that stays or goes, and a test that all pass.
-- Assumes nothing.
use mathlib.Core.Path.{◌≡◌, refl, ap, ◌∙◌}
use mathlib.Core.Bool.{Bool, true, false}
use mathlib.Core.List.{List, [], ◌∷◌}
use Rattle.base.specs.Tests.{pick}
use Rattle.base.specs.Only.{only}

module _ {ℓ} {A : Type ℓ} (T : A → Bool) where
  pub only-in : (x : A) (l : List A) → T x ≡ true → only T (x ∷ l) ≡ x ∷ only T l
  unfolding only pick
  only-in x l e = rw e

  pub only_out : (x : A) (l : List A) → T x ≡ false → only T (x ∷ l) ≡ only T l
  unfolding only pick
  only_out x l e = rw e

  pub only-all : (l : List A) → ((x : A) → T x ≡ true) → only T l ≡ l
  unfolding only
  only-all [] h = refl
  only-all (x ∷ l) h = only-in x l (h x) ∙ ap (◌∷◌ x) (only-all l h)
