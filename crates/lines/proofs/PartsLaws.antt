-- "parts above 65,535 make the line unreadable": an opening that was read has sixteen part bits.
-- Assumes nothing.
use mathlib.Core.Path.{◌≡◌, refl}
use mathlib.Core.Bool.{Bool, true, false}
use mathlib.Core.List.{List, [], ◌∷◌}
use Prim.Native.Nat.{ℕ, ◌≤◌}
use native.Mathlib.Omega.{arith}
use lib.Dec.{leb}
use borrow.Author.Tests.{leb-true}
use Rattle.std.specs.Prelude.{Option, Some, None}
use Rattle.base.specs.Tests.{pick}
use Rattle.base.proofs.TestLaws.{every-head, every_rest}
use Rattle.ascii.specs.Numbers.{value}
use Rattle.lines.specs.declared.Command.{Command}
use Rattle.lines.specs.declared.Command.TheVariants.{Open}
use Rattle.lines.specs.Commands.{most_parts, first_word, two_numbers, open_of, hear_of, pass_of, command_of}

module _ (a b : ℕ) where
  picked : (t : Bool) (x y : Option Command) → pick t x y ≡ Some (Open a b) → (t ≡ true → x ≡ Some (Open a b) → a ≤ most_parts) → (y ≡ Some (Open a b) → a ≤ most_parts) → a ≤ most_parts
  unfolding pick
  picked true x y e f g = f refl e
  picked false x y e f g = g e

  not-bad : None ≡ Some (Open a b) → a ≤ most_parts
  not-bad e = let z : ◌≡◌ {A = ℕ} 0 1 = cc in absurd (omega arith)

  open-parts : (bs : List ℕ) → open_of bs ≡ Some (Open a b) → a ≤ most_parts
  unfolding open_of
  open-parts bs e =
      let few = leb (value (first_word bs)) most_parts in
      picked _ _ _ e
      (λ t q.
      let z : value (first_word bs) ≡ a = cc in
      let l : few ≡ true = every-head few [] (every_rest (two_numbers bs) (few ∷ []) t) in
      omega (arith, leb-true (value (first_word bs)) most_parts l)
      )
      not-bad

  hear-parts : (bs : List ℕ) → hear_of bs ≡ Some (Open a b) → a ≤ most_parts
  unfolding hear_of
  hear-parts bs e = picked _ _ _ e (λ t q. let z : ◌≡◌ {A = ℕ} 0 1 = cc in absurd (omega arith)) not-bad

  pass-parts : (bs : List ℕ) → pass_of bs ≡ Some (Open a b) → a ≤ most_parts
  unfolding pass_of
  pass-parts bs e = picked _ _ _ e (λ t q. let z : ◌≡◌ {A = ℕ} 0 1 = cc in absurd (omega arith)) not-bad

  pub command-parts : (l : List ℕ) → command_of l ≡ Some (Open a b) → a ≤ most_parts
  unfolding command_of
  command-parts l e =
      picked _ _ _ e (λ t q. open-parts _ q)
      (λ e₂. picked _ _ _ e₂ (λ t q. hear-parts _ q) (λ e₃. picked _ _ _ e₃ (λ t q. pass-parts _ q) not-bad))
