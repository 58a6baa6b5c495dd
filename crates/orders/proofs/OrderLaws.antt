-- All arguments, in the code's own steps: begun with the first, one taken at a time, closed at the end; and that the first fault decides.
-- Assumes nothing.
use mathlib.Core.Path.{◌≡◌, refl, ap, ◌∙◌}
use mathlib.Core.Bool.{false}
use mathlib.Core.List.{List, [], ◌∷◌}
use Prim.Native.Nat.{ℕ, suc, ◌+◌, ◌<◌, ◌≤◌}
use native.Mathlib.Numerals.{add-one}
use native.Mathlib.Omega.{arith}
use lib.ListN.{length, get_or, drop, drop_of_length-le}
use lib.Seq.{drop-cons}
use Rattle.base.specs.Tests.{pick}
use Rattle.menu.specs.declared.Command.TheVariants.{Help}
use Rattle.orders.specs.declared.Usage.TheVariants.{Wished}
use Rattle.orders.specs.declared.Order.{Order}
use Rattle.orders.specs.Usage.{fresh, is_right, begun, taken, closed, taken_all, ordered}

pub ordered-none : ordered [] ≡ fresh Help Wished 0
unfolding ordered
ordered-none = refl

-- ---- one argument after the other: k of them are passed, and the next is at place i

pub order-start : (args : List (List ℕ)) → 0 < length args → closed (taken_all (begun (get_or args 0 [])) 2 (drop 1 args)) ≡ ordered args
unfolding ordered
order-start [] p = absurd (omega arith)
order-start (arg ∷ args) p = refl

module _ (args : List (List ℕ)) (k i : ℕ) (o W : Order) (inv : closed (taken_all o i (drop k args)) ≡ W) where
  pub order-on : k < length args → closed (taken_all (taken o i (get_or args k [])) (i + 1) (drop (k + 1) args)) ≡ W
  unfolding taken_all
  order-on p =
      let d : drop k args ≡ get_or args k [] ∷ drop (k + 1) args = rw (add-one, drop-cons args k []) in
      rw (add-one i) (rw d at inv)

  pub order-end : length args ≤ k → closed o ≡ W
  unfolding taken_all
  order-end p = rw (drop_of_length-le args p) at inv

-- ---- the first fault decides

pub fault-stays : (o : Order) (i : ℕ) (arg : List ℕ) → is_right o.usage ≡ false → taken o i arg ≡ o
unfolding taken pick
fault-stays o i arg e = rw e

pub fault-all : (o : Order) (i : ℕ) (args : List (List ℕ)) → is_right o.usage ≡ false → taken_all o i args ≡ o
unfolding taken_all
fault-all o i [] e = refl
fault-all o i (arg ∷ args) e = ap (λ (x : Order). taken_all x (suc i) args) (fault-stays o i arg e) ∙ fault-all o (suc i) args e

pub fault-decides : (o : Order) (i : ℕ) (args : List (List ℕ)) → is_right o.usage ≡ false → closed (taken_all o i args) ≡ o
unfolding closed pick
fault-decides o i args e = rw (fault-all o i args e, e)
