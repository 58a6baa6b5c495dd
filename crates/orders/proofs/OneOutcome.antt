-- No second outcome meets the contract of a function of this crate.
-- Assumes nothing.
use mathlib.Core.Path.{◌≡◌, sym, ◌∙◌}
use mathlib.Core.Bool.{Bool}
use mathlib.Core.List.{List}
use Prim.Native.Nat.{ℕ}
use lib.ListN.{take}
use Rattle.ascii.specs.Laying.{Laid}
use Rattle.ascii.proofs.OneOutcome.{one-laid, one-stop}
use Rattle.orders.specs.declared.Order.{Order}
use Rattle.orders.specs.Usage.{argument_of, is_name, begun, taken, closed}
use Rattle.orders.specs.Said.{misuse_line, shown, first_line}

one : {A : Type 0} (x y z : A) → x ≡ z → y ≡ z → x ≡ y
one x y z p q = p ∙ sym q

pub one-misuse : (x : Order) (arg o n n' : List ℕ) (r r' : ℕ) → Laid o 0 (misuse_line x arg) n r → Laid o 0 (misuse_line x arg) n' r' → (n ≡ n') × (r ≡ r')
one-misuse x arg o n n' r r' p q = (one-laid o (misuse_line x arg) n n' 0 r r' p q, one-stop o (misuse_line x arg) n n' 0 r r' p q)

pub one_name : (o : Order) (arg : List ℕ) (r r' : Bool) → r ≡ is_name (argument_of o.plain arg) → r' ≡ is_name (argument_of o.plain arg) → r ≡ r'
one_name o arg r r' p q = one r r' _ p q

pub one-begun : (arg : List ℕ) (r r' : Order) → r ≡ begun arg → r' ≡ begun arg → r ≡ r'
one-begun arg r r' p q = one r r' _ p q

pub one-taken : (o : Order) (i : ℕ) (arg : List ℕ) (r r' : Order) → r ≡ taken o i arg → r' ≡ taken o i arg → r ≡ r'
one-taken o i arg r r' p q = one r r' _ p q

pub one-closed : (o r r' : Order) → r ≡ closed o → r' ≡ closed o → r ≡ r'
one-closed o r r' p q = one r r' _ p q

pub one-shown : (o n n' : List ℕ) (k r r' : ℕ) → Laid o 0 (shown (take k o)) n r → Laid o 0 (shown (take k o)) n' r' → (n ≡ n') × (r ≡ r')
one-shown o n n' k r r' p q = (one-laid o (shown (take k o)) n n' 0 r r' p q, one-stop o (shown (take k o)) n n' 0 r r' p q)

pub one-first-line : (name o n n' : List ℕ) (r r' : ℕ) → Laid o 0 (first_line name) n r → Laid o 0 (first_line name) n' r' → (n ≡ n') × (r ≡ r')
one-first-line name o n n' r r' p q = (one-laid o (first_line name) n n' 0 r r' p q, one-stop o (first_line name) n n' 0 r r' p q)
