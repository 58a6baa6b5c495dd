-- No second outcome meets the contract of a function of this crate.
-- Assumes nothing.
use mathlib.Core.Path.{◌≡◌}
use mathlib.Core.List.{List}
use Prim.Native.Nat.{ℕ}
use Rattle.ascii.specs.Laying.{Laid}
use Rattle.ascii.proofs.OneOutcome.{one-laid, one-stop}
use Rattle.menu.specs.Help.{help_text}

pub one-help : (o n n' : List ℕ) (r r' : ℕ) → Laid o 0 help_text n r → Laid o 0 help_text n' r' → (n ≡ n') × (r ≡ r')
one-help o n n' r r' p q = (one-laid o help_text n n' 0 r r' p q, one-stop o help_text n n' 0 r r' p q)
