-- Whether the file was read decides which line it gets, and what came of it.
-- Assumes nothing.
use mathlib.Core.Path.{◌≡◌, refl, sym, ap}
use mathlib.Core.Bool.{true, false}
use mathlib.Core.List.{List}
use Prim.Native.Nat.{ℕ, zero, suc}
use lib.IntN.{ℤ, pos, negsuc}
use mir.Syntax.{w32}
use mir.Val.{SFits, of_z, to_z}
use mir.Facts.{to_z-of_z}
use borrow.Author.Rules.{rules}
use Rattle.base.specs.Tests.{pick}
use Rattle.ascii.specs.Laying.{Laid}
use Rattle.streams.proofs.CallSteps.{bits-say}
use Rattle.reasons.specs.Reasons.{unread_line}
use Rattle.checking.specs.declared.run.Came.{Came}
use Rattle.checking.specs.declared.run.Came.TheVariants as came
use Rattle.checking.specs.declared.line.Checked.{Checked}
use Rattle.checking.specs.Checked.{CheckTold}
use Rattle.checking.specs.Account.{was_read, account_line, checked_came, came_of, AccountTold}

pub was-read : (e : ℤ) → SFits w32 e → of_z w32 e ≡ 0 → was_read e ≡ true
unfolding was_read
was-read e f p = sym (ap was_read (bits-say w32 e 0 f p))

pub not-read : (e : ℤ) → (of_z w32 e ≡ 0 → ⊥) → was_read e ≡ false
unfolding was_read
not-read (pos zero) p = absurd (p refl)
not-read (pos (suc n)) p = refl
not-read (negsuc n) p = refl

module _ (o n name : List ℕ) (e : ℤ) (f : List ℕ) (fits : SFits w32 e) where
  pub told-unread : (count : ℕ) → (of_z w32 e ≡ 0 → ⊥) → Laid o 0 (unread_line name (to_z w32 (of_z w32 e))) n count → AccountTold o name e f n (record { count = count; came = came.Unread })
  unfolding account_line came_of pick
  told-unread count p l = let z = not-read e p in record { line = rw z (rw (to_z-of_z fits) at l); came = rw z }

  pub told-read : (c : Checked) (w : Came) → of_z w32 e ≡ 0 → CheckTold o name f n c → w ≡ checked_came c.accepted → AccountTold o name e f n (record { count = c.count; came = w })
  unfolding account_line came_of pick
  told-read c w p l q = let z = was-read e fits p in record { line = rw z l.line; came = rw (z, ← l.accepted) q }

pub ruleset accounts = (told-unread, told-read, rules)
