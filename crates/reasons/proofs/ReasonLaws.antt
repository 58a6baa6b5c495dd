-- An error number's row, in the code's own terms, and the lines, laid one part behind the other.
-- Assumes nothing.
use mathlib.Core.Path.{◌≡◌, refl, ◌∙◌}
use mathlib.Core.Bool.{true}
use mathlib.Core.List.{List, [], ◌∷◌, ◌++◌}
use Prim.Native.Nat.{ℕ, ◌+◌, ◌≤◌}
use native.Mathlib.Omega.{arith}
use lib.ListN.{length}
use lib.Dec.{leb}
use lib.IntN.{ℤ, pos, negsuc, nat_abs}
use mir.Syntax.{w32, w64}
use Rattle.std.specs.Prelude.{Result, Ok, Err}
use Rattle.std.specs.Result.{OkIff, result_unwrap_or}
use Rattle.std.specs.Int.{FitsUnsignedBits}
use mir.Val.{Fits, SFits, of_z, to_z}
use mir.Facts.{to_z-of_z, Fits-nat_abs}
use borrow.Author.Tests.{ne_eqb, leb-true}
use borrow.Author.Rules.{rules}
use Rattle.base.specs.Tests.{pick}
use Rattle.ascii.specs.Words.{newline}
use Rattle.ascii.specs.Decimals.{decimal}
use Rattle.ascii.specs.Text.{bytes_of}
use Rattle.ascii.specs.Laying.{Laid}
use Rattle.ascii.proofs.LayLaws.{laid-join}
use Rattle.reasons.specs.Reasons.{Reason, reason_table, words_in, reason_words, error_number, reason_line, unread_line, unwritten_line, reason_room}

-- ---- the error number

number-from : {E : Type 0} (z : ℤ) (r : Result ℕ E) → SFits w32 z → OkIff r (FitsUnsignedBits 64 z) (nat_abs z) → result_unwrap_or r 0 ≡ error_number z
unfolding error_number
number-from (pos n) (Ok x) f p = p.1
number-from (pos n) (Err e) f p = let h : Fits w64 n = Fits-nat_abs {w' = w64} tt f in absurd (p h.fits)
number-from (negsuc n) (Ok x) f p = absurd p.0
number-from (negsuc n) (Err e) f p = refl

module _ (z : ℤ) (f : SFits w32 z) where
  pub error-from : {E : Type 0} (r : Result ℕ E) (k : ℕ) → OkIff r (FitsUnsignedBits 64 (to_z w32 (of_z w32 z))) (nat_abs (to_z w32 (of_z w32 z))) → k ≡ result_unwrap_or r 0
      → k ≡ error_number z
  error-from r k p e = e ∙ number-from z r f (rw (to_z-of_z f) at p)

  -- as a caller reads it
  pub error-read : (k : ℕ) → k ≡ error_number (to_z w32 (of_z w32 z)) → k ≡ error_number z
  error-read k e = rw (to_z-of_z f) at e

-- ---- the words

pub lay-error : (o m n : List ℕ) (x at a r : ℕ) → Laid o at (bytes_of "error ") m a → Laid m a (decimal x) n r → Laid o at (bytes_of "error " ++ decimal x) n r
lay-error o m n x at a r p q = laid-join o m n _ _ at a r p q

pub ruleset errors = (lay-error, rules)

-- n has none of these rows, as the last arm of a match on their numbers is told.
abbrev pub NoneOf : Type 0 → List Reason → ℕ → Type 0
NoneOf P [] n = P
NoneOf P (r ∷ rs) n = NoneOf (P × (n ≡ r.number → ⊥)) rs n

none_told : (P : Type 0) (rs : List Reason) (n : ℕ) → NoneOf P rs n → P × (words_in rs n ≡ bytes_of "error " ++ decimal n)
unfolding words_in pick
none_told P [] n p = (p, refl)
none_told P (r ∷ rs) n p =
    let q = none_told (P × (n ≡ r.number → ⊥)) rs n p in
    (q.0.0, rw (ne_eqb n r.number q.0.1) q.1)

-- a number's row is the row of the case that it is
pub reason-case : {o m words : List ℕ} {at r n k : ℕ} → n ≡ k → Laid o at words m r → reason_words k ≡ words → leb (length words) reason_room ≡ true → Laid o at (reason_words n) m r × (r ≤ at + reason_room)
reason-case {o} {m} {words} {at} {r} e l p q = let s : r ≡ at + length words = l.stop in (rw (e, p) l, omega (arith, leb-true (length words) reason_room q))

pub reason-other : {o m : List ℕ} {at r : ℕ} (n : ℕ) → NoneOf (Unit {0}) reason_table n → Laid o at (bytes_of "error " ++ decimal n) m r × (r ≤ at + reason_room) → Laid o at (reason_words n) m r × (r ≤ at + reason_room)
unfolding reason_words
reason-other n p l = (rw (none_told (Unit {0}) reason_table n p).1 l.0, l.1)

-- ---- the lines

pub lay-reason : (o m₁ m₂ m₃ n name what : List ℕ) (z : ℤ) (k a b c r : ℕ) → k ≡ error_number z → Laid o 0 name m₁ a → Laid m₁ a what m₂ b
    → Laid m₂ b (reason_words k) m₃ c → Laid m₃ c (newline ∷ []) n r → Laid o 0 (reason_line name what z) n r
unfolding reason_line
lay-reason o m₁ m₂ m₃ n name what z k a b c r e p q s t =
    rw (← e)
    (laid-join o m₁ n _ _ 0 a r p (laid-join m₁ m₂ n _ _ a b r q (laid-join m₂ m₃ n _ _ b c r s t)))

module _ (o n name : List ℕ) (z : ℤ) (r : ℕ) (f : SFits w32 z) where
  pub lay-unread : Laid o 0 (reason_line name (bytes_of ": can't be read: ") (to_z w32 (of_z w32 z))) n r → Laid o 0 (unread_line name z) n r
  unfolding unread_line
  lay-unread l = rw (to_z-of_z f) at l

  pub lay-unwritten : Laid o 0 (reason_line name (bytes_of ": can't be written: ") (to_z w32 (of_z w32 z))) n r → Laid o 0 (unwritten_line name z) n r
  unfolding unwritten_line
  lay-unwritten l = rw (to_z-of_z f) at l

pub ruleset lines = (lay-reason, lay-unread, lay-unwritten, rules)
