-- What a right message entry says of its numbers and of its label, and that each entry of a right table is right.
-- By recursion on the count. Assumes nothing.
use mathlib.Core.Path.{◌≡◌}
use mathlib.Core.Bool.{true}
use mathlib.Core.List.{List}
use Prim.Native.Nat.{ℕ, zero, suc, ◌+◌, ◌*◌, ◌<◌, ◌≤◌}
use native.Mathlib.Omega.{arith}
use borrow.Author.Tests.{leb-true, eqb-true}
use Rattle.base.specs.Tests.{between}
use Rattle.base.specs.Checks.{fine}
use Rattle.base.proofs.TestLaws.{every-head, every_rest}
use Rattle.base.proofs.CheckLaws.{first_head, first_rest, first_holds}
use Rattle.contents.specs.declared.Fault.TheVariants.{BadMessage}
use Rattle.contents.specs.declared.Counts.{Counts}
use Rattle.contents.specs.Limits.{message_size, longest_label}
use Rattle.contents.specs.Bytes.{u16_at, part}
use Rattle.contents.specs.Contents.{text_at}
use Rattle.messages.specs.Messages.{readable, message_right, messages_right}

pub record Entry (f : List ℕ) (c : Counts) (at from : ℕ) : Type 0 where
  pub start : u16_at f at ≡ from
  pub size : between 1 longest_label (u16_at f (at + 2)) ≡ true
  pub fits : from + u16_at f (at + 2) ≤ c.text
  pub read : readable (part f (text_at c + from) (u16_at f (at + 2))) ≡ true

module _ (f : List ℕ) (c : Counts) (at from : ℕ) where
  pub entry-right : message_right f c at from ≡ true → Entry f c at from
  unfolding message_right
  entry-right e =
      let e₁ = every_rest _ _ e in
      let e₂ = every_rest _ _ e₁ in
      record {
        start = eqb-true _ _ (every-head _ _ e);
        size = every-head _ _ e₁;
        fits = leb-true _ _ (every-head _ _ e₂);
        read = every-head _ _ (every_rest _ _ e₂);
      }

  module _ (count : ℕ) (e : messages_right f c at (suc count) from ≡ fine) where
    pub entry_first : Entry f c at from
    unfolding messages_right
    entry_first = entry-right (first_holds _ (BadMessage at) _ e)

    pub entries-rest : messages_right f c (at + message_size) count (from + u16_at f (at + 2)) ≡ fine
    unfolding messages_right
    entries-rest = first_head _ _ (first_rest _ _ e)

-- each entry of a right table, wherever it stands
pub nth-entry : (f : List ℕ) (c : Counts) (n k at from : ℕ) → messages_right f c at k from ≡ fine → n < k → Entry f c (at + message_size * n) (u16_at f (at + message_size * n))
nth-entry f c n zero at from e p = absurd (omega arith)
nth-entry f c zero (suc k) at from e p =
    let z : at + message_size * 0 ≡ at = omega arith in
    let r = entry_first f c at from k e in
    rw (z, r.start) r
nth-entry f c (suc n) (suc k) at from e p =
    let z : at + message_size * suc n ≡ at + message_size + message_size * n = omega arith in
    rw z (nth-entry f c n k (at + message_size) (from + u16_at f (at + 2)) (entries-rest f c at from k e) (omega arith))
