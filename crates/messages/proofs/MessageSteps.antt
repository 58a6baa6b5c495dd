-- The check of a label's bytes, and one step of the check of the messages, in the code's own terms.
-- Assumes nothing.
use mathlib.Core.Path.{◌≡◌, refl, sym, ◌∙◌}
use mathlib.Core.Bool.{Bool, true, false}
use mathlib.Core.List.{List, [], ◌∷◌}
use Prim.Native.Nat.{ℕ, zero, suc, ◌+◌, ◌-◌, ◌<◌, ◌≤◌}
use native.Mathlib.Omega.{arith}
use lib.ListN.{take, drop}
use lib.Dec.{leb, eqb}
use borrow.Author.Tests.{eq-eqb, ne_eqb}
use borrow.Author.Rules.{rules}
use Rattle.std.specs.Prelude.{◌&&◌, Ok, Err}
use Rattle.std.specs.List.{list_all}
use Rattle.base.specs.Tests.{every, between}
use Rattle.base.specs.Checks.{Check, need, first_fault}
use Rattle.base.proofs.TestLaws.{every-pass, every-stop, tests}
use Rattle.contents.specs.declared.Fault.{Fault}
use Rattle.contents.specs.declared.Fault.TheVariants.{BadMessage, TextLeft}
use Rattle.contents.specs.declared.Counts.{Counts}
use Rattle.contents.specs.Limits.{message_size, longest_label}
use Rattle.contents.specs.Bytes.{u16_at, part}
use Rattle.contents.specs.Contents.{text_at}
use Rattle.contents.specs.Replies.{verdict_of}
use Rattle.messages.specs.Messages.{label_byte, readable, message_right, messages_right}
use Rattle.contents.proofs.Verdicts.{verdict-stop, check-next}
use Rattle.messages.proofs.Entries.{entry-right}

-- ---- the bytes of a label

both : (b r : Bool) → (b && r) ≡ every (b ∷ r ∷ [])
unfolding every
both true true = refl
both true false = refl
both false r = refl

pub readable-all : (bs : List ℕ) → list_all label_byte bs ≡ readable bs
unfolding readable
readable-all [] = refl
readable-all (b ∷ bs) = rw (readable-all bs) (both (label_byte b) (readable bs))

-- the bytes between two places are those of the part from the first on
pub label-read : (f : List ℕ) (at size : ℕ) (r : Bool) → r ≡ list_all label_byte (take (at + size - at) (drop at f)) → r ≡ readable (part f at size)
unfolding part
label-read f at size r e = let z : at + size - at ≡ size = omega arith in rw z at (e ∙ readable-all (take (at + size - at) (drop at f)))

-- ---- the entries

messages-none : (f : List ℕ) (c : Counts) (at count from : ℕ) → count ≤ 0 → messages_right f c at count from ≡ need (eqb from c.text) TextLeft
unfolding messages_right
messages-none f c at zero from p = refl
messages-none f c at (suc k) from p = absurd (omega arith)

messages-more : (f : List ℕ) (c : Counts) (at count from : ℕ) → 0 < count
    → messages_right f c at count from ≡ first_fault (need (message_right f c at from) (BadMessage at) ∷ messages_right f c (at + message_size) (count - 1) (from + u16_at f (at + 2)) ∷ [])
unfolding messages_right
messages-more f c at zero from p = absurd (omega arith)
messages-more f c at (suc k) from p = let s : suc k - 1 ≡ k = omega arith in rw s

-- the first entry stands where it was computed to stand
pub messages-here : (f : List ℕ) (c : Counts) (at i count from : ℕ) → i ≡ at → messages_right f c i count from ≡ messages_right f c at count from
messages-here f c at i count from e = rw e

module _ (f : List ℕ) (c : Counts) (at count from : ℕ) (W : Check Fault) where
  pub messages-unused : count ≤ 0 → (from ≡ c.text → ⊥) → messages_right f c at count from ≡ W → Err TextLeft ≡ verdict_of W
  unfolding verdict_of need
  messages-unused p h q = rw (← q, messages-none f c at count from p, ne_eqb from c.text h)

  pub messages-used : count ≤ 0 → from ≡ c.text → messages_right f c at count from ≡ W → Ok tt ≡ verdict_of W
  unfolding verdict_of need
  messages-used p h q = rw (← q, messages-none f c at count from p, eq-eqb from c.text h)

  module _ (t : Bool) (some : 0 < count) (e : t ≡ message_right f c at from) where
    pub messages-bad : t ≡ false → messages_right f c at count from ≡ W → Err (BadMessage at) ≡ verdict_of W
    messages-bad h q = rw (← q, messages-more f c at count from some) (verdict-stop _ _ _ (sym e ∙ h))

    pub messages-step : (n next left : ℕ) → t ≡ true → n ≡ u16_at f (at + 2) → next ≡ at + message_size → left ≡ count - 1 → messages_right f c at count from ≡ W
        → messages_right f c next left (from + n) ≡ W
    messages-step n next left h en a l q =
        rw (en, a, l) (sym (messages-more f c at count from some ∙ check-next _ (BadMessage at) _ (sym e ∙ h)) ∙ q)

-- a right message ends within the text
pub message-fits : (f : List ℕ) (c : Counts) (at from n : ℕ) (t : Bool) → t ≡ message_right f c at from → t ≡ true → n ≡ u16_at f (at + 2) → from + n ≤ c.text
message-fits f c at from n t e h en = rw en (entry-right f c at from (sym e ∙ h)).fits

pub ruleset messages = (messages-here, messages-unused, messages-used, messages-bad, messages-step, message-fits, rules)

-- ---- one entry, with its two numbers read and the text's start computed

pub message-told : (f : List ℕ) (c : Counts) (at from start size text : ℕ) (r : Bool) → start ≡ u16_at f at → size ≡ u16_at f (at + 2) → text ≡ text_at c
    → r ≡ every (eqb start from ∷ between 1 longest_label size ∷ leb (from + size) c.text ∷ readable (part f (text + from) size) ∷ []) → r ≡ message_right f c at from
unfolding message_right
message-told f c at from start size text r p q s e = rw (← p, ← q, ← s) e

-- where the text's start is not asked for
pub message-short : (f : List ℕ) (c : Counts) (at from start size : ℕ) (r : Bool) → start ≡ u16_at f at → size ≡ u16_at f (at + 2)
    → r ≡ every (eqb start from ∷ between 1 longest_label size ∷ leb (from + size) c.text ∷ readable (part f (text_at c + from) size) ∷ []) → r ≡ message_right f c at from
message-short f c at from start size r p q e = message-told f c at from start size (text_at c) r p q refl e

pub ruleset entries = (message-short, tests)

pub ruleset whole-entries = (message-told, tests)
