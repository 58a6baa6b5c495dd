-- "Message: 4 bytes, start and length (u16) in the text."
use Rattle.std.specs.Prelude.{ℕ, zero, suc, ◌+◌, Bool, true, false, List, [], ◌∷◌, leb, eqb}
use Rattle.base.specs.Tests.{every, between}
use Rattle.base.specs.Ranges.{by_range, ◌to◌⇒◌}
use Rattle.base.specs.Checks.{Check, need, first_fault}
use Rattle.contents.specs.declared.Fault.{Fault}
use Rattle.contents.specs.declared.Fault.TheVariants.{BadMessage, TextLeft}
use Rattle.contents.specs.declared.Counts.{Counts}
use Rattle.contents.specs.Limits.{message_size, longest_label}
use Rattle.contents.specs.Bytes.{u16_at, part}
use Rattle.contents.specs.Contents.{text_at}

-- "Label bytes are 32 to 255 but not 127", by range. What is above 255 is no byte.
unfoldable pub label_byte : ℕ → Bool
label_byte b =
    by_range b (
    0 to 31 ⇒ false
    ∷ 32 to 126 ⇒ true
    ∷ 127 to 127 ⇒ false
    ∷ 128 to 255 ⇒ true
    ∷ []
    )
    false

unfoldable pub readable : List ℕ → Bool
readable [] = true
readable (b ∷ bs) = every (label_byte b ∷ readable bs ∷ [])

-- The label that the entry at the byte at names: "bytes from 128 up are kept exactly".
unfoldable pub label_at : List ℕ → Counts → ℕ → List ℕ
label_at f c at = part f (text_at c + u16_at f at) (u16_at f (at + 2))

unfoldable pub labels_at : List ℕ → Counts → ℕ → ℕ → List (List ℕ)
labels_at f c at zero = []
labels_at f c at (suc count) = label_at f c at ∷ labels_at f c (at + message_size) count

-- "The first starts at 0, each next where the one before ends": at from. "Length 1 to 48."
unfoldable pub message_right : List ℕ → Counts → ℕ → ℕ → Bool
message_right f c at from =
    every (
    eqb (u16_at f at) from
    ∷ between 1 longest_label (u16_at f (at + 2))
    ∷ leb (from + u16_at f (at + 2)) c.text
    ∷ readable (part f (text_at c + from) (u16_at f (at + 2)))
    ∷ []
    )

-- 8: "a message entry or its label bytes", at "the entry's first byte"; "entries right, text not used up", at 24, where the last does not end "at the text's end".
unfoldable pub messages_right : List ℕ → Counts → ℕ → ℕ → ℕ → Check Fault
messages_right f c at zero from = need (eqb from c.text) TextLeft
messages_right f c at (suc count) from =
    first_fault (need (message_right f c at from) (BadMessage at) ∷ messages_right f c (at + message_size) count (from + u16_at f (at + 2)) ∷ [])
