-- The text look-up. "The look-up is asked twice on the same file and number, once for the reply and once for the part".
use Rattle.std.specs.Prelude.{ℕ, ◌+◌, ◌*◌, ◌≡◌, List, [], ◌∷◌, take, drop, ltb}
use Rattle.std.specs.Borrow.{Bor}
use Rattle.base.specs.Checks.{Check, fine, refused, need, first_fault}
use Rattle.contents.specs.declared.Fault.{Fault}
use Rattle.contents.specs.declared.Fault.TheVariants.{NoMessage}
use Rattle.contents.specs.Limits.{message_size}
use Rattle.contents.specs.Bytes.{u16_at}
use Rattle.contents.specs.Contents.{counts_of, messages_at, text_at}
use Rattle.score.specs.declared.look_up.Span.{Span}
use Rattle.score.specs.File.{checked}

-- "Text look-up: the file check, 15." 15: "no such message"
unfoldable pub label_reply : List ℕ → ℕ → Check Fault
label_reply f n = first_fault (checked f ∷ need (ltb n (counts_of f).messages) NoMessage ∷ [])

-- "a refused one hands back an empty part at the file's start, a granted one the label's own bytes in the caller's file"
unfoldable pub granted : Check Fault → Span → Span
granted fine s = s
granted (refused x) s = record { start = 0; size = 0 }

unfoldable pub label_span : List ℕ → ℕ → Span
label_span f n =
    let c = counts_of f in
    let at = messages_at c + message_size * n in
    granted (label_reply f n) (record { start = text_at c + u16_at f at; size = u16_at f (at + 2) })

-- The label's own bytes, which lie in the file.
unfoldable pub label_bytes : (file : List ℕ) → ℕ → List ℕ
label_bytes f n = take (label_span f n).size (drop (label_span f n).start f)

-- A part of the caller's bytes: where it lies, so that it is no copy, and which bytes it has.
pub record Part (whole part : Bor (List ℕ)) (s : Span) : Type 0 where
  pub place : part.ref_ptr ≡ (whole.ref_ptr.0, s.start + whole.ref_ptr.1)
  pub bytes : part.now ≡ take s.size (drop s.start whole.now)
