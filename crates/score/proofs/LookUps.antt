-- The text look-up: its two answers in the code's own terms, that they always agree, and which label is handed out.
-- Every entry of a right table lies within the text and is not empty. Assumes nothing.
use mathlib.Core.Path.{◌≡◌, refl, sym, ◌∙◌}
use mathlib.Core.List.{List, []}
use Prim.Native.Nat.{ℕ, ◌+◌, ◌-◌, ◌*◌, ◌<◌, ◌≤◌}
use native.Mathlib.Omega.{arith}
use lib.ListN.{length, get_or}
use borrow.Author.Tests.{le-ltb, lt-ltb, ltb-true}
use borrow.Author.Rules.{rules}
use borrow.Rule.Slice.PartAt.{sl_partˢ}
use denote.Ref.{Bor}
use Rattle.std.specs.Prelude.{true, false, Result, Ok, Err, is_err}
use Rattle.base.specs.Checks.{Check, fine, refused, need, first_fault}
use Rattle.base.proofs.TestLaws.{between-low, between-high}
use Rattle.base.proofs.CheckLaws.{first_head, first_rest, first_holds}
use Rattle.contents.specs.declared.Fault.{Fault}
use Rattle.contents.specs.declared.Fault.TheVariants.{NoMessage}
use Rattle.contents.specs.declared.Counts.{Counts}
use Rattle.contents.specs.Limits.{contents_size, message_size, longest_label}
use Rattle.contents.specs.Bytes.{u16_at, part}
use Rattle.contents.specs.Replies.{verdict_of}
use Rattle.contents.specs.Contents.{counts_of, messages_at, text_at, size_of}
use Rattle.messages.specs.Messages.{label_at}
use Rattle.score.specs.declared.look_up.Span.{Span}
use Rattle.score.specs.Piece.{decode}
use Rattle.score.specs.File.{checked, Accepted}
use Rattle.score.specs.LookUp.{label_reply, granted, label_span, Part}
use Rattle.score.specs.Inner.{Granted}
use Rattle.contents.proofs.Verdicts.{verdict-refused, verdict-end, verdict-pass, verdict-stop, told-fine, told-fault}
use Rattle.contents.proofs.PartLaws.{part_length}
use Rattle.messages.proofs.Decoded.{labels-at}
use Rattle.messages.proofs.Entries.{Entry, nth-entry}
use Rattle.score.proofs.Accepted.{accepted-told, file-long, file-sized, file-messages}

-- ---- a granted look-up

module _ (f : List ℕ) (n : ℕ) (reply : label_reply f n ≡ fine) where
  pub granted-file : Accepted f
  unfolding label_reply
  granted-file = record { fine = first_head _ _ reply }

  pub granted-below : n < (counts_of f).messages
  unfolding label_reply
  granted-below = ltb-true _ _ (first_holds _ _ _ (first_rest _ _ reply))

  granted-entry : Entry f (counts_of f) (messages_at (counts_of f) + message_size * n) (u16_at f (messages_at (counts_of f) + message_size * n))
  granted-entry = nth-entry f (counts_of f) n (counts_of f).messages (messages_at (counts_of f)) 0 (file-messages f granted-file) granted-below

  granted-size : (label_span f n).size ≡ u16_at f (messages_at (counts_of f) + message_size * n + 2)
  unfolding label_span granted
  granted-size = rw reply

  granted-start : (label_span f n).start ≡ text_at (counts_of f) + u16_at f (messages_at (counts_of f) + message_size * n)
  unfolding label_span granted
  granted-start = rw reply

  -- "A label is never empty"
  pub granted-some : 1 ≤ (label_span f n).size
  granted-some = rw granted-size (between-low _ _ _ granted-entry.size)

  pub granted-short : (label_span f n).size ≤ longest_label
  granted-short = rw granted-size (between-high _ _ _ granted-entry.size)

  pub granted-within : (label_span f n).start + (label_span f n).size ≤ length f
  granted-within =
      let w : length f ≡ size_of (counts_of f) = (file-sized f granted-file).whole in
      let l = granted-entry.fits in
      rw (granted-size, granted-start) (omega arith)

  -- the bytes handed out are so many, and they are the n-th label that the file says
  pub granted-length : length (part f (label_span f n).start (label_span f n).size) ≡ (label_span f n).size
  granted-length = part_length f (label_span f n).start (label_span f n).size granted-within

  pub granted-label : part f (label_span f n).start (label_span f n).size ≡ get_or (decode f).labels n []
  unfolding decode label_at
  granted-label = rw (granted-size, granted-start) (sym (labels-at f (counts_of f) (messages_at (counts_of f)) (counts_of f).messages n [] granted-below))

-- ---- "so the two always agree"

refused-size : (f : List ℕ) (n : ℕ) (v : Check Fault) → label_reply f n ≡ v → 1 ≤ (label_span f n).size → v ≡ fine
unfolding label_span granted
refused-size f n fine e p = refl
refused-size f n (refused x) e p = let z : 1 ≤ 0 = rw e at p in absurd (omega arith)

pub look-ups-agree : (f : List ℕ) (n : ℕ) → (label_reply f n ≡ fine → 1 ≤ (label_span f n).size) × (1 ≤ (label_span f n).size → label_reply f n ≡ fine)
look-ups-agree f n = (λ e. granted-some f n e, λ p. refused-size f n (label_reply f n) refl p)

-- the same of the part that is handed out
module _ (whole handed : Bor (List ℕ)) (n : ℕ) (p : Part whole handed (label_span whole.now n)) where
  pub handed-label : label_reply whole.now n ≡ fine → handed.now ≡ get_or (decode whole.now).labels n []
  unfolding part
  handed-label e = p.bytes ∙ granted-label whole.now n e

  handed-length : label_reply whole.now n ≡ fine → length handed.now ≡ (label_span whole.now n).size
  unfolding part
  handed-length e = rw p.bytes (granted-length whole.now n e)

  refused-empty : (v : Check Fault) → label_reply whole.now n ≡ v → 1 ≤ length handed.now → v ≡ fine
  unfolding label_span granted
  refused-empty fine e l = refl
  refused-empty (refused x) e l = let z : 1 ≤ 0 = rw (p.bytes, e) at l in absurd (omega arith)

  pub handed-agrees : (label_reply whole.now n ≡ fine → 1 ≤ length handed.now) × (1 ≤ length handed.now → label_reply whole.now n ≡ fine)
  handed-agrees = (λ e. rw (handed-length e) (granted-some whole.now n e), λ l. refused-empty (label_reply whole.now n) refl l)

  short-by : (v : Check Fault) → label_reply whole.now n ≡ v → length handed.now ≤ longest_label
  unfolding label_span granted
  short-by fine e = rw (handed-length e) (granted-short whole.now n e)
  short-by (refused x) e = rw (p.bytes, e) (omega arith)

  -- "Length 1 to 48", or none
  pub handed-short : length handed.now ≤ longest_label
  handed-short = short-by (label_reply whole.now n) refl

-- ---- the reply, in the code's terms

pub check-long : (f : List ℕ) (v : Result (Unit {0}) Fault) → v ≡ verdict_of (checked f) → v ≡ Ok tt → contents_size ≤ length f
check-long f v e p = file-long f (accepted-told f v e p)

module _ (f : List ℕ) (c : Counts) (n : ℕ) (v : Result (Unit {0}) Fault) (e : c ≡ counts_of f) (p : v ≡ verdict_of (checked f)) (q : v ≡ Ok tt) where
  pub reply-none : c.messages ≤ n → Err NoMessage ≡ verdict_of (label_reply f n)
  unfolding label_reply
  reply-none l = told-fine v (checked f) _ p _ q (verdict-stop _ NoMessage _ (le-ltb n (counts_of f).messages (rw e at l)))

  pub reply-fine : n < c.messages → Ok tt ≡ verdict_of (label_reply f n)
  unfolding label_reply
  reply-fine l = told-fine v (checked f) _ p _ q (verdict-pass _ NoMessage (Ok tt) _ (lt-ltb n (counts_of f).messages (rw e at l)) verdict-end)

pub reply-fault : (f : List ℕ) (n : ℕ) (x : Fault) (v r : Result (Unit {0}) Fault) → v ≡ verdict_of (checked f) → v ≡ Err x → r ≡ Err x → r ≡ verdict_of (label_reply f n)
unfolding label_reply
reply-fault f n x v r p q e = told-fault v (checked f) _ p r x q e

pub ruleset replies = (check-long, reply-none, reply-fine, reply-fault, rules)

-- ---- the span, in the code's terms

abbrev nowhere : Span
nowhere = record { start = 0; size = 0 }

module _ (f : List ℕ) (c : Counts) (n : ℕ) (a : Accepted f) (s : c ≡ counts_of f) where
  accepted-reply : n < c.messages → label_reply f n ≡ fine
  unfolding label_reply first_fault need
  accepted-reply l = rw (a.fine, lt-ltb n (counts_of f).messages (rw s at l))

  pub accepted-granted : n < c.messages → Granted f c n
  accepted-granted l =
      let r = accepted-reply l in
      record {
        contents = record { counts = s; sized = rw s (file-sized f a) };
        reply = r;
        below = l;
        fits = rw s (granted-entry f n r).fits;
      }

  pub accepted-none : c.messages ≤ n → nowhere ≡ label_span f n
  unfolding label_span granted label_reply first_fault need
  accepted-none l = rw (a.fine, le-ltb n (counts_of f).messages (rw s at l))

pub span-refused : (f : List ℕ) (n : ℕ) (v : Result (Unit {0}) Fault) → v ≡ verdict_of (checked f) → is_err v ≡ true → nowhere ≡ label_span f n
unfolding label_span granted label_reply first_fault
span-refused f n (Ok u) p q = absurd cc
span-refused f n (Err x) p q = rw (verdict-refused (checked f) (Err x) x p refl)

pub span-checked : (f : List ℕ) (v : Result (Unit {0}) Fault) → v ≡ verdict_of (checked f) → is_err v ≡ false → Accepted f
span-checked f (Ok u) p q = accepted-told f (Ok u) p refl
span-checked f (Err x) p q = absurd cc

module _ (f : List ℕ) (c : Counts) (n at text start size : ℕ) (g : Granted f c n) (ea : at ≡ messages_at c) (et : text ≡ text_at c)
    (p : start ≡ u16_at f (at + message_size * n)) (q : size ≡ u16_at f (at + message_size * n + 2)) where
  pub span-granted : record { start = text + start; size = size } ≡ label_span f n
  unfolding label_span granted
  span-granted = rw (g.reply, p, q, ea, et, g.contents.counts)

  pub span_fits : text + start + size ≤ length f
  span_fits =
      let w : length f ≡ size_of c = g.contents.sized.whole in
      let a : start ≡ u16_at f (messages_at c + message_size * n) = p ∙ rw ea in
      let b : size ≡ u16_at f (messages_at c + message_size * n + 2) = q ∙ rw ea in
      let h = g.fits in
      omega arith

-- a part from start on, to start + size
pub part_of : (whole : Bor (List ℕ)) (s t : Span) → s ≡ t → Part whole (sl_partˢ whole (s.start + whole.ref_ptr.1) s.start (s.start + s.size)) t
part_of whole s t e =
    let z : s.start + s.size - s.start ≡ s.size = omega arith in
    rw (← e) (record { place = refl; bytes = rw z })

pub ruleset spans = (file-long, span-checked, accepted-granted, accepted-none, span-refused, span-granted, span_fits, part_of, rules)
