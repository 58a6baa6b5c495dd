-- The bodies of a file lie at the fronts of their bytes, and the file's check decides whether it comes to the room.
-- Assumes nothing.
use mathlib.Core.Path.{◌≡◌, sym, ap, ◌∙◌}
use mathlib.Core.List.{List, ◌++◌}
use Prim.Native.Nat.{ℕ, ◌*◌, ◌≤◌}
use native.Mathlib.Omega.{arith}
use lib.ListN.{length, take, drop, take-append-drop}
use lib.Seq.{length-take-le}
use borrow.Author.Rules.{rules}
use Rattle.std.specs.Prelude.{Result, Ok, Err}
use Rattle.ascii.specs.Laying.{Laid}
use Rattle.contents.specs.declared.Counts.{Counts}
use Rattle.contents.specs.declared.Fault.{Fault}
use Rattle.contents.specs.Limits.{event_size, item_size, message_size}
use Rattle.contents.specs.Replies.{verdict_of}
use Rattle.contents.proofs.Verdicts.{verdict-fine, verdict-refused}
use Rattle.score.specs.File.{checked}
use Rattle.filing.specs.Pieces.{filed, Filable}
use Rattle.filing.specs.Bodies.{Bodies, file_in, settled, Settled}

-- ---- the bodies and the file

module _ (c : Counts) (d m e l out : List ℕ) (asked : Bodies c d m e l out) where
  pub durations-end : event_size * c.events ≤ length d
  durations-end = omega (arith, asked.counted.events, asked.page.durations)

  pub items-end : item_size * c.items ≤ length m
  items-end = omega (arith, asked.counted.items, asked.page.items)

  pub entries-end : message_size * c.messages ≤ length e
  entries-end = omega (arith, asked.counted.messages, asked.list.entries)

  pub labels-end : c.text ≤ length l
  labels-end = omega (arith, asked.counted.text, asked.list.labels)

  pub join-asked : Filable c (take (event_size * c.events) d) (take (item_size * c.items) m) (take (message_size * c.messages) e) (take c.text l) out
  join-asked =
      let k = asked.counted in
      let r = asked.room in
      let a = length-take-le (event_size * c.events) d durations-end in
      let b = length-take-le (item_size * c.items) m items-end in
      let f = length-take-le (message_size * c.messages) e entries-end in
      let g = length-take-le c.text l labels-end in
      record { counted = k; room = rw (a, b, f, g) (omega arith) }

  pub joined : (n : List ℕ) (r : ℕ) → Laid out 0 (filed c (take (event_size * c.events) d) (take (item_size * c.items) m) (take (message_size * c.messages) e) (take c.text l)) n r
      → Laid out 0 (file_in c d m e l) n r
  unfolding file_in
  joined n r p = p

pub ruleset joins = (durations-end, items-end, entries-end, labels-end, join-asked, joined, length-take-le, rules)

-- what is laid from the front on stands there, and what stands behind it stays
room-is : (o n bs : List ℕ) (r : ℕ) → Laid o 0 bs n r → n ≡ bs ++ drop r o
room-is o n bs r laid = sym (take-append-drop r n) ∙ rw laid.others (ap (λ (l : List ℕ). l ++ drop r o) laid.front)

module _ (f m : List ℕ) (v : Result (Unit {0}) Fault) (e : v ≡ verdict_of (checked f)) where
  pub settle-refused : (r : Result (Unit {0}) Fault) (x : Fault) → v ≡ Err x → r ≡ Err x → Settled f m m r
  unfolding settled
  settle-refused r x p q = record { verdict = q ∙ sym p ∙ e; left = rw (verdict-refused (checked f) v x e p) }

  pub settle-made : v ≡ Ok tt → (m' : List ℕ) (r : ℕ) → Laid m 0 f m' r → Settled f m m' (Ok tt)
  unfolding settled
  settle-made p m' r put =
      let n : r ≡ length f = omega (arith, put.stop) in
      record { verdict = sym p ∙ e; left = rw (verdict-fine (checked f) v e p) (rw n at (room-is m m' f r put)) }

pub ruleset settles = (settle-refused, settle-made, rules)
