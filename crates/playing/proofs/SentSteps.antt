-- The messages of the send room, printed one behind the other. Assumes nothing.
use mathlib.Core.Path.{◌≡◌, refl, sym, ap, ◌∙◌}
use mathlib.Core.List.{List, [], ◌∷◌, ◌++◌, append_assoc, append-nil}
use Prim.Native.Nat.{ℕ, ◌+◌, ◌*◌, ◌/◌, ◌%◌, ◌≤◌, ◌<◌}
use native.Mathlib.Omega.{arith}
use lib.ListN.{length}
use denote.Ref.{Bor}
use borrow.Author.Rules.{rules}
use Rattle.ascii.specs.Laying.{Laid}
use Rattle.ascii.proofs.LayLaws.{laid-join}
use Rattle.score.specs.LookUp.{label_span, label_bytes, Part}
use Rattle.score.proofs.LookUps.{handed-short}
use Rattle.session.specs.Layout.{most_sent, word_at}
use Rattle.sending.specs.Room.{Message, pairs_in}
use Rattle.sending.proofs.RoomLaws.{messages-split}
use Rattle.lines.specs.Output.{message_line, line_room}
use Rattle.lines.proofs.LineLengths.{message-short}
use Rattle.playing.specs.Printed.{sent_line, sent_lines}
use Rattle.playing.specs.Inner.{message_room, output_room}

-- ---- one message

module _ (whole handed : Bor (List ℕ)) (n : ℕ) (p : Part whole handed (label_span whole.now n)) where
  pub label-fits : (at : ℕ) (out : List ℕ) → at + message_room ≤ length out → at + line_room + length handed.now ≤ length out
  label-fits at out l = omega (arith, handed-short whole handed n p)

  label-handed : handed.now ≡ label_bytes whole.now n
  unfolding label_bytes
  label-handed = p.bytes

  pub message-laid : (clock due word at r : ℕ) (out new : List ℕ) → n ≡ word % 65536 → Laid out at (message_line clock due (word / 65536) handed.now) new r
      → Laid out at (sent_line whole.now clock (record { due = due; word = word })) new r
  unfolding sent_line
  message-laid clock due word at r out new e laid = rw (← e, ← label-handed) laid

  pub message-bound : (clock due part at r : ℕ) (out new : List ℕ) → Laid out at (message_line clock due part handed.now) new r → r ≤ at + message_room
  message-bound clock due part at r out new laid =
      let s : r ≡ at + length (message_line clock due part handed.now) = laid.stop in
      omega (arith, message-short clock due part handed.now, handed-short whole handed n p)

pub ruleset message = (label-fits, message-laid, message-bound, rules)

-- ---- as many as were sent

lines_end : (f : List ℕ) (k : ℕ) (l : List Message) (x : Message) → sent_lines f k (l ++ (x ∷ [])) ≡ sent_lines f k l ++ sent_line f k x
unfolding sent_lines
lines_end f k [] x = append-nil (sent_line f k x)
lines_end f k (y ∷ l) x = ap (λ (t : List ℕ). sent_line f k y ++ t) (lines_end f k l x) ∙ sym (append_assoc (sent_line f k y) (sent_lines f k l) (sent_line f k x))

one-pair : (i : ℕ) (room : List ℕ) → pairs_in (i + 1) 0 room ≡ pairs_in i 0 room ++ (record { due = word_at room (2 * i); word = word_at room (2 * i + 1) } ∷ [])
unfolding pairs_in
one-pair i room = let z : 0 + i ≡ i = omega arith in rw z at (messages-split i 1 0 room)

-- i messages are printed, in at bytes
pub record Printing (f : List ℕ) (k : ℕ) (room out : List ℕ) (i at : ℕ) (new : List ℕ) : Type 0 where
  pub laid : Laid out 0 (sent_lines f k (pairs_in i 0 room)) new at
  pub short : at ≤ message_room * i

module _ (f : List ℕ) (k : ℕ) (room out : List ℕ) where
  pub printing-none : output_room ≤ length out → Printing f k room out 0 0 out
  unfolding sent_lines pairs_in
  printing-none l = record { laid = record { front = refl; others = refl; stop = refl; within = omega arith; size = refl }; short = omega arith }

  module _ (i at : ℕ) (new : List ℕ) (p : Printing f k room out i at new) where
    pub printing-room : (c : ℕ) → output_room ≤ length out → i < c → c ≤ most_sent → at + message_room ≤ length new
    printing-room c l q m = let s : length new ≡ length out = p.laid.size in omega (arith, p.short)

    pub printing-step : (r : ℕ) (new' : List ℕ)
        → Laid new at (sent_line f k (record { due = word_at room (2 * i); word = word_at room (2 * i + 1) })) new' r → r ≤ at + message_room
        → Printing f k room out (i + 1) r new'
    printing-step r new' laid b =
        let x : Message = record { due = word_at room (2 * i); word = word_at room (2 * i + 1) } in
        record {
          laid = rw (one-pair i room, lines_end f k (pairs_in i 0 room) x) (laid-join out new new' _ _ 0 at r p.laid laid);
          short = omega (arith, p.short);
        }

    pub printing-all : (c : ℕ) → i ≤ c → c ≤ i → Laid out 0 (sent_lines f k (pairs_in c 0 room)) new at
    printing-all c a b = let e : i ≡ c = omega arith in rw (← e) p.laid

pub ruleset messages = (printing-none, printing-room, printing-step, printing-all, rules)
