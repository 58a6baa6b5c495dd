-- A call's answer, printed: where reply and send room are the history's, its lines are too; and the room stays long enough for the next call.
-- Assumes nothing.
use mathlib.Core.Path.{◌≡◌, refl, ap, sym}
use Prim.Native.Nat.{ℕ, ◌+◌, ◌*◌, ◌/◌, ◌%◌, ◌≤◌}
use mathlib.Core.Bool.{false}
use mathlib.Core.List.{List, [], map}
use native.Mathlib.Omega.{arith}
use lib.Dec.{eqb}
use lib.ListN.{length, length-map}
use Rattle.std.specs.Prelude.{Result, Ok, Err}
use Rattle.base.specs.Checks.{Check, fine, refused}
use Rattle.contents.specs.Limits.{most_actions}
use Rattle.session.specs.declared.Refusal.{Refusal}
use Rattle.session.specs.Layout.{room_size}
use Rattle.session.specs.Replies.{refusal_row}
use Rattle.sending.specs.Room.{pairs_in, filled}
use Rattle.sending.proofs.SentLaws.{filled-length, pairs-filled}
use Rattle.sequencer.specs.declared.SendingReply.{SendingReply}
use Rattle.sequencer.specs.Replies.{sending_reply}
use Rattle.demands.specs.History.{Now, kept}
use Rattle.demands.specs.Messages.{Sent}
use Rattle.demands.specs.Answers.{Answer, opening, sending, reporting, looking, message_of, sending_answer, if_granted}
use Rattle.lines.specs.Output.{no_line}
use Rattle.playing.specs.Printed.{figures_of, sent_line, sent_lines, sending_lines}
use Rattle.playing.proofs.OpenSteps.{refusal-numbered}
use Rattle.concert.specs.Told.{message_told, messages_told, sending_told}
use Rattle.concert.proofs.MessageNumbers.{Small, no_message, one_message}

-- ---- the messages of a call

-- Part and message number are read back from one word.
messages-told : (f : List ℕ) (k : ℕ) {l : List Sent} → Small l → sent_lines f k (map message_of l) ≡ messages_told f k l
unfolding sent_lines sent_line message_of messages_told message_told
messages-told f k no_message = refl
messages-told f k (one_message {x = x} {l = l} m h) =
    let part : (x.part * 65536 + x.message) / 65536 ≡ x.part = omega arith in
    let number : (x.part * 65536 + x.message) % 65536 ≡ x.message = omega arith in
    rw (part, number, messages-told f k h)

reply_in : Answer → SendingReply
reply_in (opening r) = record { number = 0; place = 0; count = 0 }
reply_in (sending r room) = r
reply_in (reporting r) = record { number = 0; place = 0; count = 0 }
reply_in (looking r label) = record { number = 0; place = 0; count = 0 }

room_in : Answer → List ℕ
room_in (opening r) = []
room_in (sending r room) = room
room_in (reporting r) = []
room_in (looking r label) = []

-- No refusal's number is 0.
not-zero : {A : Type 0} (x : Refusal) → (refusal_row x).number ≡ 0 → A
not-zero x e = let z : eqb 0 0 ≡ false = rw e at (refusal-numbered x) in let y : ◌≡◌ {A = ℕ} 0 1 = cc in absurd (omega arith)

-- ---- a call's answer, printed: room is the send room before the call, room' and m' are room and memory after it

module _ (f room room' : List ℕ) (s n : Now) where
  pub answer-told : (m' : List ℕ) (r : Result ℕ Refusal) (g : Check Refusal) (l : List Sent) → Small l → sending (sending_reply r) room' ≡ sending_answer g l room
      → (figures_of m').clock ≡ (kept g s n).clock
      → sending_lines f m' room' r ≡ sending_told f g n.clock l
  unfolding sending_reply sending_answer sending_lines sending_told kept reply_in room_in
  answer-told m' (Ok c) fine l small e k =
      let count : c ≡ length l = ap (λ (a : Answer). (reply_in a).count) e in
      let words : room' ≡ filled (map message_of l) room = ap room_in e in
      let pairs : pairs_in c 0 room' ≡ map message_of l = rw (words, count, ← length-map l message_of) (pairs-filled (map message_of l) room) in
      rw (k, pairs) (messages-told f n.clock small)
  answer-told m' (Ok c) (refused x) l small e k = not-zero x (sym (ap (λ (a : Answer). (reply_in a).number) e))
  answer-told m' (Err y) fine l small e k = not-zero y (ap (λ (a : Answer). (reply_in a).number) e)
  answer-told m' (Err y) (refused x) l small e k = ap no_line (ap (λ (a : Answer). (reply_in a).number) e)

-- The send room stays long enough.
pub room-stays : (room room' : List ℕ) (r : SendingReply) (g : Check Refusal) (l : List Sent) → room_size ≤ length room → length (if_granted g l) ≤ most_actions
    → sending r room' ≡ sending_answer g l room
    → room_size ≤ length room'
unfolding sending_answer if_granted room_in
room-stays room room' r fine l wide few e =
    let words : room' ≡ filled (map message_of l) room = ap room_in e in
    let size : length (map message_of l) ≡ length l = length-map l message_of in
    rw (words, filled-length (map message_of l) room (omega arith)) wide
room-stays room room' r (refused x) l wide few e = let words : room' ≡ room = ap room_in e in rw words wide
