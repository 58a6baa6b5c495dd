-- A granted call has row 0 and its figures, a refused one its own row and no figure.
-- Assumes nothing.
use mathlib.Core.Path.{◌≡◌}
use Prim.Native.Nat.{ℕ}
use borrow.Author.Rules.{rules}
use Rattle.std.specs.Prelude.{Result, Ok, Err}
use Rattle.contents.specs.declared.Reply.{Reply}
use Rattle.session.specs.declared.Refusal.{Refusal}
use Rattle.session.specs.Replies.{refusal_row}
use Rattle.sequencer.specs.declared.SendingReply.{SendingReply}
use Rattle.sequencer.specs.Replies.{sending_reply}
use Rattle.sequencer.proofs.replies.sending_reply.Goals as goal

sent-row : (a : Result ℕ Refusal) (n : ℕ) → a ≡ Ok n → ◌≡◌ {A = SendingReply} (record { number = 0; place = 0; count = n }) (sending_reply a)
unfolding sending_reply
sent-row a n e = rw e

refused-row : (a : Result ℕ Refusal) (x : Refusal) (r : Reply) → a ≡ Err x → r ≡ refusal_row x
    → ◌≡◌ {A = SendingReply} (record { number = r.number; place = r.place; count = 0 }) (sending_reply a)
unfolding sending_reply
refused-row a x r e q = rw (e, q)

pub returns-in-Ok : goal.returns-in-Ok
returns-in-Ok c = search (sent-row, rules)

pub returns-in-Err : goal.returns-in-Err
returns-in-Err c = search (refused-row, rules)
