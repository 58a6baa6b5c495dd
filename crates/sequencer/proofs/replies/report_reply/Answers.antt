-- A granted call has row 0 and its figures, a refused one its own row and no figure.
-- Assumes nothing.
use mathlib.Core.Path.{◌≡◌}
use borrow.Author.Rules.{rules}
use Rattle.std.specs.Prelude.{Result, Ok, Err}
use Rattle.contents.specs.declared.Reply.{Reply}
use Rattle.session.specs.declared.Refusal.{Refusal}
use Rattle.session.specs.Replies.{refusal_row}
use Rattle.sequencer.specs.declared.Figures.{Figures}
use Rattle.sequencer.specs.declared.ReportReply.{ReportReply}
use Rattle.sequencer.specs.Replies.{report_reply}
use Rattle.sequencer.proofs.replies.report_reply.Goals as goal

given-row : (a : Result Figures Refusal) (s : Figures) → a ≡ Ok s → ◌≡◌ {A = ReportReply} (record { number = 0; place = 0; figures = s }) (report_reply a)
unfolding report_reply
given-row a s e = rw e

refused-row : (a : Result Figures Refusal) (x : Refusal) (r : Reply) → a ≡ Err x → r ≡ refusal_row x
    → ◌≡◌ {A = ReportReply} (record { number = r.number; place = r.place; figures = record { clock = 0; tempo = 0; last = 0; total = 0 } }) (report_reply a)
unfolding report_reply
refused-row a x r e q = rw (e, q)

pub returns-in-Ok : goal.returns-in-Ok
returns-in-Ok c = search (given-row, rules)

pub returns-in-Err : goal.returns-in-Err
returns-in-Err c = search (refused-row, rules)
