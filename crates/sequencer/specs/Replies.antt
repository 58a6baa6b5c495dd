-- The replies to a session's calls. "Beside number and place, every figure in its reply is 0."
use Rattle.std.specs.Prelude.{ℕ, Result, Ok, Err}
use Rattle.session.specs.declared.Refusal.{Refusal}
use Rattle.session.specs.Replies.{refusal_row}
use Rattle.sequencer.specs.declared.Figures.{Figures}
use Rattle.sequencer.specs.declared.SendingReply.{SendingReply}
use Rattle.sequencer.specs.declared.ReportReply.{ReportReply}

-- "A heard note and passing time reply with the count sent, c."
unfoldable pub sending_reply : Result ℕ Refusal → SendingReply
sending_reply (Ok c) = record { number = 0; place = 0; count = c }
sending_reply (Err x) = record { number = (refusal_row x).number; place = (refusal_row x).place; count = 0 }

-- "The report gives clock, tempo, last event heard (0 before the first) and messages sent since the opening."
unfoldable pub report_reply : Result Figures Refusal → ReportReply
report_reply (Ok s) = record { number = 0; place = 0; figures = s }
report_reply (Err x) = record { number = (refusal_row x).number; place = (refusal_row x).place; figures = record { clock = 0; tempo = 0; last = 0; total = 0 } }
