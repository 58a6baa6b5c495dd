-- The reply to an opening. "Beside number and place, every figure in its reply is 0."
use Rattle.std.specs.Prelude.{ℕ, Result, Ok, Err}
use Rattle.session.specs.declared.Refusal.{Refusal}
use Rattle.session.specs.Replies.{refusal_row}
use Rattle.opening.specs.declared.OpeningReply.{OpeningReply}

-- "replies with the number of sounding parts"
unfoldable pub opening_reply : Result ℕ Refusal → OpeningReply
opening_reply (Ok n) = record { number = 0; place = 0; parts = n }
opening_reply (Err x) = record { number = (refusal_row x).number; place = (refusal_row x).place; parts = 0 }
