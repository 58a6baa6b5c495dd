-- What is told of an extended score that is unfolded: number, place and size of every answer.
use Rattle.std.specs.Prelude.{ℕ, Result, Ok, Err}
use Rattle.contents.specs.Replies.{fault_row}
use Rattle.unfolding.specs.declared.UnfoldError.{UnfoldError}
use Rattle.unfolding.specs.declared.UnfoldError.TheVariants.{NoRoom, BadExtended, OverLimit, BadFile}
use Rattle.unfolding.specs.declared.UnfoldReply.{UnfoldReply}

-- Beside number and place every figure of a refusal is 0.
unfoldable pub unfold_row : Result ℕ UnfoldError → UnfoldReply
unfold_row (Ok n) = record { number = 0; place = 0; size = n }
unfold_row (Err NoRoom) = record { number = 2; place = 0; size = 0 }
unfold_row (Err (BadExtended place)) = record { number = 17; place = place; size = 0 }
unfold_row (Err OverLimit) = record { number = 18; place = 0; size = 0 }
unfold_row (Err (BadFile x)) = record { number = (fault_row x).number; place = (fault_row x).place; size = 0 }
