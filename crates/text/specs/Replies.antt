-- What is told of a text that is read and of a file that is written: number, place, line, column and size of every answer.
use Rattle.std.specs.Prelude.{ℕ, Result, Ok, Err}
use Rattle.contents.specs.Replies.{fault_row}
use Rattle.text.specs.declared.TextError.{TextError}
use Rattle.text.specs.declared.TextError.TheVariants.{NoRoom, BadText, BadFile}
use Rattle.text.specs.declared.TextReply.{TextReply}

-- "16 has place 0." "A granted reply has the number of bytes written". "Line and column are 0 but for a 16." Beside these every figure of a refusal is 0.
unfoldable pub transcript_row : Result ℕ TextError → TextReply
transcript_row (Ok n) = record { number = 0; place = 0; line = 0; column = 0; size = n }
transcript_row (Err NoRoom) = record { number = 2; place = 0; line = 0; column = 0; size = 0 }
transcript_row (Err (BadText l c)) = record { number = 16; place = 0; line = l; column = c; size = 0 }
transcript_row (Err (BadFile x)) = record { number = (fault_row x).number; place = (fault_row x).place; line = 0; column = 0; size = 0 }
