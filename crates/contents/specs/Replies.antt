-- The reply table: the number and the place of every answer about a file.
use Rattle.std.specs.Prelude.{Result, Ok, Err}
use Rattle.base.specs.Checks.{Check, fine, refused}
use Rattle.contents.specs.declared.Fault.{Fault}
use Rattle.contents.specs.declared.Fault.TheVariants.{FileShort, BadCount, BadOffset, BadLength, BadEvent, BadItem, BadMessage, TextLeft, NoMessage}
use Rattle.contents.specs.declared.ItemRule.{ItemRule}
use Rattle.contents.specs.declared.ItemRule.TheVariants as rule
use Rattle.contents.specs.declared.Reply.{Reply}
use Rattle.contents.specs.declared.RuleRow.{RuleRow}

-- The rules of an item, in the order in which they are checked: rule, number, and the offset of its field in the item. "Refusals: 20 to 27 in that order, where 7 stood"; "the place of
-- the field instead of the item (for nesting the field last, for the number of actions still the item's first byte)"; "21 at the synchrony byte where that is wrong, else at the error byte"
unfoldable pub rule_row : ItemRule → RuleRow
rule_row rule.Kind = record { number = 20; offset = 0 }
rule_row rule.Synchrony = record { number = 21; offset = 1 }
rule_row rule.ErrorWord = record { number = 21; offset = 2 }
rule_row rule.Part = record { number = 22; offset = 3 }
rule_row rule.Delay = record { number = 23; offset = 4 }
rule_row rule.Event = record { number = 24; offset = 8 }
rule_row rule.Nesting = record { number = 25; offset = 10 }
rule_row rule.Message = record { number = 26; offset = 10 }
rule_row rule.Actions = record { number = 27; offset = 0 }

-- "No. | When | Place", row by row
unfoldable pub fault_row : Fault → Reply
fault_row FileShort = record { number = 3; place = 0 }
fault_row (BadCount at) = record { number = 4; place = at }
fault_row (BadOffset at) = record { number = 5; place = at }
fault_row BadLength = record { number = 5; place = 0 }
fault_row (BadEvent at) = record { number = 6; place = at }
fault_row (BadItem r at) = record { number = (rule_row r).number; place = at }
fault_row (BadMessage at) = record { number = 8; place = at }
fault_row TextLeft = record { number = 8; place = 24 }
fault_row NoMessage = record { number = 15; place = 0 }

-- "0 | done | 0", and the row of a fault
unfoldable pub reply_of : Result (Unit {0}) Fault → Reply
reply_of (Ok _) = record { number = 0; place = 0 }
reply_of (Err x) = fault_row x

-- What a check finds, as a call tells it.
unfoldable pub verdict_of : Check Fault → Result (Unit {0}) Fault
verdict_of fine = Ok tt
verdict_of (refused x) = Err x
