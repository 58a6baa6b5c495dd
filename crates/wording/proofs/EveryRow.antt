-- No reply of any call, none of a text and none of an extended score is without a row in the reply table: its row stands there, with its number and its words. And the numbers of the rows are those of document 01's table and of document 02.
-- Assumes nothing.
use Rattle.std.specs.Prelude.{Ok, Err}
use mathlib.Core.Path.{◌≡◌, refl}
use mathlib.Core.List.{List, [], ◌∷◌, map}
use Prim.Native.Nat.{ℕ, zero, suc, ◌<◌}
use native.Mathlib.Omega.{arith}
use lib.ListN.{length, get_or}
use Rattle.contents.specs.Replies.{rule_row, fault_row}
use Rattle.contents.specs.declared.Fault.{Fault}
use Rattle.contents.specs.declared.Fault.TheVariants.{FileShort, BadCount, BadOffset, BadLength, BadEvent, BadItem, BadMessage, TextLeft, NoMessage}
use Rattle.contents.specs.declared.ItemRule.{ItemRule}
use Rattle.contents.specs.declared.ItemRule.TheVariants as rule
use Rattle.session.specs.Replies.{refusal_row}
use Rattle.session.specs.declared.Refusal.{Refusal}
use Rattle.session.specs.declared.Refusal.TheVariants.{MemoryShort, RoomShort, File, BadTempo, BadGrace, NoSession, NoEvent, NotAfter, BadMillis, ClockFull}
use Rattle.text.specs.declared.TextError.TheVariants.{NoRoom, BadText, BadFile}
use Rattle.text.specs.Replies.{transcript_row}
use Rattle.unfolding.specs.declared.UnfoldError.TheVariants as unfolds
use Rattle.unfolding.specs.Replies.{unfold_row}
use Rattle.wording.specs.declared.Row.{Row}
use Rattle.wording.specs.declared.Row.TheVariants.{Call, Text, Unfold}
use Rattle.wording.specs.Words.{rule_words, fault_words, refusal_words, transcript_words, extended_words, unfolding_words, row_number, row_words, reply_rows, row_count, done_number}
use Rattle.wording.proofs.Apart.{rule_row_at, fault_row_at, refusal_row_at, row_at}

-- ---- every reply has its row

-- The table, with "done" in front.
unfoldable pub all_rows : List Row
all_rows = Text (Ok 0) ∷ reply_rows

unfoldable pub listed_row : Row → Row
listed_row x = get_or all_rows (row_at x) (Text (Ok 0))

pub record Listed (x : Row) : Type 0 where
  pub within : row_at x < length all_rows
  pub number : row_number (listed_row x) ≡ row_number x
  pub words : row_words (listed_row x) ≡ row_words x

item-listed : (r : ItemRule) (at : ℕ) → Listed (Call (File (BadItem r at)))
unfolding listed_row row_at refusal_row_at fault_row_at rule_row_at all_rows reply_rows row_number refusal_row transcript_row unfold_row fault_row rule_row row_words refusal_words transcript_words extended_words unfolding_words fault_words rule_words
item-listed rule.Kind at = record { within = omega arith; number = refl; words = refl }
item-listed rule.Synchrony at = record { within = omega arith; number = refl; words = refl }
item-listed rule.ErrorWord at = record { within = omega arith; number = refl; words = refl }
item-listed rule.Part at = record { within = omega arith; number = refl; words = refl }
item-listed rule.Delay at = record { within = omega arith; number = refl; words = refl }
item-listed rule.Event at = record { within = omega arith; number = refl; words = refl }
item-listed rule.Nesting at = record { within = omega arith; number = refl; words = refl }
item-listed rule.Message at = record { within = omega arith; number = refl; words = refl }
item-listed rule.Actions at = record { within = omega arith; number = refl; words = refl }

fault-listed : (x : Fault) → Listed (Call (File x))
unfolding listed_row row_at refusal_row_at fault_row_at all_rows reply_rows row_number refusal_row transcript_row unfold_row fault_row row_words refusal_words transcript_words extended_words unfolding_words fault_words
fault-listed FileShort = record { within = omega arith; number = refl; words = refl }
fault-listed (BadCount at) = record { within = omega arith; number = refl; words = refl }
fault-listed (BadOffset at) = record { within = omega arith; number = refl; words = refl }
fault-listed BadLength = record { within = omega arith; number = refl; words = refl }
fault-listed (BadEvent at) = record { within = omega arith; number = refl; words = refl }
fault-listed (BadItem r at) = item-listed r at
fault-listed (BadMessage at) = record { within = omega arith; number = refl; words = refl }
fault-listed TextLeft = record { within = omega arith; number = refl; words = refl }
fault-listed NoMessage = record { within = omega arith; number = refl; words = refl }

-- a text's file is refused as the file is
file-listed : (x : Fault) → Listed (Text (Err (BadFile x)))
unfolding listed_row row_at refusal_row_at fault_row_at all_rows reply_rows row_number refusal_row transcript_row unfold_row fault_row row_words refusal_words transcript_words extended_words unfolding_words fault_words
file-listed x = let l = fault-listed x in record { within = l.within; number = l.number; words = l.words }

-- and so is an unfolded one
unfolded-listed : (x : Fault) → Listed (Unfold (Err (unfolds.BadFile x)))
unfolding listed_row row_at refusal_row_at fault_row_at all_rows reply_rows row_number refusal_row transcript_row unfold_row fault_row row_words refusal_words transcript_words extended_words unfolding_words fault_words
unfolded-listed x = let l = fault-listed x in record { within = l.within; number = l.number; words = l.words }

refusal-listed : (x : Refusal) → Listed (Call x)
unfolding listed_row row_at refusal_row_at fault_row_at all_rows reply_rows row_number refusal_row transcript_row unfold_row fault_row row_words refusal_words transcript_words extended_words unfolding_words fault_words
refusal-listed MemoryShort = record { within = omega arith; number = refl; words = refl }
refusal-listed RoomShort = record { within = omega arith; number = refl; words = refl }
refusal-listed (File x) = fault-listed x
refusal-listed BadTempo = record { within = omega arith; number = refl; words = refl }
refusal-listed BadGrace = record { within = omega arith; number = refl; words = refl }
refusal-listed NoSession = record { within = omega arith; number = refl; words = refl }
refusal-listed NoEvent = record { within = omega arith; number = refl; words = refl }
refusal-listed NotAfter = record { within = omega arith; number = refl; words = refl }
refusal-listed BadMillis = record { within = omega arith; number = refl; words = refl }
refusal-listed ClockFull = record { within = omega arith; number = refl; words = refl }

pub every-row : (x : Row) → Listed x
unfolding listed_row row_at refusal_row_at fault_row_at all_rows reply_rows row_number refusal_row transcript_row unfold_row fault_row row_words refusal_words transcript_words extended_words unfolding_words fault_words
every-row (Call x) = refusal-listed x
every-row (Text (Ok n)) = record { within = omega arith; number = refl; words = refl }
every-row (Text (Err NoRoom)) = record { within = omega arith; number = refl; words = refl }
every-row (Text (Err (BadText l c))) = record { within = omega arith; number = refl; words = refl }
every-row (Text (Err (BadFile x))) = file-listed x
every-row (Unfold (Ok n)) = record { within = omega arith; number = refl; words = refl }
every-row (Unfold (Err unfolds.NoRoom)) = record { within = omega arith; number = refl; words = refl }
every-row (Unfold (Err (unfolds.BadExtended zero))) = record { within = omega arith; number = refl; words = refl }
every-row (Unfold (Err (unfolds.BadExtended (suc place)))) = record { within = omega arith; number = refl; words = refl }
every-row (Unfold (Err unfolds.OverLimit)) = record { within = omega arith; number = refl; words = refl }
every-row (Unfold (Err (unfolds.BadFile x))) = unfolded-listed x

-- ---- the numbers

pub rows-counted : length reply_rows ≡ row_count
unfolding reply_rows
rows-counted = refl

-- 2, 5, 8 and 17 have two rows each, and 7 has none
pub every-number : done_number ∷ map row_number reply_rows ≡ 0 ∷ 1 ∷ 2 ∷ 2 ∷ 3 ∷ 4 ∷ 5 ∷ 5 ∷ 6 ∷ 8 ∷ 8 ∷ 9 ∷ 10 ∷ 11 ∷ 12 ∷ 13 ∷ 14 ∷ 15 ∷ 16 ∷ 17 ∷ 17 ∷ 18 ∷ 19 ∷ 20 ∷ 21 ∷ 22 ∷ 23 ∷ 24 ∷ 25 ∷ 26 ∷ 27 ∷ []
unfolding reply_rows row_number refusal_row transcript_row unfold_row fault_row rule_row
every-number = refl
