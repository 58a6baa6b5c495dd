-- No two rows of the reply table have the same words: looked up in the list of all of them, a row's words are found at its own place.
-- Assumes nothing.
use Rattle.std.specs.Prelude.{Ok, Err}
use mathlib.Core.Path.{◌≡◌, refl, sym, ap, ◌∙◌}
use mathlib.Core.List.{List, [], ◌∷◌, map}
use Prim.Native.Nat.{ℕ, zero, suc}
use Rattle.base.specs.Tests.{pick}
use Rattle.ascii.specs.Words.{begins}
use Rattle.contents.specs.declared.Fault.{Fault}
use Rattle.contents.specs.declared.Fault.TheVariants.{FileShort, BadCount, BadOffset, BadLength, BadEvent, BadItem, BadMessage, TextLeft, NoMessage}
use Rattle.contents.specs.declared.ItemRule.{ItemRule}
use Rattle.contents.specs.declared.ItemRule.TheVariants as rule
use Rattle.session.specs.declared.Refusal.{Refusal}
use Rattle.session.specs.declared.Refusal.TheVariants.{MemoryShort, RoomShort, File, BadTempo, BadGrace, NoSession, NoEvent, NotAfter, BadMillis, ClockFull}
use Rattle.text.specs.declared.TextError.TheVariants.{NoRoom, BadText, BadFile}
use Rattle.unfolding.specs.declared.UnfoldError.TheVariants as unfolds
use Rattle.wording.specs.declared.Row.{Row}
use Rattle.wording.specs.declared.Row.TheVariants.{Call, Text, Unfold}
use Rattle.wording.specs.Words.{rule_words, fault_words, refusal_words, transcript_words, extended_words, unfolding_words, done_words, row_words, reply_rows}

-- ---- the rows, in the table's order: 0 is "done"

unfoldable pub rule_row_at : ItemRule → ℕ
rule_row_at rule.Kind = 23
rule_row_at rule.Synchrony = 24
rule_row_at rule.ErrorWord = 24
rule_row_at rule.Part = 25
rule_row_at rule.Delay = 26
rule_row_at rule.Event = 27
rule_row_at rule.Nesting = 28
rule_row_at rule.Message = 29
rule_row_at rule.Actions = 30

unfoldable pub fault_row_at : Fault → ℕ
fault_row_at FileShort = 4
fault_row_at (BadCount at) = 5
fault_row_at (BadOffset at) = 6
fault_row_at BadLength = 7
fault_row_at (BadEvent at) = 8
fault_row_at (BadItem r at) = rule_row_at r
fault_row_at (BadMessage at) = 9
fault_row_at TextLeft = 10
fault_row_at NoMessage = 17

unfoldable pub refusal_row_at : Refusal → ℕ
refusal_row_at MemoryShort = 1
refusal_row_at RoomShort = 2
refusal_row_at (File x) = fault_row_at x
refusal_row_at BadTempo = 11
refusal_row_at BadGrace = 22
refusal_row_at NoSession = 12
refusal_row_at NoEvent = 13
refusal_row_at NotAfter = 14
refusal_row_at BadMillis = 15
refusal_row_at ClockFull = 16

unfoldable pub row_at : Row → ℕ
row_at (Call x) = refusal_row_at x
row_at (Text (Ok n)) = 0
row_at (Text (Err NoRoom)) = 3
row_at (Text (Err (BadText l c))) = 18
row_at (Text (Err (BadFile x))) = fault_row_at x
row_at (Unfold (Ok n)) = 0
row_at (Unfold (Err unfolds.NoRoom)) = 3
row_at (Unfold (Err (unfolds.BadExtended zero))) = 19
row_at (Unfold (Err (unfolds.BadExtended (suc place)))) = 20
row_at (Unfold (Err unfolds.OverLimit)) = 21
row_at (Unfold (Err (unfolds.BadFile x))) = fault_row_at x

-- ---- looked up

-- how many texts stand before the first that the bytes begin with
unfoldable found_at : List (List ℕ) → List ℕ → ℕ
found_at [] bytes = 0
found_at (w ∷ ws) bytes = pick (begins w bytes) 0 (suc (found_at ws bytes))

unfoldable looked_up : List ℕ → ℕ
looked_up bytes = found_at (done_words ∷ map row_words reply_rows) bytes

rule_found : (r : ItemRule) → looked_up (rule_words r) ≡ rule_row_at r
unfolding looked_up found_at reply_rows row_words rule_row_at refusal_words transcript_words extended_words unfolding_words fault_words rule_words begins pick
rule_found rule.Kind = refl
rule_found rule.Synchrony = refl
rule_found rule.ErrorWord = refl
rule_found rule.Part = refl
rule_found rule.Delay = refl
rule_found rule.Event = refl
rule_found rule.Nesting = refl
rule_found rule.Message = refl
rule_found rule.Actions = refl

fault-found : (x : Fault) → looked_up (fault_words x) ≡ fault_row_at x
unfolding looked_up found_at reply_rows row_words fault_row_at refusal_words transcript_words extended_words unfolding_words fault_words rule_words begins pick
fault-found FileShort = refl
fault-found (BadCount at) = refl
fault-found (BadOffset at) = refl
fault-found BadLength = refl
fault-found (BadEvent at) = refl
fault-found (BadItem r at) = rule_found r
fault-found (BadMessage at) = refl
fault-found TextLeft = refl
fault-found NoMessage = refl

refusal-found : (x : Refusal) → looked_up (refusal_words x) ≡ refusal_row_at x
unfolding looked_up found_at reply_rows row_words refusal_row_at refusal_words transcript_words extended_words unfolding_words fault_words rule_words begins pick
refusal-found MemoryShort = refl
refusal-found RoomShort = refl
refusal-found (File x) = fault-found x
refusal-found BadTempo = refl
refusal-found BadGrace = refl
refusal-found NoSession = refl
refusal-found NoEvent = refl
refusal-found NotAfter = refl
refusal-found BadMillis = refl
refusal-found ClockFull = refl

words-found : (x : Row) → looked_up (row_words x) ≡ row_at x
unfolding looked_up found_at reply_rows row_words row_at refusal_words transcript_words extended_words unfolding_words fault_words rule_words begins pick
words-found (Call x) = refusal-found x
words-found (Text (Ok n)) = refl
words-found (Text (Err NoRoom)) = refl
words-found (Text (Err (BadText l c))) = refl
words-found (Text (Err (BadFile x))) = fault-found x
words-found (Unfold (Ok n)) = refl
words-found (Unfold (Err unfolds.NoRoom)) = refl
words-found (Unfold (Err (unfolds.BadExtended zero))) = refl
words-found (Unfold (Err (unfolds.BadExtended (suc place)))) = refl
words-found (Unfold (Err unfolds.OverLimit)) = refl
words-found (Unfold (Err (unfolds.BadFile x))) = fault-found x

pub words-apart : (x y : Row) → row_words x ≡ row_words y → row_at x ≡ row_at y
words-apart x y e = sym (words-found x) ∙ ap looked_up e ∙ words-found y
