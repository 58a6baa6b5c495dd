-- Every row of the reply table has words, and none has more bytes than there is room for.
-- Assumes nothing.
use Rattle.std.specs.Prelude.{Result, Ok, Err}
use Prim.Native.Nat.{ℕ, ◌<◌, ◌≤◌}
use native.Mathlib.Omega.{arith}
use lib.ListN.{length}
use Rattle.contents.specs.declared.Fault.{Fault}
use Rattle.contents.specs.declared.Fault.TheVariants.{FileShort, BadCount, BadOffset, BadLength, BadEvent, BadItem, BadMessage, TextLeft, NoMessage}
use Rattle.contents.specs.declared.ItemRule.{ItemRule}
use Rattle.contents.specs.declared.ItemRule.TheVariants as rule
use Rattle.session.specs.declared.Refusal.{Refusal}
use Rattle.session.specs.declared.Refusal.TheVariants.{MemoryShort, RoomShort, File, BadTempo, BadGrace, NoSession, NoEvent, NotAfter, BadMillis, ClockFull}
use Rattle.text.specs.declared.TextError.{TextError}
use Rattle.text.specs.declared.TextError.TheVariants.{NoRoom, BadText, BadFile}
use Rattle.wording.specs.Words.{rule_words, fault_words, refusal_words, transcript_words, most_words}

-- ---- how many bytes the words have

rule-most : (r : ItemRule) → (0 < length (rule_words r)) × (length (rule_words r) ≤ most_words)
unfolding rule_words
rule-most rule.Kind = (omega arith, omega arith)
rule-most rule.Synchrony = (omega arith, omega arith)
rule-most rule.ErrorWord = (omega arith, omega arith)
rule-most rule.Part = (omega arith, omega arith)
rule-most rule.Delay = (omega arith, omega arith)
rule-most rule.Event = (omega arith, omega arith)
rule-most rule.Nesting = (omega arith, omega arith)
rule-most rule.Message = (omega arith, omega arith)
rule-most rule.Actions = (omega arith, omega arith)

fault-most : (x : Fault) → (0 < length (fault_words x)) × (length (fault_words x) ≤ most_words)
unfolding fault_words
fault-most FileShort = (omega arith, omega arith)
fault-most (BadCount at) = (omega arith, omega arith)
fault-most (BadOffset at) = (omega arith, omega arith)
fault-most BadLength = (omega arith, omega arith)
fault-most (BadEvent at) = (omega arith, omega arith)
fault-most (BadItem r at) = rule-most r
fault-most (BadMessage at) = (omega arith, omega arith)
fault-most TextLeft = (omega arith, omega arith)
fault-most NoMessage = (omega arith, omega arith)

pub words-told : (x : Refusal) → (0 < length (refusal_words x)) × (length (refusal_words x) ≤ most_words)
unfolding refusal_words
words-told MemoryShort = (omega arith, omega arith)
words-told RoomShort = (omega arith, omega arith)
words-told (File x) = fault-most x
words-told BadTempo = (omega arith, omega arith)
words-told BadGrace = (omega arith, omega arith)
words-told NoSession = (omega arith, omega arith)
words-told NoEvent = (omega arith, omega arith)
words-told NotAfter = (omega arith, omega arith)
words-told BadMillis = (omega arith, omega arith)
words-told ClockFull = (omega arith, omega arith)

pub transcript-told : (t : Result ℕ TextError) → (0 < length (transcript_words t)) × (length (transcript_words t) ≤ most_words)
unfolding transcript_words
transcript-told (Ok n) = (omega arith, omega arith)
transcript-told (Err NoRoom) = (omega arith, omega arith)
transcript-told (Err (BadText l c)) = (omega arith, omega arith)
transcript-told (Err (BadFile x)) = fault-most x
