-- The messages so far are printed, one behind the other, and there is room for those that are left.
-- Assumes nothing.
use Rattle.playing.proofs.SentSteps.{Printing}
use Rattle.playing.proofs.sendings.put_messages.Given as goal

abbrev pub invariant-loop-i : goal.invariant-loop-i
invariant-loop-i l = Printing l.file.bytes.now l.clock l.room l.initial.out l.i l.at l.out
