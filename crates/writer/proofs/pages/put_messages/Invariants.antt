-- The invariant: what is owed of the labels left completes the list.
-- Assumes nothing.
use Rattle.writer.proofs.PageSteps.{Listing}
use Rattle.writer.proofs.pages.put_messages.Given as goal

abbrev pub invariant-loop-k : goal.invariant-loop-k
invariant-loop-k l = Listing l.file.bytes.now l.initial.out l.at l.out l.next l.k
