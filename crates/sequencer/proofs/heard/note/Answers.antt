-- Each step leaves a session for the next, and together they are the whole note.
-- Assumes nothing.
use native.Mathlib.Omega.{arith}
use borrow.Author.Rules.{rules}
use Rattle.sequencer.proofs.NoteLaws.{perform-ready, decided-items, decided-clock, noted-by}
use Rattle.sequencer.proofs.heard.note.Goals as goal

pub perform-requires : goal.perform-requires
perform-requires c = search perform-ready

pub settle-requires : goal.settle-requires
settle-requires c = (omega arith, search decided-items, search decided-clock)

pub returns : goal.returns
returns c = search noted-by
