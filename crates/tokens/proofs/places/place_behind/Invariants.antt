-- The invariant: the bytes left lead from here to where all of them lead.
-- Assumes nothing.
use Rattle.tokens.proofs.PlaceSteps.{Placing}
use Rattle.tokens.proofs.places.place_behind.Given as goal

abbrev pub invariant-loop-b : goal.invariant-loop-b
invariant-loop-b l = Placing l.before l.line l.column l.b-index
