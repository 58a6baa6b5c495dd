-- Each case of the definition is a case of the code.
-- Assumes nothing.
use Rattle.std.proofs.Common.{◌∙◌, inl, inr}
use Rattle.lines.proofs.CommandSteps.{turn-open, turn-hear, turn-pass}
use Rattle.lines.proofs.commands.in_turn.Goals as goal
use Rattle.lines.proofs.commands.in_turn.Goals.{in-Open, in-Hear}

pub returns : goal.returns
returns c = c.then_some.ensures ∙ elim c.match-c.branch [
  | in-Open w ↦ turn-open _ _ _ _ _ _ w.in-Open.is w.turn-is
  | in-Hear w ↦ elim w.in-Hear.is [ inl p ↦ turn-hear _ _ _ _ p.0 p.1 p.2 w.turn-is | inr p ↦ turn-pass _ _ _ _ p.0 p.1 w.turn-is ]
]
