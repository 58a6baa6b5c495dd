use Rattle.tokens.proofs.BeatsSteps.{valuing}
use Rattle.tokens.proofs.delays.valued.Goals as goal

pub returns-then-d-eq0 : goal.returns-then-d-eq0
returns-then-d-eq0 c = search valuing

pub returns-then-whole-d-gt0 : goal.returns-then-whole-d-gt0
returns-then-whole-d-gt0 c = search valuing

pub returns-then-grains-ge-FIELD : goal.returns-then-grains-ge-FIELD
returns-then-grains-ge-FIELD c = search valuing

pub returns : goal.returns
returns c = search valuing
