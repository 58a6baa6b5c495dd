-- The greatest number that divides both leaves the least denominator.
-- Assumes nothing.
use Rattle.writer.proofs.FractionLaws.{denominators}
use Rattle.writer.proofs.fractions.denominator.Goals as goal

pub common-requires : goal.common-requires
common-requires c = search denominators

pub nonzero_div-result : goal.nonzero_div-result
nonzero_div-result c = search denominators

pub returns : goal.returns
returns c = search denominators
