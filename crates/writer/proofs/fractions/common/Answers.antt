use Rattle.writer.proofs.FractionLaws.{euclid}
use Rattle.writer.proofs.fractions.common.Goals as goal

pub loop-b-init : goal.loop-b-init
loop-b-init c = search euclid

pub nonzero_rem-b : goal.nonzero_rem-b
nonzero_rem-b c = search euclid

pub loop-b-smaller : goal.loop-b-smaller
loop-b-smaller c = search euclid

pub loop-b-preserved : goal.loop-b-preserved
loop-b-preserved c = search euclid

pub returns : goal.returns
returns c = search euclid
