use Rattle.std.proofs.Common.{rules}
use Rattle.sending.proofs.SlotLaws.{settled-step, settled-end, settled-start}
use Rattle.sending.proofs.slots.settle.Goals as goal

pub loop-place-init : goal.loop-place-init
loop-place-init c = search (settled-start, rules)

pub loop-place-preserved : goal.loop-place-preserved
loop-place-preserved c = search (settled-step, rules)

pub returns : goal.returns
returns c = search (settled-end, rules)
