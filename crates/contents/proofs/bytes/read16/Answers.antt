-- The number of two bytes is the definition's sum.
-- Assumes nothing.
use native.Mathlib.Omega.{arith}
use Rattle.contents.specs.Bytes.{u16_at}
use Rattle.contents.proofs.bytes.read16.Goals as goal

pub returns : goal.returns
unfolding u16_at
returns c = (omega arith, omega arith)
