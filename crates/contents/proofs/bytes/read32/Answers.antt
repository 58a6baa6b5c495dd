-- The number of four bytes is the definition's sum.
-- Assumes nothing.
use mathlib.Core.Path.{◌≡◌}
use Prim.Native.Nat.{◌+◌}
use native.Mathlib.Omega.{arith}
use Rattle.contents.specs.Bytes.{u16_at, u32_at}
use Rattle.contents.proofs.bytes.read32.Goals as goal

pub returns : goal.returns
unfolding u16_at u32_at
returns c = let z : c.args.at + 2 + 1 ≡ c.args.at + 3 = omega arith in (rw z (omega arith), omega arith)
