-- The bytes that are laid are those of the definition.
-- Assumes nothing.
use mathlib.Core.Path.{◌∙◌}
use native.Mathlib.Omega.{arith}
use Rattle.filing.proofs.LayingSteps.{bytes16}
use Rattle.filing.proofs.numbers.put16.Goals as goal

pub returns : goal.returns
returns c =
    let e = c.to_le_bytes.ensures ∙ bytes16 c.args.n c.requires.1 in
    let s = rw c.to_le_bytes.ensures at c.put_bytes.ensures.stop in
    (rw e at c.put_bytes.ensures, omega (arith, s))
