-- The check decides.
-- Assumes nothing.
use mathlib.Core.Path.{◌≡◌}
use borrow.Author.Rules.{rules}
use Rattle.std.specs.Prelude.{Err}
use Rattle.filing.proofs.BodySteps.{settles}
use Rattle.filing.proofs.bodies.settle_file.Goals as goal

pub returns-in_err-check_file : goal.returns-in_err-check_file
returns-in_err-check_file c =
    let e : c.from_residual.result ≡ Err c.in_err-check_file.field-0.0 = search rules in
    search (settles, e, c.in_err-check_file.was)

pub returns : goal.returns
returns c = search (settles, c.in_ok-check_file.was)
