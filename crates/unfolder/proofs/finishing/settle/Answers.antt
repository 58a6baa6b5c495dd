-- What the file check says is what is answered.
-- Assumes nothing.
use Rattle.std.proofs.Common.{rules, ◌≡◌, Err}
use Rattle.unfolding.specs.declared.UnfoldError.TheVariants.{BadFile}
use Rattle.unfolder.proofs.FinishSteps.{settles}
use Rattle.unfolder.proofs.finishing.settle.Goals as goal

pub returns-in_err-settle_file : goal.returns-in_err-settle_file
returns-in_err-settle_file c =
    let e : c.from_residual.result ≡ Err (BadFile c.in_err-settle_file.field-0.0) = search rules in
    search (settles, e, c.in_err-settle_file.was)

pub returns : goal.returns
returns c = search (settles, c.in_ok-settle_file.was)
