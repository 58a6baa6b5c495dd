-- The check decides.
-- Assumes nothing.
use Rattle.std.specs.Prelude.{◌≡◌, Err}
use borrow.Author.Rules.{rules}
use Rattle.text.specs.declared.TextError.TheVariants.{BadFile}
use Rattle.reader.proofs.MakeSteps.{settles}
use Rattle.reader.proofs.making.settle.Goals as goal

pub returns-in_err-settle_file : goal.returns-in_err-settle_file
returns-in_err-settle_file c =
    let e : c.from_residual.result ≡ Err (BadFile c.in_err-settle_file.field-0.0) = search rules in search (settles, e, c.in_err-settle_file.was)

pub returns : goal.returns
returns c = search (settles, c.in_ok-settle_file.was)
