-- The counts decide first.
-- Assumes nothing.
use Rattle.std.specs.Prelude.{◌≡◌, Err}
use borrow.Author.Rules.{rules}
use Rattle.text.specs.declared.TextError.TheVariants.{BadFile}
use Rattle.reader.proofs.MakeSteps.{judges}
use Rattle.reader.proofs.making.judge.Goals as goal

pub returns-in_err-check_counts : goal.returns-in_err-check_counts
returns-in_err-check_counts c =
    let e : c.from_residual.result ≡ Err (BadFile c.in_err-check_counts.field-0.0) = search rules in search (judges, e, c.in_err-check_counts.was)

pub make-requires : goal.make-requires
make-requires c = search (judges, c.in_ok-check_counts.was)
