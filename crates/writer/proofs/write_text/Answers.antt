-- The file check decides.
-- Assumes nothing.
use Rattle.std.specs.Prelude.{Err}
use Rattle.std.proofs.Common.{◌≡◌, rules}
use Rattle.text.specs.declared.TextError.TheVariants.{BadFile}
use Rattle.writer.proofs.TextSteps.{answers}
use Rattle.writer.proofs.write_text.Goals as goal

pub returns-in_err-check_file-clause-value : goal.returns-in_err-check_file-clause-value
returns-in_err-check_file-clause-value c =
    let e : c.from_residual.result ≡ Err (BadFile c.in_err-check_file.field-0.0) = search rules in search (answers, e, c.in_err-check_file.was)

pub returns-in_err-check_file-clause-room_after : goal.returns-in_err-check_file-clause-room_after
returns-in_err-check_file-clause-room_after c =
    let e : c.from_residual.result ≡ Err (BadFile c.in_err-check_file.field-0.0) = search rules in search (answers, e)

pub invariant_of-write_accepted : goal.invariant_of-write_accepted
invariant_of-write_accepted c = record { accepted = search (answers, c.in_ok-check_file.was) }

pub returns-clause-value : goal.returns-clause-value
returns-clause-value c = search (answers, c.in_ok-check_file.was)
