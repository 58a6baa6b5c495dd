use Rattle.std.specs.Prelude.{◌≡◌, Err}
use borrow.Author.Rules.{rules}
use Rattle.script.proofs.LineSteps.{timing}
use Rattle.script.proofs.marks.timed.Goals as goal

pub returns-in_err-d : goal.returns-in_err-d
returns-in_err-d c = let e : c.from_residual.result ≡ Err c.in_err-d.field-0.0 = search rules in search (timing, e, c.in_err-d.was)

pub returns : goal.returns
returns c = search (timing, c.in_ok-d.was)
