use Rattle.std.specs.Prelude.{◌≡◌, Err}
use borrow.Author.Rules.{rules}
use Rattle.script.proofs.LineSteps.{naming}
use Rattle.script.proofs.list.named.Goals as goal

pub returns-in_err-l : goal.returns-in_err-l
returns-in_err-l c = let e : c.from_residual.result ≡ Err c.in_err-l.field-0.0 = search rules in search (naming, e, c.in_err-l.was)

pub returns : goal.returns
returns c = search (naming, c.in_ok-l.was)
