use Rattle.std.specs.Prelude.{◌≡◌, Err}
use borrow.Author.Rules.{rules}
use Rattle.script.proofs.LineSteps.{entering}
use Rattle.script.proofs.list.entry.Goals as goal

pub returns-in_err-n : goal.returns-in_err-n
returns-in_err-n c = let e : c.from_residual.result ≡ Err c.in_err-n.field-0.0 = search rules in search (entering, e, c.in_err-n.was)

pub returns-then-n-next : goal.returns-then-n-next
returns-then-n-next c = search (entering, c.in_ok-n.was)

pub past_blanks-quote-requires : goal.past_blanks-quote-requires
past_blanks-quote-requires c = search (entering, c.in_ok-n.was)

pub returns : goal.returns
returns c = search (entering, c.in_ok-n.was)
