use Rattle.std.specs.Prelude.{◌≡◌, Err}
use borrow.Author.Rules.{rules}
use Rattle.script.proofs.LineSteps.{iteming}
use Rattle.script.proofs.item.item.Goals as goal

pub returns-in_err-d : goal.returns-in_err-d
returns-in_err-d c = let e : c.from_residual.result ≡ Err c.in_err-d.field-0.0 = search rules in search (iteming, e, c.in_err-d.was)

pub past_blanks-word-requires : goal.past_blanks-word-requires
past_blanks-word-requires c = search (iteming, c.in_ok-d.was)

pub action-requires : goal.action-requires
action-requires c = search (iteming, c.in_ok-d.was)

pub returns : goal.returns
returns c = search (iteming, c.in_ok-d.was)
