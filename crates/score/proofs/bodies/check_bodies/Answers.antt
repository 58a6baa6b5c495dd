-- What each body told, front to back; the first fault is the answer.
-- Assumes nothing.
use mathlib.Core.Path.{◌≡◌}
use borrow.Author.Rules.{rules}
use Rattle.std.specs.Prelude.{Err}
use Rattle.score.proofs.FileSteps.{bodies}
use Rattle.score.proofs.bodies.check_bodies.Goals as goal

pub returns-in_err-check_events : goal.returns-in_err-check_events
returns-in_err-check_events c =
    let e : c.from_residual.result ≡ Err c.in_err-check_events.field-0.0 = search rules in
    search (bodies, e, c.in_err-check_events.was)

pub returns-in_err-check_items : goal.returns-in_err-check_items
returns-in_err-check_items c =
    let e : c.from_residual-in_err-check_items.result ≡ Err c.in_err-check_items.field-0.0 = search rules in
    search (bodies, e, c.in_ok-check_events.was, c.in_err-check_items.was)

pub returns : goal.returns
returns c = search (bodies, c.in_ok-check_events.was, c.in_ok-check_items.was)
