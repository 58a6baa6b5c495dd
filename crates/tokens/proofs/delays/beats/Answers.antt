use Rattle.std.specs.Prelude.{◌≡◌, Err}
use borrow.Author.Rules.{rules}
use Rattle.tokens.proofs.BeatsSteps.{delays}
use Rattle.tokens.proofs.delays.beats.Goals.{then-text-n-via-then-text-n, then-text-n-via-else-text-n+then-text-n-ne-SLASH}
use Rattle.tokens.proofs.delays.beats.Goals as goal

pub returns-in_err-n : goal.returns-in_err-n
returns-in_err-n c = let e : c.from_residual.result ≡ Err c.in_err-n.field-0.0 = search rules in search (delays, e, c.in_err-n.was)

pub valued-requires : goal.valued-requires
valued-requires c = search (delays, c.in_ok-n.was)

pub returns-then-text-n : goal.returns-then-text-n
returns-then-text-n c =
    elim c.then-text-n.branch [
      | then-text-n-via-then-text-n w ↦ search (delays, c.in_ok-n.was)
      | then-text-n-via-else-text-n+then-text-n-ne-SLASH w ↦ search (delays, c.in_ok-n.was)
    ]

pub returns-in_err-d : goal.returns-in_err-d
returns-in_err-d c =
    let e : c.from_residual-in_err-d.result ≡ Err c.in_err-d.field-0.0 = search rules in search (delays, e, c.in_ok-n.was, c.in_err-d.was)

pub valued-requires-2 : goal.valued-requires-2
valued-requires-2 c = search (delays, c.in_ok-n.was)

pub returns : goal.returns
returns c = search (delays, c.in_ok-n.was, c.in_ok-d.was)
