use Rattle.std.specs.Prelude.{◌≡◌, Err}
use borrow.Author.Rules.{rules}
use Rattle.script.proofs.TallySteps.{tallies}
use Rattle.script.proofs.tallying.tally_text.Goals as goal

pub loop-stage-init : goal.loop-stage-init
loop-stage-init c = search tallies

pub returns-then-is_over : goal.returns-then-is_over
returns-then-is_over c = search tallies

pub returns-in_err-s : goal.returns-in_err-s
returns-in_err-s c = let e : c.from_residual.result ≡ Err c.in_err-s.field-0.0 = search rules in search (tallies, e, c.in_err-s.was)

pub count-counts-requires : goal.count-counts-requires
count-counts-requires c = search (tallies, c.in_ok-s.was)

pub loop-stage-smaller : goal.loop-stage-smaller
loop-stage-smaller c = search (tallies, c.in_ok-s.was)

pub loop-stage-preserved : goal.loop-stage-preserved
loop-stage-preserved c = search (tallies, c.in_ok-s.was)
