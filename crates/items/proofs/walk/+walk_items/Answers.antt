use mathlib.Core.Path.{◌≡◌}
use native.Mathlib.Omega.{arith}
use Rattle.std.specs.Prelude.{Ok}
use Rattle.items.proofs.WalkLaws.{walked-small}
use Rattle.items.proofs.WalkSteps.{walks, walk_none, walk_step}
use Rattle.items.proofs.walk.+walk_items.Goals as goal

pub returns-in_err-s : goal.returns-in_err-s
returns-in_err-s t c = search walks

pub returns-in_err-n : goal.returns-in_err-n
returns-in_err-n t c = search walks

pub loop-left-preserved : goal.loop-left-preserved
loop-left-preserved t c =
    let walked : c.walk_items.result ≡ Ok c.in_ok-n.n = c.in_ok-n.was in (
      omega (arith, c.in_ok-s.ensures.fits.sum),
      omega (arith, c.in_ok-s.ensures.fits.sum),
      walked-small _ _ _ _ _ _ _ c.in_ok-s.ensures.fits.few c.walk_items.ensures walked,
      walk_step _ _ _ _ _ _ _ _ _ _ c.loop-left-test.true c.judge.ensures.told _ _ c.in_ok-s.was c.walk_items.ensures _ walked c.loop-left.invariant.3,
    )

pub returns : goal.returns
returns t c = walk_none _ _ _ _ _ _ _ (omega arith) c.loop-left.invariant.3
