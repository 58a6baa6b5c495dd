use Rattle.opening.proofs.ClearSteps.{filled-cleared}
use Rattle.opening.proofs.clear.Goals as goal

pub returns : goal.returns
returns c = filled-cleared c.args.mem.now _ c.requires (c.fill.ensures.after (λ y e. e))
