use Rattle.ascii.proofs.LayLaws.{laid-spaces}
use Rattle.ascii.proofs.laying.put_spaces.Goals as goal

pub returns : goal.returns
returns c = laid-spaces c.args.out.now _ c.args.at c.args.count c.requires (c.fill.ensures.after (λ y e. e))
