use Rattle.ascii.proofs.LayLaws.{laid-part}
use Rattle.ascii.proofs.laying.put_bytes.Goals as goal

pub returns : goal.returns
returns c = laid-part c.args.out.now c.args.src.now _ c.args.at c.requires c.copy_from_slice.ensures.after
