-- As much of the name as is told, and the words behind it.
-- Assumes nothing.
use Rattle.telling.proofs.SaidSteps.{unopened}
use Rattle.telling.proofs.said.put_unopened.Goals as goal

pub put_bytes-at-requires : goal.put_bytes-at-requires
put_bytes-at-requires c = search unopened

pub put_bytes-requires : goal.put_bytes-requires
put_bytes-requires c = search unopened

pub returns : goal.returns
returns c = search unopened
