use Rattle.reader.proofs.TurnSteps.{turning}
use Rattle.reader.proofs.turns.next_line.Goals as goal

pub returns-then-is_over : goal.returns-then-is_over
returns-then-is_over c = search turning

pub unwrap-s-requires : goal.unwrap-s-requires
unwrap-s-requires c = search turning

pub returns : goal.returns
returns c = search turning
