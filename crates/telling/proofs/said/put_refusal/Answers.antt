-- What the refusal is for decides which name is told.
-- Assumes nothing.
use Rattle.telling.specs.Said.{refused_name}
use Rattle.telling.proofs.SaidSteps.{refusing}
use Rattle.telling.proofs.said.put_refusal.Goals as goal

pub blame_of-requires : goal.blame_of-requires
blame_of-requires c = search refusing

pub enum_told-1 : goal.enum_told-1
enum_told-1 c = search refusing

pub put_refused-requires : goal.put_refused-requires
put_refused-requires c = search refusing

pub enum_told-in-Grace : goal.enum_told-in-Grace
enum_told-in-Grace c = search refusing

pub put_refused-requires-in-Grace : goal.put_refused-requires-in-Grace
put_refused-requires-in-Grace c = search refusing

pub enum_told-in-Line : goal.enum_told-in-Line
enum_told-in-Line c = search refusing

pub put_refused-requires-in-Line : goal.put_refused-requires-in-Line
put_refused-requires-in-Line c = search refusing

pub shape_of-text-in-Score : goal.shape_of-text-in-Score
shape_of-text-in-Score c = search refusing

pub returns-in-Score : goal.returns-in-Score
unfolding refused_name
returns-in-Score c = search refusing

pub shape_of-text-in-Grace : goal.shape_of-text-in-Grace
shape_of-text-in-Grace c = search refusing

pub returns-in-Grace : goal.returns-in-Grace
unfolding refused_name
returns-in-Grace c = search refusing

pub shape_of-text-in-Line : goal.shape_of-text-in-Line
shape_of-text-in-Line c = search refusing

pub returns-in-Line : goal.returns-in-Line
unfolding refused_name
returns-in-Line c = search refusing
