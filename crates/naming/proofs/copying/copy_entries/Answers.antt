use Rattle.naming.proofs.ListSteps.{copying}
use Rattle.naming.proofs.copying.copy_entries.Goals as goal

pub loop-i-init : goal.loop-i-init
loop-i-init c = search copying

pub overflow_mul-place : goal.overflow_mul-place
overflow_mul-place c = search copying

pub overflow_add-at : goal.overflow_add-at
overflow_add-at c = search copying

pub read16-start-requires : goal.read16-start-requires
read16-start-requires c = search copying

pub overflow_add-at-in-loop-i : goal.overflow_add-at-in-loop-i
overflow_add-at-in-loop-i c = search copying

pub overflow_add-at-in-loop-i-2 : goal.overflow_add-at-in-loop-i-2
overflow_add-at-in-loop-i-2 c = search copying

pub read16-size-requires : goal.read16-size-requires
read16-size-requires c = search copying

pub put_entry-requires : goal.put_entry-requires
put_entry-requires c = search copying

pub loop-i-preserved : goal.loop-i-preserved
loop-i-preserved c = search copying

pub shape_of-entries : goal.shape_of-entries
shape_of-entries c = search copying

pub returns : goal.returns
returns c = search copying
