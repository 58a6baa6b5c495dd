-- `taken_of` reads one word before the outcomes, and tells three cases.
-- Assumes nothing.
use Rattle.fates.proofs.ReadLaws.{reads}
use Rattle.fates.proofs.words.taken_of.Goals as goal

pub overflow_add-at : goal.overflow_add-at
overflow_add-at c = search reads

pub offset_bounds-r-at : goal.offset_bounds-r-at
offset_bounds-r-at c = search reads

pub bounds-r-at : goal.bounds-r-at
bounds-r-at c = search reads

pub returns-then-next-eq0 : goal.returns-then-next-eq0
returns-then-next-eq0 c = search reads

pub returns-then-next-k : goal.returns-then-next-k
returns-then-next-k c = search reads

pub returns : goal.returns
returns c = search reads
