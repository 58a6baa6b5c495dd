use Rattle.naming.proofs.SearchSteps.{labels}
use Rattle.naming.proofs.searches.find_label.Goals as goal

pub loop-i-init : goal.loop-i-init
loop-i-init c = search labels

pub overflow_mul-i : goal.overflow_mul-i
overflow_mul-i c = search labels

pub is_named-requires : goal.is_named-requires
is_named-requires c = search labels

pub returns-then-is_named : goal.returns-then-is_named
returns-then-is_named c = search labels

pub loop-i-preserved : goal.loop-i-preserved
loop-i-preserved c = search labels

pub returns : goal.returns
returns c = search labels
