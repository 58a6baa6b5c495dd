use Rattle.naming.proofs.KeySteps.{keying}
use Rattle.naming.proofs.keys.key_of.Goals as goal

pub returns-then-label-gt-MOST_DIGITS : goal.returns-then-label-gt-MOST_DIGITS
returns-then-label-gt-MOST_DIGITS c = search keying

pub loop-i-init : goal.loop-i-init
loop-i-init c = search keying

pub bounds-label-i : goal.bounds-label-i
bounds-label-i c = search keying

pub symbol-s-requires : goal.symbol-s-requires
symbol-s-requires c = search keying

pub returns-then-s-eq0 : goal.returns-then-s-eq0
returns-then-s-eq0 c = search keying

pub overflow_mul-key : goal.overflow_mul-key
overflow_mul-key c = search keying

pub overflow_add-key : goal.overflow_add-key
overflow_add-key c = search keying

pub loop-i-preserved : goal.loop-i-preserved
loop-i-preserved c = search keying

pub returns : goal.returns
returns c = search keying
