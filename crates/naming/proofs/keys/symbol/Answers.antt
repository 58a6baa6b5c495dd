-- The minus sign, the digits, and no other byte.
-- Assumes nothing.
use Rattle.naming.proofs.KeySteps.{symbols}
use Rattle.naming.proofs.keys.symbol.Goals as goal

pub returns-then-b-eq45 : goal.returns-then-b-eq45
returns-then-b-eq45 c = search symbols

pub returns-then-b-lt48 : goal.returns-then-b-lt48
returns-then-b-lt48 c = search symbols

pub returns-then-b-gt57 : goal.returns-then-b-gt57
returns-then-b-gt57 c = search symbols

pub overflow_sub-result : goal.overflow_sub-result
overflow_sub-result c = search symbols

pub returns : goal.returns
returns c = search symbols
