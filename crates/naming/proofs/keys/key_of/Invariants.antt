-- The invariant: the bytes passed are symbols, and the key is theirs.
-- Assumes nothing.
use Rattle.naming.proofs.KeySteps.{KeyGoing}
use Rattle.naming.proofs.keys.key_of.Given as goal

abbrev pub invariant-loop-i : goal.invariant-loop-i
invariant-loop-i l = KeyGoing l.label l.key l.i
