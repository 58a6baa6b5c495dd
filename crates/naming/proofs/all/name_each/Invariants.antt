-- The invariant: the list with the values left is the list with all of them, and the numbers laid are those before theirs.
-- Assumes nothing.
use Rattle.naming.specs.Inner.{messages_in}
use Rattle.naming.proofs.EachSteps.{Going}
use Rattle.naming.proofs.all.name_each.Given as goal

abbrev pub invariant-loop-i : goal.invariant-loop-i
invariant-loop-i l = Going l.values l.count (messages_in l.initial.entries l.initial.labels l.messages l.text) l.inside l.initial.entries l.initial.labels l.initial.keys l.initial.numbers l.entries l.labels l.keys l.numbers l.n l.size l.i
