-- What the line asks for, in its turn, decides which of the four is printed.
-- Assumes nothing.
use Rattle.std.proofs.Common.{◌≡◌, Some}
use Rattle.lines.specs.declared.Command.TheVariants.{Open, Hear, Pass}
use Rattle.playing.proofs.LineSteps.{turns, opens, hears, passes, bads}
use Rattle.playing.proofs.play_line.Goals as goal

pub open_line-requires : goal.open_line-requires
open_line-requires c =
    let e : c.command_in_turn.result ≡ Some (Open c.in-Some-Open.parts c.in-Some-Open.tempo) = cc in
    search turns

pub invariant_of-hear_line : goal.invariant_of-hear_line
invariant_of-hear_line c =
    let e : c.command_in_turn.result ≡ Some (Hear c.in-Some-Hear.event c.in-Some-Hear.tempo) = cc in
    search turns

pub invariant_of-pass_line : goal.invariant_of-pass_line
invariant_of-pass_line c =
    let e : c.command_in_turn.result ≡ Some (Pass c.in-Some-Pass.ms) = cc in
    search turns

pub returns-in-Some-Open : goal.returns-in-Some-Open
returns-in-Some-Open c =
    let e : c.command_in_turn.result ≡ Some (Open c.in-Some-Open.parts c.in-Some-Open.tempo) = cc in
    search opens

pub returns-in-Some-Hear : goal.returns-in-Some-Hear
returns-in-Some-Hear c =
    let e : c.command_in_turn.result ≡ Some (Hear c.in-Some-Hear.event c.in-Some-Hear.tempo) = cc in
    search hears

pub returns-in-Some-Pass : goal.returns-in-Some-Pass
returns-in-Some-Pass c =
    let e : c.command_in_turn.result ≡ Some (Pass c.in-Some-Pass.ms) = cc in
    search passes

pub returns-in-None : goal.returns-in-None
returns-in-None c = search bads
