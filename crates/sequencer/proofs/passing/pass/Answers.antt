-- The checks in their order; a granted call ends at the clock reading that the tempo step gives.
-- Assumes nothing.
use native.Mathlib.Omega.{arith}
use borrow.Author.Rules.{rules}
use Rattle.base.proofs.CheckLaws.{checks}
use Rattle.sequencer.specs.Calls.{pass_check}
use Rattle.sequencer.proofs.CallLaws.{told-tempo, told-header, clock-fits, pass-refused, pass-full, pass-granted}
use Rattle.sequencer.proofs.passing.pass.Goals as goal

ruleset steps = (pass-refused, checks)

pub returns-then-mem-lt-MEMORY_SIZE : goal.returns-then-mem-lt-MEMORY_SIZE
unfolding pass_check
returns-then-mem-lt-MEMORY_SIZE c = search steps depth 9

pub returns-then-room-lt-ROOM_SIZE : goal.returns-then-room-lt-ROOM_SIZE
unfolding pass_check
returns-then-room-lt-ROOM_SIZE c = search steps depth 9

pub returns-then-not-known : goal.returns-then-not-known
unfolding pass_check
returns-then-not-known c = search steps depth 9

pub returns-then-ms-lt1 : goal.returns-then-ms-lt1
unfolding pass_check
returns-then-ms-lt1 c = search steps depth 9

pub returns-then-ms-gt-MOST_MILLIS : goal.returns-then-ms-gt-MOST_MILLIS
unfolding pass_check
returns-then-ms-gt-MOST_MILLIS c = search steps depth 9

pub moved_by-requires : goal.moved_by-requires
moved_by-requires c =
    (omega arith, told-tempo _ _ c.is_session-known.ensures (rw c.if-not-known.false))

pub overflow_add-clock : goal.overflow_add-clock
overflow_add-clock c =
    clock-fits _ _ c.is_session-known.ensures (rw c.if-not-known.false) _ (omega arith)

pub returns-then-clock-gt-CLOCK_END : goal.returns-then-clock-gt-CLOCK_END
returns-then-clock-gt-CLOCK_END c = search pass-full

pub finish-requires : goal.finish-requires
finish-requires c =
    (omega arith, told-header _ _ c.is_session-known.ensures (rw c.if-not-known.false), omega arith, omega arith)

pub returns : goal.returns
returns c = search pass-granted
