-- The checks in their order; a granted call notes the event and sends what is due at once.
-- Assumes nothing.
use native.Mathlib.Omega.{arith}
use borrow.Author.Rules.{rules}
use Rattle.base.proofs.CheckLaws.{checks}
use Rattle.sequencer.specs.Calls.{heard_check}
use Rattle.sequencer.proofs.CallLaws.{told-header, noted-told, noted-clock, heard-refused, heard-granted}
use Rattle.sequencer.proofs.heard.hear.Goals as goal

ruleset steps = (heard-refused, checks)

pub returns-then-mem-lt-MEMORY_SIZE : goal.returns-then-mem-lt-MEMORY_SIZE
unfolding heard_check
returns-then-mem-lt-MEMORY_SIZE c = search steps depth 9

pub returns-then-room-lt-ROOM_SIZE : goal.returns-then-room-lt-ROOM_SIZE
unfolding heard_check
returns-then-room-lt-ROOM_SIZE c = search steps depth 9

pub returns-then-not-known : goal.returns-then-not-known
unfolding heard_check
returns-then-not-known c = search steps depth 9

pub returns-then-event-lt1 : goal.returns-then-event-lt1
unfolding heard_check
returns-then-event-lt1 c = search steps depth 9

pub returns-then-mem-event : goal.returns-then-mem-event
unfolding heard_check
returns-then-mem-event c = search steps depth 9

pub returns-then-event-mem : goal.returns-then-event-mem
unfolding heard_check
returns-then-event-mem c = search steps depth 9

pub returns-then-tempo-lt1 : goal.returns-then-tempo-lt1
unfolding heard_check
returns-then-tempo-lt1 c = search steps depth 9

pub returns-then-tempo-gt-MOST_TEMPO : goal.returns-then-tempo-gt-MOST_TEMPO
unfolding heard_check
returns-then-tempo-gt-MOST_TEMPO c = search steps depth 9

pub note-requires : goal.note-requires
note-requires c =
    (omega arith, told-header _ _ c.is_session-known.ensures (rw c.if-not-known.false), omega arith)

pub finish-requires : goal.finish-requires
finish-requires c = (omega arith, search noted-told, omega arith, search noted-clock)

pub returns : goal.returns
returns c = search heard-granted
