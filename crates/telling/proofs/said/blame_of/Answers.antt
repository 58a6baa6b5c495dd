-- Each case is its own row, by definition.
-- Assumes nothing.
use borrow.Author.Rules.{rules}
use Rattle.telling.specs.Said.{blamed}
use Rattle.telling.proofs.said.blame_of.Goals as goal

pub enum_told-1 : goal.enum_told-1
unfolding blamed
enum_told-1 c = search rules

pub enum_told-in-RoomShort : goal.enum_told-in-RoomShort
unfolding blamed
enum_told-in-RoomShort c = search rules

pub enum_told-in-File : goal.enum_told-in-File
unfolding blamed
enum_told-in-File c = search rules

pub enum_told-in-BadTempo : goal.enum_told-in-BadTempo
unfolding blamed
enum_told-in-BadTempo c = search rules

pub enum_told-in-BadGrace : goal.enum_told-in-BadGrace
unfolding blamed
enum_told-in-BadGrace c = search rules

pub enum_told-in-NoSession : goal.enum_told-in-NoSession
unfolding blamed
enum_told-in-NoSession c = search rules

pub enum_told-in-NoEvent : goal.enum_told-in-NoEvent
unfolding blamed
enum_told-in-NoEvent c = search rules

pub enum_told-in-NotAfter : goal.enum_told-in-NotAfter
unfolding blamed
enum_told-in-NotAfter c = search rules

pub enum_told-in-BadMillis : goal.enum_told-in-BadMillis
unfolding blamed
enum_told-in-BadMillis c = search rules

pub enum_told-in-ClockFull : goal.enum_told-in-ClockFull
unfolding blamed
enum_told-in-ClockFull c = search rules

pub returns-in-MemoryShort : goal.returns-in-MemoryShort
unfolding blamed
returns-in-MemoryShort c = search rules

pub returns-in-RoomShort : goal.returns-in-RoomShort
unfolding blamed
returns-in-RoomShort c = search rules

pub returns-in-File : goal.returns-in-File
unfolding blamed
returns-in-File c = search rules

pub returns-in-BadTempo : goal.returns-in-BadTempo
unfolding blamed
returns-in-BadTempo c = search rules

pub returns-in-BadGrace : goal.returns-in-BadGrace
unfolding blamed
returns-in-BadGrace c = search rules

pub returns-in-NoSession : goal.returns-in-NoSession
unfolding blamed
returns-in-NoSession c = search rules

pub returns-in-NoEvent : goal.returns-in-NoEvent
unfolding blamed
returns-in-NoEvent c = search rules

pub returns-in-NotAfter : goal.returns-in-NotAfter
unfolding blamed
returns-in-NotAfter c = search rules

pub returns-in-BadMillis : goal.returns-in-BadMillis
unfolding blamed
returns-in-BadMillis c = search rules

pub returns-in-ClockFull : goal.returns-in-ClockFull
unfolding blamed
returns-in-ClockFull c = search rules
