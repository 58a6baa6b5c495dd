-- Each case is its own row, by definition.
-- Assumes nothing.
use mathlib.Core.Path.{◌≡◌}
use Rattle.contents.specs.declared.Reply.{Reply}
use Rattle.contents.specs.Replies.{reply_of}
use Rattle.session.specs.declared.Refusal.{Refusal}
use Rattle.session.specs.Replies.{refusal_row}
use borrow.Author.Rules.{rules}
use Rattle.session.proofs.replies.refusal_row.Goals as goal

-- the row of a case is the row of what is this case
case-of : (x y : Refusal) (r : Reply) → x ≡ y → r ≡ refusal_row y → r ≡ refusal_row x
case-of x y r e p = rw e p

pub enum_told-1 : goal.enum_told-1
enum_told-1 c = search rules

pub row-requires : goal.row-requires
row-requires c = search rules

pub enum_told-in-RoomShort : goal.enum_told-in-RoomShort
enum_told-in-RoomShort c = search rules

pub row-requires-in-RoomShort : goal.row-requires-in-RoomShort
row-requires-in-RoomShort c = search rules

pub enum_known-x : goal.enum_known-x
enum_known-x c = search rules

pub replied-requires : goal.replied-requires
replied-requires c = search rules

pub enum_told-in-BadTempo : goal.enum_told-in-BadTempo
enum_told-in-BadTempo c = search rules

pub row-requires-in-BadTempo : goal.row-requires-in-BadTempo
row-requires-in-BadTempo c = search rules

pub enum_told-in-BadGrace : goal.enum_told-in-BadGrace
enum_told-in-BadGrace c = search rules

pub row-requires-in-BadGrace : goal.row-requires-in-BadGrace
row-requires-in-BadGrace c = search rules

pub enum_told-in-NoSession : goal.enum_told-in-NoSession
enum_told-in-NoSession c = search rules

pub row-requires-in-NoSession : goal.row-requires-in-NoSession
row-requires-in-NoSession c = search rules

pub enum_told-in-NoEvent : goal.enum_told-in-NoEvent
enum_told-in-NoEvent c = search rules

pub row-requires-in-NoEvent : goal.row-requires-in-NoEvent
row-requires-in-NoEvent c = search rules

pub enum_told-in-NotAfter : goal.enum_told-in-NotAfter
enum_told-in-NotAfter c = search rules

pub row-requires-in-NotAfter : goal.row-requires-in-NotAfter
row-requires-in-NotAfter c = search rules

pub enum_told-in-BadMillis : goal.enum_told-in-BadMillis
enum_told-in-BadMillis c = search rules

pub row-requires-in-BadMillis : goal.row-requires-in-BadMillis
row-requires-in-BadMillis c = search rules

pub enum_told-in-ClockFull : goal.enum_told-in-ClockFull
enum_told-in-ClockFull c = search rules

pub row-requires-in-ClockFull : goal.row-requires-in-ClockFull
row-requires-in-ClockFull c = search rules

pub returns-in-MemoryShort : goal.returns-in-MemoryShort
unfolding refusal_row
returns-in-MemoryShort c = search case-of

pub returns-in-RoomShort : goal.returns-in-RoomShort
unfolding refusal_row
returns-in-RoomShort c = search case-of

pub returns-in-File : goal.returns-in-File
unfolding refusal_row reply_of
returns-in-File c = search case-of

pub returns-in-BadTempo : goal.returns-in-BadTempo
unfolding refusal_row
returns-in-BadTempo c = search case-of

pub returns-in-BadGrace : goal.returns-in-BadGrace
unfolding refusal_row
returns-in-BadGrace c = search case-of

pub returns-in-NoSession : goal.returns-in-NoSession
unfolding refusal_row
returns-in-NoSession c = search case-of

pub returns-in-NoEvent : goal.returns-in-NoEvent
unfolding refusal_row
returns-in-NoEvent c = search case-of

pub returns-in-NotAfter : goal.returns-in-NotAfter
unfolding refusal_row
returns-in-NotAfter c = search case-of

pub returns-in-BadMillis : goal.returns-in-BadMillis
unfolding refusal_row
returns-in-BadMillis c = search case-of

pub returns-in-ClockFull : goal.returns-in-ClockFull
unfolding refusal_row
returns-in-ClockFull c = search case-of
