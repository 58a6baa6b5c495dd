-- Each case is its own row, by definition.
-- Assumes nothing.
use Rattle.std.proofs.Common.{refl}
use Rattle.hints.specs.Hints.{hint_words}
use Rattle.hints.proofs.TableLaws.{hint-case}
use Rattle.hints.proofs.table.put_row.Goals as goal

pub returns-in-ByteOrderMark : goal.returns-in-ByteOrderMark
unfolding hint_words
returns-in-ByteOrderMark c = hint-case c.in-ByteOrderMark.is c.put_bytes.ensures refl

pub returns-in-Capitals : goal.returns-in-Capitals
unfolding hint_words
returns-in-Capitals c = hint-case c.in-Capitals.is c.put_bytes-in-Capitals.ensures refl

pub returns-in-NoList : goal.returns-in-NoList
unfolding hint_words
returns-in-NoList c = hint-case c.in-NoList.is c.put_bytes-in-NoList.ensures refl

pub returns-in-WordOrder : goal.returns-in-WordOrder
unfolding hint_words
returns-in-WordOrder c = hint-case c.in-WordOrder.is c.put_bytes-in-WordOrder.ensures refl

pub returns-in-InnerPart : goal.returns-in-InnerPart
unfolding hint_words
returns-in-InnerPart c = hint-case c.in-InnerPart.is c.put_bytes-in-InnerPart.ensures refl

pub returns-in-InnerEvent : goal.returns-in-InnerEvent
unfolding hint_words
returns-in-InnerEvent c = hint-case c.in-InnerEvent.is c.put_bytes-in-InnerEvent.ensures refl

pub returns-in-Decimal : goal.returns-in-Decimal
unfolding hint_words
returns-in-Decimal c = hint-case c.in-Decimal.is c.put_bytes-in-Decimal.ensures refl

pub returns-in-Mixed : goal.returns-in-Mixed
unfolding hint_words
returns-in-Mixed c = hint-case c.in-Mixed.is c.put_bytes-in-Mixed.ensures refl

pub returns-in-Uneven : goal.returns-in-Uneven
unfolding hint_words
returns-in-Uneven c = hint-case c.in-Uneven.is c.put_bytes-in-Uneven.ensures refl

pub returns-in-PastList : goal.returns-in-PastList
unfolding hint_words
returns-in-PastList c = hint-case c.in-PastList.is c.put_bytes-in-PastList.ensures refl
