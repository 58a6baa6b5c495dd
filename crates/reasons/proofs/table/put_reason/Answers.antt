-- Each case is its own row, by definition.
-- Assumes nothing.
use mathlib.Core.Path.{refl}
use borrow.Author.Rules.{rules}
use Rattle.base.specs.Tests.{pick}
use Rattle.reasons.specs.Reasons.{reason_table, words_in, reason_words}
use Rattle.reasons.proofs.ReasonLaws.{reason-case, reason-other}
use Rattle.reasons.proofs.table.put_reason.Goals as goal

pub returns-in-1 : goal.returns-in-1
unfolding reason_table reason_words words_in pick
returns-in-1 c = reason-case c.in-1.is c.put_bytes.ensures refl refl

pub returns-in-2 : goal.returns-in-2
unfolding reason_table reason_words words_in pick
returns-in-2 c = reason-case c.in-2.is c.put_bytes-in-2.ensures refl refl

pub returns-in-5 : goal.returns-in-5
unfolding reason_table reason_words words_in pick
returns-in-5 c = reason-case c.in-5.is c.put_bytes-in-5.ensures refl refl

pub returns-in-9 : goal.returns-in-9
unfolding reason_table reason_words words_in pick
returns-in-9 c = reason-case c.in-9.is c.put_bytes-in-9.ensures refl refl

pub returns-in-13 : goal.returns-in-13
unfolding reason_table reason_words words_in pick
returns-in-13 c = reason-case c.in-13.is c.put_bytes-in-13.ensures refl refl

pub returns-in-17 : goal.returns-in-17
unfolding reason_table reason_words words_in pick
returns-in-17 c = reason-case c.in-17.is c.put_bytes-in-17.ensures refl refl

pub returns-in-20 : goal.returns-in-20
unfolding reason_table reason_words words_in pick
returns-in-20 c = reason-case c.in-20.is c.put_bytes-in-20.ensures refl refl

pub returns-in-21 : goal.returns-in-21
unfolding reason_table reason_words words_in pick
returns-in-21 c = reason-case c.in-21.is c.put_bytes-in-21.ensures refl refl

pub returns-in-27 : goal.returns-in-27
unfolding reason_table reason_words words_in pick
returns-in-27 c = reason-case c.in-27.is c.put_bytes-in-27.ensures refl refl

pub returns-in-28 : goal.returns-in-28
unfolding reason_table reason_words words_in pick
returns-in-28 c = reason-case c.in-28.is c.put_bytes-in-28.ensures refl refl

pub returns-in-30 : goal.returns-in-30
unfolding reason_table reason_words words_in pick
returns-in-30 c = reason-case c.in-30.is c.put_bytes-in-30.ensures refl refl

pub returns-in-36 : goal.returns-in-36
unfolding reason_table reason_words words_in pick
returns-in-36 c = reason-case c.in-36.is c.put_bytes-in-36.ensures refl refl

pub returns-in-40 : goal.returns-in-40
unfolding reason_table reason_words words_in pick
returns-in-40 c = reason-case c.in-40.is c.put_bytes-in-40.ensures refl refl

pub returns-in_default : goal.returns-in_default
unfolding reason_table
returns-in_default c = reason-other _ (search rules) c.put_error.ensures
