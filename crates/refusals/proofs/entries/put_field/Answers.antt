-- Each case is its own name in the list, by definition.
-- Assumes nothing.
use mathlib.Core.Path.{refl}
use native.Mathlib.Omega.{arith}
use borrow.Author.Rules.{rules}
use Rattle.refusals.specs.Entries.{field_words, field_count}
use Rattle.wording.proofs.CaseLaws.{none_of}
use Rattle.refusals.proofs.NameLaws.{field-case, field-none}
use Rattle.refusals.proofs.entries.put_field.Goals as goal

pub put_bytes-requires : goal.put_bytes-requires
unfolding field_words
put_bytes-requires c = search rules

pub put_bytes-requires-in-1 : goal.put_bytes-requires-in-1
unfolding field_words
put_bytes-requires-in-1 c = search rules

pub put_bytes-requires-in-2 : goal.put_bytes-requires-in-2
unfolding field_words
put_bytes-requires-in-2 c = search rules

pub put_bytes-requires-in-3 : goal.put_bytes-requires-in-3
unfolding field_words
put_bytes-requires-in-3 c = search rules

pub put_bytes-requires-in-4 : goal.put_bytes-requires-in-4
unfolding field_words
put_bytes-requires-in-4 c = search rules

pub put_bytes-requires-in-5 : goal.put_bytes-requires-in-5
unfolding field_words
put_bytes-requires-in-5 c = search rules

pub put_bytes-requires-in-6 : goal.put_bytes-requires-in-6
unfolding field_words
put_bytes-requires-in-6 c = search rules

pub put_bytes-requires-in-7 : goal.put_bytes-requires-in-7
unfolding field_words
put_bytes-requires-in-7 c = search rules

pub shape_of-out-in-0 : goal.shape_of-out-in-0
unfolding field_words
shape_of-out-in-0 c = search rules

pub returns-in-0 : goal.returns-in-0
unfolding field_words
returns-in-0 c = field-case {k = 0} c.in-0.is c.put_bytes.ensures refl refl

pub shape_of-out-in-1 : goal.shape_of-out-in-1
unfolding field_words
shape_of-out-in-1 c = search rules

pub returns-in-1 : goal.returns-in-1
unfolding field_words
returns-in-1 c = field-case {k = 1} c.in-1.is c.put_bytes-in-1.ensures refl refl

pub shape_of-out-in-2 : goal.shape_of-out-in-2
unfolding field_words
shape_of-out-in-2 c = search rules

pub returns-in-2 : goal.returns-in-2
unfolding field_words
returns-in-2 c = field-case {k = 2} c.in-2.is c.put_bytes-in-2.ensures refl refl

pub shape_of-out-in-3 : goal.shape_of-out-in-3
unfolding field_words
shape_of-out-in-3 c = search rules

pub returns-in-3 : goal.returns-in-3
unfolding field_words
returns-in-3 c = field-case {k = 3} c.in-3.is c.put_bytes-in-3.ensures refl refl

pub shape_of-out-in-4 : goal.shape_of-out-in-4
unfolding field_words
shape_of-out-in-4 c = search rules

pub returns-in-4 : goal.returns-in-4
unfolding field_words
returns-in-4 c = field-case {k = 4} c.in-4.is c.put_bytes-in-4.ensures refl refl

pub shape_of-out-in-5 : goal.shape_of-out-in-5
unfolding field_words
shape_of-out-in-5 c = search rules

pub returns-in-5 : goal.returns-in-5
unfolding field_words
returns-in-5 c = field-case {k = 5} c.in-5.is c.put_bytes-in-5.ensures refl refl

pub shape_of-out-in-6 : goal.shape_of-out-in-6
unfolding field_words
shape_of-out-in-6 c = search rules

pub returns-in-6 : goal.returns-in-6
unfolding field_words
returns-in-6 c = field-case {k = 6} c.in-6.is c.put_bytes-in-6.ensures refl refl

pub shape_of-out-in-7 : goal.shape_of-out-in-7
unfolding field_words
shape_of-out-in-7 c = search rules

pub returns-in-7 : goal.returns-in-7
unfolding field_words
returns-in-7 c = field-case {k = 7} c.in-7.is c.put_bytes-in-7.ensures refl refl

pub returns-in_default : goal.returns-in_default
returns-in_default c = field-none _ _ _ (none_of field_count _ c.in_default.in_default-own.rest) (omega arith)
