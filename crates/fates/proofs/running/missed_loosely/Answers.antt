-- `missed_loosely` goes by the error word, and by the test of what is past.
-- Assumes nothing.
use Rattle.fates.proofs.FateLaws.{error-words}
use Rattle.fates.proofs.running.missed_loosely.Goals as goal

pub overflow_add-date : goal.overflow_add-date
overflow_add-date c = search error-words

pub enum_told-1 : goal.enum_told-1
enum_told-1 c = search error-words

pub enum_told-in-Global : goal.enum_told-in-Global
enum_told-in-Global c = search error-words

pub global_start-start-requires : goal.global_start-start-requires
global_start-start-requires c = search error-words

pub overflow_add-result : goal.overflow_add-result
overflow_add-result c = search error-words

pub enum_told-in-Partial : goal.enum_told-in-Partial
enum_told-in-Partial c = search error-words

pub past-requires : goal.past-requires
past-requires c = search error-words

pub returns-then-past : goal.returns-then-past
returns-then-past c = search error-words

pub future_date-requires : goal.future_date-requires
future_date-requires c = search error-words

pub enum_told-in-Causal : goal.enum_told-in-Causal
enum_told-in-Causal c = search error-words

pub past-requires-in-Causal : goal.past-requires-in-Causal
past-requires-in-Causal c = search error-words

pub returns-then-past-2 : goal.returns-then-past-2
returns-then-past-2 c = search error-words

pub future_date-requires-in-Causal : goal.future_date-requires-in-Causal
future_date-requires-in-Causal c = search error-words

pub returns-in-Local : goal.returns-in-Local
returns-in-Local c = search error-words

pub returns-in-Global : goal.returns-in-Global
returns-in-Global c = search error-words

pub returns-else-past : goal.returns-else-past
returns-else-past c = search error-words

pub returns-else-past-2 : goal.returns-else-past-2
returns-else-past-2 c = search error-words
