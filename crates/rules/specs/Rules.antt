-- The rules of performance, one item at a time. What happens to an item depends on the groups around it, on its ideal date, E(i) + d, and on the grace: loose keeps the
-- event that it hangs on; tight, causal and partial move it and keep the date, but what is within the grace starts at E(j); and global changes the dates of a group that
-- was to start before E(j). RuleLaws has the sentences of documents 01 and 02, group by group.
use Rattle.std.specs.Prelude.{ℕ, ◌+◌, ◌-◌, max, Bool, List, [], ◌∷◌, ◌++◌, ltb}
use Rattle.units.specs.declared.Grains.{Grains}
use Rattle.base.specs.Tests.{pick}
pub use Rattle.rules.specs.declared.Fate.{Fate}
pub use Rattle.rules.specs.declared.Fate.TheVariants.{HeardAt as heard_at, MissedBy as missed_by, GroupsOnly as groups_only, Nothing as nothing, NotYet as not_yet}
use Rattle.rules.specs.Terms.{Terms}
use Rattle.rules.specs.Words.{Synchrony, loose, tight, ErrorWord, local, global, partial, causal}
use Rattle.rules.specs.Score.{Seq, end, action, group, E, last_by}
use Rattle.rules.specs.Heard.{Taken, heard, missed, unsettled, taken}

-- What the rules ask of a performance: E(k), "the last event k with E(k) <= t", what has become of each event, and the grace of the opening.
pub record Reading : Type 0 where
  pub start : ℕ → ℕ
  pub last_before : ℕ → ℕ
  pub became : ℕ → Taken
  pub grace : ℕ

-- The reading of a score's durations under the events heard, on the terms of the opening. Of these the rules ask for the grace alone: part bits and tempo move no triple.
unfoldable pub reading_of : Terms → (durations heard : List ℕ) → Reading
reading_of terms ds D = record { start = E ds; last_before = last_by ds; became = taken D; grace = terms.grace }

abbrev pub grains : ℕ → Grains
grains t = record { 0 = t }

-- "An item is past exactly if its date plus g is before E(j)": the others are future.
unfoldable pub past : Reading → (j t : ℕ) → Bool
past R j t = ltb (t + R.grace) (R.start j)

-- "their dates less E(j)", "a future item's delay is never below 0": the date that a future item has where it is heard at j is the later of its own and E(j).
unfoldable pub future_date : Reading → (j t : ℕ) → ℕ
future_date R j t = max t (R.start j)

-- "a missed global group is heard at j with delay max(0, E(i) + d - E(j))": so it starts at the later of its own date, E(i) + d, and E(j).
unfoldable pub global_start : Reading → (j own : ℕ) → ℕ
global_start R j own = max own (R.start j)

-- ---- one item, by what holds it. b is where its holder starts, and s how long after that the item does.

-- An item of a missed group: j is M(i), and hear gives its fate where it is heard at j at a date.
unfoldable pub missed_fate : Reading → ErrorWord → (j b s : ℕ) → (ℕ → Fate) → Fate
missed_fate R local j b s hear = nothing
missed_fate R global j b s hear = hear (global_start R j b + s)
missed_fate R partial j b s hear = pick (past R j (b + s)) (groups_only j (grains (b + s))) (hear (future_date R j (b + s)))
missed_fate R causal j b s hear = pick (past R j (b + s)) (missed_by j (grains (b + s))) (hear (future_date R j (b + s)))

-- Heard at an event, at a date.
abbrev pub loosely : ℕ → ℕ → Fate
loosely i t = heard_at i (grains t)

-- "Each k that receives items gets a loose group with the same error word, at k with delay 0, its items at t - E(k). It runs by these rules, k heard or missed."
unfoldable pub sliced_fate : Reading → ErrorWord → (k t : ℕ) → Taken → Fate
sliced_fate R e k t heard = loosely k t
sliced_fate R e k t (missed j) = missed_fate R e j (R.start k) (t - R.start k) (loosely j)
sliced_fate R e k t unsettled = not_yet

-- An item of a group that is heard at i, dated t: "goes to the last event k with E(k) <= t" where the group is tight.
unfoldable pub heard_fate : Reading → Synchrony → ErrorWord → (i t : ℕ) → Fate
heard_fate R loose e i t = loosely i t
heard_fate R tight e i t = sliced_fate R e (R.last_before t) t (R.became (R.last_before t))

-- What holds an item, and the date at which that starts.
pub data Holder : Type 0 where
  heard_group : Synchrony → ErrorWord → (event date : ℕ) → Holder
  missed_group : Synchrony → ErrorWord → (next date : ℕ) → Holder
  missed_top : (next date : ℕ) → Holder
  silent : Holder
  waiting : Holder

unfoldable pub fate_of : Reading → Holder → ℕ → Fate
fate_of R (heard_group y e i b) s = heard_fate R y e i (b + s)
fate_of R (missed_group y e j b) s = missed_fate R e j b s (heard_fate R y e j)
fate_of R (missed_top j b) s = missed_by j (grains (b + s))
fate_of R silent s = nothing
fate_of R waiting s = not_yet

-- ---- what becomes of an action and of a group

pub data Outcome : Type 0 where
  played : (event delay : ℕ) → Outcome
  dropped : Outcome
  undecided : Outcome

-- "(i, d, a)", "(j, max(0, E(i) + d - E(j)), a)": an action waits for what is left of its date after its event, which is never below 0.
unfoldable pub outcome_of : Reading → Fate → Outcome
outcome_of R (heard_at i t) = played i (t.0 - R.start i)
outcome_of R (missed_by j t) = played j (t.0 - R.start j)
outcome_of R (groups_only j t) = dropped
outcome_of R nothing = dropped
outcome_of R not_yet = undecided

unfoldable pub enter : Fate → Synchrony → ErrorWord → Holder
enter (heard_at i t) y e = heard_group y e i t.0
enter (missed_by j t) y e = missed_group y e j t.0
enter (groups_only j t) y e = missed_group y e j t.0
enter nothing y e = silent
enter not_yet y e = waiting

-- ---- sequences

-- A written action, and what becomes of it.
pub data Line : Type 0 where
  line : (place message : ℕ) → Outcome → Line

-- "Delays add up along a sequence; a group's own delay counts for what follows it, its body's delays don't." s is the sum so far.
unfoldable pub run : Reading → Holder → ℕ → Seq → List Line
run R h s end = []
run R h s (action d m p rest) = line p m (outcome_of R (fate_of R h (s + d))) ∷ run R h (s + d) rest
run R h s (group d y e body rest) = run R (enter (fate_of R h (s + d)) y e) 0 body ++ run R h (s + d) rest

-- A part's sequence at event i runs as a loose group does: heard, or missed item by item.
unfoldable pub top_holder : Reading → ℕ → Taken → Holder
top_holder R i heard = heard_group loose local i (R.start i)
top_holder R i (missed j) = missed_top j (R.start i)
top_holder R i unsettled = waiting

unfoldable pub perform : Reading → ℕ → Seq → List Line
perform R i x = run R (top_holder R i (R.became i)) 0 x

-- "Each rule yields triples (event, delay, message), one for each written action it plays, kept apart even where two are alike"
pub data Triple : Type 0 where
  triple : (event delay message : ℕ) → Triple

unfoldable pub keep : Outcome → ℕ → List Triple → List Triple
keep (played i d) m r = triple i d m ∷ r
keep dropped m r = r
keep undecided m r = r

unfoldable pub triples : List Line → List Triple
triples [] = []
triples (line p m o ∷ l) = keep o m (triples l)
