-- A second table of small scores, for what P1 to P12 leave open, and one theorem over it. Above each row stands its working from the sentences of documents 01 and
-- 02. Assumes nothing.
use Rattle.std.specs.Prelude.{◌≡◌, refl, ℕ, List, [], ◌∷◌, map}
use Rattle.page.specs.declared.Item.{Item}
use Rattle.base.specs.Tests.{pick}
use Rattle.rules.specs.Words.{loose, tight, local, global, partial, causal, synchrony_of, error_of}
use Rattle.rules.specs.Score.{Seq, end, action, group, total, E, more, last_by}
use Rattle.rules.specs.Heard.{taken}
use Rattle.rules.specs.Rules.{Outcome, played, dropped, undecided, Line, line, Triple, triple, triples, keep, perform, top_holder, run, enter, outcome_of, fate_of, heard_fate, sliced_fate, missed_fate, global_start, past, future_date, reading_of}
use Rattle.rules.specs.Page.{Cue, cues, cast, entries, entries_of, run_length, goes_on, sequence_of}
use Rattle.rules.specs.Small.{terms, events, a, b}

abbrev pub c : ℕ
c = 2

abbrev pub d : ℕ
d = 3

abbrev pub e : ℕ
e = 4

-- Events of 2, 1, 1 and 1 beats: E is 0, 10,080, 15,120, 20,160.
abbrev pub four : List ℕ
four = 10080 ∷ 5040 ∷ 5040 ∷ 5040 ∷ []

-- Events of 1, 2, 1 and 1 beats: E is 0, 5,040, 15,120, 20,160.
abbrev pub uneven : List ℕ
uneven = 5040 ∷ 10080 ∷ 5040 ∷ 5040 ∷ []

-- Five events of 1 beat: E is 0, 5,040, 10,080, 15,120, 20,160.
abbrev pub five : List ℕ
five = 5040 ∷ 5040 ∷ 5040 ∷ 5040 ∷ 5040 ∷ []

-- "kind, synchrony, error word, part, delay, event, last": one line of the item table.
abbrev pub item_of : (kind synchrony error part delay event last : ℕ) → Item
item_of k y x p g i l = record { kind = k; synchrony = y; error = x; part = p; delay = record { 0 = g }; event = i; last = l }

-- A written action with its page place, its part and its message, and what becomes of it.
abbrev pub cue : (place part message : ℕ) → Outcome → Cue
cue a p m o = record { place = a; part = p; message = m; outcome = o }

-- The events' durations; one part's sequence under an event; the events heard; the triples; and, where it is said, the actions of which nothing is known
-- yet: everywhere else each action is played or dropped. Or the events' durations, a whole page, the events heard, and what becomes of each action.
pub data Example : Type 0 where
  under : List ℕ → ℕ → Seq → List ℕ → List Triple → Example
  under_yet : List ℕ → ℕ → Seq → List ℕ → List Triple → List ℕ → Example
  page : List ℕ → List Item → List ℕ → List Cue → Example

abbrev pub more_small : List Example
more_small =
    -- Q1: "Delays add up along a sequence; a group's own delay counts for what follows it, its body's delays don't." a at 5040. The group at 5040 + 2520 = 7560, so
    -- b at 7560 + 3780 = 11340. c at 7560 + 1260 = 8820.
    under events 1 (action 5040 a 0 (group 2520 loose local (action 3780 b 2 end) (action 1260 c 3 end))) (1 ∷ [])
    (triple 1 5040 a ∷ triple 1 11340 b ∷ triple 1 8820 c ∷ [])
    -- Q2: an empty group yields nothing, and its delay counts: a at 5040 + 2520 = 7560, and again at 7560 + 0; "kept apart even where two are alike".
    ∷ under events 1 (group 5040 tight causal end (action 2520 a 1 (action 0 a 2 end))) (1 ∷ []) (triple 1 7560 a ∷ triple 1 7560 a ∷ [])
    -- Q3: "Heard, action: (i, d, a)", whatever comes after: a at 12600, after E(2). The loose group at 12600 + 2520 = 15120, so b at 15120 + 2520 = 17640, all on 1.
    ∷ under events 1 (action 12600 a 0 (group 2520 loose global (action 2520 b 2 end) end)) (1 ∷ 2 ∷ []) (triple 1 12600 a ∷ triple 1 17640 b ∷ [])
    -- Q4: "Each part has its own sequence at each event". Part 0 at event 1: a at 5040, its group at 7560, b at 7560 + 1260 = 8820. Part 1 at event 1 begins anew: c at
    -- 2520, d at 2520 + 1260 = 3780. Part 1 at event 2 begins anew: e at 630.
    ∷ page events
    (item_of 0 0 0 0 5040 1 a
    ∷ item_of 1 0 0 0 2520 1 1
    ∷ item_of 0 0 0 0 1260 0 b
    ∷ item_of 0 0 0 1 2520 1 c
    ∷ item_of 0 0 0 1 1260 1 d
    ∷ item_of 0 0 0 1 630 2 e
    ∷ [])
    (1 ∷ 2 ∷ [])
    (cue 0 0 a (played 1 5040)
    ∷ cue 2 0 b (played 1 8820)
    ∷ cue 3 1 c (played 1 2520)
    ∷ cue 4 1 d (played 1 3780)
    ∷ cue 5 1 e (played 2 630)
    ∷ [])
    -- Q5: "depth 8 is accepted": seven groups, one within the other, and a within them, each after an eighth of a beat: a at 8 * 630 = 5040. b follows the outermost
    -- group, at 630 + 630 = 1260.
    ∷ page events
    (item_of 1 0 0 0 630 1 7
    ∷ item_of 1 0 0 0 630 0 6
    ∷ item_of 1 0 0 0 630 0 5
    ∷ item_of 1 0 0 0 630 0 4
    ∷ item_of 1 0 0 0 630 0 3
    ∷ item_of 1 0 0 0 630 0 2
    ∷ item_of 1 0 0 0 630 0 1
    ∷ item_of 0 0 0 0 630 0 a
    ∷ item_of 0 0 0 0 630 1 b
    ∷ [])
    (1 ∷ []) (cue 7 0 a (played 1 5040) ∷ cue 8 0 b (played 1 1260) ∷ [])
    -- Q6: each word by its number, in part 3, all groups at 0 under event 1, which is missed; M(1) = 2. Local (0): a is dropped. Global (1): b at 5040 on 2. Partial (2): c at
    -- 12600 is future, 2520. Causal (3): d at 5040 is past, 0. Tight (1) and global: heard at 2 with delay 0, e has the date 10080 + 5040 = 15120 = E(3): to 3, at 0.
    ∷ page events
    (item_of 1 0 0 3 0 1 1
    ∷ item_of 0 0 0 3 5040 0 a
    ∷ item_of 1 0 1 3 0 1 1
    ∷ item_of 0 0 0 3 5040 0 b
    ∷ item_of 1 0 2 3 0 1 1
    ∷ item_of 0 0 0 3 12600 0 c
    ∷ item_of 1 0 3 3 0 1 1
    ∷ item_of 0 0 0 3 5040 0 d
    ∷ item_of 1 1 1 3 0 1 1
    ∷ item_of 0 0 0 3 5040 0 e
    ∷ [])
    (2 ∷ 3 ∷ [])
    (cue 1 3 a dropped ∷ cue 3 3 b (played 2 5040) ∷ cue 5 3 c (played 2 2520) ∷ cue 7 3 d (played 2 0) ∷ cue 9 3 e (played 3 0) ∷ [])
    -- Q7: "Missed, action: (j, max(0, E(i) + d - E(j)), a)". Event 2 is missed, M(2) = 3. a: 10080 + 2520 = 12600 is before 15120, so 0. b: 10080 + 7560 = 17640, less
    -- 15120 is 2520.
    ∷ under events 2 (action 2520 a 0 (action 5040 b 1 end)) (1 ∷ 3 ∷ []) (triple 3 0 a ∷ triple 3 2520 b ∷ [])
    -- Q8: the items of a missed event run one by one, by the rules for missed ones, and not as a causal group's. M(1) = 2. a: 12600 - 10080 = 2520. "Missed, local:
    -- nothing", though it starts after E(2). The global group has the date 12600 + 2520 = 15120, so it is heard at 2 with 15120 - 10080 = 5040: c at 5040 + 5040 = 10080.
    ∷ under events 1 (action 12600 a 0 (group 0 loose local (action 0 b 2 end) (group 2520 loose global (action 5040 c 4 end) end))) (2 ∷ [])
    (triple 2 2520 a ∷ triple 2 10080 c ∷ [])
    -- Q9: "M(i) is the first heard event after i". 1 and 2 are missed, M(1) = 3 and not 5; E(3) = 10080. a: 2520 is before that, so 0. b: 2520 + 12600 = 15120, less 10080 is
    -- 5040. The global group has b's date, so it is heard at 3 with 5040: c at 5040 + 2520 = 7560.
    ∷ under five 1 (action 2520 a 0 (action 12600 b 1 (group 0 loose global (action 2520 c 3 end) end))) (3 ∷ 5 ∷ [])
    (triple 3 0 a ∷ triple 3 5040 b ∷ triple 3 7560 c ∷ [])
    -- Q10: "without one, i yields nothing yet". Nothing is heard after event 2, so nothing comes of an action, nor of a global or a causal group.
    ∷ under_yet events 2 (action 5040 a 0 (group 0 loose global (action 0 b 2 end) (group 0 loose causal (action 0 c 4 end) end))) (1 ∷ []) []
    (a ∷ b ∷ c ∷ [])
    -- Q11: a missed group's own delay moves its body. The group at 5040. a at 7560: past, a missed action, max(0, 7560 - 10080) = 0. b at 12600: future, 12600 - 10080 = 2520.
    -- c follows the group: 5040 + 7560 = 12600, a missed action, 2520.
    ∷ under events 1 (group 5040 loose causal (action 2520 a 1 (action 5040 b 2 end)) (action 7560 c 3 end)) (2 ∷ [])
    (triple 2 0 a ∷ triple 2 2520 b ∷ triple 2 2520 c ∷ [])
    -- Q12: a missed global group that was to start before E(2), at 7560: max(0, 7560 - 10080) = 0, so a at 5040. Its delay counts for what follows: b at 7560 + 5040 = 12600, a
    -- missed action, 2520.
    ∷ under events 1 (group 7560 loose global (action 5040 a 1 end) (action 5040 b 2 end)) (2 ∷ []) (triple 2 5040 a ∷ triple 2 2520 b ∷ [])
    -- Q13: "the items starting before E(j) are past, the others future". The first local group starts at 10079, before E(2) = 10080: past, it runs as missed, nothing. The
    -- second at 10080: future, heard at 2 with 10080 - 10080 = 0, so b at 5040.
    ∷ under events 1
    (group 0 loose causal (group 10079 loose local (action 5040 a 2 end) (group 1 loose local (action 5040 b 4 end) end)) end) (2 ∷ [])
    (triple 2 5040 b ∷ [])
    -- Q14: "the future ones are a heard causal group of the same synchrony at j". Both items are future, the first exactly at E(2): a heard tight group at 2 with its
    -- items at 0 and 5040, sliced. The local group goes to 2, which was heard, and runs from there: a at 6300. b has the date 10080 + 5040 = 15120 = E(3): to 3, at 0.
    ∷ under events 1 (group 0 tight causal (group 10080 loose local (action 6300 a 2 end) (action 5040 b 3 end)) end) (2 ∷ 3 ∷ [])
    (triple 2 6300 a ∷ triple 3 0 b ∷ [])
    -- Q15: "the future ones stay a partial group", tight as it was. M(1) = 2. a at 11340: future, on 2 at 1260. b at 16380: future, and sliced to 3, which was missed: a partial
    -- slice there, M(3) = 4, and 16380 is before E(4) = 20160: past, dropped.
    ∷ under four 1 (group 0 tight partial (action 11340 a 1 (action 5040 b 2 end)) end) (2 ∷ 4 ∷ []) (triple 2 1260 a ∷ [])
    -- Q16: as Q15, causal: b is past in a causal slice, so a missed action: max(0, 16380 - 20160) = 0 at 4.
    ∷ under four 1 (group 0 tight causal (action 11340 a 1 (action 5040 b 2 end)) end) (2 ∷ 4 ∷ []) (triple 2 1260 a ∷ triple 4 0 b ∷ [])
    -- Q17: "past actions are dropped [..]; past groups run as missed by their own words". a at 5040: past, dropped. The causal group at 7560: past, missed; b at 7560 + 5040 =
    -- 12600 is future in it, 2520. The local group at 8820: past, missed, nothing. d at 8820 + 5040 = 13860: future, 3780.
    ∷ under events 1
    (group 0 loose partial
    (action 5040 a 1 (group 2520 loose causal (action 5040 b 3 end) (group 1260 loose local (action 5040 c 5 end) (action 5040 d 6 end)))) end)
    (2 ∷ []) (triple 2 2520 b ∷ triple 2 3780 d ∷ [])
    -- Q18: a partial group among the past of a partial one. It starts at 5040: past, missed. In it a at 7560: past, dropped; b at 12600: future, 2520. c follows it, at 5040 +
    -- 10080 = 15120: future, 5040.
    ∷ under events 1
    (group 0 loose partial (group 5040 loose partial (action 2520 a 2 (action 5040 b 3 end)) (action 10080 c 4 end)) end) (2 ∷ [])
    (triple 2 2520 b ∷ triple 2 5040 c ∷ [])
    -- Q19: a global group among the past of a causal one. a at 5040: past, missed, 0. The global group at 7560: past, missed, so heard at 2 with delay 0: b at 5040. c at 7560 +
    -- 5040 = 12600: future, 2520.
    ∷ under events 1
    (group 0 loose causal (action 5040 a 1 (group 2520 loose global (action 5040 b 3 end) (action 5040 c 4 end))) end) (2 ∷ [])
    (triple 2 0 a ∷ triple 2 5040 b ∷ triple 2 2520 c ∷ [])
    -- Q20: a tight group within a missed global one, which is heard at 2 with delay 0. The tight group starts at 10080 + 2520 = 12600. a has the date 13860: to 2, at 3780. b has
    -- the date 18900: to 3, at 3780.
    ∷ under events 1 (group 0 loose global (group 2520 tight local (action 1260 a 2 (action 5040 b 3 end)) end) end) (2 ∷ 3 ∷ [])
    (triple 2 3780 a ∷ triple 3 3780 b ∷ [])
    -- Q21: a tight global group among the past of a partial one: it starts at 5040, past, so it is heard at 2 with delay 0 and sliced from there. a has the date 10080 + 2520 =
    -- 12600: to 2, at 2520. b has the date 17640: to 3, at 2520.
    ∷ under events 1 (group 0 loose partial (group 5040 tight global (action 2520 a 2 (action 5040 b 3 end)) end) end) (2 ∷ 3 ∷ [])
    (triple 2 2520 a ∷ triple 3 2520 b ∷ [])
    -- Q22: "goes to the last event k with E(k) <= t". a at 10080 = E(2): to 2, at 0. b at 15119: to 2, at 5039. c at 15120 = E(3): to 3, at 0. d at 50400, long after the
    -- last event's start: to 3, at 35280.
    ∷ under events 1 (group 0 tight local (action 10080 a 1 (action 5039 b 2 (action 1 c 3 (action 35280 d 4 end)))) end) (1 ∷ 2 ∷ 3 ∷ [])
    (triple 2 0 a ∷ triple 2 5039 b ∷ triple 3 0 c ∷ triple 3 35280 d ∷ [])
    -- Q23: "A group inside goes whole, by its start, with its own words." Both inner groups start at 7560: to 1. The loose one keeps a there, at 7560 + 5040 = 12600. The tight
    -- one is sliced again: b has the date 12600, to 2, at 2520.
    ∷ under events 1
    (group 0 tight global (group 7560 loose local (action 5040 a 2 end) (group 0 tight local (action 5040 b 4 end) end)) end) (1 ∷ 2 ∷ [])
    (triple 1 12600 a ∷ triple 2 2520 b ∷ [])
    -- Q24: as before, where 2 is missed, M(2) = 3. The inner group's slice at 2 is local: nothing for a. The outer one's is causal: b at 12600 is past, a missed action, 0.
    ∷ under events 1 (group 0 tight causal (group 7560 tight local (action 5040 a 2 end) (action 5040 b 3 end)) end) (1 ∷ 3 ∷ []) (triple 3 0 b ∷ [])
    -- Q25 to Q28: a slice at a missed event, by each error word. a has the date 12600, and a causal group 12600 + 1260 = 13860: both to 2, missed, M(2) = 3. The slice holds a
    -- at 2520 and the group at 3780. b is at 13860 + 2520 = 16380.
    -- Q25, local: nothing.
    ∷ under events 1 (group 0 tight local (action 12600 a 1 (group 1260 loose causal (action 2520 b 3 end) end)) end) (1 ∷ 3 ∷ []) []
    -- Q26, global: the slice is heard at 3 with delay 0: a at 2520, b at 3780 + 2520 = 6300.
    ∷ under events 1 (group 0 tight global (action 12600 a 1 (group 1260 loose causal (action 2520 b 3 end) end)) end) (1 ∷ 3 ∷ [])
    (triple 3 2520 a ∷ triple 3 6300 b ∷ [])
    -- Q27, partial: a is past, dropped. The group is past, missed by its own words: b is future in it, 16380 - 15120 = 1260.
    ∷ under events 1 (group 0 tight partial (action 12600 a 1 (group 1260 loose causal (action 2520 b 3 end) end)) end) (1 ∷ 3 ∷ [])
    (triple 3 1260 b ∷ [])
    -- Q28, causal: a is past, a missed action, max(0, 12600 - 15120) = 0. The group as in Q27.
    ∷ under events 1 (group 0 tight causal (action 12600 a 1 (group 1260 loose causal (action 2520 b 3 end) end)) end) (1 ∷ 3 ∷ [])
    (triple 3 0 a ∷ triple 3 1260 b ∷ [])
    -- Q29: "Each k that receives items gets a loose group". a and the tight group have the date 12600: to 2, missed, M(2) = 3. The slice holds both at 12600 - 5040 = 7560. It is
    -- heard at 3 with delay 0, and is loose: a at 7560 on 3, though that is after E(4). The tight group within it starts at 15120 + 7560 = 22680, which is b's date: to 4, at 2520.
    ∷ under uneven 1 (group 0 tight global (action 12600 a 1 (group 0 tight local (action 0 b 3 end) end)) end) (1 ∷ 3 ∷ 4 ∷ [])
    (triple 3 7560 a ∷ triple 4 2520 b ∷ [])
    -- Q30: P4 before event 3 is heard: b's slice is at 2, and nothing is heard after 2: nothing yet.
    ∷ under_yet events 1 (group 0 tight global (action 5040 a 1 (action 7560 b 2 end)) end) (1 ∷ []) (triple 1 5040 a ∷ []) (b ∷ [])
    -- Q31: "A group that is heard may hold a group that is missed later". The tight causal group starts at 1260. a has the date 6300: to 1. The partial group has the date
    -- 6300 + 5040 = 11340: to 2, missed, M(2) = 3; the slice is causal, and 11340 is past: it runs as missed. b at 13860: past, dropped. The tight local group at 15120 =
    -- E(3): future, heard at 3 at 0; c has the date 20160: to 3, at 5040. d at 15120 + 1260 = 16380: future, 1260.
    ∷ under events 1
    (group 1260 tight causal
    (action 5040 a 1 (group 5040 loose partial (action 2520 b 3 (group 1260 tight local (action 5040 c 5 end) (action 1260 d 6 end))) end)) end)
    (1 ∷ 3 ∷ []) (triple 1 6300 a ∷ triple 3 5040 c ∷ triple 3 1260 d ∷ [])
    -- Q32: "and the reverse". M(1) = 2. a at 5040: past, missed, 0. The tight global group at 5040 + 6300 = 11340: future, heard at 2 at 1260. In it b has the date 12600: to 2, at
    -- 2520. The causal group has the date 17640: to 3, missed, M(3) = 4. That slice is global, heard at 4 with delay 0: the causal group at 17640 - 15120 = 2520, so c at
    -- 2520 + 2520 = 5040. d has the date 17640 + 1260 = 18900: in the same slice, at 3780.
    ∷ under four 1
    (group 0 loose causal
    (action 5040 a 1 (group 6300 tight global (action 1260 b 3 (group 5040 loose causal (action 2520 c 5 end) (action 1260 d 6 end))) end)) end)
    (2 ∷ 4 ∷ []) (triple 2 0 a ∷ triple 2 2520 b ∷ triple 4 5040 c ∷ triple 4 3780 d ∷ [])
    ∷ []

-- The messages of the actions of which nothing is known yet.
unfoldable pub if_undecided : Outcome → ℕ → List ℕ → List ℕ
if_undecided (played i t) m r = r
if_undecided dropped m r = r
if_undecided undecided m r = m ∷ r

unfoldable pub undecided_in : List Line → List ℕ
undecided_in [] = []
undecided_in (line p m o ∷ l) = if_undecided o m (undecided_in l)

-- What the rules give, and what a row wants of them.
pub data Result : Type 0 where
  of_sequence : List Triple → List ℕ → Result
  of_page : List Cue → Result

unfoldable pub result_of : List Line → Result
result_of l = of_sequence (triples l) (undecided_in l)

unfoldable pub example_gives : Example → Result
example_gives (under ds i x D l) = result_of (perform (reading_of terms ds D) i x)
example_gives (under_yet ds i x D l w) = result_of (perform (reading_of terms ds D) i x)
example_gives (page ds is D l) = of_page (cues (reading_of terms ds D) (entries is))

unfoldable pub example_wants : Example → Result
example_wants (under ds i x D l) = of_sequence l []
example_wants (under_yet ds i x D l w) = of_sequence l w
example_wants (page ds is D l) = of_page l

-- Q1 to Q32.
pub more-small-scores-right : map example_gives more_small ≡ map example_wants more_small
unfolding example_gives example_wants result_of if_undecided undecided_in triples keep perform top_holder run enter outcome_of fate_of heard_fate sliced_fate missed_fate global_start past future_date reading_of taken last_by more E total pick cues cast entries entries_of run_length goes_on sequence_of synchrony_of error_of
more-small-scores-right = refl
