-- A third table of small scores, with a grace, and one theorem over it: P12's twin at the limit, and what the grace does to groups and slices. Above each row stands
-- its working from the sentences of documents 01 and 02. Assumes nothing.
use Rattle.std.specs.Prelude.{◌≡◌, refl, ℕ, List, [], ◌∷◌, map}
use Rattle.page.specs.declared.Item.{Item}
use Rattle.base.specs.Tests.{pick}
use Rattle.rules.specs.Terms.{Terms}
use Rattle.rules.specs.Words.{loose, tight, local, global, partial, causal, synchrony_of, error_of}
use Rattle.rules.specs.Score.{Seq, end, action, group, total, E, more, last_by}
use Rattle.rules.specs.Heard.{taken}
use Rattle.rules.specs.Rules.{played, dropped, Triple, triple, triples, keep, perform, top_holder, run, enter, outcome_of, fate_of, heard_fate, sliced_fate, missed_fate, global_start, past, future_date, reading_of}
use Rattle.rules.specs.Page.{Cue, cues, cast, entries, entries_of, run_length, goes_on, sequence_of}
use Rattle.rules.specs.Small.{events, a, b}
use Rattle.rules.specs.SmallMore.{c, four, item_of, cue, Result, of_page, result_of, undecided_in, if_undecided, of_sequence}

-- The terms of the opening, with this grace.
abbrev pub with_grace : ℕ → Terms
with_grace g = record { parts = 65535; tempo = 5040; grace = g }

-- Events of 300, 200 and 200 grains: E is 0, 300, 500.
abbrev pub short : List ℕ
short = 300 ∷ 200 ∷ 200 ∷ []

-- The grace; the events' durations; one part's sequence under event 1; the events heard; and the triples: each other action is dropped. Or a whole page, the events
-- heard, and what becomes of each action.
pub data Graced : Type 0 where
  under : (grace : ℕ) → List ℕ → Seq → List ℕ → List Triple → Graced
  page : (grace : ℕ) → List ℕ → List Item → List ℕ → List Cue → Graced

-- Of `events` E is 0, 10,080, 15,120; of `four` it goes on with 20,160.
abbrev pub small_graces : List Graced
small_graces =
    -- G1, P12's twin: "An item is past exactly if its date plus g is before E(j)". M(1) = 2. a at 9450: 9450 + 630 = 10080 is not before E(2), so it is future, and "a future
    -- item's delay is never below 0": 0.
    under 630 events (group 0 loose partial (action 9450 a 1 end) end) (2 ∷ []) (triple 2 0 a ∷ [])
    -- G2: 9450 + 629 = 10079 is before 10080: past, dropped.
    ∷ under 629 events (group 0 loose partial (action 9450 a 1 end) end) (2 ∷ []) []
    -- G3, one grain earlier: 9449 + 630 = 10079: past, dropped.
    ∷ under 630 events (group 0 loose partial (action 9449 a 1 end) end) (2 ∷ []) []
    -- G4, "a cue one grain early": 10079 + 1 = 10080: future, 0.
    ∷ under 1 events (group 0 loose partial (action 10079 a 1 end) end) (2 ∷ []) (triple 2 0 a ∷ [])
    -- G5: with no grace it is lost, as in document 01.
    ∷ under 0 events (group 0 loose partial (action 10079 a 1 end) end) (2 ∷ []) []
    -- G6: a group within the grace is future, so it is heard at 2 and starts at E(2): a 630 later.
    ∷ under 630 events (group 0 loose causal (group 9450 loose local (action 630 a 2 end) end) end) (2 ∷ []) (triple 2 630 a ∷ [])
    -- G7: with one grain less it is past, and a missed local group: nothing.
    ∷ under 629 events (group 0 loose causal (group 9450 loose local (action 630 a 2 end) end) end) (2 ∷ []) []
    -- G8, a slice at a missed event: a goes to 1, at 5040. b at 5040 + 9450 = 14490 goes to 2, missed, M(2) = 3; 14490 + 630 = 15120 = E(3): future in the slice, 0.
    ∷ under 630 events (group 0 tight partial (action 5040 a 1 (action 9450 b 2 end)) end) (1 ∷ 3 ∷ []) (triple 1 5040 a ∷ triple 3 0 b ∷ [])
    -- G9: with one grain less b is past in the slice, dropped.
    ∷ under 629 events (group 0 tight partial (action 5040 a 1 (action 9450 b 2 end)) end) (1 ∷ 3 ∷ []) (triple 1 5040 a ∷ [])
    -- G10: nothing is missed: b goes to 2, at 14490 - 10080 = 4410.
    ∷ under 630 events (group 0 tight partial (action 5040 a 1 (action 9450 b 2 end)) end) (1 ∷ 2 ∷ 3 ∷ [])
    (triple 1 5040 a ∷ triple 2 4410 b ∷ [])
    -- G11: what follows an item that is raised keeps its own date: b at 9450 + 1260 = 10710, 630.
    ∷ under 630 events (group 0 loose partial (action 9450 a 1 (action 1260 b 2 end)) end) (2 ∷ []) (triple 2 0 a ∷ triple 2 630 b ∷ [])
    -- G12: a partial group at 9449 among the past of a partial one runs as missed. In it a at 9449: past, dropped; b at 9450: future, 0.
    ∷ under 630 events (group 0 loose partial (group 9449 loose partial (action 0 a 2 (action 1 b 3 end)) end) end) (2 ∷ []) (triple 2 0 b ∷ [])
    -- G13: a tight group within the grace of a tight one: it starts at E(2) = 10080 and is sliced from there. a at 10080: to 2, 0. b at 15120 = E(3): to 3, 0.
    ∷ under 630 events (group 0 tight causal (group 9450 tight local (action 0 a 2 (action 5040 b 3 end)) end) end) (2 ∷ 3 ∷ [])
    (triple 2 0 a ∷ triple 3 0 b ∷ [])
    -- G14: a grace that reaches over a whole event. M(1) = 3, E(3) = 500. a at 100: 100 + 630 is not before 500: future, 0. b at 100 + 500 = 600: 100.
    ∷ under 630 short (group 0 loose partial (action 100 a 1 (action 500 b 2 end)) end) (3 ∷ []) (triple 3 0 a ∷ triple 3 100 b ∷ [])
    -- G15: items that are written together can fall apart: the group at 9450 starts at E(2), so a, written at 9450 + 630 = 10080, waits 630; b, written there too, doesn't.
    ∷ under 630 events (group 0 loose partial (group 9450 loose local (action 630 a 2 end) (action 630 b 3 end)) end) (2 ∷ [])
    (triple 2 630 a ∷ triple 2 0 b ∷ [])
    -- G16: a loose group within the grace whose body runs on past the next event: from E(2) on, all on 2. a: 0. b: 7560, though 17640 is after E(3).
    ∷ under 630 events (group 0 loose causal (group 9450 loose local (action 0 a 2 (action 7560 b 3 end)) end) end) (2 ∷ 3 ∷ [])
    (triple 2 0 a ∷ triple 2 7560 b ∷ [])
    -- G17: a tight one is sliced from E(2): b at 10080 + 7560 = 17640 goes to 3, at 2520.
    ∷ under 630 events (group 0 loose causal (group 9450 tight local (action 0 a 2 (action 7560 b 3 end)) end) end) (2 ∷ 3 ∷ [])
    (triple 2 0 a ∷ triple 3 2520 b ∷ [])
    -- G18: a tight partial group within the grace, and a slice of it at a missed event. It starts at E(2); a: to 2, 0. b at 10080 + 9450 = 19530 goes to 3, missed, M(3) = 4;
    -- 19530 + 630 = 20160 = E(4): future in the slice, 0.
    ∷ under 630 four (group 0 loose partial (group 9450 tight partial (action 0 a 2 (action 9450 b 3 end)) end) end) (2 ∷ 4 ∷ [])
    (triple 2 0 a ∷ triple 4 0 b ∷ [])
    -- G19: causal in partial, past by a grain: 9450 + 629 = 10079. a at 5040: past, dropped. The causal group runs as missed: b at 9450: past, a missed action, max(0, 9450 -
    -- 10080) = 0. c at 9450 + 630 = 10080: future, 0.
    ∷ under 629 events (group 0 loose partial (action 5040 a 1 (group 4410 loose causal (action 0 b 3 (action 630 c 4 end)) end)) end) (2 ∷ [])
    (triple 2 0 b ∷ triple 2 0 c ∷ [])
    -- G20: with one grain more the causal group is future and starts at E(2): b: 0, c: 630.
    ∷ under 630 events (group 0 loose partial (action 5040 a 1 (group 4410 loose causal (action 0 b 3 (action 630 c 4 end)) end)) end) (2 ∷ [])
    (triple 2 0 b ∷ triple 2 630 c ∷ [])
    -- G21: partial groups three deep, all at 0, so past. a at 9449: past, dropped; b at 9450: future, 0.
    ∷ under 630 events
    (group 0 loose partial (group 0 loose partial (group 0 loose partial (action 9449 a 3 (action 1 b 4 end)) end) end) end) (2 ∷ [])
    (triple 2 0 b ∷ [])
    -- G22: what stands under the missed event itself is no item of a missed group, and is not split: the action is a missed one, max(0, 9450 - 10080) = 0; of the local group
    -- comes nothing, though it starts at 9450 too.
    ∷ under 630 events (action 9450 a 0 (group 0 loose local (action 0 b 2 end) end)) (2 ∷ []) (triple 2 0 a ∷ [])
    -- G23: slicing asks for no grace: a at 9450 goes to 1, "the last event k with E(k) <= t", and not to 2.
    ∷ under 630 events (group 0 tight local (action 9450 a 1 end) end) (1 ∷ 2 ∷ []) (triple 1 9450 a ∷ [])
    -- G24: in a causal slice at 2, missed, M(2) = 3. a at 14489: past, a missed action, 0. The local group at 14490: future, from E(3) on: b 630.
    ∷ under 630 events (group 0 tight causal (action 14489 a 1 (group 1 loose local (action 630 b 3 end) end)) end) (1 ∷ 3 ∷ [])
    (triple 3 0 a ∷ triple 3 630 b ∷ [])
    -- G25: two parts under event 1, each by its own dates. Part 0: a at 9450, future, 0. Part 1: b at 9449, past, dropped; then c at 9449 + 1261 = 10710, future, 630.
    ∷ page 630 events
    (item_of 1 0 2 0 0 1 1
    ∷ item_of 0 0 0 0 9450 0 a
    ∷ item_of 1 0 2 1 0 1 2
    ∷ item_of 0 0 0 1 9449 0 b
    ∷ item_of 0 0 0 1 1261 0 c
    ∷ [])
    (2 ∷ []) (cue 1 0 a (played 2 0) ∷ cue 3 1 b dropped ∷ cue 4 1 c (played 2 630) ∷ [])
    -- G26: more grace can lose a cue. With 629 the tight partial group at 9450 is past in the causal one, and runs as missed by its own words: a at 9450 + 5040 = 14490 is
    -- future, so heard at 2, and goes there: 4410.
    ∷ under 629 four (group 0 loose causal (group 9450 tight partial (action 5040 a 2 end) end) end) (2 ∷ 4 ∷ []) (triple 2 4410 a ∷ [])
    -- G27: with 630 the group is future and starts at E(2): a at 10080 + 5040 = 15120 = E(3) goes to 3, missed, M(3) = 4; 15120 + 630 is before E(4) = 20160: past, dropped.
    ∷ under 630 four (group 0 loose causal (group 9450 tight partial (action 5040 a 2 end) end) end) (2 ∷ 4 ∷ []) []
    -- G28: global asks for no grace. Past by a grain, the global group is missed, and heard at 2 with delay 0: a 630 later.
    ∷ under 629 events (group 0 loose causal (group 9450 loose global (action 630 a 2 end) end) end) (2 ∷ []) (triple 2 630 a ∷ [])
    -- G29: within the grace it is future, and starts at E(2): the same.
    ∷ under 630 events (group 0 loose causal (group 9450 loose global (action 630 a 2 end) end) end) (2 ∷ []) (triple 2 630 a ∷ [])
    ∷ []

-- What the rules give, and what a row wants of them.
unfoldable pub grace_gives : Graced → Result
grace_gives (under g ds x D l) = result_of (perform (reading_of (with_grace g) ds D) 1 x)
grace_gives (page g ds is D l) = of_page (cues (reading_of (with_grace g) ds D) (entries is))

unfoldable pub grace_wants : Graced → Result
grace_wants (under g ds x D l) = of_sequence l []
grace_wants (page g ds is D l) = of_page l

-- G1 to G29.
pub small-graces-right : map grace_gives small_graces ≡ map grace_wants small_graces
unfolding grace_gives grace_wants result_of if_undecided undecided_in triples keep perform top_holder run enter outcome_of fate_of heard_fate sliced_fate missed_fate global_start past future_date reading_of taken last_by more E total pick cues cast entries entries_of run_length goes_on sequence_of synchrony_of error_of
small-graces-right = refl
