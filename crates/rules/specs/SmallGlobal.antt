-- A fourth table of small scores, with missed global groups that have a delay of their own, and one theorem over it: what they give now, and what they gave before
-- document 02 (v). Above each row stands its working from the sentences of documents 01 and 02. Assumes nothing.
use Rattle.std.specs.Prelude.{◌≡◌, refl, ℕ, List, [], ◌∷◌, map}
use Rattle.page.specs.declared.Item.{Item}
use Rattle.base.specs.Tests.{pick}
use Rattle.rules.specs.Words.{loose, tight, local, global, partial, causal, synchrony_of, error_of}
use Rattle.rules.specs.Score.{Seq, end, action, group, total, E, more, last_by}
use Rattle.rules.specs.Heard.{taken}
use Rattle.rules.specs.Rules.{played, Triple, triple, triples, keep, perform, top_holder, run, enter, outcome_of, fate_of, heard_fate, sliced_fate, missed_fate, global_start, past, future_date, reading_of}
use Rattle.rules.specs.Page.{Cue, cues, cast, entries, entries_of, run_length, goes_on, sequence_of}
use Rattle.rules.specs.Document01.{delay_before, performed_before, cues_before}
use Rattle.rules.specs.Small.{events, a, b, a_then_b}
use Rattle.rules.specs.SmallMore.{c, d, four, five, item_of, cue, Result, of_page, result_of, undecided_in, if_undecided, of_sequence}
use Rattle.rules.specs.SmallGrace.{with_grace}

-- Four events of 2 beats: E is 0, 10,080, 20,160, 30,240.
abbrev pub two_beats : List ℕ
two_beats = 10080 ∷ 10080 ∷ 10080 ∷ 10080 ∷ []

-- The grace; the events' durations; one part's sequence under event 1; the events heard; the triples before and now; and, where it is said, behind
-- either the actions of which nothing is known yet: everywhere else each action is played or dropped. Or a whole page, the events heard, and what became and becomes of each action.
pub data Delayed : Type 0 where
  under : (grace : ℕ) → List ℕ → Seq → List ℕ → (before now : List Triple) → Delayed
  under_yet : (grace : ℕ) → List ℕ → Seq → List ℕ → (before : List Triple) → List ℕ → (now : List Triple) → List ℕ → Delayed
  page : (grace : ℕ) → List ℕ → List Item → List ℕ → (before now : List Cue) → Delayed

-- Of `events` E is 0, 10,080, 15,120; of `four` it goes on with 20,160; of `five` it is 0, 5,040, 10,080, 15,120, 20,160. The pair is a after 5,040 and b 7,560 later.
-- Before: "the whole group is heard at j with delay 0". Now: "with delay max(0, E(i) + d - E(j))".
abbrev pub small_globals : List Delayed
small_globals =
    -- V1, "written four beats after it": the group's own date is 0 + 20160, M(1) = 2, and 20160 - 10080 = 10080. a at 10080 + 5040 = 15120, b at 15120 + 7560 = 22680. Before,
    -- with delay 0: a at 5040, b at 12600.
    under 0 events (group 20160 loose global a_then_b end) (2 ∷ [])
    (triple 2 5040 a ∷ triple 2 12600 b ∷ [])
    (triple 2 15120 a ∷ triple 2 22680 b ∷ [])
    -- V2: 5040 is before E(2): "max(0, ..)" is 0, as before.
    ∷ under 0 events (group 5040 loose global a_then_b end) (2 ∷ [])
    (triple 2 5040 a ∷ triple 2 12600 b ∷ [])
    (triple 2 5040 a ∷ triple 2 12600 b ∷ [])
    -- V3, a grain before E(2): 0.
    ∷ under 0 events (group 10079 loose global a_then_b end) (2 ∷ [])
    (triple 2 5040 a ∷ triple 2 12600 b ∷ [])
    (triple 2 5040 a ∷ triple 2 12600 b ∷ [])
    -- V4, exactly at E(2): 10080 - 10080 = 0.
    ∷ under 0 events (group 10080 loose global a_then_b end) (2 ∷ [])
    (triple 2 5040 a ∷ triple 2 12600 b ∷ [])
    (triple 2 5040 a ∷ triple 2 12600 b ∷ [])
    -- V5, a grain after E(2): 1, so a at 5041, b at 12601.
    ∷ under 0 events (group 10081 loose global a_then_b end) (2 ∷ [])
    (triple 2 5040 a ∷ triple 2 12600 b ∷ [])
    (triple 2 5041 a ∷ triple 2 12601 b ∷ [])
    -- V6, a tight one: heard at 2 with delay 15120 - 10080 = 5040, so it starts at 15120. a has the date 20160: to 3, at 20160 - 15120 = 5040. b has the date 27720: to 3, at
    -- 12600. Before it started at 10080: a at 15120 = E(3), to 3, at 0; b at 22680, to 3, at 7560.
    ∷ under 0 events (group 15120 tight global a_then_b end) (2 ∷ 3 ∷ [])
    (triple 3 0 a ∷ triple 3 7560 b ∷ [])
    (triple 3 5040 a ∷ triple 3 12600 b ∷ [])
    -- V7: the same before 3 is heard. Both slices are at 3, and nothing is heard after it: nothing yet.
    ∷ under_yet 0 events (group 15120 tight global a_then_b end) (2 ∷ []) [] (a ∷ b ∷ []) [] (a ∷ b ∷ [])
    -- V8: E(i) + d is the summed delay's date, whatever stands before the group. c at 10080: a missed action, 0. The group at 10080 + 5040 = 15120: 5040, so a at 10080, b at
    -- 17640.
    ∷ under 0 events (action 10080 c 0 (group 5040 loose global (action 5040 a 2 (action 7560 b 3 end)) end)) (2 ∷ [])
    (triple 2 0 c ∷ triple 2 5040 a ∷ triple 2 12600 b ∷ [])
    (triple 2 0 c ∷ triple 2 10080 a ∷ triple 2 17640 b ∷ [])
    -- V9: a past group starts before E(j): at 5040, so 0, as before.
    ∷ under 0 events (group 0 loose causal (group 5040 loose global (action 5040 a 2 (action 7560 b 3 end)) end) end) (2 ∷ [])
    (triple 2 5040 a ∷ triple 2 12600 b ∷ [])
    (triple 2 5040 a ∷ triple 2 12600 b ∷ [])
    -- V10: V1 where event 2 is missed too. M(1) = 3, and 20160 - 15120 = 5040: a at 10080, b at 17640.
    ∷ under 0 events (group 20160 loose global a_then_b end) (3 ∷ [])
    (triple 3 5040 a ∷ triple 3 12600 b ∷ [])
    (triple 3 10080 a ∷ triple 3 17640 b ∷ [])
    -- V11, with a grace. Heard at 2 with delay 15120 - 10080 = 5040, the group starts at 15120, and the tight one in it too. a has the date 15120 + 14490 = 29610: to 3, missed,
    -- M(3) = 4; 29610 + 630 = 30240 is not before E(4): future in the slice, 0. Before, a had the date 10080 + 14490 = 24570: to 3 too, and past there, dropped.
    ∷ under 630 two_beats (group 15120 loose global (group 0 tight partial (action 14490 a 2 end) end) end) (2 ∷ 4 ∷ []) [] (triple 4 0 a ∷ [])
    -- V12: with no grace 29610 is past there, dropped.
    ∷ under 0 two_beats (group 15120 loose global (group 0 tight partial (action 14490 a 2 end) end) end) (2 ∷ 4 ∷ []) [] []
    -- V13: what follows the group is as before: b at 20160 + 2520 = 22680, a missed action, 12600. a at 10080 + 5040 = 15120, before at 5040.
    ∷ under 0 events (group 20160 loose global (action 5040 a 1 end) (action 2520 b 2 end)) (2 ∷ [])
    (triple 2 5040 a ∷ triple 2 12600 b ∷ [])
    (triple 2 15120 a ∷ triple 2 12600 b ∷ [])
    -- V14: what it holds is heard with it and moves as a whole. It starts at 15120. The global group in it at 17640: a at 20160, 10080 after E(2). The local one at 17640 + 2520 =
    -- 20160: b at 22680, 12600. Before, each 5040 earlier.
    ∷ under 0 events (group 15120 loose global (group 2520 loose global (action 2520 a 2 end) (group 2520 loose local (action 2520 b 4 end) end)) end) (2 ∷ [])
    (triple 2 5040 a ∷ triple 2 7560 b ∷ [])
    (triple 2 10080 a ∷ triple 2 12600 b ∷ [])
    -- V15: a future group isn't missed: at 12600 it is future in the causal group, heard at 2 at 2520, so a at 5040, as before.
    ∷ under 0 events (group 0 loose causal (group 12600 loose global (action 2520 a 2 end) end) end) (2 ∷ [])
    (triple 2 5040 a ∷ [])
    (triple 2 5040 a ∷ [])
    -- V16: a slice at a missed event has delay 0 there. The group is heard at 1 and starts at 5040; a has the date 12600: to 2, missed, M(2) = 3. E(2) + 0 is before E(3): the slice
    -- is heard at 3 with delay 0, a at 12600 - 10080 = 2520, as before.
    ∷ under 0 events (group 5040 tight global (action 7560 a 1 end) end) (1 ∷ 3 ∷ [])
    (triple 3 2520 a ∷ [])
    (triple 3 2520 a ∷ [])
    -- V17: a heard group is as it was: a at 20160 + 5040 = 25200, b at 32760, on 1.
    ∷ under 0 events (group 20160 loose global a_then_b end) (1 ∷ 2 ∷ [])
    (triple 1 25200 a ∷ triple 1 32760 b ∷ [])
    (triple 1 25200 a ∷ triple 1 32760 b ∷ [])
    -- V18, two in a row, each by its own date. M(1) = 3, E(3) = 10080. The first at 7560: 0, a at 2520. The second at 7560 + 5040 = 12600: 2520, b at 5040; before at 2520.
    ∷ under 0 five (group 7560 loose global (action 2520 a 1 end) (group 5040 loose global (action 2520 b 3 end) end)) (3 ∷ 5 ∷ [])
    (triple 3 2520 a ∷ triple 3 2520 b ∷ [])
    (triple 3 2520 a ∷ triple 3 5040 b ∷ [])
    -- V19: a tight one is sliced from where it starts, 12600. a has the date 13860: to 2, at 3780. b has the date 18900: to 3, missed, M(3) = 4; that slice is global, heard at 4 with
    -- delay 0: b at 18900 - 15120 = 3780. Before it started at 10080: a at 11340, to 2, at 1260; b at 16380, to 3, so at 4 at 1260.
    ∷ under 0 four (group 12600 tight global (action 1260 a 1 (action 5040 b 2 end)) end) (2 ∷ 4 ∷ [])
    (triple 2 1260 a ∷ triple 4 1260 b ∷ [])
    (triple 2 3780 a ∷ triple 4 3780 b ∷ [])
    -- V20: its own date is long after the last event's start. It starts at 25200: a to 3, at 10080. Before it started at 10080 = E(2): a to 2, at 0.
    ∷ under 0 events (group 25200 tight global (action 0 a 1 end) end) (2 ∷ 3 ∷ [])
    (triple 2 0 a ∷ [])
    (triple 3 10080 a ∷ [])
    -- V21: what is tight in it can fall to another event. The local group starts at 12600: a at 15120 = E(3), to 3, which was missed: a local slice, nothing. Before it started at
    -- 10080: a at 12600, to 2, at 2520.
    ∷ under 0 four (group 12600 loose global (group 0 tight local (action 2520 a 2 end) end) end) (2 ∷ 4 ∷ [])
    (triple 2 2520 a ∷ [])
    []
    -- V22: no grace is asked. The first group at 9450: 0, a at once, as before. The second at 9450 + 1260 = 10710, within 630 of E(2) but after it: 630, b there, before at 0.
    ∷ under 630 events (group 9450 loose global (action 0 a 1 end) (group 1260 loose global (action 0 b 3 end) end)) (2 ∷ [])
    (triple 2 0 a ∷ triple 2 0 b ∷ [])
    (triple 2 0 a ∷ triple 2 630 b ∷ [])
    -- V23, the four words side by side, each group at 20160 with its action at 25200. Causal and partial: future, 25200 - 10080 = 15120. Global: 10080 + 5040 = 15120 now too, 5040
    -- before. Local: nothing.
    ∷ under 0 events
    (group 20160 loose causal (action 5040 a 1 end)
    (group 0 loose partial (action 5040 b 3 end) (group 0 loose global (action 5040 c 5 end) (group 0 loose local (action 5040 d 7 end) end))))
    (2 ∷ [])
    (triple 2 15120 a ∷ triple 2 15120 b ∷ triple 2 5040 c ∷ [])
    (triple 2 15120 a ∷ triple 2 15120 b ∷ triple 2 15120 c ∷ [])
    -- V24, two parts at event 1, each by its own dates. Part 0: the group at 20160, a at 10080; then b at 20160, a missed action, 10080. Part 1 begins anew: the group at 12600, c at
    -- 12600 - 10080 = 2520. Before, a and c at 0.
    ∷ page 0 events
    (item_of 1 0 1 0 20160 1 1
    ∷ item_of 0 0 0 0 0 0 a
    ∷ item_of 0 0 0 0 0 1 b
    ∷ item_of 1 0 1 1 12600 1 1
    ∷ item_of 0 0 0 1 0 0 c
    ∷ [])
    (2 ∷ [])
    (cue 1 0 a (played 2 0) ∷ cue 2 0 b (played 2 10080) ∷ cue 4 1 c (played 2 0) ∷ [])
    (cue 1 0 a (played 2 10080) ∷ cue 2 0 b (played 2 10080) ∷ cue 4 1 c (played 2 2520) ∷ [])
    -- V25: V20 before 3 is heard. a's slice is at 3, and nothing is heard after it: nothing yet. Before, a went to 2, at 0.
    ∷ under_yet 0 events (group 25200 tight global (action 0 a 1 end) end) (2 ∷ []) (triple 2 0 a ∷ []) [] [] (a ∷ [])
    ∷ []

-- What the rules gave and give, and what a row wants of them.
unfoldable pub global_gives : Delayed → List Result
global_gives (under g ds x D l k) = result_of (performed_before (reading_of (with_grace g) ds D) 1 0 x) ∷ result_of (perform (reading_of (with_grace g) ds D) 1 x) ∷ []
global_gives (under_yet g ds x D l v k w) = result_of (performed_before (reading_of (with_grace g) ds D) 1 0 x) ∷ result_of (perform (reading_of (with_grace g) ds D) 1 x) ∷ []
global_gives (page g ds is D l k) = of_page (cues_before (reading_of (with_grace g) ds D) (entries is)) ∷ of_page (cues (reading_of (with_grace g) ds D) (entries is)) ∷ []

unfoldable pub global_wants : Delayed → List Result
global_wants (under g ds x D l k) = of_sequence l [] ∷ of_sequence k [] ∷ []
global_wants (under_yet g ds x D l v k w) = of_sequence l v ∷ of_sequence k w ∷ []
global_wants (page g ds is D l k) = of_page l ∷ of_page k ∷ []

-- V1 to V25.
pub small-globals-right : map global_gives small_globals ≡ map global_wants small_globals
unfolding global_gives global_wants cues_before performed_before delay_before result_of if_undecided undecided_in triples keep perform top_holder run enter outcome_of fate_of heard_fate sliced_fate missed_fate global_start past future_date reading_of taken last_by more E total pick cues cast entries entries_of run_length goes_on sequence_of synchrony_of error_of
small-globals-right = refl
