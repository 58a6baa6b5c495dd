-- "Small scores to prove": P1 to P12, gathered into one table, and one theorem over it: the rules give each row's triples.
-- Assumes nothing.
use Rattle.std.specs.Prelude.{◌≡◌, refl, ℕ, List, [], ◌∷◌, map}
use Rattle.base.specs.Tests.{pick}
use Rattle.rules.specs.Terms.{Terms}
use Rattle.rules.specs.Words.{Synchrony, loose, tight, ErrorWord, local, global, partial, causal}
use Rattle.rules.specs.Score.{Seq, end, action, group, total, E, more, last_by}
use Rattle.rules.specs.Heard.{taken}
use Rattle.rules.specs.Rules.{Triple, triple, triples, keep, perform, top_holder, run, enter, outcome_of, fate_of, heard_fate, sliced_fate, missed_fate, global_start, past, future_date, reading_of}

-- "Events of 2, 1 and 1 beats"
abbrev pub events : List ℕ
events = 10080 ∷ 5040 ∷ 5040 ∷ []

-- The terms of the opening: all parts, at 60 beats a minute, with no grace.
abbrev pub terms : Terms
terms = record { parts = 65535; tempo = 5040; grace = 0 }

abbrev pub a : ℕ
a = 0

abbrev pub b : ℕ
b = 1

-- "holds a after 1 beat and b 1.5 beats later"
abbrev pub a_then_b : Seq
a_then_b = action 5040 a 1 (action 7560 b 2 end)

-- "only a, after 2 beats"
abbrev pub only_a : Seq
only_a = action 10080 a 1 end

-- "any": every one of the error words.
abbrev pub any : List ErrorWord
any = local ∷ global ∷ partial ∷ causal ∷ []

-- "Words | D | Triples": the group's synchrony and each error word that the row speaks of, what the group holds, the events heard, and the triples.
pub data Row : Type 0 where
  row : Synchrony → List ErrorWord → Seq → List ℕ → List Triple → Row

abbrev pub small : List Row
small =
    -- P1
    row loose any a_then_b (1 ∷ 2 ∷ []) (triple 1 5040 a ∷ triple 1 12600 b ∷ [])
    -- P2
    ∷ row tight any a_then_b (1 ∷ 2 ∷ []) (triple 1 5040 a ∷ triple 2 2520 b ∷ [])
    -- P3
    ∷ row tight (local ∷ []) a_then_b (1 ∷ 3 ∷ []) (triple 1 5040 a ∷ [])
    -- P4
    ∷ row tight (global ∷ []) a_then_b (1 ∷ 3 ∷ []) (triple 1 5040 a ∷ triple 3 2520 b ∷ [])
    -- P5
    ∷ row tight (causal ∷ []) a_then_b (1 ∷ 3 ∷ []) (triple 1 5040 a ∷ triple 3 0 b ∷ [])
    -- P6
    ∷ row tight (partial ∷ []) a_then_b (1 ∷ 3 ∷ []) (triple 1 5040 a ∷ [])
    -- P7
    ∷ row loose (local ∷ []) a_then_b (2 ∷ []) []
    -- P8
    ∷ row loose (global ∷ []) a_then_b (2 ∷ []) (triple 2 5040 a ∷ triple 2 12600 b ∷ [])
    -- P9
    ∷ row loose (causal ∷ []) a_then_b (2 ∷ []) (triple 2 0 a ∷ triple 2 2520 b ∷ [])
    -- P10
    ∷ row loose (partial ∷ []) a_then_b (2 ∷ []) (triple 2 2520 b ∷ [])
    -- P11
    ∷ row tight (global ∷ []) a_then_b (2 ∷ 3 ∷ []) (triple 3 0 a ∷ triple 3 7560 b ∷ [])
    -- P12
    ∷ row loose (partial ∷ []) only_a (2 ∷ []) (triple 2 0 a ∷ [])
    ∷ []

-- "Under event 1 one group, delay 0": what the rules give, for each of a row's error words, and what the row wants of them.
unfoldable pub given : Row → List (List Triple)
given (row y es body D l) = map (λ e. triples (perform (reading_of terms events D) 1 (group 0 y e body end))) es

unfoldable pub wanted : Row → List (List Triple)
wanted (row y es body D l) = map (λ e. l) es

-- P1 to P12.
pub small-scores-right : map given small ≡ map wanted small
unfolding given wanted triples keep perform top_holder run enter outcome_of fate_of heard_fate sliced_fate missed_fate global_start past future_date reading_of taken last_by more E total pick
small-scores-right = refl
