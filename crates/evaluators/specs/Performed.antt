-- What the evaluators leave in lent words: the outcome of every action of the page.
use Rattle.std.specs.Prelude.{ℕ, ◌+◌, List, [], ◌∷◌, set}
use Rattle.rules.specs.Page.{Cue, cues, entries}
use Rattle.fates.specs.declared.Places.{Places}
use Rattle.fates.specs.Fields.{outcome_word}
use Rattle.fates.specs.Places.{reading_in, items_in}

-- Each outcome at its page place.
unfoldable pub write_all : ℕ → List Cue → List ℕ → List ℕ
write_all b [] m = m
write_all b (c ∷ cs) m = write_all b cs (set m (b + c.place) (outcome_word c.outcome))

-- The words after an evaluation: the outcome of every action of the page.
unfoldable pub performed : Places → List ℕ → List ℕ
performed t m = write_all t.outcomes (cues (reading_in t m) (entries (items_in t m))) m
