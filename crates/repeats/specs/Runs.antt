-- What a loop's passes and a curve's values yield, one after the other, each by its own start.
use Rattle.std.specs.Prelude.{ℕ, zero, suc, ◌+◌, ◌*◌, List, [], ◌∷◌, ◌++◌}
use Rattle.page.specs.declared.Item.{Item}
use Rattle.rules.specs.Words.{synchrony_of, error_of}
use Rattle.rules.specs.Rules.{Reading, Holder, fate_of, enter, outcome_of, Line, line, run}
use Rattle.unfolding.specs.Unfolded.{Unfolded, items}
use Rattle.repeats.specs.Sequences.{sequence}

-- What holds the items of pass k of a loop with these words: "each pass a group of the same words", entered k periods after its loop's start. h holds the passes.
unfoldable pub pass_holder : Reading → Holder → Item → (period k : ℕ) → Holder
pass_holder R h i period k = enter (fate_of R h (k * period)) (synchrony_of i.synchrony) (error_of i.error)

-- Pass k of this body: the first pass stands at page place p, and each takes its own place and its body's.
unfoldable pub pass_run : Reading → Holder → Item → (period p : ℕ) → Unfolded → (k : ℕ) → List Line
pass_run R h i period p body k = run R (pass_holder R h i period k) 0 (sequence (p + k * (1 + items body) + 1) body)

-- So many passes, from pass k on.
unfoldable pub pass_runs : Reading → Holder → Item → (period p : ℕ) → Unfolded → (k count : ℕ) → List Line
pass_runs R h i period p body k zero = []
pass_runs R h i period p body k (suc n) = pass_run R h i period p body k ++ pass_runs R h i period p body (suc k) n

-- The values with these message numbers, from value k on: value k is sent k steps after its curve's start. h holds them, and value 0 stands at page place p.
unfoldable pub send_runs : Reading → Holder → (step p k : ℕ) → (numbers : List ℕ) → List Line
send_runs R h step p k [] = []
send_runs R h step p k (n ∷ ns) = line (p + k) n (outcome_of R (fate_of R h (k * step))) ∷ send_runs R h step p (suc k) ns
