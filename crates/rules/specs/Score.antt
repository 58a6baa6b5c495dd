-- Sequences of actions and groups, and the dates of events, in grains.
use Rattle.std.specs.Prelude.{ℕ, zero, suc, pred, ◌+◌, ◌-◌, true, false, List, [], ◌∷◌, ltb}
use Rattle.rules.specs.Words.{Synchrony, ErrorWord}

-- The paper's grammar. An action has its message number and its page place.
pub data Seq : Type 0 where
  end : Seq
  action : (delay message place : ℕ) (rest : Seq) → Seq
  group : (delay : ℕ) → Synchrony → ErrorWord → (body rest : Seq) → Seq

-- The sum of the first n durations.
unfoldable pub total : List ℕ → ℕ → ℕ
total ds zero = 0
total [] (suc n) = 0
total (d ∷ ds) (suc n) = d + total ds n

-- "E(i) is the sum of the durations of events 1 to i-1."
unfoldable pub E : List ℕ → ℕ → ℕ
E ds i = total ds (pred i)

-- How many events begin after the first, by the date t: d is the first one's duration, ds are the others'.
unfoldable pub more : ℕ → List ℕ → ℕ → ℕ
more d [] t = 0
more d (e ∷ ds) t = let r = suc (more e ds (t - d)) in elim (ltb t d) [ true ↦ 0 | false ↦ r ]

-- "the last event k with E(k) <= t"
unfoldable pub last_by : List ℕ → ℕ → ℕ
last_by [] t = 0
last_by (d ∷ ds) t = suc (more d ds t)
