-- What stands at the places of the lent words: a reading of the rules, and a page.
use Rattle.std.specs.Prelude.{ℕ, zero, suc, ◌+◌, ◌-◌, ◌/◌, ◌≤◌, true, false, List, map, leb, get_or, take, drop}
use Rattle.page.specs.declared.Item.{Item}
use Rattle.rules.specs.declared.Taken.{Taken}
use Rattle.rules.specs.Terms.{most_grace}
use Rattle.rules.specs.Rules.{Reading}
use Rattle.fates.specs.declared.Places.{Places}
use Rattle.fates.specs.Fields.{event_numbers, item_in, start_in, taken_in}

-- What the evaluators ask of the places: all that they read stands before the outcomes, and the outcomes fit.
pub record PlacesFit (t : Places) (room : ℕ) : Type 0 where
  pub starts : t.starts + event_numbers ≤ t.outcomes
  pub taken : t.taken + event_numbers ≤ t.outcomes
  pub items : t.items + t.size ≤ t.outcomes
  pub outcomes : t.outcomes + t.size ≤ room
  pub some : 1 ≤ t.events
  pub few : t.events ≤ 256
  pub page : t.size ≤ 2048
  pub grace : t.grace.0 ≤ most_grace

-- What is read of the words m stands before the outcomes, so that writing these leaves it alone.
abbrev pub read : Places → List ℕ → List ℕ
read t m = take t.outcomes m

unfoldable pub start_at : Places → List ℕ → ℕ → ℕ
start_at t m k = start_in (get_or (read t m) (t.starts + k) 0)

unfoldable pub became_in : Places → List ℕ → ℕ → Taken
became_in t m k = taken_in k (get_or (read t m) (t.taken + k) 0)

-- The last event from lo on, and before lo + size, that begins by the date d, by halving: where the dates rise, as they do in a session that was opened, it is
-- "the last event k with E(k) <= t". The first number bounds the recursion: 8 halvings are enough for 256 events.
unfoldable pub halved : ℕ → (ℕ → ℕ) → (lo size d : ℕ) → ℕ
halved zero start lo size d = lo
halved (suc n) start lo size d =
    let half = size / 2 in
    elim (leb (start (lo + half)) d) [ true ↦ halved n start (lo + half) (size - half) d | false ↦ halved n start lo half d ]

unfoldable pub last_in : Places → List ℕ → ℕ → ℕ
last_in t m d = halved 8 (start_at t m) 1 t.events d

-- The rules' reading of the words, with the grace that stands beside them.
unfoldable pub reading_in : Places → List ℕ → Reading
reading_in t m = record { start = start_at t m; last_before = last_in t m; became = became_in t m; grace = t.grace.0 }

unfoldable pub items_in : Places → List ℕ → List Item
items_in t m = map item_in (take t.size (drop t.items (read t m)))
