-- Sounding parts: a page, an item table and the cues with what belongs to every other part struck out; and which tables keep the parts apart.
use Rattle.std.specs.Prelude.{◌≡◌, ℕ, ◌≤◌, ◌<◌, Bool, List, [], ◌∷◌}
use Rattle.page.specs.declared.Item.{Item}
use Rattle.base.specs.Only.{only}
use Rattle.rules.specs.Page.{Entry, Cue}

-- S tells the sounding parts.
abbrev pub sounding_entries : (ℕ → Bool) → List Entry → List Entry
sounding_entries S es = only (λ e. S e.part) es

abbrev pub sounding_items : (ℕ → Bool) → List Item → List Item
sounding_items S is = only (λ i. S i.part) is

abbrev pub sounding_cues : (ℕ → Bool) → List Cue → List Cue
sounding_cues S cs = only (λ c. S c.part) cs

-- Cues without their page places, which shift when items are struck out.
unfoldable pub placeless : List Cue → List Cue
placeless [] = []
placeless (c ∷ cs) = record { place = 0; part = c.part; message = c.message; outcome = c.outcome } ∷ placeless cs

-- A table whose items stand as those of an accepted file do, after a top item of event i and part p: "A top item names its event. Top items stand by event
-- and, within an event, by part. An item within a group has event 0 and its group's part." Before the first top item i is 0.
pub data Standing : (i p : ℕ) → List Item → Type 0 where
  no_items : {i p : ℕ} → Standing i p []
  within_group : {i p : ℕ} {x : Item} {is : List Item} → 1 ≤ i → x.event ≡ 0 → x.part ≡ p → Standing i p is → Standing i p (x ∷ is)
  next_event : {i p : ℕ} {x : Item} {is : List Item} → i < x.event → Standing x.event x.part is → Standing i p (x ∷ is)
  same_event : {i p : ℕ} {x : Item} {is : List Item} → 1 ≤ i → x.event ≡ i → p ≤ x.part → Standing x.event x.part is → Standing i p (x ∷ is)
