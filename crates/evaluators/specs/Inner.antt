-- What the inner functions ask and leave. Nothing of this is part of what `perform` promises.
use Rattle.std.specs.Prelude.{◌≡◌, Bool, true, false, List, [], ◌∷◌, ℕ, ◌+◌, ◌-◌, ◌*◌, ◌<◌, ◌≤◌, min, eqb, length, get_or, set, take, drop}
use Rattle.page.specs.declared.Item.{Item}
use Rattle.base.specs.Tests.{pick}
use Rattle.rules.specs.declared.Fate.{Fate}
use Rattle.rules.specs.declared.Fate.TheVariants.{HeardAt as heard_at, MissedBy as missed_by, GroupsOnly as groups_only, Nothing as nothing, NotYet as not_yet}
use Rattle.rules.specs.Score.{Seq, end, action, group}
use Rattle.rules.specs.Rules.{Reading, Holder, outcome_of, enter, Line, line, run, perform}
use Rattle.rules.specs.Page.{sequence_of, entries_of, cues}
use Rattle.fates.specs.declared.Places.{Places}
use Rattle.fates.specs.Fields.{item_in, outcome_word}
use Rattle.fates.specs.Places.{PlacesFit, read, reading_in, items_in}
use Rattle.evaluators.specs.Performed.{write_all}

-- ---- bounds

-- A date at a page place: each item that is passed moves it by less than 2 ^ 33 grains.
abbrev pub latest_at : ℕ → ℕ
latest_at p = 8589934592 * (p + 1)

-- ---- the items of a sequence

-- The word of the item at a page place.
unfoldable pub item_word_at : Places → List ℕ → ℕ → ℕ
item_word_at t m p = get_or (read t m) (t.items + p) 0

-- The count items from page place p on, as a sequence.
unfoldable pub sequence_in : Places → List ℕ → (levels p count : ℕ) → Seq
sequence_in t m v p count = sequence_of count v p (take count (drop p (items_in t m)))

-- An item, with those within it, where count items are left: how many items that is.
unfoldable pub span_of : Item → ℕ → ℕ
span_of i count = pick (eqb i.kind 0) 1 (min i.last (count - 1) + 1)

unfoldable pub write_lines : ℕ → List Line → List ℕ → List ℕ
write_lines b [] m = m
write_lines b (line p a o ∷ l) m = write_lines b l (set m (b + p) (outcome_word o))

-- The words when the items that h holds have run, where s is the sum of the delays before them.
unfoldable pub owed : Places → Holder → ℕ → List ℕ → (levels p count : ℕ) → List ℕ
owed t h s m v p count = write_lines t.outcomes (run (reading_in t m) h s (sequence_in t m v p count)) m

-- What the first item of a sequence comes to, where its fate is f.
unfoldable pub first_lines : Reading → Fate → Seq → List Line
first_lines R f end = []
first_lines R f (action d a p rest) = line p a (outcome_of R f) ∷ []
first_lines R f (group d y e body rest) = run R (enter f y e) 0 body

-- What a walk over count items from page place p on is lent.
pub record Lent (t : Places) (m : List ℕ) (p count : ℕ) : Type 0 where
  pub places : PlacesFit t (length m)
  pub fits : p + count ≤ t.size

-- A group that begins at page place p hangs on event i and starts at date d.
pub record Dated (i d p : ℕ) : Type 0 where
  pub event : i ≤ 256
  pub date : d ≤ latest_at p

-- The first of count items, of fate f, has run with all within it: r items.
pub record Stepped (t : Places) (f : Fate) (m : List ℕ) (levels p count r : ℕ) (m' : List ℕ) : Type 0 where
  pub some : 0 < r
  pub within : r ≤ count
  pub span : r ≡ span_of (item_in (item_word_at t m p)) count
  pub words : m' ≡ write_lines t.outcomes (first_lines (reading_in t m) f (sequence_in t m levels p count)) m

-- A group of this fate yields nothing, ever or yet.
unfoldable pub still : Fate → Bool
still (heard_at i t) = false
still (missed_by j t) = false
still (groups_only j t) = false
still nothing = true
still not_yet = true

-- ---- the sequences of the page

-- The words when a part's sequence at event i, count items from page place p on, has run.
unfoldable pub sequence_done : Places → List ℕ → (levels p count i : ℕ) → List ℕ
sequence_done t m v p count i = write_lines t.outcomes (perform (reading_in t m) i (sequence_in t m v p count)) m

-- The words when the page has run from place p on.
unfoldable pub owed_from : Places → List ℕ → ℕ → List ℕ
owed_from t m p = write_all t.outcomes (cues (reading_in t m) (entries_of (t.size - p) p (drop p (items_in t m)))) m

pub record Advanced (t : Places) (m : List ℕ) (p r : ℕ) (m' : List ℕ) : Type 0 where
  pub some : 0 < r
  pub within : p + r ≤ t.size
  pub same : owed_from t m' (p + r) ≡ owed_from t m p
