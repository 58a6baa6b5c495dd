-- Groups as document 01 speaks of them: the past and the future items of a body, and its slices. RuleLaws has the rules in these words.
use Rattle.std.specs.Prelude.{◌≡◌, ℕ, zero, suc, ◌+◌, ◌-◌, ◌≤◌, Bool, true, false, not, List, [], ◌++◌, eqb}
use Rattle.rules.specs.Words.{loose, ErrorWord}
use Rattle.rules.specs.Score.{Seq, end, action, group}
use Rattle.rules.specs.Heard.{heard, missed}
use Rattle.rules.specs.Rules.{Reading, past, future_date, Line, run, top_holder, perform}

-- A part's sequence at event i where the delays before it sum up to d: "a sequence from (i, d)".
unfoldable pub perform_from : Reading → (i d : ℕ) → Seq → List Line
perform_from R i d x = run R (top_holder R i (R.became i)) d x

-- The items of a sequence that are asked for: an action by the one test of its date, a group by the other. "A group inside goes whole, by its start, with its
-- own words." The sequence starts at the date b, and s is the sum of its delays so far. `dated` gives the date that an item has in the new sequence by its own,
-- and c is that of the last item taken, at first the date at which the new sequence starts.
unfoldable pub select : (dated : ℕ → ℕ) → (actions groups : ℕ → Bool) → (b s c : ℕ) → Seq → Seq
select dated A G b s c end = end
select dated A G b s c (action d m p rest) =
    elim (A (b + (s + d))) [
      | true ↦ action (dated (b + (s + d)) - c) m p (select dated A G b (s + d) (dated (b + (s + d))) rest)
      | false ↦ select dated A G b (s + d) c rest
    ]
select dated A G b s c (group d y e body rest) =
    elim (G (b + (s + d))) [
      | true ↦ group (dated (b + (s + d)) - c) y e body (select dated A G b (s + d) (dated (b + (s + d))) rest)
      | false ↦ select dated A G b (s + d) c rest
    ]

-- Past items and those of a slice keep their dates.
abbrev pub own_date : ℕ → ℕ
own_date t = t

-- ---- of a body that starts at the date b

-- "the items starting before E(j) are past", with the grace: at their dates, counted from c.
unfoldable pub past_items : Reading → (j b c : ℕ) → Seq → Seq
past_items R j b c x = select own_date (past R j) (past R j) b 0 c x

-- "past actions are dropped"
unfoldable pub past_groups : Reading → (j b c : ℕ) → Seq → Seq
past_groups R j b c x = select own_date (λ t. false) (past R j) b 0 c x

-- "the others future"
unfoldable pub future : Reading → (j t : ℕ) → Bool
future R j t = not (past R j t)

-- "their dates less E(j)", never below 0
unfoldable pub future_items : Reading → (j b : ℕ) → Seq → Seq
future_items R j b x = select (future_date R j) (future R j) (future R j) b 0 (R.start j) x

-- How a missed group is split at E(j): its past items and its past groups, at their dates, and its future items, by their dates less E(j), never below 0.
pub record Split : Type 0 where
  pub items : (j b c : ℕ) → Seq → Seq
  pub groups : (j b c : ℕ) → Seq → Seq
  pub future : (j b : ℕ) → Seq → Seq

-- As the rules split it, on the terms of the opening.
unfoldable pub split_of : Reading → Split
split_of R = record { items = past_items R; groups = past_groups R; future = future_items R }

-- "An item of the body with ideal date t [..] goes to the last event k with E(k) <= t."
unfoldable pub goes_to : Reading → (k t : ℕ) → Bool
goes_to R k t = eqb (R.last_before t) k

-- "its items at t - E(k)"
unfoldable pub slice : Reading → (k b : ℕ) → Seq → Seq
slice R k b x = select own_date (goes_to R k) (goes_to R k) b 0 (R.start k) x

-- "Each k that receives items gets a loose group with the same error word, at k with delay 0 [..]. It runs by these rules, k heard or missed." From 1 to n;
-- an event that receives none has an empty group, which yields nothing.
unfoldable pub slices : Reading → ErrorWord → (n b : ℕ) → Seq → List Line
slices R e zero b x = []
slices R e (suc n) b x = slices R e n b x ++ perform R (suc n) (group 0 loose e (slice R (suc n) b x) end)

-- "heard at j with delay max(0, E(i) + d - E(j))": that of a global group which was missed at i. A difference is never below 0.
unfoldable pub global_delay : Reading → (i j d : ℕ) → ℕ
global_delay R i j d = R.start i + d - R.start j

-- A reading of a score of n events, as document 01 has E, M and "the last event k with E(k) <= t": that event is one of the score's and has begun, a later date
-- finds no earlier one, and M(i) is heard and starts no earlier than i. Readings shows it of every score, whatever was heard.
pub record Orderly (R : Reading) (n : ℕ) : Type 0 where
  pub some : (t : ℕ) → 1 ≤ R.last_before t
  pub fits : (t : ℕ) → R.last_before t ≤ n
  pub begun : (t : ℕ) → R.start (R.last_before t) ≤ t
  pub rises : (t u : ℕ) → t ≤ u → R.last_before t ≤ R.last_before u
  pub next : (i j : ℕ) → R.became i ≡ missed j → R.became j ≡ heard
  pub ahead : (i j : ℕ) → R.became i ≡ missed j → R.start i ≤ R.start j
