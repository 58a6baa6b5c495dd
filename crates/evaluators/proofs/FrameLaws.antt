-- Outcomes are written behind all that is read: so writing them leaves the reading, the page and its sequences as they are.
-- Assumes nothing.
use mathlib.Core.Path.{◌≡◌, refl, sym, ap, ◌∙◌}
use mathlib.Core.List.{List, [], ◌∷◌, ◌++◌, map}
use Prim.Native.Nat.{ℕ, ◌+◌, ◌<◌}
use native.Mathlib.Omega.{arith}
use lib.ListN.{length, get_or, set, take, drop, length-set}
use lib.Seq.{take-set-le, get_or-take}
use Rattle.rules.specs.Rules.{Reading, Line, line}
use Rattle.fates.specs.declared.Places.{Places}
use Rattle.fates.specs.Fields.{item_in, start_in, taken_in, outcome_word}
use Rattle.fates.specs.Places.{read, start_at, became_in, halved, last_in, reading_in, items_in}
use Rattle.evaluators.specs.Inner.{item_word_at, Lent, sequence_in, write_lines}

pub writes-append : (b : ℕ) (k l : List Line) (m : List ℕ) → write_lines b (k ++ l) m ≡ write_lines b l (write_lines b k m)
unfolding write_lines
writes-append b [] l m = refl
writes-append b (line p a o ∷ k) l m = writes-append b k l (set m (b + p) (outcome_word o))

pub writes-length : (b : ℕ) (l : List Line) (m : List ℕ) → length (write_lines b l m) ≡ length m
unfolding write_lines
writes-length b [] m = refl
writes-length b (line p a o ∷ l) m = writes-length b l (set m (b + p) (outcome_word o)) ∙ length-set m (b + p) (outcome_word o)

writes-behind : (b : ℕ) (l : List Line) (m : List ℕ) → take b (write_lines b l m) ≡ take b m
unfolding write_lines
writes-behind b [] m = refl
writes-behind b (line p a o ∷ l) m = writes-behind b l (set m (b + p) (outcome_word o)) ∙ take-set-le b m (b + p) (outcome_word o) (omega arith)

-- what the reading is, of the words before the outcomes alone
reading_from : Places → List ℕ → Reading
reading_from t r =
    record {
      start = λ k. start_in (get_or r (t.starts + k) 0);
      last_before = λ d. halved 8 (λ k. start_in (get_or r (t.starts + k) 0)) 1 t.events d;
      became = λ k. taken_in k (get_or r (t.taken + k) 0);
      grace = t.grace.0;
    }

reading-from : (t : Places) (m : List ℕ) → reading_in t m ≡ reading_from t (read t m)
unfolding reading_in start_at became_in last_in reading_from
reading-from t m = refl

-- words that agree before the outcomes are read alike
module _ (t : Places) (m m' : List ℕ) (same : read t m' ≡ read t m) where
  pub reading-alike : reading_in t m' ≡ reading_in t m
  reading-alike = reading-from t m' ∙ ap (reading_from t) same ∙ sym (reading-from t m)

  pub items_alike : items_in t m' ≡ items_in t m
  unfolding items_in
  items_alike = ap (λ (r : List ℕ). map item_in (take t.size (drop t.items r))) same

module _ (t : Places) (l : List Line) (m m' : List ℕ) (is : m' ≡ write_lines t.outcomes l m) where
  read_kept : read t m' ≡ read t m
  read_kept = rw is (writes-behind t.outcomes l m)

  pub reading-kept : reading_in t m' ≡ reading_in t m
  reading-kept = reading-alike t m m' read_kept

  pub items_kept : items_in t m' ≡ items_in t m
  items_kept = items_alike t m m' read_kept

  pub sequence-kept : (v p count : ℕ) → sequence_in t m' v p count ≡ sequence_in t m v p count
  unfolding sequence_in
  sequence-kept v p count = rw items_kept

-- a word of the page
pub word_read : (t : Places) (m : List ℕ) (p count : ℕ) → Lent t m p count → 0 < count → get_or m (t.items + p) 0 ≡ item_word_at t m p
unfolding item_word_at
word_read t m p count lent some = sym (get_or-take t.outcomes m (t.items + p) 0 (omega arith))
