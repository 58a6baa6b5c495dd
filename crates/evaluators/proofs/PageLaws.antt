-- The page, one sequence after the other: a sequence that has run leaves what the rest of the page owes.
-- Assumes nothing.
use mathlib.Core.Path.{◌≡◌, refl, ap, ◌∙◌}
use mathlib.Core.List.{List, [], ◌∷◌, ◌++◌}
use Prim.Native.Nat.{ℕ, zero, suc, ◌+◌, ◌-◌, ◌^◌, ◌≤◌, ◌<◌}
use native.Mathlib.Omega.{arith}
use native.Mathlib.Numerals.{add-one}
use lib.ListN.{length, get_or, set, take, drop, length-drop}
use lib.Seq.{drop-drop}
use borrow.Author.Rules.{rules}
use Rattle.units.specs.declared.Grains.{Grains}
use Rattle.page.specs.declared.Item.{Item}
use Rattle.rules.specs.declared.Synchrony.TheVariants.{Loose as loose}
use Rattle.rules.specs.declared.ErrorWord.TheVariants.{Local as local}
use Rattle.rules.specs.declared.Taken.{Taken}
use Rattle.rules.specs.declared.Taken.TheVariants.{Heard as heard, Missed as missed, Unsettled as unsettled}
use Rattle.rules.specs.declared.Fate.TheVariants.{NotYet as not_yet}
use Rattle.rules.specs.Rules.{Line, line, heard_group, missed_top, enter, top_holder, perform}
use Rattle.rules.specs.Page.{levels, sequence_of, run_length, Entry, entries_of, entries, Cue, cast, cues}
use Rattle.fates.specs.declared.Places.{Places}
use Rattle.fates.specs.Fields.{item_in, outcome_word}
use Rattle.fates.specs.Places.{PlacesFit, reading_in, items_in}
use Rattle.evaluators.specs.Performed.{write_all, performed}
use Rattle.evaluators.specs.Inner.{Lent, Dated, item_word_at, sequence_in, write_lines, owed, sequence_done, owed_from, Advanced}
use Rattle.fates.proofs.ReadLaws.{next-of}
use Rattle.evaluators.proofs.SequenceLaws.{items_count, items-from}
use Rattle.evaluators.proofs.FrameLaws.{reading-kept, items_kept}
use Rattle.evaluators.proofs.WalkLaws.{still-waiting}
use Rattle.evaluators.proofs.RunLaws.{word_in}

-- ---- a sequence, by what has become of its event

module _ (t : Places) (m m' : List ℕ) (v p count i : ℕ) (a : Taken) (s : Grains) (is : a ≡ (reading_in t m).became i) (starts : s.0 ≡ (reading_in t m).start i) where
  pub done-heard : a ≡ heard → m' ≡ owed t (heard_group loose local i s.0) 0 m v p count → m' ≡ sequence_done t m v p count i
  unfolding sequence_done perform top_holder owed
  done-heard e em = rw (← is, e, ← starts) em

  pub done-missed : (j : ℕ) → a ≡ missed j → m' ≡ owed t (missed_top j s.0) 0 m v p count → m' ≡ sequence_done t m v p count i
  unfolding sequence_done perform top_holder owed
  done-missed j e em = rw (← is, e, ← starts) em

pub done-waiting : (t : Places) (m m' : List ℕ) (v p count i : ℕ) (a : Taken) → a ≡ (reading_in t m).became i → a ≡ unsettled → m' ≡ owed t (enter not_yet loose local) 0 m v p count → m' ≡ sequence_done t m v p count i
unfolding sequence_done perform top_holder owed enter
done-waiting t m m' v p count i a is e em = rw (← is, e) em

pub dated-start : (i s p : ℕ) → i ≤ 256 → s < 2 ^ 31 → Dated i s p
dated-start i s p h k = record { event = h; date = omega arith }

pub ruleset sequences = (done-heard, done-missed, done-waiting, dated-start, next-of, still-waiting, rules)

-- ---- the page

entries-enough : (n k p : ℕ) (is : List Item) → length is ≤ n → length is ≤ k → entries_of n p is ≡ entries_of k p is
unfolding entries_of
entries-enough zero zero p is a b = refl
entries-enough zero (suc k) p [] a b = refl
entries-enough zero (suc k) p (x ∷ is) a b = absurd (omega arith)
entries-enough (suc n) zero p [] a b = refl
entries-enough (suc n) zero p (x ∷ is) a b = absurd (omega arith)
entries-enough (suc n) (suc k) p [] a b = refl
entries-enough (suc n) (suc k) p (x ∷ is) a b =
    let r = run_length x.event x.part is in
    rw (entries-enough n k (p + 1 + r) (drop r is) (simp length-drop (omega arith)) (simp length-drop (omega arith)))

write-append : (b : ℕ) (c d : List Cue) (m : List ℕ) → write_all b (c ++ d) m ≡ write_all b d (write_all b c m)
unfolding write_all
write-append b [] d m = refl
write-append b (x ∷ c) d m = write-append b c d (set m (b + x.place) (outcome_word x.outcome))

write-cast : (b p : ℕ) (l : List Line) (m : List ℕ) → write_all b (cast p l) m ≡ write_lines b l m
unfolding write_all cast write_lines
write-cast b p [] m = refl
write-cast b p (line q a o ∷ l) m = write-cast b p l (set m (b + q) (outcome_word o))

-- the first sequence of what is left of the page, and the others
entries-first : (t : Places) (m : List ℕ) (p k : ℕ) (x : Item) → PlacesFit t (length m) → p < t.size → x ≡ item_in (item_word_at t m p) → k ≡ run_length x.event x.part (drop (p + 1) (items_in t m))
    → entries_of (t.size - p) p (drop p (items_in t m))
    ≡ record { event = x.event; part = x.part; body = sequence_in t m levels p (1 + k) } ∷ entries_of (t.size - (p + (1 + k))) (p + (1 + k)) (drop (p + (1 + k)) (items_in t m))
unfolding entries_of sequence_in
entries-first t m p k x places h is ek =
    let n : t.size - p ≡ suc (t.size - p - 1) = omega arith in
    let one : 1 + k ≡ suc k = omega arith in
    let next : p + suc k ≡ p + 1 + k = omega arith in
    let ek' : k ≡ run_length x.event x.part (drop (suc p) (items_in t m)) = rw (add-one p) at ek in
    let so : suc p + k ≡ p + 1 + k = omega arith in
    let l : length (drop (p + 1 + k) (items_in t m)) ≡ t.size - (p + 1 + k) = simp (length-drop, items_count t m places) in
    rw (n, items-from t m p places h, ← is, ← ek', one, next)
    (ap (λ (es : List Entry). record { event = x.event; part = x.part; body = sequence_of (suc k) levels p (x ∷ take k (drop (suc p) (items_in t m))) } ∷ es)
    (rw (drop-drop k (suc p) (items_in t m), so)
    (entries-enough (t.size - p - 1) (t.size - (p + 1 + k)) (p + 1 + k) (drop (p + 1 + k) (items_in t m)) (omega arith) (omega arith))))

module _ (t : Places) (m m' : List ℕ) (p k : ℕ) (x : Item) (places : PlacesFit t (length m)) (inside : p < t.size) (is : x ≡ item_in (get_or m (t.items + p) 0)) where
  pub advanced : k ≡ run_length x.event x.part (drop (p + 1) (items_in t m)) → p + 1 + k ≤ t.size → m' ≡ sequence_done t m levels p (1 + k) x.event → Advanced t m p (1 + k) m'
  unfolding owed_from sequence_done cues
  advanced ek fits em =
      let is' : x ≡ item_in (item_word_at t m p) = is ∙ ap item_in (word_in t m p places inside) in
      record {
        some = omega arith;
        within = omega arith;
        same =
            rw (reading-kept t _ m m' em, items_kept t _ m m' em, entries-first t m p k x places inside is' ek, write-append, write-cast, ← em);
      }

pub lent-run : (t : Places) (m : List ℕ) (p k : ℕ) → PlacesFit t (length m) → p + 1 + k ≤ t.size → Lent t m p (1 + k)
lent-run t m p k places fits = record { places = places; fits = omega arith }

pub page-begins : (t : Places) (m : List ℕ) → PlacesFit t (length m) → owed_from t m 0 ≡ performed t m
unfolding owed_from performed entries
page-begins t m places =
    let e : t.size - 0 ≡ t.size = omega arith in
    rw (e, items_count t m places)

pub page-step : (t : Places) (m m' W : List ℕ) (p r : ℕ) → Advanced t m p r m' → owed_from t m p ≡ W → owed_from t m' (p + r) ≡ W
page-step t m m' W p r a q = a.same ∙ q

pub page-ends : (t : Places) (m W : List ℕ) (p : ℕ) → t.size ≤ p → owed_from t m p ≡ W → m ≡ W
unfolding owed_from entries_of cues write_all
page-ends t m W p h q =
    let e : t.size - p ≡ 0 = omega arith in
    rw e at q

pub places_same : (t : Places) (n k : ℕ) → PlacesFit t n → k ≡ n → PlacesFit t k
places_same t n k places e = rw e places

pub ruleset runs = (advanced, lent-run, rules)

pub ruleset pages = (page-begins, page-step, page-ends, places_same, rules)
