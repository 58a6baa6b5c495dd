-- What has become of each event, in words: a heard note writes its number at the events from the last one heard on, and that is what the list of events heard says.
-- Assumes nothing.
use mathlib.Core.Path.{◌≡◌, refl, ap, sym, ◌∙◌}
use Prim.Native.Nat.{ℕ, zero, suc, ◌+◌, ◌-◌, ◌%◌, ◌≤◌, ◌<◌}
use mathlib.Core.Bool.{Bool, true, false}
use mathlib.Core.List.{List, [], ◌∷◌, ◌++◌}
use native.Mathlib.Omega.{arith}
use native.Mathlib.Nat.{le_refl}
use lib.Dec.{ltb, leb, eqb}
use lib.ListN.{length, set, length-set}
use lib.Seq.{get_or-set_same, get_or-set_other}
use borrow.Author.Tests.{ltb-true, ltb-false, leb-true, leb-false, le-ltb, eq-eqb, ne_eqb}
use Rattle.base.specs.Tests.{pick}
use Rattle.rules.specs.declared.Taken.{Taken}
use Rattle.rules.specs.declared.Taken.TheVariants.{Heard as heard, Missed as missed, Unsettled as unsettled}
use Rattle.rules.specs.Heard.{taken}
use Rattle.rules.specs.Settled.{Below, nothing_heard, heard_before}
use Rattle.rules.proofs.HeardLaws.{unsettled-above, above-unsettled, below_up, below-one-more, Turns, same, now, passed, turns}
use Rattle.fates.specs.Fields.{event_numbers, taken_in}
use Rattle.session.specs.Layout.{memory_size, taken_at, word_at}
use Rattle.sequencer.specs.Calls.{took_note}

-- ---- the words

took-before : (h n k : ℕ) (m : List ℕ) (i : ℕ) → i < taken_at + k → word_at (took_note h n k m) i ≡ word_at m i
unfolding took_note
took-before h zero k m i p = refl
took-before h (suc n) k m i p = took-before h n (k + 1) (set m (taken_at + k) h) i (omega arith) ∙ get_or-set_other m (taken_at + k) i h 0 (λ e. omega arith)

took-after : (h n k : ℕ) (m : List ℕ) (i : ℕ) → taken_at + k + n ≤ i → word_at (took_note h n k m) i ≡ word_at m i
unfolding took_note
took-after h zero k m i p = refl
took-after h (suc n) k m i p = took-after h n (k + 1) (set m (taken_at + k) h) i (omega arith) ∙ get_or-set_other m (taken_at + k) i h 0 (λ e. omega arith)

took-within : (h n k : ℕ) (m : List ℕ) (j : ℕ) → k ≤ j → j < k + n → taken_at + j < length m → word_at (took_note h n k m) (taken_at + j) ≡ h
unfolding took_note
took-within h zero k m j p q l = absurd (omega arith)
took-within h (suc n) k m j p q l = go (leb j k) refl (λ r. took-within h n (k + 1) (set m (taken_at + k) h) j r (omega arith) (rw (length-set m (taken_at + k) h) l))
  where
    go : (v : Bool) → leb j k ≡ v → (k + 1 ≤ j → word_at (took_note h n (k + 1) (set m (taken_at + k) h)) (taken_at + j) ≡ h)
        → word_at (took_note h n (k + 1) (set m (taken_at + k) h)) (taken_at + j) ≡ h
    go true e ih =
        let s : k ≡ j = omega (arith, leb-true j k e) in
        rw (← s) (took-before h n (k + 1) (set m (taken_at + k) h) (taken_at + k) (omega arith) ∙ get_or-set_same m (taken_at + k) h 0 (omega arith))
    go false e ih = ih (omega (arith, leb-false j k e))

-- ---- the list of the events heard

-- After all of D, only what is heard later settles an event.
taken-later : (j : ℕ) (k : List ℕ) {D : List ℕ} → Below j D → taken (D ++ k) j ≡ taken k j
unfolding taken
taken-later j k nothing_heard = refl
taken-later j k (heard_before {d = d} h b) = rw (le-ltb j d (omega arith), ne_eqb j d (λ e. omega arith), taken) (taken-later j k b)

-- What is settled stays so.
settled-stays : (D : List ℕ) (h j : ℕ) → (taken D j ≡ unsettled → ⊥) → taken (D ++ (h ∷ [])) j ≡ taken D j
settled-stays D h j n = go (turns D h j) n
  where
    go : {a b : Taken} → Turns h j a b → (a ≡ unsettled → ⊥) → b ≡ a
    go same n = refl
    go (now e) n = absurd (n refl)
    go (passed e) n = absurd (n refl)

-- An event from the last one heard on, up to h, is settled by h as its number in words says.
note-word : (h j : ℕ) → 1 ≤ h → h ≤ 256 → j ≤ h → taken_in j h ≡ taken (h ∷ []) j
unfolding taken_in taken pick
note-word h j p q l =
    let e : h % event_numbers ≡ h = omega arith in
    rw (e, ne_eqb h 0 (λ z. omega arith)) (go (ltb j h) refl)
  where
    go : (v : Bool) → ltb j h ≡ v → pick (eqb h j) heard (missed h) ≡ taken (h ∷ []) j
    go true e = let g : j < h = ltb-true j h e in rw (e, taken, ne_eqb h j (λ z. omega arith))
    go false e = let g : j ≡ h = omega (arith, ltb-false j h e) in rw (e, taken, eq-eqb j h g, eq-eqb h j (sym g))

-- ---- the two together

-- The events up to the last one heard are settled, and the words say of events 1 to n what has become of them.
pub record EventsSettled (n last : ℕ) (D m : List ℕ) : Type 0 where
  pub below : Below (suc last) D
  pub before : (k : ℕ) → 1 ≤ k → k ≤ last → taken D k ≡ unsettled → ⊥
  pub words : (k : ℕ) → 1 ≤ k → k ≤ n → taken_in k (word_at m (taken_at + k)) ≡ taken D k

below_last : (D : List ℕ) (h k : ℕ) → Below k (D ++ (h ∷ [])) → h < k
below_last [] h k (heard_before l b) = l
below_last (d ∷ D) h k (heard_before l b) = below_last D h k b

module _ (n last h : ℕ) (D m : List ℕ) (s : EventsSettled n last D m) (next : last < h) (fits : h ≤ n) (few : n ≤ 256) (long : memory_size ≤ length m) where
  note-words : (k : ℕ) → 1 ≤ k → k ≤ n → taken_in k (word_at (took_note h (h - last) (last + 1) m) (taken_at + k)) ≡ taken (D ++ (h ∷ [])) k
  note-words k p q = go (leb k last) (leb k h) refl refl
    where
      go : (u v : Bool) → leb k last ≡ u → leb k h ≡ v → taken_in k (word_at (took_note h (h - last) (last + 1) m) (taken_at + k)) ≡ taken (D ++ (h ∷ [])) k
      go true v e f =
          let l : k ≤ last = leb-true k last e in
          ap (taken_in k) (took-before h (h - last) (last + 1) m (taken_at + k) (omega arith)) ∙ (s.words k p q ∙ sym (settled-stays D h k (s.before k p l)))
      go false true e f =
          let l : last < k = leb-false k last e in
          let g : k ≤ h = leb-true k h f in
          ap (taken_in k) (took-within h (h - last) (last + 1) m k (omega arith) (omega arith) (omega arith))
          ∙ (note-word h k (omega arith) (omega arith) g ∙ sym (taken-later k (h ∷ []) (below_up (suc last) k l s.below)))
      go false false e f =
          let l : last < k = leb-false k last e in
          let g : h < k = leb-false k h f in
          let old : taken D k ≡ unsettled = above-unsettled k (below_up (suc last) k l s.below) in
          let new : taken (D ++ (h ∷ [])) k ≡ unsettled = above-unsettled k (below-one-more h k g (below_up (suc last) h next s.below)) in
          ap (taken_in k) (took-after h (h - last) (last + 1) m (taken_at + k) (omega arith)) ∙ (s.words k p q ∙ (old ∙ sym new))

  pub note-settled : EventsSettled n h (D ++ (h ∷ [])) (took_note h (h - last) (last + 1) m)
  note-settled =
      record {
        below = below-one-more h (suc h) (le_refl (suc h)) (below_up (suc last) h next s.below);
        before = λ k p q e. let l : h < k = below_last D h k (unsettled-above (D ++ (h ∷ [])) k e) in omega arith;
        words = note-words;
      }
