-- The actions of a page stand at rising page places (Places of rules), so each outcome that is written stays.
-- Assumes nothing.
use mathlib.Core.Path.{◌≡◌, refl, ◌∙◌}
use mathlib.Core.List.{List, [], ◌∷◌, ◌++◌}
use Prim.Native.Nat.{ℕ, suc, ◌+◌, ◌≤◌, ◌<◌}
use native.Mathlib.Omega.{arith}
use lib.ListN.{length, get_or, set, take, drop, length-set}
use lib.Seq.{take-set-le, drop-set-lt, get_or-set_same, get_or-set_other}
use Rattle.rules.specs.Page.{entries, Cue, cues}
use Rattle.rules.specs.Written.{actions_in, Placed, placed}
use Rattle.rules.proofs.Places.{cues-placed}
use Rattle.fates.specs.declared.Places.{Places}
use Rattle.fates.specs.Fields.{outcome_word}
use Rattle.fates.specs.Places.{PlacesFit, reading_in, items_in}
use Rattle.evaluators.specs.Performed.{write_all, performed}
use Rattle.evaluators.proofs.SequenceLaws.{items_count}

write-length : (b : ℕ) (cs : List Cue) (m : List ℕ) → length (write_all b cs m) ≡ length m
unfolding write_all
write-length b [] m = refl
write-length b (c ∷ cs) m = write-length b cs (set m (b + c.place) (outcome_word c.outcome)) ∙ length-set m (b + c.place) (outcome_word c.outcome)

write-before : (b : ℕ) (cs : List Cue) (m : List ℕ) → take b (write_all b cs m) ≡ take b m
unfolding write_all
write-before b [] m = refl
write-before b (c ∷ cs) m = write-before b cs (set m (b + c.place) (outcome_word c.outcome)) ∙ take-set-le b m (b + c.place) (outcome_word c.outcome) (omega arith)

write-past : (b lo hi : ℕ) (cs : List Cue) (m : List ℕ) → Placed lo hi (actions_in cs) → drop (b + hi) (write_all b cs m) ≡ drop (b + hi) m
unfolding write_all actions_in
write-past b lo hi [] m r = refl
write-past b lo hi (c ∷ cs) m (placed h g r) =
    write-past b (suc c.place) hi cs (set m (b + c.place) (outcome_word c.outcome)) r
    ∙ drop-set-lt (b + hi) m (b + c.place) (outcome_word c.outcome) (omega arith)

-- a place before those that are written
write-other : (b lo hi p : ℕ) (cs : List Cue) (m : List ℕ) → Placed lo hi (actions_in cs) → p < lo → get_or (write_all b cs m) (b + p) 0 ≡ get_or m (b + p) 0
unfolding write_all actions_in
write-other b lo hi p [] m r h = refl
write-other b lo hi p (c ∷ cs) m (placed k g r) h =
    write-other b (suc c.place) hi p cs (set m (b + c.place) (outcome_word c.outcome)) r (omega arith)
    ∙ get_or-set_other m (b + c.place) (b + p) (outcome_word c.outcome) 0 (λ e. omega arith)

write-at : (b lo hi : ℕ) (before : List Cue) (c : Cue) (after : List Cue) (m : List ℕ) → Placed lo hi (actions_in (before ++ c ∷ after)) → b + hi ≤ length m
    → get_or (write_all b (before ++ c ∷ after) m) (b + c.place) 0 ≡ outcome_word c.outcome
unfolding write_all actions_in
write-at b lo hi [] c after m (placed k g r) fits =
    write-other b (suc c.place) hi c.place after (set m (b + c.place) (outcome_word c.outcome)) r (omega arith)
    ∙ get_or-set_same m (b + c.place) (outcome_word c.outcome) 0 (omega arith)
write-at b lo hi (x ∷ before) c after m (placed k g r) fits =
    write-at b (suc x.place) hi before c after (set m (b + x.place) (outcome_word x.outcome)) r (omega (arith, length-set m (b + x.place) (outcome_word x.outcome)))

-- ---- what `perform` leaves

module _ (t : Places) (m : List ℕ) where
  pub performed-length : length (performed t m) ≡ length m
  unfolding performed
  performed-length = write-length t.outcomes _ m

  pub performed-before : take t.outcomes (performed t m) ≡ take t.outcomes m
  unfolding performed
  performed-before = write-before t.outcomes _ m

  module _ (places : PlacesFit t (length m)) where
    performed-placed : Placed 0 t.size (actions_in (cues (reading_in t m) (entries (items_in t m))))
    performed-placed = rw (items_count t m places) at (cues-placed (reading_in t m) (items_in t m))

    pub performed-past : drop (t.outcomes + t.size) (performed t m) ≡ drop (t.outcomes + t.size) m
    unfolding performed
    performed-past = write-past t.outcomes 0 t.size _ m performed-placed

    pub performed-at : (before : List Cue) (c : Cue) (after : List Cue) → cues (reading_in t m) (entries (items_in t m)) ≡ before ++ c ∷ after
        → get_or (performed t m) (t.outcomes + c.place) 0 ≡ outcome_word c.outcome
    unfolding performed
    performed-at before c after e = rw e (write-at t.outcomes 0 t.size before c after m (rw e at performed-placed) places.outcomes)
