-- What an evaluation leaves at each page place is read back there, of the sounding parts too; and what a heard note settles by it.
-- Assumes nothing.
use mathlib.Core.Path.{◌≡◌, refl, sym, ◌∙◌}
use Prim.Native.Nat.{ℕ, suc, ◌+◌, ◌%◌, ◌<◌}
use mathlib.Core.Bool.{Bool, true, false}
use mathlib.Core.List.{List, [], ◌∷◌, ◌++◌, append_assoc}
use native.Mathlib.Omega.{arith}
use lib.ListN.{length}
use Rattle.page.specs.declared.Item.{Item}
use Rattle.base.specs.Only.{only}
use Rattle.base.specs.Tests.{pick}
use Rattle.rules.specs.Rules.{Reading, Outcome, played, dropped, undecided, perform}
use Rattle.rules.specs.Page.{Entry, entries, Cue, cast, cues}
use Rattle.rules.specs.Written.{written, actions_in}
use Rattle.rules.specs.Parts.{sounding_entries}
use Rattle.fates.specs.Fields.{outcome_word}
use Rattle.fates.specs.Places.{PlacesFit, reading_in, items_in}
use Rattle.evaluators.specs.Performed.{performed}
use Rattle.evaluators.proofs.PlaceLaws.{performed-at}
use Rattle.session.specs.Layout.{outcomes_at, word_at, places_of}
use Rattle.sending.specs.Sending.{slot_by}
use Rattle.demands.proofs.Slots.{idle, settle}
use Rattle.demands.proofs.MemoryAndHistory.Shows.{slot_word, can_sound, actions_from}
use Rattle.demands.proofs.MemoryAndHistory.Settled.{Told, end_told, told_over, told_one}

-- ---- written and read back

-- The delay is one that the slots are settled by in full.
unfoldable pub Short : Outcome → Type 0
Short (played i d) = d < 34359738368
Short dropped = Unit {0}
Short undecided = Unit {0}

pub data AllShort : List Cue → Type 0 where
  none_short : AllShort []
  one_short : {c : Cue} {cs : List Cue} → Short c.outcome → AllShort cs → AllShort (c ∷ cs)

-- Each cue's outcome stands at its page place.
pub data Left (m : List ℕ) : List Cue → Type 0 where
  none_left : Left m []
  one_left : {c : Cue} {cs : List Cue} → word_at m (outcomes_at + c.place) ≡ outcome_word c.outcome → Short c.outcome → Left m cs → Left m (c ∷ cs)

module _ (m : List ℕ) (laid : PlacesFit (places_of m) (length m)) where
  left-from : (before cs : List Cue) → cues (reading_in (places_of m) m) (entries (items_in (places_of m) m)) ≡ before ++ cs → AllShort cs
      → Left (performed (places_of m) m) cs
  left-from before [] e s = none_left
  left-from before (c ∷ cs) e (one_short d s) =
      one_left (performed-at (places_of m) m laid before c cs e) d
      (left-from (before ++ (c ∷ [])) cs (e ∙ sym (append_assoc before (c ∷ []) cs)) s)

  pub performed-left : (cs : List Cue) → cues (reading_in (places_of m) m) (entries (items_in (places_of m) m)) ≡ cs → AllShort cs → Left (performed (places_of m) m) cs
  performed-left cs e s = left-from [] cs e s

-- ---- of the sounding parts

module _ {m : List ℕ} where
  left-first : (l k : List Cue) → Left m (l ++ k) → Left m l
  left-first [] k r = none_left
  left-first (c ∷ l) k (one_left e d r) = one_left e d (left-first l k r)

  left-rest : (l : List Cue) {k : List Cue} → Left m (l ++ k) → Left m k
  left-rest [] r = r
  left-rest (c ∷ l) (one_left e d r) = left-rest l r

  left-append : {l k : List Cue} → Left m l → Left m k → Left m (l ++ k)
  left-append none_left k = k
  left-append (one_left {c = c} e d r) k = one_left {c = c} e d (left-append r k)

  pub left-sounding : (S : ℕ → Bool) (R : Reading) (es : List Entry) → Left m (cues R es) → Left m (cues R (sounding_entries S es))
  unfolding cues only pick
  left-sounding S R [] r = none_left
  left-sounding S R (e ∷ es) r =
      go (S e.part) (left-first (cast e.part (perform R e.event e.body)) (cues R es) r)
      (left-sounding S R es (left-rest (cast e.part (perform R e.event e.body)) r))
    where
      go : (v : Bool) → Left m (cast e.part (perform R e.event e.body)) → Left m (cues R (sounding_entries S es)) → Left m (cues R (pick v (e ∷ sounding_entries S es) (sounding_entries S es)))
      go true a b = left-append a b
      go false a b = b

-- ---- what a note settles by it

slot-word : (clock : ℕ) (o : Outcome) → Short o → slot_by clock (outcome_word o) ≡ slot_word (settle clock idle o)
unfolding Short slot_by outcome_word settle slot_word
slot-word clock (played i d) h =
    let e : 2 + d ≡ suc (suc d) = omega arith in
    let g : d % 34359738368 ≡ d = omega arith in
    rw (e, g)
slot-word clock dropped h = refl
slot-word clock undecided h = refl

-- The cues are those of the items that can sound, in page order.
pub left-told : (S : ℕ → Bool) (clock : ℕ) {m : List ℕ} (p : ℕ) (is : List Item) (cs : List Cue) → actions_in cs ≡ actions_from S p is → Left m cs
    → Told S clock m p is cs
unfolding actions_from actions_in pick
left-told S clock p [] [] e l = end_told
left-told S clock p [] (c ∷ cs) e l = let z : ◌≡◌ {A = ℕ} 0 1 = cc in absurd (omega arith)
left-told S clock {m} p (x ∷ is) cs e l =
    go (can_sound S x) refl cs e l (λ k f g. left-told S clock (p + 1) is k f g)
  where
    go : (v : Bool) → can_sound S x ≡ v → (cs : List Cue) → actions_in cs ≡ pick v (written p x.part x.last ∷ actions_from S (p + 1) is) (actions_from S (p + 1) is)
        → Left m cs
        → ((k : List Cue) → actions_in k ≡ actions_from S (p + 1) is → Left m k → Told S clock m (p + 1) is k)
        → Told S clock m p (x ∷ is) cs
    go true q [] e l ih = let z : ◌≡◌ {A = ℕ} 0 1 = cc in absurd (omega arith)
    go true q (c ∷ k) e (one_left a d l) ih =
        let at : c.place ≡ p = cc in
        let f : actions_in k ≡ actions_from S (p + 1) is = cc in
        let w : slot_by clock (word_at m (outcomes_at + p)) ≡ slot_word (settle clock idle c.outcome) = rw (← at, a) (slot-word clock c.outcome d) in
        told_one {c = c} q w (ih k f l)
    go false q k e l ih = told_over q (ih k e l)
