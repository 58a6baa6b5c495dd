-- A heard note settles the slot words as it settles the rows: each open slot by the outcome that stands at its page place.
-- First what becomes of each word, then along the page. Assumes nothing.
use mathlib.Core.Path.{◌≡◌, refl, ap, sym, ◌∙◌}
use Prim.Native.Nat.{ℕ, zero, suc, ◌+◌, ◌≤◌, ◌<◌}
use mathlib.Core.Bool.{Bool, true, false}
use mathlib.Core.List.{List, [], ◌∷◌}
use native.Mathlib.Omega.{arith}
use lib.Dec.{leb, eqb}
use lib.ListN.{length, set, length-set}
use lib.Seq.{get_or-set_same, get_or-set_other}
use borrow.Author.Tests.{leb-true, leb-false, ne_eqb}
use Rattle.page.specs.declared.Item.{Item}
use Rattle.base.specs.Tests.{pick, every}
use Rattle.rules.specs.Rules.{Outcome}
use Rattle.rules.specs.Page.{Cue}
use Rattle.fates.specs.Fields.{item_in}
use Rattle.rules.specs.Terms.{Terms}
use Rattle.session.specs.Layout.{memory_size, parts_at, page_at, clock_at, slots_at, outcomes_at, word_at}
use Rattle.session.specs.Parts.{sounds}
use Rattle.sending.specs.Sending.{slot_by, is_open, settled}
use Rattle.demands.proofs.Slots.{Slot, idle, struck, due, sent, SlotRow, settle, settle_all}
use Rattle.demands.proofs.MemoryAndHistory.Shows.{slot_word, can_sound, Shows, page_end, no_slot, one_slot}

-- ---- one page place

-- The words after a place is settled.
abbrev settled_at : (clock p : ℕ) → List ℕ → List ℕ
settled_at clock p m = pick (is_open m p) (set m (slots_at + p) (slot_by clock (word_at m (outcomes_at + p)))) m

module _ (clock p : ℕ) (m : List ℕ) where
  at_length : length (settled_at clock p m) ≡ length m
  unfolding pick
  at_length = go (is_open m p)
    where
      go : (v : Bool) → length (pick v (set m (slots_at + p) (slot_by clock (word_at m (outcomes_at + p)))) m) ≡ length m
      go true = length-set m (slots_at + p) _
      go false = refl

  at_other : (i : ℕ) → (i ≡ slots_at + p → ⊥) → word_at (settled_at clock p m) i ≡ word_at m i
  unfolding pick
  at_other i h = go (is_open m p)
    where
      go : (v : Bool) → word_at (pick v (set m (slots_at + p) (slot_by clock (word_at m (outcomes_at + p)))) m) i ≡ word_at m i
      go true = get_or-set_other m (slots_at + p) i _ 0 h
      go false = refl

  at_same : slots_at + p < length m → word_at (settled_at clock p m) (slots_at + p) ≡ pick (is_open m p) (slot_by clock (word_at m (outcomes_at + p))) (word_at m (slots_at + p))
  unfolding pick
  at_same h = go (is_open m p)
    where
      go : (v : Bool) → word_at (pick v (set m (slots_at + p) (slot_by clock (word_at m (outcomes_at + p)))) m) (slots_at + p)
          ≡ pick v (slot_by clock (word_at m (outcomes_at + p))) (word_at m (slots_at + p))
      go true = get_or-set_same m (slots_at + p) _ 0 h
      go false = refl

  -- Later places are as open as before.
  at_open : (q : ℕ) → p < q → q < 2048 → is_open (settled_at clock p m) q ≡ is_open m q
  unfolding is_open
  at_open q h g = rw (at_other (page_at + q) (λ e. omega arith), at_other parts_at (λ e. omega arith), at_other (slots_at + q) (λ e. omega arith))

-- ---- the page

settled_before : (clock n p : ℕ) (m : List ℕ) (i : ℕ) → i < slots_at + p → word_at (settled clock n p m) i ≡ word_at m i
unfolding settled
settled_before clock zero p m i h = refl
settled_before clock (suc n) p m i h = settled_before clock n (p + 1) (settled_at clock p m) i (omega arith) ∙ at_other clock p m i (λ e. omega arith)

settled-slot : (clock n p : ℕ) (m : List ℕ) (q : ℕ) → memory_size ≤ length m → p + n ≤ 2048 → p ≤ q → q < p + n
    → word_at (settled clock n p m) (slots_at + q) ≡ pick (is_open m q) (slot_by clock (word_at m (outcomes_at + q))) (word_at m (slots_at + q))
unfolding settled
settled-slot clock zero p m q t f a b = absurd (omega arith)
settled-slot clock (suc n) p m q t f a b =
    go (leb q p) refl (λ h. settled-slot clock n (p + 1) (settled_at clock p m) q (rw (at_length clock p m) t) (omega arith) h (omega arith))
  where
    go : (v : Bool) → leb q p ≡ v
        → (p + 1 ≤ q → word_at (settled clock n (p + 1) (settled_at clock p m)) (slots_at + q)
        ≡ pick (is_open (settled_at clock p m) q) (slot_by clock (word_at (settled_at clock p m) (outcomes_at + q))) (word_at (settled_at clock p m) (slots_at + q)))
        → word_at (settled clock n (p + 1) (settled_at clock p m)) (slots_at + q) ≡ pick (is_open m q) (slot_by clock (word_at m (outcomes_at + q))) (word_at m (slots_at + q))
    go true e ih =
        let same : p ≡ q = omega (arith, leb-true q p e) in
        rw (← same) (settled_before clock n (p + 1) (settled_at clock p m) (slots_at + p) (omega arith) ∙ at_same clock p m (omega arith))
    go false e ih =
        let l : p < q = leb-false q p e in
        rw (← at_open clock p m q l (omega arith), ← at_other clock p m (slots_at + q) (λ z. omega arith), ← at_other clock p m (outcomes_at + q) (λ z. omega arith)) (ih (omega arith))

-- ---- along the page

-- At the page place of each action that can sound stands a word that says what becomes of it.
pub data Told (S : ℕ → Bool) (clock : ℕ) (m : List ℕ) : ℕ → List Item → List Cue → Type 0 where
  end_told : {p : ℕ} → Told S clock m p [] []
  told_over : {p : ℕ} {x : Item} {is : List Item} {cs : List Cue} → can_sound S x ≡ false → Told S clock m (p + 1) is cs → Told S clock m p (x ∷ is) cs
  told_one : {p : ℕ} {x : Item} {is : List Item} {c : Cue} {cs : List Cue} → can_sound S x ≡ true
      → slot_by clock (word_at m (outcomes_at + p)) ≡ slot_word (settle clock idle c.outcome)
      → Told S clock m (p + 1) is cs
      → Told S clock m p (x ∷ is) (c ∷ cs)

every-third : (a b c : Bool) → every (a ∷ b ∷ c ∷ []) ≡ pick (every (a ∷ b ∷ [])) c false
unfolding every pick
every-third true true true = refl
every-third true true false = refl
every-third true false c = refl
every-third false b c = refl

-- A slot is open where its action can sound and nothing is in it.
open_is : (m : List ℕ) (p : ℕ) (o : Terms) (x : Item) → word_at m parts_at ≡ o.parts → item_in (word_at m (page_at + p)) ≡ x
    → is_open m p ≡ pick (can_sound (sounds o.parts) x) (eqb (word_at m (slots_at + p)) 0) false
unfolding is_open can_sound
open_is m p o x b e = rw (b, e) (every-third _ _ _)

settled-word : (clock w : ℕ) (z : Slot) (o : Outcome) → slot_by clock w ≡ slot_word (settle clock idle o)
    → pick (eqb (slot_word z) 0) (slot_by clock w) (slot_word z) ≡ slot_word (settle clock z o)
unfolding slot_word settle pick
settled-word clock w idle o e = e
settled-word clock w struck o e = refl
settled-word clock w sent o e = refl
settled-word clock w (due x) o e = rw (ne_eqb (3 + x) 0 (λ q. omega arith))

module _ (o : Terms) (clock : ℕ) (m m' : List ℕ) (parts : word_at m parts_at ≡ o.parts) (page : (i : ℕ) → i < clock_at → word_at m' i ≡ word_at m i) where
  rows_settled : {p : ℕ} {is : List Item} {rs : List SlotRow} {cs : List Cue} → p + length is ≤ 2048
      → ((q : ℕ) → p ≤ q → q < p + length is → word_at m' (slots_at + q) ≡ pick (is_open m q) (slot_by clock (word_at m (outcomes_at + q))) (word_at m (slots_at + q)))
      → Shows (sounds o.parts) m p is rs
      → Told (sounds o.parts) clock m p is cs
      → Shows (sounds o.parts) m' p is (settle_all clock rs cs)
  unfolding settle_all pick
  rows_settled f slots page_end end_told = page_end
  rows_settled {p} f slots (no_slot {x = x} a b c s) (told_over d t) =
      let shut : is_open m p ≡ false = open_is m p o x parts a ∙ rw b in
      no_slot (ap item_in (page (page_at + p) (omega arith)) ∙ a) b (slots p (omega arith) (omega arith) ∙ rw shut c)
      (rows_settled (omega arith) (λ q h g. slots q (omega arith) (omega arith)) s t)
  rows_settled {p} f slots (one_slot {x = x} {r = w} a b c d s) (told_one {c = u} e g t) =
      let open' : is_open m p ≡ eqb (slot_word w.slot) 0 = open_is m p o x parts a ∙ rw (b, d) in
      one_slot {r = record { place = w.place; part = w.part; message = w.message; slot = settle clock w.slot u.outcome }}
      (ap item_in (page (page_at + p) (omega arith)) ∙ a) b c
      (slots p (omega arith) (omega arith) ∙ (rw (open', d) (settled-word clock (word_at m (outcomes_at + p)) w.slot u.outcome g)))
      (rows_settled (omega arith) (λ q h k. slots q (omega arith) (omega arith)) s t)
  rows_settled f slots (no_slot {x = x} a b c s) (told_one d e t) = let z : ◌≡◌ {A = Bool} true false = sym d ∙ b in let y : ◌≡◌ {A = ℕ} 0 1 = cc in absurd (omega arith)
  rows_settled f slots (one_slot {x = x} a b c d s) (told_over e t) = let z : ◌≡◌ {A = Bool} true false = sym b ∙ e in let y : ◌≡◌ {A = ℕ} 0 1 = cc in absurd (omega arith)

pub settled-rows : (o : Terms) (clock : ℕ) (m : List ℕ) {is : List Item} {rs : List SlotRow} {cs : List Cue} → word_at m parts_at ≡ o.parts → memory_size ≤ length m → length is ≤ 2048
    → Shows (sounds o.parts) m 0 is rs
    → Told (sounds o.parts) clock m 0 is cs
    → Shows (sounds o.parts) (settled clock (length is) 0 m) 0 is (settle_all clock rs cs)
settled-rows o clock m {is} b t f s d =
    rows_settled o clock m _ b (λ i h. settled_before clock (length is) 0 m i (omega arith)) (omega arith)
    (λ q h g. settled-slot clock (length is) 0 m q t (omega arith) h g) s d
