-- Sending over words is sending over rows: what is due among the slot words is what the rows give, and the words then show the rows as sent.
-- The bound of the send room never binds, since the rows are no more. Assumes nothing.
use mathlib.Core.Path.{◌≡◌, refl, ap, sym, ◌∙◌}
use Prim.Native.Nat.{ℕ, zero, suc, ◌+◌, ◌-◌, ◌*◌, ◌≤◌, ◌<◌}
use mathlib.Core.Bool.{Bool, true, false}
use mathlib.Core.List.{List, [], ◌∷◌, map}
use native.Mathlib.Omega.{arith}
use lib.Dec.{leb}
use lib.ListN.{length, set, length-set}
use lib.Seq.{get_or-set_same, get_or-set_other}
use borrow.Author.Tests.{leb-true, leb-false, le-leb, lt-leb}
use Rattle.page.specs.declared.Item.{Item}
use Rattle.base.specs.Tests.{pick, every}
use Rattle.fates.specs.Fields.{item_in}
use Rattle.session.specs.Layout.{memory_size, page_at, slots_at, word_at}
use Rattle.sending.specs.Sending.{is_due, message_at, due_from, fired_from}
use Rattle.sending.proofs.DueLaws.{due-cons, due-over, fired-cons, fired-over}
use Rattle.demands.specs.Messages.{Sent}
use Rattle.demands.specs.Answers.{message_of}
use Rattle.demands.proofs.Slots.{Slot, idle, struck, due, sent, SlotRow, fire, fire_all, fired, collect}
use Rattle.demands.proofs.MemoryAndHistory.Shows.{slot_word, Shows, page_end, no_slot, one_slot, shows_kept}

-- ---- one slot

-- Whether a slot is due.
ripe : (clock : ℕ) → Slot → Bool
ripe c idle = false
ripe c struck = false
ripe c sent = false
ripe c (due x) = leb x c

waits-due : (clock x : ℕ) (v : Bool) → leb x clock ≡ v → is_due clock (3 + x) ≡ v
unfolding is_due every
waits-due clock x true e = rw (le-leb 3 (3 + x) (omega arith), le-leb (3 + x) (clock + 3) (omega (arith, leb-true x clock e)))
waits-due clock x false e = rw (le-leb 3 (3 + x) (omega arith), lt-leb (3 + x) (clock + 3) (omega (arith, leb-false x clock e)))

word-due : (clock : ℕ) (z : Slot) → is_due clock (slot_word z) ≡ ripe clock z
unfolding slot_word ripe is_due every
word-due clock idle = refl
word-due clock struck = refl
word-due clock sent = refl
word-due clock (due x) = waits-due clock x _ refl

none-due : (clock : ℕ) → is_due clock 0 ≡ false
unfolding is_due every
none-due clock = refl

-- What is fired of a row: its message where it is due, and nothing else.
fired-yes : (clock : ℕ) (w : SlotRow) (z : Slot) (l : List Sent) → ripe clock z ≡ true
    → map message_of (fired clock w z l) ≡ record { due = slot_word z - 3; word = w.part * 65536 + w.message } ∷ map message_of l
unfolding ripe fired slot_word message_of pick
fired-yes clock w idle l e = let z : ◌≡◌ {A = ℕ} 0 1 = cc in absurd (omega arith)
fired-yes clock w struck l e = let z : ◌≡◌ {A = ℕ} 0 1 = cc in absurd (omega arith)
fired-yes clock w sent l e = let z : ◌≡◌ {A = ℕ} 0 1 = cc in absurd (omega arith)
fired-yes clock w (due x) l e = let d : 3 + x - 3 ≡ x = omega arith in rw (e, d)

fired-no : (clock : ℕ) (w : SlotRow) (z : Slot) (l : List Sent) → ripe clock z ≡ false → fired clock w z l ≡ l
unfolding ripe fired pick
fired-no clock w idle l e = refl
fired-no clock w struck l e = refl
fired-no clock w sent l e = refl
fired-no clock w (due x) l e = rw e

fire-yes : (clock : ℕ) (z : Slot) → ripe clock z ≡ true → slot_word (fire clock z) ≡ 2
unfolding ripe fire slot_word pick
fire-yes clock idle e = let z : ◌≡◌ {A = ℕ} 0 1 = cc in absurd (omega arith)
fire-yes clock struck e = let z : ◌≡◌ {A = ℕ} 0 1 = cc in absurd (omega arith)
fire-yes clock sent e = let z : ◌≡◌ {A = ℕ} 0 1 = cc in absurd (omega arith)
fire-yes clock (due x) e = rw e

fire-no : (clock : ℕ) (z : Slot) → ripe clock z ≡ false → fire clock z ≡ z
unfolding ripe fire pick
fire-no clock idle e = refl
fire-no clock struck e = refl
fire-no clock sent e = refl
fire-no clock (due x) e = rw e

-- ---- the page

-- Firing leaves alone what stands before.
fired-before : (clock r n p : ℕ) (m : List ℕ) (i : ℕ) → i < slots_at + p → word_at (fired_from clock r n p m) i ≡ word_at m i
unfolding fired_from
fired-before clock zero n p m i h = refl
fired-before clock (suc r) zero p m i h = refl
fired-before clock (suc r) (suc n) p m i h =
    go (is_due clock (word_at m (slots_at + p))) refl (fired-before clock r n (p + 1) (set m (slots_at + p) 2) i (omega arith))
    (fired-before clock (suc r) n (p + 1) m i (omega arith))
  where
    go : (v : Bool) → is_due clock (word_at m (slots_at + p)) ≡ v → word_at (fired_from clock r n (p + 1) (set m (slots_at + p) 2)) i ≡ word_at (set m (slots_at + p) 2) i
        → word_at (fired_from clock (suc r) n (p + 1) m) i ≡ word_at m i
        → word_at (fired_from clock (suc r) (suc n) p m) i ≡ word_at m i
    go true e a b = rw (fired-cons clock m r n p e) (a ∙ get_or-set_other m (slots_at + p) i 2 0 (λ q. omega arith))
    go false e a b = rw (fired-over clock m r n p e) b

none-collected : (clock : ℕ) (rs : List SlotRow) → length rs ≤ 0 → collect clock rs ≡ []
unfolding collect
none-collected clock [] h = refl
none-collected clock (r ∷ rs) h = absurd (omega arith)

none-fired : (clock : ℕ) (rs : List SlotRow) → length rs ≤ 0 → fire_all clock rs ≡ rs
unfolding fire_all
none-fired clock [] h = refl
none-fired clock (r ∷ rs) h = absurd (omega arith)

module _ {S : ℕ → Bool} (clock : ℕ) where
  pub due-rows : {m : List ℕ} (r : ℕ) {p : ℕ} {is : List Item} {rs : List SlotRow} → Shows S m p is rs → length rs ≤ r
      → due_from clock r (length is) p m ≡ map message_of (collect clock rs)
  unfolding due_from collect message_at
  due-rows zero {rs = rs} s l = rw (none-collected clock rs l)
  due-rows (suc r) page_end l = refl
  due-rows {m} (suc r) {p} (no_slot {is = is} a b c s) l =
      let e : is_due clock (word_at m (slots_at + p)) ≡ false = ap (is_due clock) c ∙ none-due clock in
      due-over clock m r (length is) p e ∙ due-rows (suc r) s l
  due-rows {m} (suc r) {p} (one_slot {is = is} {r = w} {rs = rs} a b c d s) l =
      go (ripe clock w.slot) refl (due-rows r s (omega arith)) (due-rows (suc r) s (omega arith))
    where
      told : (v : Bool) → ripe clock w.slot ≡ v → is_due clock (word_at m (slots_at + p)) ≡ v
      told v e = ap (is_due clock) d ∙ (word-due clock w.slot ∙ e)

      message : message_at m p ≡ record { due = slot_word w.slot - 3; word = w.part * 65536 + w.message }
      message = rw (d, a, c)

      go : (v : Bool) → ripe clock w.slot ≡ v
          → due_from clock r (length is) (p + 1) m ≡ map message_of (collect clock rs)
          → due_from clock (suc r) (length is) (p + 1) m ≡ map message_of (collect clock rs)
          → due_from clock (suc r) (suc (length is)) p m ≡ map message_of (collect clock (w ∷ rs))
      go true e f g = due-cons clock m r (length is) p (told true e) ∙ rw (message, f, fired-yes clock w w.slot (collect clock rs) e)
      go false e f g = due-over clock m r (length is) p (told false e) ∙ rw (fired-no clock w w.slot (collect clock rs) e) g

  module _ (m : List ℕ) (long : memory_size ≤ length m) where
    shows-set : (p : ℕ) {is : List Item} {rs : List SlotRow} → p + 1 + length is ≤ 2048 → Shows S m (p + 1) is rs → Shows S (set m (slots_at + p) 2) (p + 1) is rs
    shows-set p f s =
        shows_kept (set m (slots_at + p) 2) (λ i h. get_or-set_other m (slots_at + p) i 2 0 (λ q. omega arith))
        (λ q h g. get_or-set_other m (slots_at + p) (slots_at + q) 2 0 (λ e. omega arith)) f s

  pub fired-rows : (m : List ℕ) (r : ℕ) {p : ℕ} {is : List Item} {rs : List SlotRow} → memory_size ≤ length m → p + length is ≤ 2048 → Shows S m p is rs → length rs ≤ r
      → Shows S (fired_from clock r (length is) p m) p is (fire_all clock rs)
  unfolding fired_from fire_all
  fired-rows m zero {rs = rs} t f s l = rw (none-fired clock rs l) s
  fired-rows m (suc r) t f page_end l = page_end
  fired-rows m (suc r) {p} t f (no_slot {is = is} a b c s) l =
      let e : is_due clock (word_at m (slots_at + p)) ≡ false = ap (is_due clock) c ∙ none-due clock in
      rw (fired-over clock m r (length is) p e)
      (no_slot (ap item_in (fired-before clock (suc r) (length is) (p + 1) m (page_at + p) (omega arith)) ∙ a) b
      (fired-before clock (suc r) (length is) (p + 1) m (slots_at + p) (omega arith) ∙ c)
      (fired-rows m (suc r) t (omega arith) s l))
  fired-rows m (suc r) {p} t f (one_slot {x = x} {is = is} {r = w} {rs = rs} a b c d s) l =
      go (ripe clock w.slot) refl
      (fired-rows (set m (slots_at + p) 2) r (rw (length-set m (slots_at + p) 2) t) (omega arith) (shows-set m t p (omega arith) s) (omega arith))
      (fired-rows m (suc r) t (omega arith) s (omega arith))
    where
      told : (v : Bool) → ripe clock w.slot ≡ v → is_due clock (word_at m (slots_at + p)) ≡ v
      told v e = ap (is_due clock) d ∙ (word-due clock w.slot ∙ e)

      go : (v : Bool) → ripe clock w.slot ≡ v
          → Shows S (fired_from clock r (length is) (p + 1) (set m (slots_at + p) 2)) (p + 1) is (fire_all clock rs)
          → Shows S (fired_from clock (suc r) (length is) (p + 1) m) (p + 1) is (fire_all clock rs)
          → Shows S (fired_from clock (suc r) (suc (length is)) p m) p (x ∷ is) (fire_all clock (w ∷ rs))
      go true e ih rest =
          let m'' : List ℕ = set m (slots_at + p) 2 in
          let same : word_at m'' (slots_at + p) ≡ 2 = get_or-set_same m (slots_at + p) 2 0 (omega arith) in
          let front : word_at m'' (page_at + p) ≡ word_at m (page_at + p) = get_or-set_other m (slots_at + p) (page_at + p) 2 0 (λ q. omega arith) in
          rw (fired-cons clock m r (length is) p (told true e))
          (one_slot (ap item_in (fired-before clock r (length is) (p + 1) m'' (page_at + p) (omega arith) ∙ front) ∙ a) b c
          (fired-before clock r (length is) (p + 1) m'' (slots_at + p) (omega arith) ∙ (same ∙ sym (fire-yes clock w.slot e)))
          ih)
      go false e ih rest =
          rw (fired-over clock m r (length is) p (told false e))
          (one_slot (ap item_in (fired-before clock (suc r) (length is) (p + 1) m (page_at + p) (omega arith)) ∙ a) b c
          (fired-before clock (suc r) (length is) (p + 1) m (slots_at + p) (omega arith) ∙ (d ∙ ap slot_word (sym (fire-no clock w.slot e))))
          rest)
