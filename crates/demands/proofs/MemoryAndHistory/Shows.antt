-- What the slot words of a session say: at the page place of each sounding part's action its slot, and 0 at every other place. What a call leaves alone keeps it.
-- Assumes nothing.
use mathlib.Core.Path.{◌≡◌, ap, ◌∙◌}
use Prim.Native.Nat.{ℕ, ◌+◌, ◌*◌, ◌≤◌, ◌<◌}
use mathlib.Core.Bool.{Bool, true, false}
use mathlib.Core.List.{List, [], ◌∷◌}
use native.Mathlib.Omega.{arith}
use lib.Dec.{eqb}
use lib.ListN.{length}
use Rattle.page.specs.declared.Item.{Item}
use Rattle.base.specs.Tests.{pick, every}
use Rattle.rules.specs.Written.{Written, written}
use Rattle.fates.specs.Fields.{item_in}
use Rattle.session.specs.Layout.{page_at, clock_at, slots_at, word_at}
use Rattle.sending.specs.Sending.{message_word}
use Rattle.demands.proofs.Slots.{Slot, idle, struck, due, sent, SlotRow}

-- "0 not decided, 1 dropped, 2 sent, 3 and the due date waiting"
unfoldable pub slot_word : Slot → ℕ
slot_word idle = 0
slot_word struck = 1
slot_word sent = 2
slot_word (due x) = 3 + x

-- An action of a sounding part.
unfoldable pub can_sound : (ℕ → Bool) → Item → Bool
can_sound S x = every (eqb x.kind 0 ∷ S x.part ∷ [])

-- The actions that can sound of these items, the first of which stands at page place p.
unfoldable pub actions_from : (ℕ → Bool) → ℕ → List Item → List Written
actions_from S p [] = []
actions_from S p (x ∷ is) = pick (can_sound S x) (written p x.part x.last ∷ actions_from S (p + 1) is) (actions_from S (p + 1) is)

-- The page places from p on, where these items stand, show the rows of those that can sound.
pub data Shows (S : ℕ → Bool) (m : List ℕ) : ℕ → List Item → List SlotRow → Type 0 where
  page_end : {p : ℕ} → Shows S m p [] []
  no_slot : {p : ℕ} {x : Item} {is : List Item} {rs : List SlotRow} → item_in (word_at m (page_at + p)) ≡ x → can_sound S x ≡ false → word_at m (slots_at + p) ≡ 0
      → Shows S m (p + 1) is rs
      → Shows S m p (x ∷ is) rs
  one_slot : {p : ℕ} {x : Item} {is : List Item} {r : SlotRow} {rs : List SlotRow} → item_in (word_at m (page_at + p)) ≡ x → can_sound S x ≡ true
      → r.part * 65536 + r.message ≡ message_word x
      → word_at m (slots_at + p) ≡ slot_word r.slot
      → Shows S m (p + 1) is rs
      → Shows S m p (x ∷ is) (r ∷ rs)

module _ {S : ℕ → Bool} {m : List ℕ} (m' : List ℕ) (page : (i : ℕ) → i < clock_at → word_at m' i ≡ word_at m i) where
  pub shows_kept : {p : ℕ} {is : List Item} {rs : List SlotRow} → ((q : ℕ) → p ≤ q → q < 2048 → word_at m' (slots_at + q) ≡ word_at m (slots_at + q))
      → p + length is ≤ 2048
      → Shows S m p is rs
      → Shows S m' p is rs
  shows_kept slots f page_end = page_end
  shows_kept {p} slots f (no_slot a b c r) =
      no_slot (ap item_in (page (page_at + p) (omega arith)) ∙ a) b (slots p (omega arith) (omega arith) ∙ c)
      (shows_kept (λ q h g. slots q (omega arith) g) (omega arith) r)
  shows_kept {p} slots f (one_slot {r = w} a b c d r) =
      one_slot {r = w} (ap item_in (page (page_at + p) (omega arith)) ∙ a) b c (slots p (omega arith) (omega arith) ∙ d)
      (shows_kept (λ q h g. slots q (omega arith) g) (omega arith) r)
