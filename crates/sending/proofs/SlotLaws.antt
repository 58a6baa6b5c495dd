-- The steps by which slots are settled: each return of the code is one case of the definition.
-- Assumes nothing.
use Rattle.std.proofs.Common.{◌≡◌, ℕ, zero, suc, ◌+◌, ◌-◌, ◌*◌, ◌/◌, ◌%◌, ◌^◌, ◌<◌, ◌≤◌, Bool, true, false, not, eqb, List, [], ◌∷◌, set, refl, div-one, arith, eq-eqb, ne_eqb}
use native.Mathlib.Nat.{pow-succ', div-div-eq-div-mul}
use Rattle.page.specs.declared.Item.{Item}
use Rattle.base.specs.Tests.{pick, every}
use Rattle.base.proofs.TestLaws.{told-true, told-false, pick_true, pick-false}
use Rattle.fates.specs.Fields.{item_in}
use Rattle.units.specs.declared.Thousandths.{Thousandths}
use Rattle.units.specs.Units.{on_clock}
use Rattle.session.specs.Layout.{parts_at, page_at, slots_at, outcomes_at, word_at}
use Rattle.session.specs.Parts.{halvings, sounds}
use Rattle.sending.specs.Sending.{slot_by, is_open, settled}

-- ---- a bit of the part bits

halvings-shift : (p x : ℕ) → x / 2 ^ p ≡ halvings p x
unfolding halvings
halvings-shift zero x = div-one x
halvings-shift (suc p) x = rw (pow-succ' 2 p, ← div-div-eq-div-mul x 2 (2 ^ p)) (halvings-shift p (x / 2))

pub sounds-bit : (bits p : ℕ) → eqb (bits / 2 ^ p % 2) 1 ≡ sounds bits p
unfolding sounds
sounds-bit bits p = rw (halvings-shift p bits)

-- ---- the slot of an outcome

pub slot-open : (clock outcome : ℕ) → outcome ≡ 0 → 0 ≡ slot_by clock outcome
unfolding slot_by
slot-open clock outcome e = rw e

pub slot-dropped : (clock outcome : ℕ) → outcome ≡ 1 → 1 ≡ slot_by clock outcome
unfolding slot_by
slot-dropped clock outcome e = rw e

slot-waits : (clock outcome : ℕ) → (outcome ≡ 0 → ⊥) → (outcome ≡ 1 → ⊥) → 3 + (clock + 1000 * ((outcome - 2) % 34359738368)) ≡ slot_by clock outcome
unfolding slot_by
slot-waits clock zero p q = absurd (p refl)
slot-waits clock (suc zero) p q = absurd (q refl)
slot-waits clock (suc (suc d)) p q =
    let e : suc (suc d) - 2 ≡ d = omega arith in
    rw e

pub slot-played : (clock outcome : ℕ) (wait : Thousandths) → (outcome ≡ 0 → ⊥) → (outcome ≡ 1 → ⊥) → wait ≡ on_clock (record { 0 = (outcome - 2) % 34359738368 })
    → 3 + (clock + wait.0) ≡ slot_by clock outcome
slot-played clock outcome wait p q e = rw e (slot-waits clock outcome p q)

pub wait-small : (wait : Thousandths) (d : ℕ) → wait ≡ on_clock (record { 0 = d % 34359738368 }) → wait.0 < 34359738368000
wait-small wait d e = rw e (omega arith)

-- ---- the slots, place after place

pub open-group : (m : List ℕ) (p : ℕ) (i : Item) → i ≡ item_in (word_at m (page_at + p)) → (i.kind ≡ 0 → ⊥) → false ≡ is_open m p
unfolding is_open every
open-group m p i e h = rw (← e, ne_eqb i.kind 0 h)

pub open-silent : (m : List ℕ) (p : ℕ) (i : Item) (b : Bool) → i ≡ item_in (word_at m (page_at + p)) → i.kind ≡ 0 → b ≡ sounds (word_at m parts_at) i.part → not b ≡ true
    → false ≡ is_open m p
unfolding is_open every
open-silent m p i true e k s h = let z : ◌≡◌ {A = ℕ} 0 1 = cc in absurd (omega arith)
open-silent m p i false e k s h = rw (← e, eq-eqb i.kind 0 k, ← s)

pub open-slot : (m : List ℕ) (p : ℕ) (i : Item) (b : Bool) → i ≡ item_in (word_at m (page_at + p)) → i.kind ≡ 0 → b ≡ sounds (word_at m parts_at) i.part → not b ≡ false
    → eqb (word_at m (slots_at + p)) 0 ≡ is_open m p
unfolding is_open every
open-slot m p i false e k s h = let z : ◌≡◌ {A = ℕ} 0 1 = cc in absurd (omega arith)
open-slot m p i true e k s h = rw (← e, eq-eqb i.kind 0 k, ← s) (last (eqb (word_at m (slots_at + p)) 0))
  where
    last : (b : Bool) → b ≡ every (b ∷ [])
    last true = refl
    last false = refl

pub place-left : (m x : List ℕ) (p : ℕ) (b : Bool) → b ≡ is_open m p → not b ≡ true → m ≡ pick (is_open m p) x m
place-left m x p b e h = pick-false (is_open m p) m x m (told-false b (is_open m p) e h) refl

pub place_set : (m : List ℕ) (clock p s : ℕ) (b : Bool) → b ≡ is_open m p → not b ≡ false → s ≡ slot_by clock (word_at m (outcomes_at + p))
    → set m (slots_at + p) s ≡ pick (is_open m p) (set m (slots_at + p) (slot_by clock (word_at m (outcomes_at + p)))) m
place_set m clock p s b e h q = pick_true (is_open m p) _ _ m (told-true b (is_open m p) e h) (rw q)

-- What is owed after a place is settled is what was owed before it.
pub settled-step : (m m' W : List ℕ) (clock count p : ℕ) → p < count → settled clock (count - p) p m ≡ W
    → m' ≡ pick (is_open m p) (set m (slots_at + p) (slot_by clock (word_at m (outcomes_at + p)))) m
    → settled clock (count - (p + 1)) (p + 1) m' ≡ W
unfolding settled
settled-step m m' W clock count p h w e =
    let s : count - p ≡ suc (count - (p + 1)) = omega arith in
    rw e (rw s at w)

pub settled-end : (m W : List ℕ) (clock count p : ℕ) → count ≤ p → settled clock (count - p) p m ≡ W → m ≡ W
unfolding settled
settled-end m W clock count p h w =
    let s : count - p ≡ 0 = omega arith in
    rw s at w

pub settled-start : (m : List ℕ) (clock count : ℕ) → settled clock (count - 0) 0 m ≡ settled clock count 0 m
settled-start m clock count =
    let s : count - 0 ≡ count = omega arith in
    rw s
