-- The runs of the item table: which items go on with a sequence, one by one.
-- Assumes nothing.
use mathlib.Core.Path.{◌≡◌, sym, ap, ◌∙◌}
use mathlib.Core.Bool.{Bool, true, false, not}
use mathlib.Core.List.{List, []}
use Prim.Native.Nat.{ℕ, suc, ◌+◌, ◌-◌, ◌≤◌, ◌<◌}
use native.Mathlib.Omega.{arith}
use lib.Dec.{eqb}
use lib.ListN.{length, get_or, drop, drop_of_length-le}
use lib.Seq.{get_or-take}
use borrow.Author.Tests.{eq-eqb, ne_eqb, not-true, not-false}
use borrow.Author.Rules.{rules}
use Rattle.page.specs.declared.Item.{Item}
use Rattle.base.specs.Tests.{pick}
use Rattle.rules.specs.Page.{goes_on, run_length}
use Rattle.fates.specs.declared.Places.{Places}
use Rattle.fates.specs.Fields.{item_in}
use Rattle.fates.specs.Places.{PlacesFit, items_in}
use Rattle.evaluators.specs.Inner.{item_word_at}
use Rattle.evaluators.proofs.SequenceLaws.{items_count, items-from}

module _ (w i p : ℕ) (x : Item) (is : x ≡ item_in w) where
  pub within-goes-on : x.event ≡ 0 → true ≡ goes_on i p (item_in w)
  unfolding goes_on pick
  within-goes-on e = rw (← is, eq-eqb x.event 0 e)

  pub same-goes-on : (x.event ≡ 0 → ⊥) → x.event ≡ i → eqb x.part p ≡ goes_on i p (item_in w)
  unfolding goes_on pick
  same-goes-on h e = rw (← is, ne_eqb x.event 0 h, eq-eqb x.event i e)

  pub other-stops : (x.event ≡ 0 → ⊥) → (x.event ≡ i → ⊥) → false ≡ goes_on i p (item_in w)
  unfolding goes_on pick
  other-stops h e = rw (← is, ne_eqb x.event 0 h, ne_eqb x.event i e)

-- the word of an item that is looked at
pub word_in : (t : Places) (m : List ℕ) (p : ℕ) → PlacesFit t (length m) → p < t.size → get_or m (t.items + p) 0 ≡ item_word_at t m p
unfolding item_word_at
word_in t m p places h = sym (get_or-take t.outcomes m (t.items + p) 0 (omega arith))

module _ (t : Places) (m : List ℕ) (at n i p W : ℕ) (places : PlacesFit t (length m)) (so_far : n + run_length i p (drop (at + n) (items_in t m)) ≡ W) where
  module _ (b : Bool) (inside : at + n < t.size) (is : b ≡ goes_on i p (item_in (get_or m (t.items + (at + n)) 0))) where
    goes : b ≡ goes_on i p (item_in (item_word_at t m (at + n)))
    goes = is ∙ ap (λ (w : ℕ). goes_on i p (item_in w)) (word_in t m (at + n) places inside)

    pub run-stops : not b ≡ true → n ≡ W
    unfolding run_length pick
    run-stops h =
        let e : goes_on i p (item_in (item_word_at t m (at + n))) ≡ false = sym goes ∙ not-true b h in
        let z : n + run_length i p (drop (at + n) (items_in t m)) ≡ n + 0 = rw (items-from t m (at + n) places inside, e) in
        omega arith

    pub run-goes : not b ≡ false → n + 1 + run_length i p (drop (at + (n + 1)) (items_in t m)) ≡ W
    unfolding run_length pick
    run-goes h =
        let e : goes_on i p (item_in (item_word_at t m (at + n))) ≡ true = sym goes ∙ not-false b h in
        let a : at + (n + 1) ≡ suc (at + n) = omega arith in
        let z : n + run_length i p (drop (at + n) (items_in t m)) ≡ n + suc (run_length i p (drop (suc (at + n)) (items_in t m))) = rw (items-from t m (at + n) places inside, e) in
        rw a (omega arith)

  pub run_ends : at + n ≤ t.size → t.size ≤ at + n → t.size - at ≡ W
  unfolding run_length
  run_ends within h =
      let l : length (items_in t m) ≤ at + n = rw (items_count t m places) h in
      let e : drop (at + n) (items_in t m) ≡ [] = drop_of_length-le (items_in t m) l in
      let z : n + run_length i p (drop (at + n) (items_in t m)) ≡ n + 0 = rw e in
      omega arith

pub run-begins : (t : Places) (m : List ℕ) (at i p : ℕ) → 0 + run_length i p (drop (at + 0) (items_in t m)) ≡ run_length i p (drop at (items_in t m))
run-begins t m at i p =
    let e : at + 0 ≡ at = omega arith in
    rw e (omega arith)

pub ruleset going = (within-goes-on, same-goes-on, other-stops, rules)

pub ruleset running = (run-begins, run-stops, run-goes, run_ends, rules)
