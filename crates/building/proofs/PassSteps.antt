-- The steps of a loop and of its passes, in the code's own terms.
-- Assumes nothing.
use mathlib.Core.Path.{◌≡◌, sym, ap, ◌∙◌}
use mathlib.Core.List.{List, [], ◌∷◌}
use Prim.Native.Nat.{ℕ, suc, ◌+◌, ◌-◌, ◌*◌, ◌<◌, ◌≤◌}
use native.Mathlib.Nat.{mul-le-mul_right, suc-mul, mul-add, mul-one}
use native.Mathlib.Omega.{arith}
use lib.ListN.{length}
use borrow.Author.Rules.{rules}
use Rattle.page.specs.declared.Item.{Item}
use Rattle.ascii.specs.Laying.{Laid}
use Rattle.ascii.proofs.LayLaws.{laid-join, laid-nothing}
use Rattle.contents.specs.Limits.{item_size, most_items, most_actions, deepest}
use Rattle.score.specs.Encode.{item_bytes}
use Rattle.unfolding.specs.Unfolded.{Unfolded, end, group, pass_item, group_item, passes, items, actions, depth, page}
use Rattle.unfolding.proofs.CountLaws.{passes-items, passes-actions, passes-depth}
use Rattle.building.specs.Inner.{page_bytes, delay_of, Buildable}
use Rattle.building.proofs.PageLaws.{bytes-length, passes-more}
use Rattle.building.proofs.PieceSteps.{delay-first, delay-next}
use Rattle.building.proofs.TableSteps.{sized}
use Rattle.building.proofs.ItemSteps.{fitting, group-laid-alone}

-- ---- a loop

pub positive : (n : ℕ) → (n ≡ 0 → ⊥) → 0 < n
positive n p = omega arith

module _ (i : Item) (each : ℕ) (b : Unfolded) (size to d times : ℕ) (m : Buildable size to d (passes i each 0 times b)) (some : 0 < times) where
  passes-most : times + times * items b ≤ most_items
  passes-most = let f = m.few in let e = passes-items i each 0 times b in omega arith

  pub pass-product : (n : ℕ) → n ≡ items b → times + times * n ≤ most_items
  pass-product n e = rw e passes-most

  pub pass-few : items b ≤ most_items
  pass-few =
      let p = passes-most in
      let l : 1 * items b ≤ times * items b = mul-le-mul_right (items b) some in
      omega arith

  pub pass-sent : actions b ≤ most_actions
  pass-sent =
      let f = m.sent in
      let e = passes-actions i each 0 times b in
      let l : 1 * actions b ≤ times * actions b = mul-le-mul_right (actions b) some in
      omega arith

  pub pass-flat : d + (1 + depth b) ≤ deepest
  pass-flat = let f = m.flat in let e = passes-depth i each 0 times b some in omega arith

module _ (i : Item) (each : ℕ) (b : Unfolded) (o m : List ℕ) (to at : ℕ) where
  pub no-pass-laid : (times : ℕ) → times ≡ 0 → Laid o to (item_bytes (group_item i 0 ∷ [])) m at → Laid o to (page_bytes (group i (passes i each 0 times b) end)) m at
  unfolding passes items page item_bytes
  no-pass-laid times z l = rw z l

  pub passes-laid : (times n : ℕ) (p : List ℕ) (r : ℕ) → n ≡ items b → Laid o to (item_bytes (group_item i (times + times * n) ∷ [])) m at → Laid m at (page_bytes (passes i each 0 times b)) p r
      → Laid o to (page_bytes (group i (passes i each 0 times b) end)) p r
  passes-laid times n p r e k l =
      let s : times + times * n ≡ items (passes i each 0 times b) = ap (λ (x : ℕ). times + times * x) e ∙ sym (passes-items i each 0 times b) in
      group-laid-alone i (passes i each 0 times b) (times + times * n) o m p to at r s k l

-- ---- the passes of a loop

module _ (i : Item) (each : ℕ) (b : Unfolded) (o : List ℕ) (to d times : ℕ) (asked : Buildable (length o) to d (passes i each 0 times b)) where
  pub passes-start : Laid o to (page_bytes (passes i each 0 0 b)) o to
  unfolding passes page item_bytes
  passes-start = let r = asked.room in laid-nothing o to (omega arith)

  -- what is left to lay, in items
  pub passes-room : to + item_size * ((times - 0) * (1 + items b)) ≤ length o
  passes-room =
      let z : times - 0 ≡ times = omega arith in
      let r = asked.room in
      let e = passes-items i each 0 times b in
      let f = mul-add times 1 (items b) in
      let g = mul-one times in
      rw z (omega arith)

one_less : (times p x : ℕ) → p < times → (times - p) * x ≡ x + (times - (p + 1)) * x
one_less times p x l =
    let s : times - p ≡ suc (times - (p + 1)) = omega arith in
    rw s (suc-mul (times - (p + 1)) x ∙ omega arith)

module _ (i : Item) (each : ℕ) (b : Unfolded) (o m : List ℕ) (to at times p : ℕ) (laid : Laid o to (page_bytes (passes i each 0 p b)) m at) where
  module _ (l : p < times) (room : at + item_size * ((times - p) * (1 + items b)) ≤ length o) where
    pub pass-room : at + item_size ≤ length m
    pass-room = let e = one_less times p (1 + items b) l in let s : length m ≡ length o = laid.size in omega arith

    pub pass-made : (d : ℕ) (m₁ : List ℕ) (at₁ : ℕ) (g : Item) → Buildable (length o) to d (passes i each 0 times b) → Laid m at (item_bytes (g ∷ [])) m₁ at₁ → at₁ ≡ at + item_size
        → Buildable (length m₁) at₁ (d + 1) b
    pass-made d m₁ at₁ g asked q v =
        let e = one_less times p (1 + items b) l in
        let s : length m ≡ length o = laid.size in
        let u : length m₁ ≡ length m = q.size in
        let some : 0 < times = omega arith in
        let f = pass-flat i each b (length o) to d times asked some in
        record { room = omega arith; few = pass-few i each b (length o) to d times asked some; sent = pass-sent i each b (length o) to d times asked some; flat = omega arith }

    module _ (n delay : ℕ) (m₁ m₂ : List ℕ) (at₁ at₂ : ℕ) (en : n ≡ items b) (ed : delay ≡ delay_of 0 each p) (head : Laid m at (item_bytes (group_item (pass_item i delay) n ∷ [])) m₁ at₁)
        (stop : at₁ ≡ at + item_size) (body : Laid m₁ at₁ (page_bytes b) m₂ at₂) where
      pub pass_step : Laid o to (page_bytes (passes i each 0 (p + 1) b)) m₂ at₂
      pass_step = rw (passes-more i each 0 p b, ← en, ← ed) (laid-join o m m₂ _ _ to at at₂ laid (laid-join m m₁ m₂ _ _ at at₁ at₂ head body))

      pub pass-left : at₂ + item_size * ((times - (p + 1)) * (1 + items b)) ≤ length o
      pass-left =
          let e = one_less times p (1 + items b) l in
          let w : at₂ ≡ at₁ + length (page_bytes b) = body.stop in
          let x = bytes-length b in
          omega arith

  pub passes-all : p ≤ times → times ≤ p → Laid o to (page_bytes (passes i each 0 times b)) m at
  passes-all x y = let e : p ≡ times = omega arith in rw (← e) laid

pub ruleset loop-built = (no-pass-laid, passes-laid, sized, rules)

pub ruleset passes-built = (fitting, delay-first, delay-next, passes-start, passes-room, pass-room, passes-all, rules)
