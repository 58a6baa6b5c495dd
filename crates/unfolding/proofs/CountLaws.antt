-- How many items and actions an unfolded score has, and how deep it is, by formula: a loop as many passes of its body, a curve as many actions as it has values.
-- Assumes nothing.
use mathlib.Core.Path.{◌≡◌, refl, ap, ◌∙◌}
use mathlib.Core.Bool.{Bool, true, false}
use mathlib.Core.List.{List, [], ◌∷◌, ◌++◌}
use Prim.Native.Nat.{ℕ, zero, suc, ◌+◌, ◌*◌, ◌<◌, max}
use native.Mathlib.Nat.{suc-mul, zero-mul}
use native.Mathlib.Omega.{arith}
use lib.IntN.{ℤ}
use lib.ListN.{length, take, length-append}
use Rattle.page.specs.declared.Item.{Item}
use Rattle.base.specs.Tests.{pick}
use Rattle.base.specs.Only.{only}
use Rattle.base.proofs.OnlyLaws.{only-in, only_out}
use Rattle.items.specs.Items.{is_action as is_send}
use Rattle.values.specs.Curves.{Point}
use Rattle.values.proofs.SpanLaws.{steps_on, curve-length}
use Rattle.extended.specs.declared.Folded.{Folded}
use Rattle.extended.specs.Points.{values_of}
use Rattle.unfolding.specs.Messages.{Messages, with_value, numbers_of}
use Rattle.unfolding.specs.Extended.{Numbered}
use Rattle.unfolding.specs.Unfolded.{Unfolded, end, action, group, passes, sends, becomes, unfolded, items, actions, depth, group_item, page}
use Rattle.unfolding.proofs.Shapes.{becomes-action, becomes-group, becomes-loop, becomes-curve, Kinds, at_end, at_action, at_group, unfolded-kinds}

-- ---- passes and sends

pub passes-items : (i : Item) (period d n : ℕ) (body : Unfolded) → items (passes i period d n body) ≡ n + n * items body
unfolding passes items
passes-items i period d zero body = omega (arith, zero-mul (items body))
passes-items i period d (suc n) body = omega (arith, passes-items i period period n body, suc-mul n (items body))

pub passes-actions : (i : Item) (period d n : ℕ) (body : Unfolded) → actions (passes i period d n body) ≡ n * actions body
unfolding passes actions
passes-actions i period d zero body = omega (arith, zero-mul (actions body))
passes-actions i period d (suc n) body = omega (arith, passes-actions i period period n body, suc-mul n (actions body))

pub passes-depth : (i : Item) (period d n : ℕ) (body : Unfolded) → 0 < n → depth (passes i period d n body) ≡ 1 + depth body
unfolding passes depth
passes-depth i period d zero body p = absurd (omega arith)
passes-depth i period d (suc zero) body p = omega arith
passes-depth i period d (suc (suc n)) body p = omega (arith, passes-depth i period period (suc n) body (omega arith))

pub sends_items : (i : Item) (step d : ℕ) (ns : List ℕ) → items (sends i step d ns) ≡ length ns
unfolding sends items
sends_items i step d [] = refl
sends_items i step d (n ∷ ns) = omega (arith, sends_items i step step ns)

pub sends-actions : (i : Item) (step d : ℕ) (ns : List ℕ) → actions (sends i step d ns) ≡ length ns
unfolding sends actions
sends-actions i step d [] = refl
sends-actions i step d (n ∷ ns) = omega (arith, sends-actions i step step ns)

pub sends-depth : (i : Item) (step d n : ℕ) (ns : List ℕ) → depth (sends i step d (n ∷ ns)) ≡ 1
unfolding sends depth
sends-depth i step d n [] = omega arith
sends-depth i step d n (m ∷ ns) = omega (arith, sends-depth i step step m ns)

-- Values have as many message numbers as there are values.
pub numbers-length : (m : Messages) (vs : List ℤ) → length (numbers_of m vs) ≡ length vs
unfolding numbers_of
numbers-length m [] = refl
numbers-length m (v ∷ vs) = ap suc (numbers-length (with_value m v) vs)

-- A curve has a message number for each step of its spans, and one more.
pub curve-numbers : (i : Folded) (ps : List Point) (m : Messages) (p : Point) (qs : List Point) → i.item.kind ≡ 3 → take i.times ps ≡ p ∷ qs →
    length (numbers_of m (values_of i ps)) ≡ 1 + steps_on i.each p qs
unfolding values_of pick
curve-numbers i ps m p qs k e = numbers-length m (values_of i ps) ∙ rw (k, e) (curve-length i.each p qs)

-- ---- what an item becomes, and what follows it

module _ (i : Numbered) (body rest : Unfolded) where
  -- An action is one item and one action.
  module _ (k : i.item.kind ≡ 0) where
    pub action-items : items (becomes i body rest) ≡ 1 + items rest
    unfolding items
    action-items = ap items (becomes-action i body rest k)

    pub action-actions : actions (becomes i body rest) ≡ 1 + actions rest
    unfolding actions
    action-actions = ap actions (becomes-action i body rest k)

    pub action-depth : depth (becomes i body rest) ≡ max 1 (depth rest)
    unfolding depth
    action-depth = ap depth (becomes-action i body rest k)

  -- A group is one item and its body.
  module _ (k : i.item.kind ≡ 1) where
    pub group-items : items (becomes i body rest) ≡ 1 + items body + items rest
    unfolding items
    group-items = ap items (becomes-group i body rest k)

    pub group-actions : actions (becomes i body rest) ≡ actions body + actions rest
    unfolding actions
    group-actions = ap actions (becomes-group i body rest k)

    pub group-depth : depth (becomes i body rest) ≡ max (1 + depth body) (depth rest)
    unfolding depth
    group-depth = ap depth (becomes-group i body rest k)

  -- A loop is one item, one for each pass, and its body so many times; its body stands two deeper.
  module _ (k : i.item.kind ≡ 2) where
    pub loop-items : items (becomes i body rest) ≡ 1 + (i.times + i.times * items body) + items rest
    unfolding items
    loop-items = ap items (becomes-loop i body rest k) ∙ ap (λ (n : ℕ). 1 + n + items rest) (passes-items i.item i.each 0 i.times body)

    pub loop-actions : actions (becomes i body rest) ≡ i.times * actions body + actions rest
    unfolding actions
    loop-actions = ap actions (becomes-loop i body rest k) ∙ ap (λ (n : ℕ). n + actions rest) (passes-actions i.item i.each 0 i.times body)

    pub loop-depth : (n : ℕ) → i.times ≡ suc n → depth (becomes i body rest) ≡ max (2 + depth body) (depth rest)
    unfolding depth
    loop-depth n e =
        let two : 1 + (1 + depth body) ≡ 2 + depth body = omega arith in
        ap depth (becomes-loop i body rest k)
        ∙ rw (e, passes-depth i.item i.each 0 (suc n) body (omega arith), two)

  -- A curve is one item, and an action for each of its values.
  module _ (k : i.item.kind ≡ 3) where
    pub curve-items : items (becomes i body rest) ≡ 1 + length i.numbers + items rest
    unfolding items
    curve-items = ap items (becomes-curve i body rest k) ∙ ap (λ (n : ℕ). 1 + n + items rest) (sends_items i.item i.each 0 i.numbers)

    pub curve-actions : actions (becomes i body rest) ≡ length i.numbers + actions rest
    unfolding actions
    curve-actions = ap actions (becomes-curve i body rest k) ∙ ap (λ (n : ℕ). n + actions rest) (sends-actions i.item i.each 0 i.numbers)

    pub curve-depth : (n : ℕ) (ns : List ℕ) → i.numbers ≡ n ∷ ns → depth (becomes i body rest) ≡ max 2 (depth rest)
    unfolding depth
    curve-depth n ns e = ap depth (becomes-curve i body rest k) ∙ rw (e, sends-depth i.item i.each 0 n ns)

-- ---- the page

-- The table has as many items as are counted.
pub page-length : (u : Unfolded) → length (page u) ≡ items u
unfolding page items
page-length end = refl
page-length (action i rest) = omega (arith, page-length rest)
page-length (group i body rest) = omega (arith, length-append (page body) (page rest), page-length body, page-length rest)

only_one : (i : Item) (l m : List Item) → only is_send (l ++ m) ≡ only is_send l ++ only is_send m → only is_send (i ∷ (l ++ m)) ≡ only is_send (i ∷ l) ++ only is_send m
only_one i l m h = go (is_send i) refl
  where
    go : (b : Bool) → is_send i ≡ b → only is_send (i ∷ (l ++ m)) ≡ only is_send (i ∷ l) ++ only is_send m
    go true e = only-in is_send i (l ++ m) e ∙ rw (only-in is_send i l e) (ap (◌∷◌ i) h)
    go false e = only_out is_send i (l ++ m) e ∙ rw (only_out is_send i l e) h

pub only-append : (l m : List Item) → only is_send (l ++ m) ≡ only is_send l ++ only is_send m
unfolding only
only-append [] m = refl
only-append (i ∷ l) m = only_one i l m (only-append l m)

pub page-actions-of : {u : Unfolded} → Kinds u → length (only is_send (page u)) ≡ actions u
unfolding page actions group_item only
page-actions-of at_end = refl
page-actions-of (at_action {i = i} {rest = rest} k r) =
    ap length (only-in is_send i (page rest) (rw k)) ∙ ap suc (page-actions-of r) ∙ omega arith
page-actions-of (at_group {i = i} {body = body} {rest = rest} b r) =
    ap length (only_out is_send (group_item i (items body)) (page body ++ page rest) refl ∙ only-append (page body) (page rest))
    ∙ length-append (only is_send (page body)) (only is_send (page rest))
    ∙ rw (page-actions-of b, page-actions-of r)

-- As many of them are actions as are counted.
pub page-actions : (is : List Numbered) → length (only is_send (page (unfolded is))) ≡ actions (unfolded is)
page-actions is = page-actions-of (unfolded-kinds is)
