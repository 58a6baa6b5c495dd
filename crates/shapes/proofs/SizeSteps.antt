-- The steps of the walk that finds the sizes, in the code's own terms.
-- Assumes nothing.
use mathlib.Core.Path.{◌≡◌, refl, sym, ap, ◌∙◌}
use mathlib.Core.Bool.{Bool, true, false}
use mathlib.Core.List.{List}
use Prim.Native.Nat.{ℕ, ◌+◌, ◌-◌, ◌*◌, ◌<◌, ◌≤◌, min, max}
use native.Mathlib.Nat.{mul-add, mul_assoc, mul-le-mul, mul-le-mul_left}
use native.Mathlib.Omega.{arith}
use lib.Dec.{leb}
use lib.ListN.{get_or, take, drop}
use mir.Syntax.{w64}
use mir.Val.{Fits}
use borrow.Author.Tests.{eq-eqb, ne_eqb, leb-true, leb-false, le-leb, lt-leb}
use borrow.Author.Rules.{rules}
use Rattle.std.specs.Prelude.{Option, Some, None}
use Rattle.base.specs.Tests.{pick, every}
use Rattle.shapes.specs.declared.Shape.{Shape}
use Rattle.shapes.specs.declared.Own.{Own}
use Rattle.shapes.specs.declared.Sizes.{Sizes}
use Rattle.contents.specs.Limits.{most_items, most_actions, deepest}
use Rattle.shapes.specs.Limits.{row_words, word_range}
use Rattle.shapes.specs.Shapes.{shape_at, shapes_from, Tree, end, within_of, becomes, unfolded, items, actions, depth}
use Rattle.shapes.specs.Sizes.{told, told_from, sizes_of, own_of, Bounded}
use Rattle.shapes.proofs.UnfoldLaws.{adds, unfolded-none, unfolded-more, own-within, items-one, items-none, items-take, items-drop}

-- the sizes of what is within the limits
abbrev pub sized : (items actions : ℕ) → Option Sizes
sized n a = Some (record { items = n; actions = a })

-- ---- what is told

-- all three within their limits
pub record Fine (n a d : ℕ) : Type 0 where
  pub few : n ≤ most_items
  pub sent : a ≤ most_actions
  pub flat : d ≤ deepest

pub told-fine : (n a d : ℕ) → Fine n a d → told n a d ≡ sized n a
unfolding told pick every
told-fine n a d f = rw (le-leb n most_items f.few, le-leb a most_actions f.sent, le-leb d deepest f.flat)

told-many : (n a d : ℕ) → most_items < n → told n a d ≡ None
unfolding told pick every
told-many n a d p = rw (lt-leb n most_items p)

told-sent : (n a d : ℕ) → most_actions < a → told n a d ≡ None
unfolding told pick every
told-sent n a d p = go (leb n most_items) refl where
  go : (t : Bool) → leb n most_items ≡ t → told n a d ≡ None
  go true e = rw (e, lt-leb a most_actions p)
  go false e = rw e

told-deep : (n a d : ℕ) → deepest < d → told n a d ≡ None
unfolding told pick every
told-deep n a d p = go (leb n most_items) (leb a most_actions) refl refl where
  go : (t u : Bool) → leb n most_items ≡ t → leb a most_actions ≡ u → told n a d ≡ None
  go true true e f = rw (e, f, lt-leb d deepest p)
  go true false e f = rw (e, f)
  go false u e f = rw e

-- either all is within, or what is told is that it is over, and so it is of anything bigger
data Either (n a d : ℕ) : Type 0 where
  fine : Fine n a d → Either n a d
  many : most_items < n → Either n a d
  often : most_actions < a → Either n a d
  deeper : deepest < d → Either n a d

either : (n a d : ℕ) → Either n a d
either n a d = go (leb n most_items) (leb a most_actions) (leb d deepest) refl refl refl where
  go : (t u v : Bool) → leb n most_items ≡ t → leb a most_actions ≡ u → leb d deepest ≡ v → Either n a d
  go true true true p q r = fine (record { few = leb-true _ _ p; sent = leb-true _ _ q; flat = leb-true _ _ r })
  go false u v p q r = many (leb-false _ _ p)
  go true false v p q r = often (leb-false _ _ q)
  go true true false p q r = deeper (leb-false _ _ r)

-- what was told to be within is so, and the numbers told are those
pub record Exactly (n a d m b : ℕ) : Type 0 where
  pub fine : Fine n a d
  pub items : m ≡ n
  pub actions : b ≡ a

pub exactly : (n a d m b : ℕ) → told n a d ≡ sized m b → Exactly n a d m b
exactly n a d m b e = go (either n a d) where
  go : Either n a d → Exactly n a d m b
  go (fine f) =
      let w = told-fine n a d f in
      let s : ◌≡◌ {A = Sizes} (record { items = m; actions = b }) (record { items = n; actions = a }) = cc in
      record { fine = f; items = ap (λ (x : Sizes). x.items) s; actions = ap (λ (x : Sizes). x.actions) s }
  go (many p) = let w = told-many n a d p in let z : ◌≡◌ {A = ℕ} 0 1 = cc in absurd (omega arith)
  go (often p) = let w = told-sent n a d p in let z : ◌≡◌ {A = ℕ} 0 1 = cc in absurd (omega arith)
  go (deeper p) = let w = told-deep n a d p in let z : ◌≡◌ {A = ℕ} 0 1 = cc in absurd (omega arith)

over-more : (n a d N A D : ℕ) → told n a d ≡ None → n ≤ N → a ≤ A → d ≤ D → told N A D ≡ None
over-more n a d N A D e p q r = go (either N A D) where
  go : Either N A D → told N A D ≡ None
  go (fine f) =
      let x : N ≤ most_items = f.few in
      let y : A ≤ most_actions = f.sent in
      let z : D ≤ deepest = f.flat in
      let w = told-fine n a d (record { few = omega arith; sent = omega arith; flat = omega arith }) in
      let o : ◌≡◌ {A = ℕ} 0 1 = cc in
      absurd (omega arith)
  go (many o) = told-many N A D o
  go (often o) = told-sent N A D o
  go (deeper o) = told-deep N A D o

-- a depth that is within makes no difference beside another
depth-beside : (n a x y : ℕ) → x ≤ deepest → told n a (max x y) ≡ told n a y
depth-beside n a x y p = go (either n a y) where
  go : Either n a y → told n a (max x y) ≡ told n a y
  go (fine f) =
      let u : n ≤ most_items = f.few in
      let v : a ≤ most_actions = f.sent in
      let w : y ≤ deepest = f.flat in
      told-fine n a (max x y) (record { few = omega arith; sent = omega arith; flat = omega arith }) ∙ sym (told-fine n a y f)
  go (many o) = told-many n a (max x y) o ∙ sym (told-many n a y o)
  go (often o) = told-sent n a (max x y) o ∙ sym (told-sent n a y o)
  go (deeper o) = told-deep n a (max x y) (omega arith) ∙ sym (told-deep n a y o)

-- ---- one item of the table: itself, its body, and what follows

pub record Split (ws : List ℕ) (i left : ℕ) (o : Own) (body rest : Tree) : Type 0 where
  pub more : items (unfolded (shapes_from ws i left)) ≡ o.each + o.inner * items body + items rest
  pub sent : actions (unfolded (shapes_from ws i left)) ≡ o.sent + o.inner * actions body + actions rest
  pub deep : depth (unfolded (shapes_from ws i left)) ≡ max (o.deep + depth body) (depth rest)

module _ (ws : List ℕ) (i left : ℕ) (some : 0 < left) where
  abbrev here : Shape
  here = shape_at ws i

  abbrev after : List Shape
  after = shapes_from ws (i + 1) (left - 1)

  split-lists : Split ws i left (own_of here) (unfolded (take (own_of here).opened after)) (unfolded (drop (within_of here) after))
  split-lists =
      let e : unfolded (shapes_from ws i left) ≡ becomes here (unfolded (take (within_of here) after)) (unfolded (drop (within_of here) after)) = ap unfolded (items-one ws i left some) ∙ unfolded-more here after in
      let d = adds here after (unfolded (drop (within_of here) after)) in
      record { more = ap items e ∙ d.more; sent = ap actions e ∙ d.sent; deep = ap depth e ∙ d.deep }

  module _ (o : Own) (eo : o ≡ own_of here) (b p : ℕ) (eb : b ≡ min o.opened (left - 1)) (ep : p ≡ min o.within (left - 1)) where
    pub split : Split ws i left o (unfolded (shapes_from ws (i + 1) b)) (unfolded (shapes_from ws (i + (1 + p)) (left - (1 + p))))
    split =
        let x : unfolded (take (own_of here).opened after) ≡ unfolded (shapes_from ws (i + 1) b) = ap unfolded (items-take ws (i + 1) (left - 1) (own_of here).opened ∙ ap (λ (k : ℕ). shapes_from ws (i + 1) k) (sym (eb ∙ ap (λ (q : Own). min q.opened (left - 1)) eo))) in
        let w : o.within ≡ within_of here = ap (λ (q : Own). q.within) eo ∙ own-within here in
        let s : p ≡ min (within_of here) (left - 1) = ep ∙ ap (λ (k : ℕ). min k (left - 1)) w in
        let c : i + 1 + min (within_of here) (left - 1) ≡ i + (1 + p) = omega arith in
        let l : left - 1 - min (within_of here) (left - 1) ≡ left - (1 + p) = omega arith in
        let y : unfolded (drop (within_of here) after) ≡ unfolded (shapes_from ws (i + (1 + p)) (left - (1 + p))) = ap unfolded (items-drop ws (i + 1) (left - 1) (within_of here) ∙ ap (λ (k : ℕ). shapes_from ws k (left - 1 - min (within_of here) (left - 1))) c ∙ ap (λ (k : ℕ). shapes_from ws (i + (1 + p)) k) l) in
        rw (eo, ← x, ← y) split-lists

-- ---- products

-- what stands factor times, taken apart
spread : (f x k y z : ℕ) → f * (x + k * y + z) ≡ f * x + f * k * y + f * z
spread f x k y z =
    let a = mul-add f (x + k * y) z in
    let b = mul-add f x (k * y) in
    let c = mul_assoc f k y in
    omega arith

-- ---- the walk

module _ (ws : List ℕ) (i left f d n a : ℕ) (W : Option Sizes) (all : told_from f d n a (unfolded (shapes_from ws i left)) ≡ W) where
  pub size_none : left ≤ 0 → n ≤ most_items → a ≤ most_actions → d ≤ deepest → sized n a ≡ W
  unfolding told_from items actions depth
  size_none p x y z =
      let e : unfolded (shapes_from ws i left) ≡ end = ap unfolded (items-none ws i left p) ∙ unfolded-none in
      let t : told (n + f * 0) (a + f * 0) (d + 0) ≡ W = rw e at all in
      let u : n + f * 0 ≡ n = omega arith in
      let v : a + f * 0 ≡ a = omega arith in
      let w : d + 0 ≡ d = omega arith in
      sym (told-fine n a d (record { few = x; sent = y; flat = z })) ∙ (rw (u, v, w) at t)

  module _ (some : 0 < left) (o : Own) (eo : o ≡ own_of (shape_at ws i)) where
    -- the sizes are no less than what the item comes to by itself
    own_split : Split ws i left o (unfolded (shapes_from ws (i + 1) (min o.opened (left - 1)))) (unfolded (shapes_from ws (i + (1 + min o.within (left - 1))) (left - (1 + min o.within (left - 1)))))
    own_split = split ws i left some o eo _ _ refl refl

    pub size-many : most_items < n + f * o.each → None ≡ W
    unfolding told_from
    size-many p =
        let s = own_split.more in
        let l : f * o.each ≤ f * items (unfolded (shapes_from ws i left)) = mul-le-mul_left f (omega arith) in
        sym (told-many _ _ _ (omega arith)) ∙ all

    pub size-often : most_actions < a + f * o.sent → None ≡ W
    unfolding told_from
    size-often p =
        let s = own_split.sent in
        let l : f * o.sent ≤ f * actions (unfolded (shapes_from ws i left)) = mul-le-mul_left f (omega arith) in
        sym (told-sent _ _ _ (omega arith)) ∙ all

    pub size-deep : deepest < d + o.deep → None ≡ W
    unfolding told_from
    size-deep p =
        let s = own_split.deep in
        sym (told-deep _ _ _ (omega arith)) ∙ all

    -- the body's walk
    module _ (b : ℕ) (eb : b ≡ min o.opened (left - 1)) (w : Option Sizes)
        (ew : w ≡ told_from (f * o.inner) (d + o.deep) (n + f * o.each) (a + f * o.sent) (unfolded (shapes_from ws (i + 1) b))) where
      pub size-body-over : (r : Option Sizes) → w ≡ None → r ≡ None → r ≡ W
      unfolding told_from
      size-body-over r e g =
          let s = split ws i left some o eo b _ eb refl in
          let x = s.more in
          let y = s.sent in
          let z = s.deep in
          let B = items (unfolded (shapes_from ws (i + 1) b)) in
          let C = actions (unfolded (shapes_from ws (i + 1) b)) in
          let R = unfolded (shapes_from ws (i + (1 + min o.within (left - 1))) (left - (1 + min o.within (left - 1)))) in
          let u : f * items (unfolded (shapes_from ws i left)) ≡ f * o.each + f * o.inner * B + f * items R = ap (λ (k : ℕ). f * k) x ∙ spread f o.each o.inner B (items R) in
          let v : f * actions (unfolded (shapes_from ws i left)) ≡ f * o.sent + f * o.inner * C + f * actions R = ap (λ (k : ℕ). f * k) y ∙ spread f o.sent o.inner C (actions R) in
          g ∙ (sym (over-more _ _ _ _ _ _ (sym ew ∙ e) (omega arith) (omega arith) (omega arith)) ∙ all)

      module _ (m c : ℕ) (e : w ≡ sized m c) where
        inside : Exactly (n + f * o.each + f * o.inner * items (unfolded (shapes_from ws (i + 1) b))) (a + f * o.sent + f * o.inner * actions (unfolded (shapes_from ws (i + 1) b))) (d + o.deep + depth (unfolded (shapes_from ws (i + 1) b))) m c
        unfolding told_from
        inside = exactly _ _ _ m c (sym ew ∙ e)

        pub size_few : m ≤ most_items
        size_few = let x = inside in let y = x.items in let z = x.fine.few in omega arith

        pub size-fewer : c ≤ most_actions
        size-fewer = let x = inside in let y = x.actions in let z = x.fine.sent in omega arith

        pub size_step : (p : ℕ) → p ≡ min o.within (left - 1) → told_from f d m c (unfolded (shapes_from ws (i + (1 + p)) (left - (1 + p)))) ≡ W
        unfolding told_from
        size_step p ep =
            let s = split ws i left some o eo b p eb ep in
            let x = s.more in
            let y = s.sent in
            let z = s.deep in
            let B = unfolded (shapes_from ws (i + 1) b) in
            let R = unfolded (shapes_from ws (i + (1 + p)) (left - (1 + p))) in
            let S = unfolded (shapes_from ws i left) in
            let g = inside in
            let ga = g.items in
            let gb = g.actions in
            let gc = g.fine.flat in
            let u : f * items S ≡ f * o.each + f * o.inner * items B + f * items R = ap (λ (k : ℕ). f * k) x ∙ spread f o.each o.inner (items B) (items R) in
            let v : f * actions S ≡ f * o.sent + f * o.inner * actions B + f * actions R = ap (λ (k : ℕ). f * k) y ∙ spread f o.sent o.inner (actions B) (actions R) in
            let h : n + f * items S ≡ m + f * items R = omega arith in
            let j : a + f * actions S ≡ c + f * actions R = omega arith in
            let k : d + depth S ≡ max (d + (o.deep + depth B)) (d + depth R) = omega arith in
            sym (depth-beside (m + f * items R) (c + f * actions R) (d + (o.deep + depth B)) (d + depth R) (omega arith)) ∙ (rw (h, j, k) at all)

-- ---- what the walk asks

module _ (f : ℕ) (o : Own) (few : f ≤ most_items) (bound : Bounded o) where
  pub each-most : f * o.each ≤ 2048 * 4294967296
  each-most = let p : o.each ≤ word_range = bound.each in mul-le-mul few p

  pub sent-most : f * o.sent ≤ 2048 * 4294967296
  sent-most = let p : o.sent ≤ word_range = bound.sent in mul-le-mul few p

  pub inner-most : (n : ℕ) → n + f * o.each ≤ most_items → f * o.inner ≤ most_items
  inner-most n p =
      let q : f * o.inner ≤ f * o.each = mul-le-mul_left f bound.inner in
      omega arith

  pub each_fits : Fits w64 (f * o.each)
  each_fits = let p = each-most in record { fits = omega arith }

  pub sent-fits : Fits w64 (f * o.sent)
  sent-fits = let p = sent-most in record { fits = omega arith }

  pub inner-fits : Fits w64 (f * o.inner)
  inner-fits =
      let q : f * o.inner ≤ f * o.each = mul-le-mul_left f bound.inner in
      let p = each-most in
      record { fits = omega arith }

  pub each-sum-fits : (n : ℕ) → n ≤ most_items → Fits w64 (n + f * o.each)
  each-sum-fits n l = let p = each-most in record { fits = omega arith }

  pub sent-sum-fits : (a : ℕ) → a ≤ most_actions → Fits w64 (a + f * o.sent)
  sent-sum-fits a l = let p = sent-most in record { fits = omega arith }

pub ruleset sizing = (size_none, size-many, size-often, size-deep, size-body-over, size_few, size-fewer, size_step, inner-most, each_fits, sent-fits, inner-fits, each-sum-fits, sent-sum-fits, rules)

-- ---- an item read, and its own sizes

pub read-item : (ws : List ℕ) (k a b c : ℕ) → a ≡ get_or ws (row_words * k) 0 → b ≡ get_or ws (row_words * k + 1) 0 → c ≡ get_or ws (row_words * k + 2) 0 → record { kind = a; last = b; times = c } ≡ shape_at ws k
unfolding shape_at
read-item ws k a b c p q r = cc

pub ruleset reading = (read-item, rules)

module _ (i : Shape) (w : ℕ) (ew : w ≡ within_of i) where
  pub own-action : i.kind ≡ 0 → record { each = 1; sent = 1; inner = 0; deep = 1; opened = 0; within = w } ≡ own_of i
  unfolding own_of pick
  own-action a = rw (eq-eqb _ 0 a, ew)

  module _ (na : i.kind ≡ 0 → ⊥) where
    pub own-group : i.kind ≡ 1 → record { each = 1; sent = 0; inner = 1; deep = 1; opened = i.last; within = w } ≡ own_of i
    unfolding own_of pick
    own-group g = rw (ne_eqb _ 0 na, eq-eqb _ 1 g, ew)

    module _ (ng : i.kind ≡ 1 → ⊥) where
      pub own-nothing : i.times ≡ 0 → record { each = 1; sent = 0; inner = 0; deep = 1; opened = 0; within = w } ≡ own_of i
      unfolding own_of pick
      own-nothing t = rw (ne_eqb _ 0 na, ne_eqb _ 1 ng, eq-eqb _ 0 t, ew)

      module _ (nt : i.times ≡ 0 → ⊥) where
        pub own-loop : i.kind ≡ 2 → record { each = 1 + i.times; sent = 0; inner = i.times; deep = 2; opened = i.last; within = w } ≡ own_of i
        unfolding own_of pick
        own-loop l = rw (ne_eqb _ 0 na, ne_eqb _ 1 ng, ne_eqb _ 0 nt, eq-eqb _ 2 l, ew)

        pub own-curve : (i.kind ≡ 2 → ⊥) → record { each = 1 + i.times; sent = i.times; inner = 0; deep = 2; opened = 0; within = w } ≡ own_of i
        unfolding own_of pick
        own-curve l = rw (ne_eqb _ 0 na, ne_eqb _ 1 ng, ne_eqb _ 0 nt, ne_eqb _ 2 l, ew)

pub own_same : (i j : Shape) (o : Own) → o ≡ own_of i → i ≡ j → o ≡ own_of j
own_same i j o p q = cc

pub ruleset owning = (own-action, own-group, own-nothing, own-loop, own-curve, own_same, rules)

-- ---- the whole table, once, under nothing

pub sizes-all : (r : Option Sizes) (s : Tree) → r ≡ told_from 1 0 0 0 s → r ≡ sizes_of s
unfolding told_from sizes_of
sizes-all r s e =
    let x : 0 + 1 * items s ≡ items s = omega arith in
    let y : 0 + 1 * actions s ≡ actions s = omega arith in
    let z : 0 + depth s ≡ depth s = omega arith in
    rw (x, y, z) at e

pub ruleset whole = (sizes-all, rules)
