-- The steps of one item, in the code's own terms: what it becomes, what that asks, and how it is laid.
-- Assumes nothing.
use mathlib.Core.Path.{◌≡◌, refl, sym, ap, ◌∙◌, subst}
use mathlib.Core.Bool.{Bool, true, false}
use mathlib.Core.List.{List, [], ◌∷◌, ◌++◌, append-nil}
use Prim.Native.Nat.{ℕ, ◌+◌, ◌*◌, ◌<◌, ◌≤◌, max}
use native.Mathlib.Omega.{arith}
use lib.ListN.{length}
use borrow.Author.Rules.{rules}
use borrow.Author.Tests.{eq-eqb, ne_eqb}
use Rattle.base.specs.Tests.{pick}
use Rattle.page.specs.declared.Item.{Item}
use Rattle.ascii.specs.Laying.{Laid}
use Rattle.ascii.proofs.LayLaws.{laid-join}
use Rattle.contents.specs.Limits.{item_size, most_items, most_actions, deepest}
use Rattle.score.specs.Encode.{item_bytes}
use Rattle.extended.specs.declared.Folded.{Folded}
use Rattle.extended.specs.Inner.{SmallFolded}
use Rattle.filing.specs.Pieces.{Fitting}
use Rattle.unfolding.specs.Extended.{Numbered, numbered_by}
use Rattle.unfolding.specs.Unfolded.{Unfolded, end, action, group, is_action, group_item, passes, sends, inside_of, becomes, items, actions, depth}
use Rattle.unfolding.proofs.CountLaws.{sends_items}
use Rattle.building.specs.Inner.{page_bytes, Buildable}
use Rattle.building.proofs.PageLaws.{action-bytes, end-bytes, group-alone}

-- ---- what was read of an item fits its bytes

pub fitting : (i : Folded) → SmallFolded i → Fitting i.item
fitting i s = record { kind = s.kind; synchrony = s.synchrony; error = s.error; part = s.part; delay = s.delay; event = s.event; last = s.last }

-- ---- an item by itself

module _ (i : Folded) (ns : List ℕ) (b : Unfolded) where
  is-action : i.item.kind ≡ 0 → becomes (numbered_by i ns) b end ≡ action i.item end
  unfolding becomes numbered_by pick
  is-action k = rw (eq-eqb _ 0 k)

  is-other : (i.item.kind ≡ 0 → ⊥) → becomes (numbered_by i ns) b end ≡ group i.item (inside_of (numbered_by i ns) b) end
  unfolding becomes numbered_by pick
  is-other k = rw (ne_eqb _ 0 k)

  is-group : i.item.kind ≡ 1 → inside_of (numbered_by i ns) b ≡ b
  unfolding inside_of numbered_by pick
  is-group k = rw (eq-eqb _ 1 k)

  is_loop : (i.item.kind ≡ 1 → ⊥) → i.item.kind ≡ 2 → inside_of (numbered_by i ns) b ≡ passes i.item i.each 0 i.times b
  unfolding inside_of numbered_by pick
  is_loop g k = rw (ne_eqb _ 1 g, eq-eqb _ 2 k)

  is-curve : (i.item.kind ≡ 1 → ⊥) → (i.item.kind ≡ 2 → ⊥) → inside_of (numbered_by i ns) b ≡ sends i.item i.each 0 ns
  unfolding inside_of numbered_by pick
  is-curve g k = rw (ne_eqb _ 1 g, ne_eqb _ 2 k)

-- what a group with nothing after it asks of what stands in it
pub group-asks : (size to d : ℕ) (i : Item) (x : Unfolded) → Buildable size to d (group i x end) → Buildable size (to + item_size) (d + 1) x
unfolding items actions depth
group-asks size to d i x m =
    let a : to + item_size * (1 + items x + 0) ≤ size = m.room in
    let b : 1 + items x + 0 ≤ most_items = m.few in
    let c : actions x + 0 ≤ most_actions = m.sent in
    let e : d + max (1 + depth x) 0 ≤ deepest = m.flat in
    record { room = omega arith; few = omega arith; sent = omega arith; flat = omega arith }

module _ (i j : Folded) (e : i ≡ j) (ns : List ℕ) (b : Unfolded) (size to d : ℕ) (m : Buildable size to d (becomes (numbered_by j ns) b end)) where
  own : Buildable size to d (becomes (numbered_by i ns) b end)
  own = subst (λ (x : Folded). Buildable size to d (becomes (numbered_by x ns) b end)) (sym e) m

  pub action-room : i.item.kind ≡ 0 → to + item_size ≤ size
  unfolding items
  action-room k =
      let a : to + item_size * (1 + 0) ≤ size = subst (λ (u : Unfolded). to + item_size * items u ≤ size) (is-action i ns b k) own.room in
      omega arith

  module _ (o : i.item.kind ≡ 0 → ⊥) where
    whole : Buildable size to d (group i.item (inside_of (numbered_by i ns) b) end)
    whole = subst (λ (u : Unfolded). Buildable size to d u) (is-other i ns b o) own

    inner : Buildable size (to + item_size) (d + 1) (inside_of (numbered_by i ns) b)
    inner = group-asks size to d i.item _ whole

    pub other-room : to + item_size ≤ size
    other-room = let a = inner.room in omega arith

    pub group-made : i.item.kind ≡ 1 → Buildable size (to + item_size) (d + 1) b
    group-made k = subst (λ (u : Unfolded). Buildable size (to + item_size) (d + 1) u) (is-group i ns b k) inner

    module _ (g : i.item.kind ≡ 1 → ⊥) where
      pub loop-made : i.item.kind ≡ 2 → Buildable size to d (group i.item (passes i.item i.each 0 i.times b) end)
      loop-made k = subst (λ (u : Unfolded). Buildable size to d (group i.item u end)) (is_loop i ns b g k) whole

      curve-made : (i.item.kind ≡ 2 → ⊥) → Buildable size (to + item_size) (d + 1) (sends i.item i.each 0 ns)
      curve-made k = subst (λ (u : Unfolded). Buildable size (to + item_size) (d + 1) u) (is-curve i ns b g k) inner

      pub curve-few : (times : ℕ) → (i.item.kind ≡ 2 → ⊥) → times ≡ length ns → times ≤ most_items
      curve-few times k t =
          let r : items (sends i.item i.each 0 ns) ≤ most_items = (curve-made k).few in
          let v = sends_items i.item i.each 0 ns in
          omega arith

      pub curve-room : (times : ℕ) → (i.item.kind ≡ 2 → ⊥) → times ≡ length ns → to + item_size + item_size * times ≤ size
      curve-room times k t =
          let r = (curve-made k).room in
          let v = sends_items i.item i.each 0 ns in
          omega arith

-- ---- laid out

action-alone : (i : Item) → page_bytes (action i end) ≡ item_bytes (i ∷ [])
action-alone i = action-bytes i end ∙ ap (λ (l : List ℕ). item_bytes (i ∷ []) ++ l) end-bytes ∙ append-nil (item_bytes (i ∷ []))

module _ (i j : Folded) (e : i ≡ j) (ns : List ℕ) (b : Unfolded) (o m : List ℕ) (to at : ℕ) where
  -- what becomes of the item that was read becomes of the one that stands there
  other_item : Laid o to (page_bytes (becomes (numbered_by i ns) b end)) m at → Laid o to (page_bytes (becomes (numbered_by j ns) b end)) m at
  other_item l = subst (λ (x : Folded). Laid o to (page_bytes (becomes (numbered_by x ns) b end)) m at) e l

  pub action-laid : i.item.kind ≡ 0 → Laid o to (item_bytes (i.item ∷ [])) m at → Laid o to (page_bytes (becomes (numbered_by j ns) b end)) m at
  action-laid k l = other_item (rw (is-action i ns b k, action-alone i.item) l)

  pub loop-laid : (i.item.kind ≡ 0 → ⊥) → (i.item.kind ≡ 1 → ⊥) → i.item.kind ≡ 2 → Laid o to (page_bytes (group i.item (passes i.item i.each 0 i.times b) end)) m at
      → Laid o to (page_bytes (becomes (numbered_by j ns) b end)) m at
  loop-laid na ng k l = other_item (rw (is-other i ns b na, is_loop i ns b ng k) l)

-- a group's own item, and what stands in it
pub group-laid-alone : (i : Item) (x : Unfolded) (n : ℕ) (o m p : List ℕ) (to at r : ℕ) → n ≡ items x → Laid o to (item_bytes (group_item i n ∷ [])) m at → Laid m at (page_bytes x) p r
    → Laid o to (page_bytes (group i x end)) p r
group-laid-alone i x n o m p to at r e k l = rw (group-alone i x, ← e) (laid-join o m p _ _ to at r k l)

module _ (i j : Folded) (e : i ≡ j) (ns : List ℕ) (b : Unfolded) (o m : List ℕ) (to at : ℕ) (p : List ℕ) (r : ℕ) (na : i.item.kind ≡ 0 → ⊥) where
  other-laid : (x : Unfolded) → inside_of (numbered_by i ns) b ≡ x → (n : ℕ) → n ≡ items x → Laid o to (item_bytes (group_item i.item n ∷ [])) m at → Laid m at (page_bytes x) p r
      → Laid o to (page_bytes (becomes (numbered_by j ns) b end)) p r
  other-laid x ex n en k l = other_item i j e ns b o p to r (rw (is-other i ns b na, ex) (group-laid-alone i.item x n o m p to at r en k l))

  pub group-laid : (n : ℕ) → i.item.kind ≡ 1 → n ≡ items b → Laid o to (item_bytes (group_item i.item n ∷ [])) m at → Laid m at (page_bytes b) p r
      → Laid o to (page_bytes (becomes (numbered_by j ns) b end)) p r
  group-laid n g en k l = other-laid b (is-group i ns b g) n en k l

  pub curve-laid : (n : ℕ) (ms : List ℕ) → (i.item.kind ≡ 1 → ⊥) → (i.item.kind ≡ 2 → ⊥) → n ≡ length ns → ns ≡ ms → Laid o to (item_bytes (group_item i.item n ∷ [])) m at
      → Laid m at (page_bytes (sends i.item i.each 0 ms)) p r → Laid o to (page_bytes (becomes (numbered_by j ns) b end)) p r
  curve-laid n ms g q en es k l =
      let s : n ≡ items (sends i.item i.each 0 ns) = en ∙ sym (sends_items i.item i.each 0 ns) in
      other-laid (sends i.item i.each 0 ns) (is-curve i ns b g q) n s k (rw es l)

-- ---- on behind an item

pub built-on : (o m : List ℕ) (to at d : ℕ) (i : Item) (u : Unfolded) → Buildable (length o) (to + item_size) d u → Laid o to (item_bytes (i ∷ [])) m at → at ≡ to + item_size → Buildable (length m) at d u
built-on o m to at d i u a p t =
    let e : length m ≡ length o = p.size in
    let r : to + item_size + item_size * items u ≤ length o = a.room in
    record { room = omega arith; few = a.few; sent = a.sent; flat = a.flat }

-- ---- it is not the deepest

becomes-deep : (i : Numbered) (b r : Unfolded) → 1 ≤ depth (becomes i b r)
unfolding becomes pick depth
becomes-deep i b r = go (is_action i) refl where
  go : (t : Bool) → is_action i ≡ t → 1 ≤ depth (becomes i b r)
  go true e = rw e (omega arith)
  go false e = rw e (omega arith)

group-deep : (i : Item) (b : Unfolded) → 1 ≤ depth (group i b end)
unfolding depth
group-deep i b = omega arith

pub item-under : (i : Numbered) (b : Unfolded) (size at d : ℕ) → Buildable size at d (becomes i b end) → d < deepest
item-under i b size at d asked = let f = asked.flat in let p = becomes-deep i b end in omega arith

pub group-under : (i : Item) (b : Unfolded) (size at d : ℕ) → Buildable size at d (group i b end) → d < deepest
group-under i b size at d asked = let f = asked.flat in let p = group-deep i b in omega arith

pub ruleset item-built = (fitting, action-room, other-room, action-laid, loop-laid, rules)
