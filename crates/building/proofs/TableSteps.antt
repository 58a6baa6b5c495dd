-- The steps of what the table and the file say of an item: a part of both, the sizes, and a curve's numbers.
-- Assumes nothing.
use mathlib.Core.Path.{◌≡◌, refl, sym, ap, ◌∙◌, subst}
use mathlib.Core.Bool.{Bool, true, false}
use mathlib.Core.List.{List, [], ◌∷◌}
use Prim.Native.Nat.{ℕ, ◌+◌, ◌-◌, ◌*◌, ◌<◌, ◌≤◌, min}
use native.Mathlib.Omega.{arith}
use lib.Dec.{eqb}
use lib.ListN.{length, take, drop}
use borrow.Author.Tests.{ne_eqb}
use Rattle.base.specs.Tests.{pick}
use Rattle.contents.specs.Limits.{most_items, most_actions, deepest}
use Rattle.contents.specs.Bytes.{part}
use Rattle.score.proofs.EncodingBytes.{part_none}
use Rattle.extended.specs.declared.Folded.{Folded}
use Rattle.extended.specs.Layout.{folded_size}
use Rattle.extended.specs.Folds.{folded_at}
use Rattle.shapes.specs.declared.Shape.{Shape}
use Rattle.shapes.specs.Shapes.{shape_at, shapes_from, unfolded as tree_unfolded, items as tree_items, actions as tree_actions, depth as tree_depth}
use Rattle.shapes.proofs.UnfoldLaws.{items-one, items-take, items-drop}
use Rattle.unfolding.specs.Extended.{numbered_by}
use Rattle.unfolding.specs.Unfolded.{unfolded, items, actions, depth}
use Rattle.building.specs.Rows.{first_at, numbers_at, numbered_at, numbered_in, times_in, shape_of, shapes_of}
use Rattle.building.specs.Inner.{Tabled}
use Rattle.building.proofs.ShapeLaws.{shapes-take, shapes-drop, items-same, actions-same, depth_same}
use Rattle.building.proofs.NumberedLaws.{numbered-one, numbered-take, numbered-drop}

-- ---- a part of the table

module _ (f : List ℕ) (start : ℕ) (table numbers : List ℕ) where
  pub tabled-front : (k count n : ℕ) → Tabled f start table numbers k count → n ≤ count → Tabled f start table numbers k n
  tabled-front k count n t p =
      let m : min n count ≡ n = omega arith in
      let a : shapes_from table k n ≡ take n (shapes_from table k count) = sym (items-take table k count n ∙ ap (λ (c : ℕ). shapes_from table k c) m) in
      let b : take n (numbered_in f start table numbers k count) ≡ numbered_in f start table numbers k n = numbered-take f start table numbers k count n ∙ ap (λ (c : ℕ). numbered_in f start table numbers k c) m in
      let x = t.bytes in
      let y = t.rows in
      record {
        bytes = omega arith;
        rows = omega arith;
        shapes = a ∙ ap (λ (l : List Shape). take n l) t.shapes ∙ shapes-take n (numbered_in f start table numbers k count) ∙ ap shapes_of b;
      }

  pub tabled-after : (k count n : ℕ) → Tabled f start table numbers k count → n ≤ count → Tabled f start table numbers (k + n) (count - n)
  tabled-after k count n t p =
      let m : min n count ≡ n = omega arith in
      let a : shapes_from table (k + n) (count - n) ≡ drop n (shapes_from table k count) = sym (items-drop table k count n ∙ ap (λ (c : ℕ). shapes_from table (k + c) (count - c)) m) in
      let b : drop n (numbered_in f start table numbers k count) ≡ numbered_in f start table numbers (k + n) (count - n) = numbered-drop f start table numbers k count n ∙ ap (λ (c : ℕ). numbered_in f start table numbers (k + c) (count - c)) m in
      let x = t.bytes in
      let y = t.rows in
      record {
        bytes = omega arith;
        rows = omega arith;
        shapes = a ∙ ap (λ (l : List Shape). drop n l) t.shapes ∙ shapes-drop n (numbered_in f start table numbers k count) ∙ ap shapes_of b;
      }

  pub tabled-body : (k body : ℕ) → Tabled f start table numbers k (1 + body) → Tabled f start table numbers (k + 1) body
  tabled-body k body t =
      let s : 1 + body - 1 ≡ body = omega arith in
      subst (λ (c : ℕ). Tabled f start table numbers (k + 1) c) s (tabled-after k (1 + body) 1 t (omega arith))

-- the shape that stands first
unfoldable head_of : List Shape → Shape
head_of [] = record { kind = 0; last = 0; times = 0 }
head_of (s ∷ ss) = s

module _ (f : List ℕ) (start : ℕ) (table numbers : List ℕ) (k count : ℕ) (t : Tabled f start table numbers k count) where
  pub shape-here : 0 < count → shape_at table k ≡ shape_of (numbered_at f start table numbers k)
  unfolding head_of shapes_of
  shape-here some =
      let a = items-one table k count some in
      let b = numbered-one f start table numbers k count some in
      ap head_of (sym a ∙ t.shapes ∙ ap shapes_of b)

  -- the sizes found by the table are the items' own
  size_same : tree_items (tree_unfolded (shapes_from table k count)) ≡ items (unfolded (numbered_in f start table numbers k count))
  size_same = ap (λ (l : List Shape). tree_items (tree_unfolded l)) t.shapes ∙ sym (items-same (numbered_in f start table numbers k count))

  pub sized : (n : ℕ) → n ≡ tree_items (tree_unfolded (shapes_from table k count)) → n ≡ items (unfolded (numbered_in f start table numbers k count))
  sized n e = e ∙ size_same

  pub sized-few : items (unfolded (numbered_in f start table numbers k count)) ≤ most_items → tree_items (tree_unfolded (shapes_from table k count)) ≤ most_items
  sized-few p = rw size_same p

  pub sized-sent : actions (unfolded (numbered_in f start table numbers k count)) ≤ most_actions → tree_actions (tree_unfolded (shapes_from table k count)) ≤ most_actions
  sized-sent p = rw (ap (λ (l : List Shape). tree_actions (tree_unfolded l)) t.shapes ∙ sym (actions-same (numbered_in f start table numbers k count))) p

  pub sized-flat : depth (unfolded (numbered_in f start table numbers k count)) ≤ deepest → tree_depth (tree_unfolded (shapes_from table k count)) ≤ deepest
  sized-flat p = rw (ap (λ (l : List Shape). tree_depth (tree_unfolded l)) t.shapes ∙ sym (depth_same (numbered_in f start table numbers k count))) p

-- ---- a curve's numbers

curve-counts : (i : Folded) (ns : List ℕ) → (i.item.kind ≡ 0 → ⊥) → (i.item.kind ≡ 1 → ⊥) → (i.item.kind ≡ 2 → ⊥) → (shape_of (numbered_by i ns)).times ≡ length ns
unfolding shape_of times_in numbered_by pick
curve-counts i ns a b c = rw (ne_eqb _ 0 a, ne_eqb _ 1 b, ne_eqb _ 2 c)

module _ (f : List ℕ) (start : ℕ) (table numbers : List ℕ) (k count : ℕ) (t : Tabled f start table numbers k count) (some : 0 < count) (i : Folded) (e : i ≡ folded_at f (start + folded_size * k))
    (na : i.item.kind ≡ 0 → ⊥) (ng : i.item.kind ≡ 1 → ⊥) (nl : i.item.kind ≡ 2 → ⊥) where
  curve-times : (shape_at table k).times ≡ length (numbers_at table numbers k)
  curve-times =
      let s : shape_at table k ≡ shape_of (numbered_by i (numbers_at table numbers k)) = shape-here f start table numbers k count t some ∙ ap (λ (x : Folded). shape_of (numbered_by x (numbers_at table numbers k))) (sym e) in
      ap (λ (x : Shape). x.times) s ∙ curve-counts i (numbers_at table numbers k) na ng nl

  curve-numbers : numbers_at table numbers k ≡ part numbers (first_at table k) (shape_at table k).times
  unfolding numbers_at pick
  curve-numbers = go (eqb (shape_at table k).kind 3) refl where
    go : (b : Bool) → eqb (shape_at table k).kind 3 ≡ b → numbers_at table numbers k ≡ part numbers (first_at table k) (shape_at table k).times
    go true p = rw p
    go false p =
        let n : numbers_at table numbers k ≡ [] = rw p in
        let z : (shape_at table k).times ≡ 0 = curve-times ∙ ap length n in
        n ∙ sym (ap (λ (c : ℕ). part numbers (first_at table k) c) z ∙ part_none numbers (first_at table k))

  module _ (times : ℕ) (et : times ≡ (shape_at table k).times) where
    pub curve-long : times ≡ length (numbers_at table numbers k)
    curve-long = et ∙ curve-times

    module _ (first : ℕ) (ef : first ≡ first_at table k) where
      pub curve-part : numbers_at table numbers k ≡ part numbers first times
      curve-part = rw (et, ef) curve-numbers

      pub curve-whole : length (part numbers first times) ≡ times
      curve-whole = sym (curve-long ∙ ap length curve-part)
