-- The steps of a list of items, in the code's own terms: one item, and what is laid of the others makes the whole.
-- Assumes nothing.
use mathlib.Core.Path.{◌≡◌, refl, sym, ap, ◌∙◌}
use mathlib.Core.Bool.{Bool, true, false}
use mathlib.Core.List.{List}
use Prim.Native.Nat.{ℕ, ◌+◌, ◌-◌, ◌<◌, ◌≤◌, min, max}
use native.Mathlib.Omega.{arith}
use lib.ListN.{length, take, drop}
use borrow.Author.Rules.{rules}
use Rattle.base.specs.Tests.{pick}
use Rattle.ascii.specs.Laying.{Laid}
use Rattle.ascii.proofs.LayLaws.{laid-join, laid-nothing}
use Rattle.shapes.specs.Shapes.{shape_at, within_of as tree_within}
use Rattle.unfolding.specs.Extended.{Numbered}
use Rattle.unfolding.specs.Unfolded.{Unfolded, end, is_action, becomes, within_of, unfolded, items, actions, depth}
use Rattle.unfolding.proofs.Shapes.{unfolded-none, unfolded-more}
use Rattle.building.specs.Rows.{numbered_at, numbered_in}
use Rattle.building.specs.Inner.{page_bytes, Tabled, Buildable}
use Rattle.building.proofs.ShapeLaws.{within_same}
use Rattle.building.proofs.NumberedLaws.{numbered-one, numbered-none, numbered-take, numbered-drop}
use Rattle.building.proofs.PageLaws.{end-bytes, bytes-length, item-bytes}
use Rattle.building.proofs.TableSteps.{tabled-front, tabled-after, shape-here}

-- ---- an item and what follows it, in size

record Beside (i : Numbered) (b r : Unfolded) : Type 0 where
  pub more : items (becomes i b r) ≡ items (becomes i b end) + items r
  pub sent : actions (becomes i b r) ≡ actions (becomes i b end) + actions r
  pub deep : depth (becomes i b r) ≡ max (depth (becomes i b end)) (depth r)

beside : (i : Numbered) (b r : Unfolded) → Beside i b r
unfolding becomes pick items actions depth
beside i b r = go (is_action i) refl where
  go : (t : Bool) → is_action i ≡ t → Beside i b r
  go true e = record { more = rw e (omega arith); sent = rw e (omega arith); deep = rw e (omega arith) }
  go false e = record { more = rw e (omega arith); sent = rw e (omega arith); deep = rw e (omega arith) }

-- ---- one item of a table and the others

module _ (f : List ℕ) (start : ℕ) (table numbers : List ℕ) (i left : ℕ) (t : Tabled f start table numbers i left) (some : 0 < left) (b : ℕ) (eb : b ≡ min (tree_within (shape_at table i)) (left - 1)) where
  abbrev here : Numbered
  here = numbered_at f start table numbers i

  abbrev body : Unfolded
  body = unfolded (numbered_in f start table numbers (i + 1) b)

  abbrev others : Unfolded
  others = unfolded (numbered_in f start table numbers (i + (1 + b)) (left - (1 + b)))

  table-split : unfolded (numbered_in f start table numbers i left) ≡ becomes here body others
  table-split =
      let after = numbered_in f start table numbers (i + 1) (left - 1) in
      let w : tree_within (shape_at table i) ≡ within_of here = ap tree_within (shape-here f start table numbers i left t some) ∙ within_same here in
      let s : b ≡ min (within_of here) (left - 1) = eb ∙ ap (λ (k : ℕ). min k (left - 1)) w in
      let x : take (within_of here) after ≡ numbered_in f start table numbers (i + 1) b = numbered-take f start table numbers (i + 1) (left - 1) (within_of here) ∙ ap (λ (k : ℕ). numbered_in f start table numbers (i + 1) k) (sym s) in
      let c : i + 1 + min (within_of here) (left - 1) ≡ i + (1 + b) = omega arith in
      let l : left - 1 - min (within_of here) (left - 1) ≡ left - (1 + b) = omega arith in
      let y : drop (within_of here) after ≡ numbered_in f start table numbers (i + (1 + b)) (left - (1 + b)) = numbered-drop f start table numbers (i + 1) (left - 1) (within_of here)
      ∙ ap (λ (k : ℕ). numbered_in f start table numbers k (left - 1 - min (within_of here) (left - 1))) c ∙ ap (λ (k : ℕ). numbered_in f start table numbers (i + (1 + b)) k) l in
      ap unfolded (numbered-one f start table numbers i left some) ∙ unfolded-more here after ∙ rw (x, y)

  pub one-tabled : Tabled f start table numbers i (1 + b)
  one-tabled = tabled-front f start table numbers i left (1 + b) t (omega arith)

  pub others-tabled : Tabled f start table numbers (i + (1 + b)) (left - (1 + b))
  others-tabled = tabled-after f start table numbers i left (1 + b) t (omega arith)

  pub one-made : (size at d : ℕ) → Buildable size at d (unfolded (numbered_in f start table numbers i left)) → Buildable size at d (becomes here body end)
  one-made size at d asked =
      let m = rw table-split at asked in
      let s = beside here body others in
      let x = s.more in
      let y = s.sent in
      let z = s.deep in
      let p = m.room in
      let q = m.few in
      let r = m.sent in
      let u = m.flat in
      record { room = omega arith; few = omega arith; sent = omega arith; flat = omega arith }

  module _ (o m : List ℕ) (at at₁ : ℕ) (laid : Laid o at (page_bytes (becomes here body end)) m at₁) where
    pub others-made : (d : ℕ) → Buildable (length o) at d (unfolded (numbered_in f start table numbers i left)) → Buildable (length m) at₁ d others
    others-made d asked =
        let a = rw table-split at asked in
        let s = beside here body others in
        let x = s.more in
        let y = s.sent in
        let z = s.deep in
        let p = a.room in
        let q = a.few in
        let r = a.sent in
        let u = a.flat in
        let v : length m ≡ length o = laid.size in
        let w : at₁ ≡ at + length (page_bytes (becomes here body end)) = laid.stop in
        let l = bytes-length (becomes here body end) in
        record { room = omega arith; few = omega arith; sent = omega arith; flat = omega arith }

    pub others-on : (k : List ℕ) (r : ℕ) → Laid m at₁ (page_bytes others) k r → Laid o at (page_bytes (unfolded (numbered_in f start table numbers i left))) k r
    others-on k r rest = rw (table-split, item-bytes here body others) (laid-join o m k _ _ at at₁ r laid rest)

-- What is laid of the rest makes the whole.
abbrev pub Goes : List ℕ → ℕ → List ℕ → List ℕ → (k count : ℕ) → List ℕ → (to : ℕ) → List ℕ → (i left at : ℕ) → Type 0
Goes f start table numbers k count o to m i left at =
    (x : List ℕ) (r : ℕ) → Laid m at (page_bytes (unfolded (numbered_in f start table numbers i left))) x r → Laid o to (page_bytes (unfolded (numbered_in f start table numbers k count))) x r

pub none_left : (f : List ℕ) (start : ℕ) (table numbers : List ℕ) (i left at d : ℕ) (m : List ℕ) → left ≤ 0 → Buildable (length m) at d (unfolded (numbered_in f start table numbers i left))
    → Laid m at (page_bytes (unfolded (numbered_in f start table numbers i left))) m at
none_left f start table numbers i left at d m p asked =
    let e : unfolded (numbered_in f start table numbers i left) ≡ end = ap unfolded (numbered-none f start table numbers i left p) ∙ unfolded-none in
    let r = asked.room in
    rw (e, end-bytes) (laid-nothing m at (omega arith))

pub ruleset items-built = (one-tabled, one-made, rules)
