-- Where the table's rows are the extended score's own and the numbers are its values', the items read of them are the score's numbered items, and the table has
-- their shapes. Assumes nothing.
use mathlib.Core.Path.{◌≡◌, refl, sym, ap, ◌∙◌}
use mathlib.Core.Bool.{Bool, true, false}
use mathlib.Core.List.{List, [], ◌∷◌, ◌++◌}
use Prim.Native.Nat.{ℕ, zero, suc, ◌+◌, ◌*◌, ◌<◌}
use native.Mathlib.Omega.{arith}
use lib.IntN.{ℤ}
use lib.ListN.{length, get_or, take, drop, length-append}
use lib.Seq.{take-take, take_at, take-nil, drop_at, drop-drop, get_or-take, get_or-drop}
use Rattle.base.specs.Tests.{pick}
use Rattle.contents.specs.Bytes.{part}
use Rattle.score.proofs.EncodingBytes.{part-add}
use Rattle.values.specs.Curves.{Point}
use Rattle.extended.specs.declared.Folded.{Folded}
use Rattle.extended.specs.Layout.{folded_size}
use Rattle.extended.specs.Folds.{is_curve, folded_at, folded_from}
use Rattle.extended.specs.Points.{points_after, values_of, all_values}
use Rattle.extended.specs.Inner.{Folds, fold}
use Rattle.shapes.specs.declared.Shape.{Shape}
use Rattle.shapes.specs.Limits.{row_words}
use Rattle.shapes.specs.Shapes.{shape_at, shapes_from, unfolded as tree_unfolded, items as tree_items, actions as tree_actions, depth as tree_depth}
use Rattle.tables.specs.Tables.{times_of, row_of, table_of}
use Rattle.unfolding.specs.Messages.{Messages, with_values, numbers_of}
use Rattle.unfolding.specs.Extended.{numbered}
use Rattle.unfolding.specs.Unfolded.{unfolded, items, actions, depth}
use Rattle.unfolding.proofs.CountLaws.{numbers-length}
use Rattle.building.specs.Rows.{first_at, numbers_at, numbered_in, shapes_of, Rows, no_rows, row}
use Rattle.building.proofs.ShapeLaws.{items-same, actions-same, depth_same}
use Rattle.building.proofs.KindLaws.{numbers-both, shape_same}

-- ---- the numbers of the first values, and of those after them

module _ (numbers : List ℕ) (before : ℕ) (m : Messages) (xs ys : List ℤ) (all : part numbers before (length (xs ++ ys)) ≡ numbers_of m (xs ++ ys)) where
  both : part numbers before (length xs + length ys) ≡ numbers_of m xs ++ numbers_of (with_values m xs) ys
  both = ap (λ (n : ℕ). part numbers before n) (sym (length-append xs ys)) ∙ all ∙ numbers-both m xs ys

  numbers-front : part numbers before (length xs) ≡ numbers_of m xs
  unfolding part
  numbers-front =
      sym (take-take (length xs) (length xs + length ys) (drop before numbers) (omega arith))
      ∙ ap (λ (l : List ℕ). take (length xs) l) both
      ∙ take_at (numbers_of m xs) (numbers_of (with_values m xs) ys) (length xs) (numbers-length m xs)

  numbers_after : part numbers (before + length xs) (length ys) ≡ numbers_of (with_values m xs) ys
  numbers_after =
      let l : length (part numbers before (length xs)) ≡ length xs = ap length numbers-front ∙ numbers-length m xs in
      sym (drop_at (part numbers before (length xs)) (part numbers (before + length xs) (length ys)) (length xs) l)
      ∙ ap (λ (p : List ℕ). drop (length xs) p) (sym (part-add numbers before (length xs) (length ys)) ∙ both)
      ∙ drop_at (numbers_of m xs) (numbers_of (with_values m xs) ys) (length xs) (numbers-length m xs)

-- ---- a row

module _ (table : List ℕ) (k before : ℕ) (i : Folded) (is : List Folded) (ps : List Point) where
  row-shape : Rows table k before (i ∷ is) ps → shape_at table k ≡ record { kind = i.item.kind; last = i.item.last; times = times_of i ps }
  row-shape (row s f r) = s

  row_first : Rows table k before (i ∷ is) ps → first_at table k ≡ before
  row_first (row s f r) = f

  row-rest : Rows table k before (i ∷ is) ps → Rows table (k + 1) (before + length (values_of i ps)) is (points_after i ps)
  row-rest (row s f r) = r

  numbers-here : (numbers : List ℕ) (m : Messages) → Rows table k before (i ∷ is) ps → part numbers before (length (values_of i ps)) ≡ numbers_of m (values_of i ps) → numbers_at table numbers k ≡ numbers_of m (values_of i ps)
  unfolding numbers_at times_of values_of numbers_of pick
  numbers-here numbers m rows all = rw (row-shape rows, row_first rows) (go (is_curve i) refl) where
    go : (c : Bool) → is_curve i ≡ c → pick (is_curve i) (part numbers before (times_of i ps)) [] ≡ numbers_of m (values_of i ps)
    go true e = rw e (rw e at all)
    go false e = rw e

-- ---- the rows as they are laid

drop-take : (m n : ℕ) (l : List ℕ) → drop m (take (m + n) l) ≡ take n (drop m l)
drop-take zero n l = let s : 0 + n ≡ n = omega arith in rw s
drop-take (suc m) n [] = let s : suc m + n ≡ suc (m + n) = omega arith in rw s (sym (take-nil n))
drop-take (suc m) n (x ∷ l) = let s : suc m + n ≡ suc (m + n) = omega arith in rw s (drop-take m n l)

module _ (table : List ℕ) (at count : ℕ) (a b c d : ℕ) (rest : List ℕ) (laid : part table at (row_words + count) ≡ a ∷ b ∷ c ∷ d ∷ rest) where
  word : (j : ℕ) → j < row_words → get_or table (at + j) 0 ≡ get_or (a ∷ b ∷ c ∷ d ∷ rest) j 0
  unfolding part
  word j p = sym (get_or-take (row_words + count) (drop at table) j 0 (omega arith) ∙ get_or-drop at table j 0) ∙ ap (λ (l : List ℕ). get_or l j 0) laid

  words-after : part table (at + row_words) count ≡ rest
  unfolding part
  words-after = sym (drop-take row_words count (drop at table) ∙ ap (take count) (drop-drop row_words at table)) ∙ ap (drop row_words) laid

rows_at : (table : List ℕ) (k before : ℕ) (is : List Folded) (ps : List Point) → part table (row_words * k) (row_words * length is) ≡ table_of is ps before → Rows table k before is ps
unfolding table_of row_of shape_at first_at
rows_at table k before [] ps e = no_rows
rows_at table k before (i ∷ is) ps e =
    let s : row_words * length (i ∷ is) ≡ row_words + row_words * length is = omega arith in
    let t : row_words * k + row_words ≡ row_words * (k + 1) = omega arith in
    let z : row_words * k + 0 ≡ row_words * k = omega arith in
    let laid = ap (part table (row_words * k)) (sym s) ∙ e in
    let x : get_or table (row_words * k) 0 ≡ i.item.kind = rw z at (word table (row_words * k) (row_words * length is) _ _ _ _ _ laid 0 (omega arith)) in
    let y = word table (row_words * k) (row_words * length is) _ _ _ _ _ laid 1 (omega arith) in
    let v = word table (row_words * k) (row_words * length is) _ _ _ _ _ laid 2 (omega arith) in
    let w = word table (row_words * k) (row_words * length is) _ _ _ _ _ laid 3 (omega arith) in
    let after = words-after table (row_words * k) (row_words * length is) _ _ _ _ _ laid in
    let shape : shape_at table k ≡ record { kind = i.item.kind; last = i.item.last; times = times_of i ps } = rw (x, y, v) in
    row shape w (rows_at table (k + 1) (before + length (values_of i ps)) is (points_after i ps) (rw t at after))

pub rows-laid : (table : List ℕ) (is : List Folded) (ps : List Point) → take (row_words * length is) table ≡ table_of is ps 0 → Rows table 0 0 is ps
unfolding part
rows-laid table is ps e = rows_at table 0 0 is ps e

-- ---- all of them

module _ (f : List ℕ) (start : ℕ) (table numbers : List ℕ) where
  next_place : (k : ℕ) → start + folded_size * k + folded_size ≡ start + folded_size * (k + 1)
  next_place k = omega arith

  numbered-from : (n k before : ℕ) (ps : List Point) (m : Messages) → Rows table k before (folded_from f (start + folded_size * k) n) ps
      → part numbers before (length (all_values (folded_from f (start + folded_size * k) n) ps)) ≡ numbers_of m (all_values (folded_from f (start + folded_size * k) n) ps)
      → numbered_in f start table numbers k n ≡ numbered (folded_from f (start + folded_size * k) n) ps m
  unfolding folded_from all_values numbered_in numbered
  numbered-from zero k before ps m rows all = refl
  numbered-from (suc n) k before ps m rows all =
      let i = folded_at f (start + folded_size * k) in
      let is = folded_from f (start + folded_size * k + folded_size) n in
      let after = all_values is (points_after i ps) in
      let a = numbers-here table k before i is ps numbers m rows (numbers-front numbers before m (values_of i ps) after all) in
      let e : is ≡ folded_from f (start + folded_size * (k + 1)) n = ap (λ (at : ℕ). folded_from f at n) (next_place k) in
      let r : Rows table (k + 1) (before + length (values_of i ps)) (folded_from f (start + folded_size * (k + 1)) n) (points_after i ps) = rw (← e) (row-rest table k before i is ps rows) in
      let b = numbered-from n (k + 1) (before + length (values_of i ps)) (points_after i ps) (with_values m (values_of i ps)) r (rw (← e) (numbers_after numbers before m (values_of i ps) after all)) in
      rw (a, b, e)

  shapes-from : (n k before : ℕ) (ps : List Point) (m : Messages) → Folds ps (folded_from f (start + folded_size * k) n) → Rows table k before (folded_from f (start + folded_size * k) n) ps
      → shapes_from table k n ≡ shapes_of (numbered (folded_from f (start + folded_size * k) n) ps m)
  unfolding folded_from shapes_from shapes_of numbered
  shapes-from zero k before ps m right rows = refl
  shapes-from (suc n) k before ps m (fold own rest) rows =
      let i = folded_at f (start + folded_size * k) in
      let is = folded_from f (start + folded_size * k + folded_size) n in
      let e : is ≡ folded_from f (start + folded_size * (k + 1)) n = ap (λ (at : ℕ). folded_from f at n) (next_place k) in
      let r : Rows table (k + 1) (before + length (values_of i ps)) (folded_from f (start + folded_size * (k + 1)) n) (points_after i ps) = rw (← e) (row-rest table k before i is ps rows) in
      let a = row-shape table k before i is ps rows ∙ shape_same i ps m own in
      let b = shapes-from n (k + 1) (before + length (values_of i ps)) (points_after i ps) (with_values m (values_of i ps)) (rw (← e) rest) r in
      rw (a, b, e)

  module _ (n : ℕ) (ps : List Point) (m : Messages) (rows : Rows table 0 0 (folded_from f start n) ps) where
    no-further : start + folded_size * 0 ≡ start
    no-further = omega arith

    pub numbered-here : take (length (all_values (folded_from f start n) ps)) numbers ≡ numbers_of m (all_values (folded_from f start n) ps) → numbered_in f start table numbers 0 n ≡ numbered (folded_from f start n) ps m
    unfolding part
    numbered-here all = rw no-further at (numbered-from n 0 0 ps m (rw no-further rows) (rw no-further all))

    pub shapes-here : Folds ps (folded_from f start n) → shapes_from table 0 n ≡ shapes_of (numbered (folded_from f start n) ps m)
    shapes-here right = rw no-further at (shapes-from n 0 0 ps m (rw no-further right) (rw no-further rows))

    -- so the sizes that are found by the table are those of the unfolded score
    module _ (right : Folds ps (folded_from f start n)) where
      pub items-here : tree_items (tree_unfolded (shapes_from table 0 n)) ≡ items (unfolded (numbered (folded_from f start n) ps m))
      items-here = ap (λ (l : List Shape). tree_items (tree_unfolded l)) (shapes-here right) ∙ sym (items-same (numbered (folded_from f start n) ps m))

      pub actions-here : tree_actions (tree_unfolded (shapes_from table 0 n)) ≡ actions (unfolded (numbered (folded_from f start n) ps m))
      actions-here = ap (λ (l : List Shape). tree_actions (tree_unfolded l)) (shapes-here right) ∙ sym (actions-same (numbered (folded_from f start n) ps m))

      pub depth-here : tree_depth (tree_unfolded (shapes_from table 0 n)) ≡ depth (unfolded (numbered (folded_from f start n) ps m))
      depth-here = ap (λ (l : List Shape). tree_depth (tree_unfolded l)) (shapes-here right) ∙ sym (depth_same (numbered (folded_from f start n) ps m))

      -- and the table says what the items read by it are
      pub shapes-read : take (length (all_values (folded_from f start n) ps)) numbers ≡ numbers_of m (all_values (folded_from f start n) ps) → shapes_from table 0 n ≡ shapes_of (numbered_in f start table numbers 0 n)
      shapes-read all = shapes-here right ∙ ap shapes_of (sym (numbered-here all))
