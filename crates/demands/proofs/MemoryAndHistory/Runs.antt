-- How a table with its items nested is read as sequences: run by run, each a top item with all that goes on with its sequence.
-- Assumes nothing.
use mathlib.Core.Path.{◌≡◌, refl, ap, sym, subst₂, ◌∙◌}
use Prim.Native.Nat.{ℕ, zero, suc, ◌+◌, ◌≤◌}
use mathlib.Core.Bool.{Bool, true, false}
use mathlib.Core.List.{List, [], ◌∷◌, ◌++◌, append_assoc}
use native.Mathlib.Omega.{arith}
use native.Mathlib.Nat.{le_refl}
use lib.Dec.{eqb}
use lib.ListN.{length, take, drop, length-append}
use lib.Seq.{take_at, drop_at}
use borrow.Author.Tests.{eqb-true, eq-eqb, ne_eqb}
use Rattle.page.specs.declared.Item.{Item}
use Rattle.base.specs.Tests.{pick}
use Rattle.contents.specs.Contents.{counts_of}
use Rattle.items.specs.Items.{within_of}
use Rattle.score.specs.Piece.{decode}
use Rattle.score.specs.File.{Accepted}
use Rattle.rules.specs.Page.{levels, sequence_of, goes_on, run_length, entries_of, entries}
use Rattle.rules.proofs.Readings.{Within, no_entries, entry_within}
use Rattle.demands.proofs.MemoryAndHistory.Nesting.{Nests, no_nest, one_nest, Tops, no_top, one_top, accepted-tops}

-- ---- the items of a run

-- All that nests within a sequence goes on with it.
run-over : {i q w : ℕ} {b : List Item} → Nests i q w b → (l : List Item) → run_length i q (b ++ l) ≡ length b + run_length i q l
unfolding run_length pick
run-over no_nest l = omega arith
run-over (one_nest {x = x} {b = b} {l = k} g e o r s) l =
    rw (append_assoc b k l, g) (omega (arith, run-over r (k ++ l), run-over s l, length-append b k))

-- A top item that goes on with a sequence is of its event and part.
goes-on-same : (i q : ℕ) (x : Item) → 1 ≤ x.event → goes_on i q x ≡ true → (x.event ≡ i) × (x.part ≡ q)
unfolding goes_on pick
goes-on-same i q x h g =
    let z : eqb x.event 0 ≡ false = ne_eqb x.event 0 (λ e. omega arith) in
    go (eqb x.event i) refl (rw z at g)
  where
    go : (v : Bool) → eqb x.event i ≡ v → pick v (eqb x.part q) false ≡ true → (x.event ≡ i) × (x.part ≡ q)
    go true e f = (eqb-true _ _ e, eqb-true _ _ f)
    go false e f = let z : ◌≡◌ {A = ℕ} 0 1 = cc in absurd (omega arith)

-- The items that go on with the sequence of part q at event i, and those after them.
record Cut (n i q : ℕ) (l : List Item) : Type 0 where
  run : List Item
  rest : List Item
  whole : l ≡ run ++ rest
  size : run_length i q l ≡ length run
  nests : Nests i q 8 run
  tops : Tops n rest

cut : {n : ℕ} (i q : ℕ) {l : List Item} → Tops n l → Cut n i q l
unfolding run_length pick
cut i q no_top = record { run = []; rest = []; whole = refl; size = refl; nests = no_nest; tops = no_top }
cut {n} i q (one_top {x = x} {b = b} {l = l} h f k r s) = go (goes_on i q x) refl (cut i q s)
  where
    go : (v : Bool) → goes_on i q x ≡ v → Cut n i q l → Cut n i q (x ∷ (b ++ l))
    go true g c =
        let e = goes-on-same i q x h g in
        let t : Nests i q 7 b = subst₂ (λ (j m : ℕ). Nests j m 7 b) e.0 e.1 r in
        record {
          run = x ∷ (b ++ c.run);
          rest = c.rest;
          whole = ap (λ (m : List Item). x ∷ m) (ap (λ (m : List Item). b ++ m) c.whole ∙ sym (append_assoc b c.run c.rest));
          size = rw g (omega (arith, run-over t l, length-append b c.run, c.size));
          nests = one_nest g e.1 k t c.nests;
          tops = c.tops;
        }
    go false g c = record { run = []; rest = x ∷ (b ++ l); whole = refl; size = rw g; nests = no_nest; tops = one_top h f k r s }

goes-on-self : (x : Item) → 1 ≤ x.event → goes_on x.event x.part x ≡ true
unfolding goes_on pick
goes-on-self x h = rw (ne_eqb x.event 0 (λ e. omega arith), eq-eqb x.event x.event refl, eq-eqb x.part x.part refl)

-- The first sequence of a table, and the table after it.
pub record Head (n : ℕ) (x : Item) (is : List Item) : Type 0 where
  pub run : List Item
  pub rest : List Item
  pub whole : is ≡ run ++ rest
  pub size : run_length x.event x.part is ≡ length run
  pub nests : Nests x.event x.part 8 (x ∷ run)
  pub tops : Tops n rest

pub head : {n : ℕ} {x : Item} {b l : List Item} → 1 ≤ x.event → length b ≡ within_of x → Nests x.event x.part 7 b → Tops n l → Head n x (b ++ l)
head {x = x} {b} {l} h k r s =
    let c = cut x.event x.part s in
    record {
      run = b ++ c.run;
      rest = c.rest;
      whole = ap (λ (m : List Item). b ++ m) c.whole ∙ sym (append_assoc b c.run c.rest);
      size = omega (arith, run-over r l, length-append b c.run, c.size);
      nests = one_nest (goes-on-self x h) refl k r c.nests;
      tops = c.tops;
    }

-- ---- the page

-- The first sequence is read by itself, and the rest as a table of its own.
pub entries-read : (m p : ℕ) (x : Item) (is run rest : List Item) → is ≡ run ++ rest → run_length x.event x.part is ≡ length run
    → entries_of (suc m) p (x ∷ is)
    ≡ record { event = x.event; part = x.part; body = sequence_of (suc (length run)) levels p (x ∷ run) } ∷ entries_of m (p + 1 + length run) rest
unfolding entries_of
entries-read m p x is run rest e f =
    let t : take (length run) is ≡ run = rw e (take_at run rest (length run) refl) in
    let d : drop (length run) is ≡ rest = rw e (drop_at run rest (length run) refl) in
    rw (f, t, d)

-- The sequences of a table are of events 1 to n.
page-within : (n m p : ℕ) {is : List Item} → Tops n is → length is ≤ m → Within n (entries_of m p is)
unfolding entries_of
page-within n zero p t f = no_entries
page-within n (suc m) p no_top f = no_entries
page-within n (suc m) p (one_top {x = x} {b = b} {l = l} h g k r s) f =
    let c = head h k r s in
    rw (entries-read m p x (b ++ l) c.run c.rest c.whole c.size)
    (entry_within (h, g) (page-within n m (p + 1 + length c.run) c.tops (omega (arith, ap length c.whole, length-append c.run c.rest))))

pub accepted-within : (f : List ℕ) → Accepted f → Within (counts_of f).events (entries (decode f).items)
unfolding entries
accepted-within f accepted = page-within (counts_of f).events (length (decode f).items) 0 (accepted-tops f accepted) (le_refl _)
