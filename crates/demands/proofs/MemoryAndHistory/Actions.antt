-- The written actions of the sounding parts of an accepted file are its items of kind 0 of these parts, in page order: the reading of a table as sequences loses none.
-- By the nesting of the items. Assumes nothing.
use mathlib.Core.Path.{◌≡◌, refl, ap, ap₂, sym, ◌∙◌}
use Prim.Native.Nat.{ℕ, zero, suc, ◌+◌, ◌≤◌}
use mathlib.Core.Bool.{Bool, true, false}
use mathlib.Core.List.{List, [], ◌∷◌, ◌++◌}
use native.Mathlib.Omega.{arith}
use native.Mathlib.Nat.{le_refl}
use lib.Dec.{eqb}
use lib.ListN.{length, length-append}
use lib.Seq.{take_at, drop_at}
use borrow.Author.Tests.{eqb-true, eqb-false}
use Rattle.page.specs.declared.Item.{Item}
use Rattle.base.specs.Only.{only}
use Rattle.base.specs.Tests.{pick, every}
use Rattle.contents.specs.Contents.{counts_of}
use Rattle.score.specs.Piece.{decode}
use Rattle.score.specs.File.{Accepted}
use Rattle.items.proofs.WalkLaws.{within-action, within_group}
use Rattle.rules.specs.Score.{end}
use Rattle.rules.specs.Page.{levels, sequence_of, Entry, entries_of, entries}
use Rattle.rules.specs.Written.{Written, written, actions_of, actions_on}
use Rattle.rules.specs.Parts.{sounding_entries}
use Rattle.demands.proofs.MemoryAndHistory.Shows.{can_sound, actions_from}
use Rattle.demands.proofs.MemoryAndHistory.Nesting.{Nests, no_nest, one_nest, Tops, no_top, one_top, accepted-tops}
use Rattle.demands.proofs.MemoryAndHistory.Runs.{Head, head, entries-read}

no_items : (b : List Item) → length b ≡ 0 → b ≡ []
no_items [] e = refl
no_items (x ∷ b) e = absurd (omega arith)

module _ (S : ℕ → Bool) where
  from-append : (p : ℕ) (is js : List Item) → actions_from S p (is ++ js) ≡ actions_from S p is ++ actions_from S (p + length is) js
  unfolding actions_from pick
  from-append p [] js = let e : p + 0 ≡ p = omega arith in rw e
  from-append p (x ∷ is) js =
      let e : p + 1 + length is ≡ p + suc (length is) = omega arith in
      go (can_sound S x) (from-append (p + 1) is js ∙ ap (λ (n : ℕ). actions_from S (p + 1) is ++ actions_from S n js) e)
    where
      go : (v : Bool) → actions_from S (p + 1) (is ++ js) ≡ actions_from S (p + 1) is ++ actions_from S (p + suc (length is)) js
          → pick v (written p x.part x.last ∷ actions_from S (p + 1) (is ++ js)) (actions_from S (p + 1) (is ++ js))
          ≡ pick v (written p x.part x.last ∷ actions_from S (p + 1) is) (actions_from S (p + 1) is) ++ actions_from S (p + suc (length is)) js
      go true e = ap (λ (l : List Written). written p x.part x.last ∷ l) e
      go false e = e

  -- ---- one item

  group-silent : (x : Item) → eqb x.kind 0 ≡ false → can_sound S x ≡ false
  unfolding can_sound every
  group-silent x e = rw e

  action-sounds : (x : Item) → eqb x.kind 0 ≡ true → S x.part ≡ true → can_sound S x ≡ true
  unfolding can_sound every
  action-sounds x e h = rw (e, h)

  part-silent : (x : Item) → S x.part ≡ false → can_sound S x ≡ false
  unfolding can_sound every
  part-silent x h = go (eqb x.kind 0)
    where
      go : (v : Bool) → every (v ∷ S x.part ∷ []) ≡ false
      go true = rw h
      go false = refl

  from-none : (p : ℕ) → actions_from S p [] ≡ []
  unfolding actions_from
  from-none p = refl

  from-silent : (p : ℕ) (x : Item) (is : List Item) → can_sound S x ≡ false → actions_from S p (x ∷ is) ≡ actions_from S (p + 1) is
  unfolding actions_from pick
  from-silent p x is e = rw e

  from-sounding : (p : ℕ) (x : Item) (is : List Item) → can_sound S x ≡ true → actions_from S p (x ∷ is) ≡ written p x.part x.last ∷ actions_from S (p + 1) is
  unfolding actions_from pick
  from-sounding p x is e = rw e

  -- ---- a sequence of part q

  module _ (i q : ℕ) where
    silent-run : S q ≡ false → {w : ℕ} (p : ℕ) {is : List Item} → Nests i q w is → actions_from S p is ≡ []
    unfolding actions_from
    silent-run h p no_nest = refl
    silent-run h p (one_nest {x = x} {b = b} {l = l} g e k r s) =
        from-silent p x (b ++ l) (part-silent x (ap S e ∙ h))
        ∙ (from-append (p + 1) b l ∙ ap₂ ◌++◌ (silent-run h (p + 1) r) (silent-run h (p + 1 + length b) s))

    -- At the deepest level there is nothing more within.
    within-run : (n v p : ℕ) {b : List Item} → Nests i q v b → ((u : ℕ) → Nests i q (suc u) b → actions_of q (sequence_of n u p b) ≡ actions_from S p b)
        → actions_of q (elim v [ zero ↦ end | suc u ↦ sequence_of n u p b ]) ≡ actions_from S p b
    unfolding actions_of
    within-run n zero p no_nest ih = sym (from-none p)
    within-run n (suc u) p r ih = ih u r

    group_read : (n v p : ℕ) (x : Item) (b l : List Item) → eqb x.kind 0 ≡ false → length b ≡ x.last
        → actions_of q (sequence_of (suc n) v p (x ∷ (b ++ l)))
        ≡ actions_of q (elim v [ zero ↦ end | suc u ↦ sequence_of n u (p + 1) b ]) ++ actions_of q (sequence_of n v (p + 1 + length b) l)
    unfolding sequence_of actions_of
    group_read n v p x b l t o =
        rw (t, sequence_of)
        (ap₂ ◌++◌
        (ap (λ (k : List Item). actions_of q (elim v [ zero ↦ end | suc u ↦ sequence_of n u (p + 1) k ])) (take_at b l x.last o))
        (ap₂ (λ (m : ℕ) (k : List Item). actions_of q (sequence_of n v (p + 1 + m) k)) (sym o) (drop_at b l x.last o)))

    sounding-run : S q ≡ true → (n v p : ℕ) {is : List Item} → length is ≤ n → Nests i q (suc v) is → actions_of q (sequence_of n v p is) ≡ actions_from S p is
    unfolding sequence_of actions_of
    sounding-run h zero v p f no_nest = sym (from-none p)
    sounding-run h zero v p f (one_nest g e k r s) = absurd (omega arith)
    sounding-run h (suc n) v p f no_nest = sym (from-none p)
    sounding-run h (suc n) v p f (one_nest {x = x} {b = b} {l = l} g e k r s) =
        let a : length b ≤ n = omega (arith, length-append b l) in
        let c : length l ≤ n = omega (arith, length-append b l) in
        go (eqb x.kind 0) refl (λ p'. within-run n v p' r (λ u t. sounding-run h n u p' a t)) (λ p'. sounding-run h n v p' c s)
      where
        go : (t : Bool) → eqb x.kind 0 ≡ t
            → ((p' : ℕ) → actions_of q (elim v [ zero ↦ end | suc u ↦ sequence_of n u p' b ]) ≡ actions_from S p' b)
            → ((p' : ℕ) → actions_of q (sequence_of n v p' l) ≡ actions_from S p' l)
            → actions_of q (sequence_of (suc n) v p (x ∷ (b ++ l))) ≡ actions_from S p (x ∷ (b ++ l))
        go true t ih₁ ih₂ =
            let o : b ≡ [] = no_items b (k ∙ within-action x (eqb-true _ _ t)) in
            rw (from-sounding p x (b ++ l) (action-sounds x t (ap S e ∙ h)), t, sequence_of, o, e, ih₂ (p + 1))
        go false t ih₁ ih₂ =
            let o : length b ≡ x.last = k ∙ within_group x (eqb-false _ _ t) in
            group_read n v p x b l t o
            ∙ (ap₂ ◌++◌ (ih₁ (p + 1)) (ih₂ (p + 1 + length b)) ∙ (sym (from-append (p + 1) b l) ∙ sym (from-silent p x (b ++ l) (group-silent x t))))

module _ (S : ℕ → Bool) where
  sounding-entry : (e : Entry) (es : List Entry) → S e.part ≡ true → sounding_entries S (e ∷ es) ≡ e ∷ sounding_entries S es
  unfolding only pick
  sounding-entry e es h = rw h

  silent-entry : (e : Entry) (es : List Entry) → S e.part ≡ false → sounding_entries S (e ∷ es) ≡ sounding_entries S es
  unfolding only pick
  silent-entry e es h = rw h

  -- The first sequence, and the table after it.
  split_from : (p : ℕ) (x : Item) (is run rest : List Item) → is ≡ run ++ rest
      → actions_from S p (x ∷ run) ++ actions_from S (p + 1 + length run) rest ≡ actions_from S p (x ∷ is)
  split_from p x is run rest e =
      let n : p + 1 + length run ≡ p + suc (length run) = omega arith in
      rw (e, n) (sym (from-append S p (x ∷ run) rest))

  module _ (n m p : ℕ) (x : Item) (is : List Item) (c : Head n x is)
      (rest : actions_on (sounding_entries S (entries_of m (p + 1 + length c.run) c.rest)) ≡ actions_from S (p + 1 + length c.run) c.rest) where
    abbrev entry : Entry
    entry = record { event = x.event; part = x.part; body = sequence_of (suc (length c.run)) levels p (x ∷ c.run) }

    head-actions : (v : Bool) → S x.part ≡ v → actions_on (sounding_entries S (entry ∷ entries_of m (p + 1 + length c.run) c.rest)) ≡ actions_from S p (x ∷ is)
    unfolding actions_on
    head-actions true e =
        rw (sounding-entry entry (entries_of m (p + 1 + length c.run) c.rest) e)
        (ap₂ ◌++◌ (sounding-run S x.event x.part e (suc (length c.run)) levels p (le_refl _) c.nests) rest
        ∙ split_from p x is c.run c.rest c.whole)
    head-actions false e =
        rw (silent-entry entry (entries_of m (p + 1 + length c.run) c.rest) e)
        (rest
        ∙ (ap (λ (l : List Written). l ++ actions_from S (p + 1 + length c.run) c.rest) (sym (silent-run S x.event x.part e p c.nests))
        ∙ split_from p x is c.run c.rest c.whole))

  page-actions : (n m p : ℕ) {is : List Item} → Tops n is → length is ≤ m → actions_on (sounding_entries S (entries_of m p is)) ≡ actions_from S p is
  unfolding entries_of only actions_on
  page-actions n zero p no_top f = sym (from-none S p)
  page-actions n zero p (one_top h g k r s) f = absurd (omega arith)
  page-actions n (suc m) p no_top f = sym (from-none S p)
  page-actions n (suc m) p (one_top {x = x} {b = b} {l = l} h g k r s) f =
      let c = head h k r s in
      let few : length c.rest ≤ m = omega (arith, ap length c.whole, length-append c.run c.rest) in
      ap (λ (es : List Entry). actions_on (sounding_entries S es)) (entries-read m p x (b ++ l) c.run c.rest c.whole c.size)
      ∙ head-actions n m p x (b ++ l) c (page-actions n m (p + 1 + length c.run) c.tops few) (S x.part) refl

-- ---- of an accepted file

pub accepted-actions : (f : List ℕ) → Accepted f → (S : ℕ → Bool) → actions_on (sounding_entries S (entries (decode f).items)) ≡ actions_from S 0 (decode f).items
unfolding entries
accepted-actions f accepted S = page-actions S (counts_of f).events (length (decode f).items) 0 (accepted-tops f accepted) (le_refl _)
