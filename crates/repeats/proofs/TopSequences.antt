-- The rules read the table of an unfolded score, top to bottom, as its sequences: those within a group go on with the sequence that the group belongs to.
-- Assumes nothing.
use mathlib.Core.Path.{◌≡◌, refl, sym, ap, ◌∙◌}
use mathlib.Core.Bool.{Bool, true, false}
use mathlib.Core.List.{List, [], ◌∷◌, ◌++◌, append_assoc}
use Prim.Native.Nat.{ℕ, zero, suc, ◌+◌, ◌≤◌, max}
use native.Mathlib.Omega.{arith}
use lib.Dec.{eqb}
use lib.ListN.{length, take, drop, length-append}
use lib.Seq.{take_at, drop_at, take-append-add, drop-append-add}
use borrow.Author.Tests.{ne_eqb}
use Rattle.page.specs.declared.Item.{Item}
use Rattle.base.specs.Tests.{pick, every}
use Rattle.rules.specs.Page.{levels, sequence_of, goes_on, run_length, entries_of}
use Rattle.unfolding.specs.Unfolded.{Unfolded, end, action, group, items, depth, group_item, page}
use Rattle.unfolding.proofs.Shapes.{Kinds, at_end, at_action, at_group, pick-kinds}
use Rattle.unfolding.proofs.CountLaws.{page-length}
use Rattle.repeats.specs.Sequences.{sequence}
use Rattle.repeats.specs.Tops.{belongs, front, back, tops_of}
use Rattle.repeats.proofs.PageSequence.{page-sequence}

-- "A top item names its event." "An item within a group has event 0".
pub data Inner : Unfolded → Type 0 where
  inner_end : Inner end
  inner_action : {i : Item} {rest : Unfolded} → i.event ≡ 0 → Inner rest → Inner (action i rest)
  inner_group : {i : Item} {body rest : Unfolded} → i.event ≡ 0 → Inner body → Inner rest → Inner (group i body rest)

pub data EventsNamed : Unfolded → Type 0 where
  named_end : EventsNamed end
  named_action : {i : Item} {rest : Unfolded} → 1 ≤ i.event → EventsNamed rest → EventsNamed (action i rest)
  named_group : {i : Item} {body rest : Unfolded} → 1 ≤ i.event → Inner body → EventsNamed rest → EventsNamed (group i body rest)

-- ---- the front and the back of a sequence

module _ (i p : ℕ) where
  front-action : (b : Bool) (x : Item) (rest : Unfolded) → page rest ≡ page (front i p rest) ++ page (back i p rest) →
      x ∷ page rest ≡ page (pick b (action x (front i p rest)) end) ++ page (pick b (back i p rest) (action x rest))
  unfolding page pick
  front-action true x rest h = ap (◌∷◌ x) h
  front-action false x rest h = refl

  front-group : (b : Bool) (x : Item) (body rest : Unfolded) → page rest ≡ page (front i p rest) ++ page (back i p rest) →
      group_item x (items body) ∷ (page body ++ page rest) ≡ page (pick b (group x body (front i p rest)) end) ++ page (pick b (back i p rest) (group x body rest))
  unfolding page pick
  front-group true x body rest h =
      ap (◌∷◌ (group_item x (items body))) (ap (λ (l : List Item). page body ++ l) h ∙ sym (append_assoc (page body) (page (front i p rest)) (page (back i p rest))))
  front-group false x body rest h = refl

  -- Together they are the whole page.
  front-back : (u : Unfolded) → page u ≡ page (front i p u) ++ page (back i p u)
  unfolding front back page
  front-back end = refl
  front-back (action x rest) = front-action (belongs i p x) x rest (front-back rest)
  front-back (group x body rest) = front-group (belongs i p x) x body rest (front-back rest)

  front-kinds : {u : Unfolded} → Kinds u → Kinds (front i p u)
  unfolding front
  front-kinds at_end = at_end
  front-kinds (at_action {i = x} {rest = rest} k r) = pick-kinds (belongs i p x) (at_action k (front-kinds r)) at_end
  front-kinds (at_group {i = x} b r) = pick-kinds (belongs i p x) (at_group b (front-kinds r)) at_end

  back-kinds : {u : Unfolded} → Kinds u → Kinds (back i p u)
  unfolding back
  back-kinds at_end = at_end
  back-kinds (at_action {i = x} k r) = pick-kinds (belongs i p x) (back-kinds r) (at_action k r)
  back-kinds (at_group {i = x} b r) = pick-kinds (belongs i p x) (back-kinds r) (at_group b r)

  pick-named : (b : Bool) {u v : Unfolded} → EventsNamed u → EventsNamed v → EventsNamed (pick b u v)
  unfolding pick
  pick-named true h k = h
  pick-named false h k = k

  back-named : {u : Unfolded} → EventsNamed u → EventsNamed (back i p u)
  unfolding back
  back-named named_end = named_end
  back-named (named_action {i = x} e r) = pick-named (belongs i p x) (back-named r) (named_action e r)
  back-named (named_group {i = x} e b r) = pick-named (belongs i p x) (back-named r) (named_group e b r)

  pick-depth : (b : Bool) (u v : Unfolded) (d : ℕ) → depth u ≤ d → depth v ≤ d → depth (pick b u v) ≤ d
  unfolding pick
  pick-depth true u v d h k = h
  pick-depth false u v d h k = k

  front-depth : (u : Unfolded) → depth (front i p u) ≤ depth u
  unfolding front depth
  front-depth end = omega arith
  front-depth (action x rest) = pick-depth (belongs i p x) (action x (front i p rest)) end (max 1 (depth rest)) (let h = front-depth rest in omega arith) (omega arith)
  front-depth (group x body rest) =
      pick-depth (belongs i p x) (group x body (front i p rest)) end (max (1 + depth body) (depth rest)) (let h = front-depth rest in omega arith) (omega arith)

  back-depth : (u : Unfolded) → depth (back i p u) ≤ depth u
  unfolding back depth
  back-depth end = omega arith
  back-depth (action x rest) = pick-depth (belongs i p x) (back i p rest) (action x rest) (max 1 (depth rest)) (let h = back-depth rest in omega arith) (omega arith)
  back-depth (group x body rest) =
      pick-depth (belongs i p x) (back i p rest) (group x body rest) (max (1 + depth body) (depth rest)) (let h = back-depth rest in omega arith) (omega arith)

  both-items : (u : Unfolded) → items u ≡ items (front i p u) + items (back i p u)
  both-items u =
      omega (
        arith,
        page-length u,
        page-length (front i p u),
        page-length (back i p u),
        ap length (front-back u),
        length-append (page (front i p u)) (page (back i p u)),
      )

  front-taken : (u : Unfolded) → take (items (front i p u)) (page u) ≡ page (front i p u)
  front-taken u = rw (front-back u) (take_at (page (front i p u)) (page (back i p u)) (items (front i p u)) (page-length (front i p u)))

  back-left : (u : Unfolded) → drop (items (front i p u)) (page u) ≡ page (back i p u)
  back-left u = rw (front-back u) (drop_at (page (front i p u)) (page (back i p u)) (items (front i p u)) (page-length (front i p u)))

  -- ---- how far a sequence goes on the page

  inner-goes : (x : Item) → x.event ≡ 0 → goes_on i p x ≡ true
  unfolding goes_on pick
  inner-goes x e = rw e

  named-goes : (x : Item) → 1 ≤ x.event → goes_on i p x ≡ belongs i p x
  unfolding goes_on belongs pick every
  named-goes x e = rw (ne_eqb x.event 0 (λ z. omega arith)) (go (eqb x.event i) (eqb x.part p))
    where
      go : (a b : Bool) → pick a b false ≡ every (a ∷ b ∷ [])
      go true true = refl
      go true false = refl
      go false b = refl

  group-belongs : (x : Item) (n : ℕ) → belongs i p (group_item x n) ≡ belongs i p x
  unfolding belongs group_item
  group-belongs x n = refl

  run-inner : {u : Unfolded} → Inner u → (l : List Item) → run_length i p (page u ++ l) ≡ items u + run_length i p l
  unfolding page items run_length pick group_item
  run-inner inner_end l = omega arith
  run-inner (inner_action {i = x} e r) l = rw (inner-goes x e, run-inner r l) (omega arith)
  run-inner (inner_group {i = x} {body = body} {rest = rest} e b r) l =
      rw (inner-goes (group_item x (items body)) e, append_assoc (page body) (page rest) l, run-inner b (page rest ++ l), run-inner r l) (omega arith)

  pick_run : (b : Bool) (n : ℕ) (u : Unfolded) → n ≡ items u → pick b n 0 ≡ items (pick b u end)
  unfolding pick items
  pick_run true n u e = e
  pick_run false n u e = refl

  run-named : {u : Unfolded} → EventsNamed u → run_length i p (page u) ≡ items (front i p u)
  unfolding page run_length front items group_item
  run-named named_end = refl
  run-named (named_action {i = x} {rest = rest} e r) =
      rw (named-goes x e) (pick_run (belongs i p x) (suc (run_length i p (page rest))) (action x (front i p rest)) (omega (arith, run-named r)))
  run-named (named_group {i = x} {body = body} {rest = rest} e b r) =
      rw (named-goes (group_item x (items body)) e, group-belongs x (items body))
      (pick_run (belongs i p x) (suc (run_length i p (page body ++ page rest))) (group x body (front i p rest)) (omega (arith, run-inner b (page rest), run-named r)))

-- ---- the whole table

module _ (n p : ℕ) (x : Item) (inside rest : Unfolded) where
  abbrev own : Unfolded
  own = front x.event x.part rest

  group-taken : take (items inside + items own) (page inside ++ page rest) ≡ page inside ++ page own
  group-taken =
      ap (λ (k : ℕ). take (k + items own) (page inside ++ page rest)) (sym (page-length inside))
      ∙ take-append-add (page inside) (page rest) (items own)
      ∙ ap (λ (l : List Item). page inside ++ l) (front-taken x.event x.part rest)

  group-left : drop (items inside + items own) (page inside ++ page rest) ≡ page (back x.event x.part rest)
  group-left =
      ap (λ (k : ℕ). drop (k + items own) (page inside ++ page rest)) (sym (page-length inside))
      ∙ drop-append-add (page inside) (page rest) (items own)
      ∙ back-left x.event x.part rest

  group-top : run_length x.event x.part (page inside ++ page rest) ≡ items inside + items own →
      sequence_of (suc (items inside + items own)) levels p (group_item x (items inside) ∷ (page inside ++ page own)) ≡ sequence p (group x inside own) →
      entries_of n (p + 1 + (items inside + items own)) (page (back x.event x.part rest)) ≡ tops_of n (p + 1 + (items inside + items own)) (back x.event x.part rest) →
      entries_of (suc n) p (page (group x inside rest)) ≡ tops_of (suc n) p (group x inside rest)
  unfolding entries_of tops_of page group_item
  group-top many body after = rw (many, group-taken, group-left, body, after)

-- The table of an unfolded score within the depth is read as the sequences of its top items.
pub page-tops : (n p : ℕ) {u : Unfolded} → Kinds u → EventsNamed u → items u ≤ n → depth u ≤ 8 → entries_of n p (page u) ≡ tops_of n p u
unfolding entries_of tops_of page items depth
page-tops zero p k h b d = refl
page-tops (suc n) p at_end named_end b d = refl
page-tops (suc n) p (at_action {i = x} {rest = rest} k r) (named_action e s) b d =
    let own = front x.event x.part rest in
    let z = both-items x.event x.part rest in
    let own-depth = front-depth x.event x.part rest in
    let back-down = back-depth x.event x.part rest in
    let body : sequence_of (suc (items own)) levels p (x ∷ page own) ≡ sequence p (action x own) =
    page-sequence (suc (items own)) levels p (at_action k (front-kinds x.event x.part r)) (omega arith) (omega arith)
    in
    let after = page-tops n (p + 1 + items own) (back-kinds x.event x.part r) (back-named x.event x.part s) (omega arith) (omega arith) in
    rw (run-named x.event x.part s, front-taken x.event x.part rest, back-left x.event x.part rest, body, after)
page-tops (suc n) p (at_group {i = x} {body = inside} {rest = rest} y r) (named_group e h s) b d =
    let own = front x.event x.part rest in
    let z = both-items x.event x.part rest in
    let own-depth = front-depth x.event x.part rest in
    let back-down = back-depth x.event x.part rest in
    let many : run_length x.event x.part (page inside ++ page rest) ≡ items inside + items own =
    run-inner x.event x.part h (page rest) ∙ ap (λ (k : ℕ). items inside + k) (run-named x.event x.part s)
    in
    let body : sequence_of (suc (items inside + items own)) levels p (group_item x (items inside) ∷ (page inside ++ page own)) ≡ sequence p (group x inside own) =
    page-sequence (suc (items inside + items own)) levels p (at_group y (front-kinds x.event x.part r)) (omega arith) (omega arith)
    in
    let after = page-tops n (p + 1 + (items inside + items own)) (back-kinds x.event x.part r) (back-named x.event x.part s) (omega arith) (omega arith) in
    group-top n p x inside rest many body after
