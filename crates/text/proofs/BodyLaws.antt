-- The items of one part and event that lines can say, each with those within it: their lines may stand one behind the other, and say these items and no other.
-- By recursion over the items. Assumes nothing.
use mathlib.Core.Path.{◌≡◌, refl, sym, ap, ◌∙◌}
use mathlib.Core.List.{List, [], ◌∷◌, ◌++◌, append_assoc}
use Prim.Native.Nat.{ℕ, zero, suc, ◌+◌, ◌-◌, ◌<◌, ◌≤◌}
use native.Mathlib.Omega.{arith}
use lib.ListN.{length, get_or, length-append}
use lib.Seq.{take-append_seam, drop-append_seam}
use borrow.Author.Tests.{eq-eqb, ne_eqb}
use Rattle.base.specs.Tests.{pick}
use Rattle.tokens.specs.Bytes.{is_plain, All}
use Rattle.tokens.specs.Beats.{field}
use Rattle.page.specs.declared.Item.{Item}
use Rattle.text.specs.declared.Stage.TheVariants.{Playing}
use Rattle.text.specs.Words.{message_field}
use Rattle.text.specs.Grammar.{Line, send, group, close, deeper, shallower, after}
use Rattle.text.specs.Said.{labels_of, durations_of, within, event_of, items_of}
use Rattle.text.specs.Written.{Spot, behind_line, item_lines}
use Rattle.text.proofs.LineLaws.{may_send, may_group, may_close}
use Rattle.text.proofs.TextLaws.{script_of, Nested, goes}

-- ---- items that lines can say

-- What every item says of itself: its delay fits, and it has this part and event.
pub record Fits (p ev : ℕ) (i : Item) : Type 0 where
  pub delay : i.delay.0 < field
  pub part : i.part ≡ p
  pub event : i.event ≡ ev

-- "For an action both words are 0"; its label ends no line.
pub record Acts (ls : List (List ℕ)) (i : Item) : Type 0 where
  pub kind : i.kind ≡ 0
  pub synchrony : i.synchrony ≡ 0
  pub error : i.error ≡ 0
  pub number : i.last < message_field
  pub label : All is_plain (get_or ls i.last [])

-- "For a group last is how many following items lie within it".
pub record Holds (size : ℕ) (i : Item) : Type 0 where
  pub kind : i.kind ≡ 1
  pub synchrony : i.synchrony ≤ 1
  pub error : i.error ≤ 3
  pub last : i.last ≡ size

-- Items of one part and event, each with those within it: "An item within a group has event 0 and its group's part."
pub data Body (ls : List (List ℕ)) (p : ℕ) : (ev : ℕ) → List Item → Type 0 where
  body_none : {ev : ℕ} → Body ls p ev []
  body_action : {ev : ℕ} {i : Item} {l : List Item} → Fits p ev i → Acts ls i → Body ls p ev l → Body ls p ev (i ∷ l)
  body_group : {ev : ℕ} {i : Item} {b l : List Item} → Fits p ev i → Holds (length b) i → Body ls p 0 b → Body ls p ev l → Body ls p ev (i ∷ (b ++ l))

-- ---- the lines of an item and of those within it

lines_none : (n : ℕ) → item_lines n [] ≡ []
unfolding item_lines
lines_none zero = refl
lines_none (suc n) = refl

pub lines-action : (n : ℕ) (i : Item) (is : List Item) → i.kind ≡ 0 → item_lines (suc n) (i ∷ is) ≡ send i.delay.0 i.last ∷ item_lines n is
unfolding item_lines pick
lines-action n i is e = rw (eq-eqb i.kind 0 e)

lines-group : (n : ℕ) (i : Item) (b l : List Item) (rest : List Line) → Holds (length b) i
    → item_lines (suc n) (i ∷ (b ++ l)) ++ rest ≡ group i.delay.0 i.synchrony i.error ∷ (item_lines n b ++ (close ∷ (item_lines n l ++ rest)))
unfolding item_lines pick
lines-group n i b l rest h =
    let k = h.kind in
    rw (ne_eqb i.kind 0 (λ q. omega arith), h.last, take-append_seam b l, drop-append_seam b l, append_assoc (item_lines n b) (close ∷ item_lines n l) rest)

close-nested : {ls : List (List ℕ)} {depth : ℕ} {rest : List Line} → ((s : Spot) → Nested ls (Playing depth) s rest) → (s : Spot) → Nested ls (Playing (suc depth)) s (close ∷ rest)
unfolding after shallower
close-nested {ls} {depth} {rest} w s =
    let z : suc depth - 1 ≡ depth = omega arith in
    let t : Nested ls (Playing (suc depth - 1)) (behind_line close s) rest = rw z (w (behind_line close s)) in
    goes may_close t

module _ (ls : List (List ℕ)) {p : ℕ} where
  -- They may stand one behind the other.
  pub body-nested : (n : ℕ) {depth ev : ℕ} {is : List Item} {rest : List Line} → Body ls p ev is → length is ≤ n → ((s : Spot) → Nested ls (Playing depth) s rest)
      → (s : Spot) → Nested ls (Playing depth) s (item_lines n is ++ rest)
  unfolding after deeper behind_line
  body-nested n body_none q w s = rw (lines_none n) (w s)
  body-nested zero (body_action f a l) q w s = absurd (omega arith)
  body-nested zero (body_group f h b l) q w s = absurd (omega arith)
  body-nested (suc n) (body_action {i = i} {l = l} f a t) q w s =
      rw (lines-action n i l a.kind) (goes (may_send f.delay a.number a.label) (body-nested n t (omega arith) w s))
  body-nested (suc n) {depth} {rest = rest} (body_group {i = i} {b = b} {l = l} f h t u) q w s =
      let k = length-append b l in
      rw (lines-group n i b l rest h)
      (goes (may_group f.delay h.synchrony h.error) (body-nested n t (omega arith) (close-nested (λ r. body-nested n u (omega arith) w r)) _))

  -- How many they are.
  body-within : (n depth : ℕ) {ev : ℕ} {is : List Item} (rest : List Line) → Body ls p ev is → length is ≤ n
      → within depth (script_of (item_lines n is ++ rest)) ≡ length is + within depth (script_of rest)
  unfolding within script_of
  body-within n depth rest body_none q = rw (lines_none n) (omega arith)
  body-within zero depth rest (body_action f a l) q = absurd (omega arith)
  body-within zero depth rest (body_group f h b l) q = absurd (omega arith)
  body-within (suc n) depth rest (body_action {i = i} {l = l} f a t) q =
      rw (lines-action n i l a.kind) (omega (arith, body-within n depth rest t (omega arith)))
  body-within (suc n) depth rest (body_group {i = i} {b = b} {l = l} f h t u) q =
      let k = length-append b l in
      rw (lines-group n i b l rest h)
      (omega (arith, body-within n (suc depth) (close ∷ (item_lines n l ++ rest)) t (omega arith), body-within n depth rest u (omega arith)))

  group-within : (n : ℕ) {ev : ℕ} {is : List Item} (rest : List Line) → Body ls p ev is → length is ≤ n → within 0 (script_of (item_lines n is ++ (close ∷ rest))) ≡ length is
  unfolding within script_of
  group-within n rest b q = omega (arith, body-within n 0 (close ∷ rest) b q)

  -- They say no label and no duration.
  pub body-labels : (n : ℕ) {ev : ℕ} {is : List Item} (rest : List Line) → Body ls p ev is → length is ≤ n → labels_of (script_of (item_lines n is ++ rest)) ≡ labels_of (script_of rest)
  unfolding labels_of script_of
  body-labels n rest body_none q = rw (lines_none n)
  body-labels zero rest (body_action f a l) q = absurd (omega arith)
  body-labels zero rest (body_group f h b l) q = absurd (omega arith)
  body-labels (suc n) rest (body_action {i = i} {l = l} f a t) q = rw (lines-action n i l a.kind) (body-labels n rest t (omega arith))
  body-labels (suc n) rest (body_group {i = i} {b = b} {l = l} f h t u) q =
      let k = length-append b l in
      rw (lines-group n i b l rest h) (body-labels n (close ∷ (item_lines n l ++ rest)) t (omega arith) ∙ body-labels n rest u (omega arith))

  pub body-durations : (n : ℕ) {ev : ℕ} {is : List Item} (rest : List Line) → Body ls p ev is → length is ≤ n → durations_of (script_of (item_lines n is ++ rest)) ≡ durations_of (script_of rest)
  unfolding durations_of script_of
  body-durations n rest body_none q = rw (lines_none n)
  body-durations zero rest (body_action f a l) q = absurd (omega arith)
  body-durations zero rest (body_group f h b l) q = absurd (omega arith)
  body-durations (suc n) rest (body_action {i = i} {l = l} f a t) q = rw (lines-action n i l a.kind) (body-durations n rest t (omega arith))
  body-durations (suc n) rest (body_group {i = i} {b = b} {l = l} f h t u) q =
      let k = length-append b l in
      rw (lines-group n i b l rest h) (body-durations n (close ∷ (item_lines n l ++ rest)) t (omega arith) ∙ body-durations n rest u (omega arith))

-- ---- the item that a line says

same-action : (k w v p q e f d n : ℕ) → k ≡ 0 → w ≡ 0 → v ≡ 0 → p ≡ q → e ≡ f
    → ◌≡◌ {A = Item} (record { kind = 0; synchrony = 0; error = 0; part = q; delay = record { 0 = d }; event = f; last = n })
    (record { kind = k; synchrony = w; error = v; part = p; delay = record { 0 = d }; event = e; last = n })
same-action k w v p q e f d n a b c x y = rw (a, b, c, x, y)

same-group : (k p q e f m n w v d : ℕ) → k ≡ 1 → p ≡ q → e ≡ f → n ≡ m
    → ◌≡◌ {A = Item} (record { kind = 1; synchrony = w; error = v; part = q; delay = record { 0 = d }; event = f; last = m })
    (record { kind = k; synchrony = w; error = v; part = p; delay = record { 0 = d }; event = e; last = n })
same-group k p q e f m n w v d a x y z = rw (a, x, y, z)

inner_event : (depth e : ℕ) → event_of (suc depth) e ≡ 0
unfolding event_of
inner_event depth e = refl

close-items : (e p depth : ℕ) (rest : List Line) → items_of e p (suc depth) (script_of (close ∷ rest)) ≡ items_of e p depth (script_of rest)
unfolding items_of script_of
close-items e p depth rest = let z : suc depth - 1 ≡ depth = omega arith in ap (λ (d : ℕ). items_of e p d (script_of rest)) z

module _ (ls : List (List ℕ)) {p : ℕ} where
  -- They say these items, each group with its own.
  pub body-items : (n e depth : ℕ) {ev : ℕ} {is : List Item} (rest : List Line) → Body ls p ev is → ev ≡ event_of depth e → length is ≤ n
      → items_of e p depth (script_of (item_lines n is ++ rest)) ≡ is ++ items_of e p depth (script_of rest)
  unfolding items_of script_of
  body-items n e depth rest body_none v q = rw (lines_none n)
  body-items zero e depth rest (body_action f a l) v q = absurd (omega arith)
  body-items zero e depth rest (body_group f h b l) v q = absurd (omega arith)
  body-items (suc n) e depth rest (body_action {i = i} {l = l} f a t) v q =
      let it =
      same-action i.kind i.synchrony i.error i.part p i.event (event_of depth e) i.delay.0 i.last a.kind a.synchrony a.error f.part (f.event ∙ v) in
      rw (lines-action n i l a.kind, body-items n e depth rest t v (omega arith)) (ap (λ (j : Item). j ∷ (l ++ items_of e p depth (script_of rest))) it)
  body-items (suc n) e depth rest (body_group {i = i} {b = b} {l = l} f h t u) v q =
      let k = length-append b l in
      let size = group-within ls n (item_lines n l ++ rest) t (omega arith) in
      let it =
      same-group i.kind i.part p i.event (event_of depth e) (length b) i.last i.synchrony i.error i.delay.0 h.kind f.part (f.event ∙ v) h.last in
      rw (
        lines-group n i b l rest h,
        size,
        body-items n e (suc depth) (close ∷ (item_lines n l ++ rest)) t (sym (inner_event depth e)) (omega arith),
        close-items e p depth (item_lines n l ++ rest),
        body-items n e depth rest u v (omega arith),
        append_assoc b l (items_of e p depth (script_of rest)),
      )
      (ap (λ (j : Item). j ∷ (b ++ (l ++ items_of e p depth (script_of rest)))) it)
