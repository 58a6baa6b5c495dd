-- No unfolded file breaks a rule of kind, nesting or number of actions: its page has actions and groups only, a group holds just its body, and its depth and actions are
-- within the limits. Assumes nothing.
use mathlib.Core.Path.{◌≡◌, refl, ap, ◌∙◌}
use mathlib.Core.Bool.{true, false}
use mathlib.Core.List.{List, [], ◌∷◌, ◌++◌, append_assoc}
use Prim.Native.Nat.{ℕ, zero, suc, ◌+◌, ◌<◌, ◌≤◌}
use native.Mathlib.Omega.{arith}
use lib.ListN.{length, take, drop, length-append}
use borrow.Author.Tests.{le-leb, lt-ltb}
use Rattle.std.specs.Prelude.{Result, Ok, Err}
use Rattle.page.specs.declared.Item.{Item}
use Rattle.base.specs.Tests.{pick, every, one_of}
use Rattle.base.specs.Checks.{Check, fine, refused}
use Rattle.contents.specs.declared.Fault.{Fault}
use Rattle.contents.specs.declared.ItemRule.{ItemRule}
use Rattle.contents.specs.declared.ItemRule.TheVariants as rule
use Rattle.contents.specs.declared.Counts.{Counts}
use Rattle.contents.specs.Limits.{item_size, most_actions, deepest}
use Rattle.contents.specs.Contents.{items_at}
use Rattle.contents.specs.Replies.{rule_row, fault_row}
use Rattle.items.specs.declared.Setting.{Setting}
use Rattle.items.specs.Items.{item_at, items_from, kind_right, nesting_right, actions_right, item_right, within_of, next, inside, onward, broken_at, on_from, walk_of, walked, outset, walk_fault, items_right}
use Rattle.items.proofs.WalkLaws.{within-action, own-action, within_group, own-group}
use Rattle.score.specs.Encode.{item_bytes}
use Rattle.score.specs.Piece.{decode}
use Rattle.score.specs.File.{checked}
use Rattle.score.proofs.EncodingBytes.{byte-first, u16-read}
use Rattle.score.proofs.EncodingReads.{from_last, from_next}
use Rattle.score.proofs.BodyFaults.{Finds, no_fault, some_fault, need-of, need-kept, Told, ToldRule, item_of, bodies_of}
use Rattle.unfolding.specs.Extended.{extended_of}
use Rattle.unfolding.specs.Unfolded.{Unfolded, items, actions, depth, group_item, page}
use Rattle.unfolding.specs.Sizes.{Score, score_of, counts_on, within_limits, file_of}
use Rattle.unfolding.specs.Answers.{unfolded_file, unfold_answer}
use Rattle.unfolding.specs.Replies.{unfold_row}
use Rattle.unfolding.proofs.Shapes.{Kinds, at_end, at_action, at_group, unfolded-kinds}
use Rattle.unfolding.proofs.CountLaws.{page-length}
use Rattle.unfolding.proofs.LimitLaws.{limits-held, limits-counted}
use Rattle.unfolding.proofs.FileLaws.{counts-file, at-items}
use Rattle.unfolding.proofs.OneOutcome.{file-decided, Number, granted, short_room, of_file, of_extended, of_limit, numbers_of}

-- Not the number of kind, of nesting or of the number of actions.
abbrev Other : ℕ → Type 0
Other n = one_of (20 ∷ 25 ∷ 27 ∷ []) n ≡ false

-- ---- one item: where these three rules are kept, another one is broken or none

abbrev OtherRule : ItemRule → Type 0
OtherRule r = ToldRule Other r

item-other : (i : Item) (c : Counts) (h : Setting) (left n : ℕ) → kind_right i ≡ true → nesting_right i h left ≡ true → actions_right i n ≡ true → Finds OtherRule (item_right i c h left n)
unfolding rule_row pick
item-other i c h left n kind nesting actions =
    item_of OtherRule i c h left n
    (need-kept OtherRule _ rule.Kind kind)
    (need-of OtherRule _ rule.Synchrony refl)
    (need-of OtherRule _ rule.ErrorWord refl)
    (need-of OtherRule _ rule.Part refl)
    (need-of OtherRule _ rule.Delay refl)
    (need-of OtherRule _ rule.Event refl)
    (need-kept OtherRule _ rule.Nesting nesting)
    (need-of OtherRule _ rule.Message refl)
    (need-kept OtherRule _ rule.Actions actions)

module _ (i : Item) (c : Counts) (h : Setting) (left n : ℕ) (shallow : h.depth ≤ deepest) where
  action-other : i.kind ≡ 0 → n < most_actions → Finds OtherRule (item_right i c h left n)
  unfolding nesting_right actions_right every pick
  action-other k few = item-other i c h left n (rw k) (rw (k, le-leb h.depth deepest shallow)) (rw (k, lt-ltb n most_actions few))

  group-other : i.kind ≡ 1 → i.last ≤ left → Finds OtherRule (item_right i c h left n)
  unfolding nesting_right actions_right every pick
  group-other k within = item-other i c h left n (rw k) (rw (k, le-leb h.depth deepest shallow, le-leb i.last left within)) (rw k)

-- ---- the walk: to the end, with so many actions, or to the fault of another rule

data Walks (m : ℕ) : Result ℕ Fault → Type 0 where
  ends : Walks m (Ok m)
  stops : {x : Fault} → Told Other x → Walks m (Err x)

walks_from : (m : ℕ) (v : Check ItemRule) (at : ℕ) (w : Result ℕ Fault) → Finds OtherRule v → Walks m w → Walks m (on_from v at w)
unfolding on_from fault_row
walks_from m fine at w no_fault h = h
walks_from m (refused r) at w (some_fault p) h = stops {x = broken_at at r} p

walks-onward : (k m : ℕ) {w : Result ℕ Fault} (more : ℕ → Result ℕ Fault) → Walks k w → Walks m (more k) → Walks m (onward w more)
unfolding onward
walks-onward k m more ends h = h
walks-onward k m more (stops p) h = stops p

walks-finds : {m : ℕ} {w : Result ℕ Fault} → Walks m w → Finds (Told Other) (walk_fault w)
unfolding walk_fault
walks-finds ends = no_fault
walks-finds (stops p) = some_fault p

-- ---- items that are like those of a page: of the same kinds, and each last the same where it fits its field

data Alike : (is js : List Item) → Type 0 where
  none_alike : Alike [] []
  one_alike : {i j : Item} {is js : List Item} → j.kind ≡ i.kind → (i.last < 65536 → j.last ≡ i.last) → Alike is js → Alike (i ∷ is) (j ∷ js)

alike-length : {is js : List Item} → Alike is js → length js ≡ length is
alike-length none_alike = refl
alike-length (one_alike k l r) = ap suc (alike-length r)

alike-take : (is ms : List Item) {js : List Item} → Alike (is ++ ms) js → Alike is (take (length is) js)
alike-take [] ms a = none_alike
alike-take (i ∷ is) ms (one_alike k l r) = one_alike k l (alike-take is ms r)

alike-drop : (is ms : List Item) {js : List Item} → Alike (is ++ ms) js → Alike ms (drop (length is) js)
alike-drop [] ms a = a
alike-drop (i ∷ is) ms (one_alike k l r) = alike-drop is ms r

-- What is read where items were written is like them.
alike_read : (f : List ℕ) (at : ℕ) (is : List Item) (ys : List ℕ) → drop at f ≡ item_bytes is ++ ys → Alike is (items_from f at (length is))
unfolding item_bytes items_from item_at
alike_read f at [] ys d = none_alike
alike_read f at (i ∷ is) ys d =
    let d₁ = simp append_assoc at d in
    one_alike (byte-first f at _ d₁) (λ p. u16-read f (at + 10) _ _ p (from_last f at i (item_bytes is ++ ys) d₁)) (alike_read f (at + item_size) is ys (from_next f at i (item_bytes is ++ ys) d₁))

-- ---- the page

walks-none : (x : ℕ) (c : Counts) (at : ℕ) (h : Setting) (n m : ℕ) → n ≡ m → Walks m (walk_of x c at [] h n)
unfolding walk_of
walks-none zero c at h n m e = rw e ends
walks-none (suc x) c at h n m e = rw e ends

page-walks : (x : ℕ) {u : Unfolded} {is : List Item} → Kinds u → Alike (page u) is → (c : Counts) (at : ℕ) (h : Setting) (n m : ℕ) → length is ≤ x → items u < 65536
    → h.depth + depth u ≤ 1 + deepest → n + actions u ≡ m → m ≤ most_actions → Walks m (walk_of x c at is h n)
unfolding walk_of page items actions depth group_item inside next
page-walks x at_end none_alike c at h n m p q d e l = walks-none x c at h n m (omega arith)
page-walks zero (at_action k r) (one_alike s t a) c at h n m p q d e l = absurd (omega arith)
page-walks (suc x) (at_action k r) (one_alike {j = j} {js = js} s t a) c at h n m p q d e l =
    let action : j.kind ≡ 0 = s ∙ k in
    walks_from m _ at _ (action-other j c h (length js) n (omega arith) action (omega arith))
    (rw (within-action j action, own-action j action)
    (walks-onward (n + 1) m _ (walks-none x c _ _ (n + 1) (n + 1) refl) (page-walks x r a c _ (next j h) (n + 1) m (omega arith) (omega arith) (omega arith) (omega arith) l)))
page-walks zero (at_group b r) (one_alike s t a) c at h n m p q d e l = absurd (omega arith)
page-walks (suc x) (at_group {body = body} {rest = rest} b r) (one_alike {j = j} {js = js} s t a) c at h n m p q d e l =
    let last : j.last ≡ items body = t (omega arith) in
    let group : j.kind ≡ 0 → ⊥ = λ z. omega arith in
    let within : within_of j ≡ items body = within_group j group ∙ last in
    let size : length js ≡ items body + items rest = alike-length a ∙ length-append (page body) (page rest) ∙ rw (page-length body, page-length rest) in
    let held : Alike (page body) (take (items body) js) = rw (page-length body) at (alike-take (page body) (page rest) a) in
    let after : Alike (page rest) (drop (items body) js) = rw (page-length body) at (alike-drop (page body) (page rest) a) in
    let few : length (take (items body) js) ≤ x = omega (arith, alike-length held, page-length body) in
    let more : length (drop (items body) js) ≤ x = omega (arith, alike-length after, page-length rest) in
    walks_from m _ at _ (group-other j c h (length js) n (omega arith) s (omega arith))
    (rw (within, own-group j group)
    (walks-onward (n + actions body) m _ (page-walks x b held c _ (inside j h) (n + 0) (n + actions body) few (omega arith) (omega arith) (omega arith) (omega arith))
    (page-walks x r after c _ (next j h) (n + actions body) m more (omega arith) (omega arith) (omega arith) l)))

-- ---- the file

module _ (s : Score) (kinds : Kinds s.items) (within : within_limits s ≡ true) where
  read_alike : Alike (page s.items) (decode (file_of s)).items
  unfolding decode counts_on
  read_alike =
      let k = limits-counted s within in
      rw (counts-file s k, ← page-length s.items) (alike_read (file_of s) (items_at (counts_on s)) (page s.items) _ (at-items s k))

  items-other : Finds (Told Other) (items_right (counts_on s) (decode (file_of s)).items)
  unfolding items_right walked
  items-other =
      let k = limits-held s within in
      walks-finds (page-walks _ kinds read_alike _ _ outset 0 (actions s.items) (omega arith) (omega (arith, k.items_few)) (omega (arith, k.shallow)) (omega arith) k.actions_few)

-- The check of an unfolded file within the limits finds no fault of kind, nesting or number of actions.
no-nested-fault : (f : List ℕ) → within_limits (score_of (extended_of f)) ≡ true → Finds (Told Other) (checked (unfolded_file f))
unfolding unfolded_file score_of pick
no-nested-fault f w =
    let s = score_of (extended_of f) in
    rw (file-decided s (limits-counted s w)) (bodies_of Other refl refl (file_of s) (counts_on s) (items-other s (unfolded-kinds _) w))

-- ---- the numbers that a call to unfold tells

number-other : {n : ℕ} → Number Other n → Other n
unfolding pick
number-other granted = refl
number-other short_room = refl
number-other (of_file p) = p
number-other of_extended = refl
number-other of_limit = refl

-- "So .. 20, 25 and 27 never come from it."
pub never-nested : (room : ℕ) (f : List ℕ) → one_of (20 ∷ 25 ∷ 27 ∷ []) (unfold_row (unfold_answer room f)).number ≡ false
never-nested room f = number-other (numbers_of Other no-nested-fault room f)
