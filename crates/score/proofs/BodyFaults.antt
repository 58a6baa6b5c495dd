-- The numbers that the file check tells of a file: whatever holds of the numbers of its faults holds of the one that it finds. By the order of the checks, and by
-- recursion along each body. Assumes nothing.
use mathlib.Core.Path.{◌≡◌, refl}
use mathlib.Core.Bool.{Bool, true, false}
use mathlib.Core.List.{List, [], ◌∷◌}
use Prim.Native.Nat.{ℕ, zero, suc, ◌+◌, ◌*◌}
use lib.ListN.{length, take, drop}
use Rattle.std.specs.Prelude.{Result, Ok, Err}
use Rattle.page.specs.declared.Item.{Item}
use Rattle.base.specs.Checks.{Check, fine, refused, need, first_fault}
use Rattle.contents.specs.declared.Fault.{Fault}
use Rattle.contents.specs.declared.Fault.TheVariants.{BadCount, BadEvent, BadMessage, TextLeft}
use Rattle.contents.specs.declared.ItemRule.{ItemRule}
use Rattle.contents.specs.declared.ItemRule.TheVariants as rule
use Rattle.contents.specs.declared.Counts.{Counts}
use Rattle.contents.specs.Limits.{event_size, item_size, message_size}
use Rattle.contents.specs.Bytes.{u16_at}
use Rattle.contents.specs.Contents.{counts_right, events_at, items_at, messages_at}
use Rattle.contents.specs.Replies.{rule_row, fault_row}
use Rattle.items.specs.declared.Setting.{Setting}
use Rattle.items.specs.Items.{kind_right, synchrony_right, error_right, part_right, delay_right, event_right, nesting_right, number_right, actions_right, item_right, within_of, own_of, next, inside, onward, broken_at, on_from, walk_of, walked, outset, walk_fault, items_right}
use Rattle.messages.specs.Messages.{messages_right}
use Rattle.score.specs.Events.{events_right}
use Rattle.score.specs.Piece.{decode}
use Rattle.score.specs.File.{bodies_right}

-- ---- what a check finds

-- Nothing, or a fault of which P holds.
pub data Finds {X : Type 0} (P : X → Type 0) : Check X → Type 0 where
  no_fault : Finds P fine
  some_fault : {x : X} → P x → Finds P (refused x)

module _ {X : Type 0} (P : X → Type 0) where
  pub first_of : (v : Check X) (l : List (Check X)) → Finds P v → Finds P (first_fault l) → Finds P (first_fault (v ∷ l))
  unfolding first_fault
  first_of fine l h k = k
  first_of (refused x) l h k = h

  -- What is found later may rest on what was found before: nothing.
  pub first_then : (v : Check X) (l : List (Check X)) → Finds P v → (v ≡ fine → Finds P (first_fault l)) → Finds P (first_fault (v ∷ l))
  unfolding first_fault
  first_then fine l h k = k refl
  first_then (refused x) l h k = h

  pub need-of : (b : Bool) (x : X) → P x → Finds P (need b x)
  unfolding need
  need-of true x p = no_fault
  need-of false x p = some_fault p

  pub need-kept : (b : Bool) (x : X) → b ≡ true → Finds P (need b x)
  unfolding need
  need-kept b x e = rw e no_fault

  pub none_left : Finds P (first_fault [])
  unfolding first_fault
  none_left = no_fault

  any_of : ((x : X) → P x) → (v : Check X) → Finds P v
  any_of p fine = no_fault
  any_of p (refused x) = some_fault (p x)

-- P holds of the number that is told of a fault, and of a broken rule.
abbrev pub Told : (ℕ → Type 0) → Fault → Type 0
Told P x = P (fault_row x).number

abbrev pub ToldRule : (ℕ → Type 0) → ItemRule → Type 0
ToldRule P r = P (rule_row r).number

-- ---- one item: what its rules find, in their order

module _ (P : ItemRule → Type 0) (i : Item) (c : Counts) (h : Setting) (left n : ℕ) where
  pub item_of : Finds P (need (kind_right i) rule.Kind) → Finds P (need (synchrony_right i) rule.Synchrony) → Finds P (need (error_right i) rule.ErrorWord)
      → Finds P (need (part_right i h) rule.Part) → Finds P (need (delay_right i) rule.Delay) → Finds P (need (event_right i c h) rule.Event)
      → Finds P (need (nesting_right i h left) rule.Nesting) → Finds P (need (number_right i c) rule.Message) → Finds P (need (actions_right i n) rule.Actions)
      → Finds P (item_right i c h left n)
  unfolding item_right
  item_of kind synchrony error part delay event nesting number actions =
      first_of P _ _ kind
      (first_of P _ _ synchrony
      (first_of P _ _ error
      (first_of P _ _ part
      (first_of P _ _ delay
      (first_of P _ _ event
      (first_of P _ _ nesting
      (first_of P _ _ number
      (first_of P _ _ actions (none_left P)))))))))

module _ (P : ℕ → Type 0) where
  -- ---- the items

  -- Whatever is asked of these items, P holds of the number of what each of them breaks.
  pub data Breaks (c : Counts) : List Item → Type 0 where
    none-breaks : Breaks c []
    one-breaks : {i : Item} {is : List Item} → ((h : Setting) (left n : ℕ) → Finds (ToldRule P) (item_right i c h left n)) → Breaks c is → Breaks c (i ∷ is)

  pub any-breaks : ((r : ItemRule) → ToldRule P r) → (c : Counts) (is : List Item) → Breaks c is
  any-breaks p c [] = none-breaks
  any-breaks p c (i ∷ is) = one-breaks (λ h left n. any_of (ToldRule P) p (item_right i c h left n)) (any-breaks p c is)

  module _ (c : Counts) where
    breaks-take : (n : ℕ) {is : List Item} → Breaks c is → Breaks c (take n is)
    breaks-take zero b = none-breaks
    breaks-take (suc n) none-breaks = none-breaks
    breaks-take (suc n) (one-breaks p b) = one-breaks p (breaks-take n b)

    breaks-drop : (n : ℕ) {is : List Item} → Breaks c is → Breaks c (drop n is)
    breaks-drop zero b = b
    breaks-drop (suc n) none-breaks = none-breaks
    breaks-drop (suc n) (one-breaks p b) = breaks-drop n b

  walk-onward : (w : Result ℕ Fault) (more : ℕ → Result ℕ Fault) → Finds (Told P) (walk_fault w) → ((n : ℕ) → Finds (Told P) (walk_fault (more n))) → Finds (Told P) (walk_fault (onward w more))
  unfolding onward
  walk-onward (Ok n) more h k = k n
  walk-onward (Err x) more h k = h

  walk-on : (v : Check ItemRule) (at : ℕ) (w : Result ℕ Fault) → Finds (ToldRule P) v → Finds (Told P) (walk_fault w) → Finds (Told P) (walk_fault (on_from v at w))
  unfolding on_from walk_fault fault_row
  walk-on fine at w no_fault h = h
  walk-on (refused r) at w (some_fault p) h = some_fault {x = broken_at at r} p

  walk-of : (x : ℕ) (c : Counts) (at : ℕ) {is : List Item} (h : Setting) (n : ℕ) → Breaks c is → Finds (Told P) (walk_fault (walk_of x c at is h n))
  unfolding walk_of walk_fault
  walk-of zero c at h n b = no_fault
  walk-of (suc x) c at h n none-breaks = no_fault
  walk-of (suc x) c at h n (one-breaks {i = i} {is = is} p b) =
      walk-on _ at _ (p h (length is) n)
      (walk-onward _ _ (walk-of x c (at + item_size) (inside i h) (n + own_of i) (breaks-take c (within_of i) b))
      (λ m. walk-of x c (at + item_size + item_size * within_of i) (next i h) m (breaks-drop c (within_of i) b)))

  pub items-of : (c : Counts) {is : List Item} → Breaks c is → Finds (Told P) (items_right c is)
  unfolding items_right walked
  items-of c b = walk-of _ c (items_at c) outset 0 b

  -- ---- the contents: counts have 4

  pub counts_of : P 4 → (c : Counts) → Finds (Told P) (counts_right c)
  unfolding counts_right fault_row
  counts_of four c =
      first_of (Told P) _ _ (need-of (Told P) _ (BadCount 4) four)
      (first_of (Told P) _ _ (need-of (Told P) _ (BadCount 12) four)
      (first_of (Told P) _ _ (need-of (Told P) _ (BadCount 20) four)
      (first_of (Told P) _ _ (need-of (Told P) _ (BadCount 28) four) (none_left (Told P)))))

  -- ---- the bodies: beside the items' own faults they have 6 and 8

  module _ (six : P 6) (eight : P 8) where
    events-of : (at : ℕ) (ds : List ℕ) → Finds (Told P) (events_right at ds)
    unfolding events_right fault_row
    events-of at [] = no_fault
    events-of at (d ∷ ds) =
        first_of (Told P) _ _ (need-of (Told P) _ (BadEvent at) six) (first_of (Told P) _ _ (events-of (at + event_size) ds) (none_left (Told P)))

    messages-of : (f : List ℕ) (c : Counts) (at count from : ℕ) → Finds (Told P) (messages_right f c at count from)
    unfolding messages_right fault_row
    messages-of f c at zero from = need-of (Told P) _ TextLeft eight
    messages-of f c at (suc count) from =
        first_of (Told P) _ _ (need-of (Told P) _ (BadMessage at) eight)
        (first_of (Told P) _ _ (messages-of f c (at + message_size) count (from + u16_at f (at + 2))) (none_left (Told P)))

    pub bodies_of : (f : List ℕ) (c : Counts) → Finds (Told P) (items_right c (decode f).items) → Finds (Told P) (bodies_right f c)
    unfolding bodies_right
    bodies_of f c h =
        first_of (Told P) _ _ (events-of events_at (decode f).durations)
        (first_of (Told P) _ _ h (first_of (Told P) _ _ (messages-of f c (messages_at c) c.messages 0) (none_left (Told P))))
