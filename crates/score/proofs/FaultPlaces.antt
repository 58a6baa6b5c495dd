-- Where each fault of the file check is: the first wrong event, item or message stands at the place that its fault names, and what stands before it is right.
-- By recursion over the events, along the walk of the items, and over the messages. Assumes nothing.
use mathlib.Core.Path.{◌≡◌, refl, sym, ap, ◌∙◌}
use mathlib.Core.Bool.{Bool, true, false}
use mathlib.Core.List.{List, [], ◌∷◌}
use Prim.Native.Nat.{ℕ, zero, suc, ◌+◌, ◌*◌, ◌<◌, ◌≤◌}
use native.Mathlib.Omega.{arith}
use lib.ListN.{length, get_or, take, drop, length-take, length-drop}
use lib.Seq.{get_or-take, get_or-drop, length-take-le}
use Rattle.std.specs.Prelude.{Result, Ok, Err}
use Rattle.page.specs.declared.Item.{Item}
use Rattle.base.specs.Tests.{between}
use Rattle.base.specs.Checks.{Check, fine, refused, need, first_fault}
use Rattle.contents.specs.declared.Fault.{Fault}
use Rattle.contents.specs.declared.Fault.TheVariants.{BadEvent, BadMessage, TextLeft}
use Rattle.contents.specs.declared.ItemRule.{ItemRule}
use Rattle.contents.specs.declared.Counts.{Counts}
use Rattle.contents.specs.Limits.{event_size, item_size, message_size, longest}
use Rattle.contents.specs.Bytes.{u16_at}
use Rattle.contents.specs.Contents.{items_at}
use Rattle.items.specs.declared.Setting.{Setting}
use Rattle.items.specs.Items.{item_right, within_of, own_of, next, inside, onward, broken_at, on_from, walk_of, walked, outset, walk_fault, items_right}
use Rattle.items.specs.Ranged.{blank}
use Rattle.items.proofs.Walked.{right-item, within-left}
use Rattle.messages.specs.Messages.{message_right, messages_right}
use Rattle.score.specs.Events.{events_right}

-- ---- of several checks, one has the fault

module _ {X : Type 0} where
  pub fault-of : (v : Check X) (l : List (Check X)) (x : X) (P : Type 0) → first_fault (v ∷ l) ≡ refused x → (v ≡ refused x → P) → (v ≡ fine → first_fault l ≡ refused x → P) → P
  unfolding first_fault
  fault-of fine l x P e here later = later refl e
  fault-of (refused y) l x P e here later = here e

  pub no_fault : (x : X) (P : Type 0) → first_fault [] ≡ refused x → P
  unfolding first_fault
  no_fault x P e = let z : ◌≡◌ {A = ℕ} 0 1 = cc in absurd (omega arith)

  pub need-wrong : (b : Bool) (x y : X) → need b y ≡ refused x → b ≡ false
  unfolding need
  need-wrong true x y e = let z : ◌≡◌ {A = ℕ} 0 1 = cc in absurd (omega arith)
  need-wrong false x y e = refl

  pub need-fault : (b : Bool) (x y : X) → need b y ≡ refused x → x ≡ y
  unfolding need
  need-fault true x y e = let z : ◌≡◌ {A = ℕ} 0 1 = cc in absurd (omega arith)
  need-fault false x y e = cc

  need-right : (b : Bool) (y : X) → need b y ≡ fine → b ≡ true
  unfolding need
  need-right true y e = refl
  need-right false y e = let z : ◌≡◌ {A = ℕ} 0 1 = cc in absurd (omega arith)

-- ---- the events

-- The duration of the event at this place of the list is wrong, and those before it are right.
pub record EventFault (at : ℕ) (ds : List ℕ) (x : Fault) : Type 0 where
  pub k : ℕ
  pub below : k < length ds
  pub place : x ≡ BadEvent (at + event_size * k)
  pub wrong : between 1 longest (get_or ds k 0) ≡ false
  pub before_right : (j : ℕ) → j < k → between 1 longest (get_or ds j 0) ≡ true

event-next : (at d : ℕ) (ds : List ℕ) (x : Fault) → between 1 longest d ≡ true → EventFault (at + event_size) ds x → EventFault at (d ∷ ds) x
event-next at d ds x right h =
    let s : at + event_size + event_size * h.k ≡ at + event_size * suc h.k = omega arith in
    let earlier : (j : ℕ) → j < suc h.k → between 1 longest (get_or (d ∷ ds) j 0) ≡ true = go in
    record { k = suc h.k; below = omega (arith, h.below); place = h.place ∙ ap BadEvent s; wrong = h.wrong; before_right = earlier }
  where
    go : (j : ℕ) → j < suc h.k → between 1 longest (get_or (d ∷ ds) j 0) ≡ true
    go zero p = right
    go (suc j) p = h.before_right j (omega arith)

pub event-fault : (at : ℕ) (ds : List ℕ) (x : Fault) → events_right at ds ≡ refused x → EventFault at ds x
unfolding events_right
event-fault at [] x e = let z : ◌≡◌ {A = ℕ} 0 1 = cc in absurd (omega arith)
event-fault at (d ∷ ds) x e =
    fault-of _ _ x (EventFault at (d ∷ ds) x) e
    (λ h.
    let s : at ≡ at + event_size * 0 = omega arith in
    record { k = 0; below = omega arith; place = need-fault _ x (BadEvent at) h ∙ ap BadEvent s; wrong = need-wrong _ x (BadEvent at) h; before_right = λ j p. absurd (omega arith) })
    (λ right rest.
    fault-of _ _ x (EventFault at (d ∷ ds) x) rest
    (λ h. event-next at d ds x (need-right _ (BadEvent at) right) (event-fault (at + event_size) ds x h))
    (λ _ h. no_fault x _ h))

-- ---- the items

-- How the item at page place p stands in the walk of these items, which begins with a setting and so many actions: with which setting, how many items left and how many actions
-- before it. Those before it are right.
pub data Standing (c : Counts) : (is : List Item) (h : Setting) (n p : ℕ) (h' : Setting) (left n' : ℕ) → Type 0 where
  here : {i : Item} {is : List Item} {h : Setting} {n : ℕ} → Standing c (i ∷ is) h n 0 h (length is) n
  within : {i : Item} {is : List Item} {h h' : Setting} {n p left n' : ℕ} → item_right i c h (length is) n ≡ fine
      → Standing c (take (within_of i) is) (inside i h) (n + own_of i) p h' left n' → Standing c (i ∷ is) h n (suc p) h' left n'
  after : {i : Item} {is : List Item} {h h' : Setting} {n p left n' : ℕ} → item_right i c h (length is) n ≡ fine
      → (b at m : ℕ) → length (take (within_of i) is) ≤ b → walk_of b c at (take (within_of i) is) (inside i h) (n + own_of i) ≡ Ok m
      → Standing c (drop (within_of i) is) (next i h) m p h' left n' → Standing c (i ∷ is) h n (suc (within_of i + p)) h' left n'

-- The item at this page place is wrong where it stands: this is the first rule that it breaks, and the place is its field's.
pub record ItemFault (c : Counts) (at : ℕ) (is : List Item) (h : Setting) (n : ℕ) (x : Fault) : Type 0 where
  pub p : ℕ
  pub below : p < length is
  pub rule : ItemRule
  pub place : x ≡ broken_at (at + item_size * p) rule
  pub setting : Setting
  pub left : ℕ
  pub actions : ℕ
  pub stands : Standing c is h n p setting left actions
  pub wrong : item_right (get_or is p blank) c setting left actions ≡ refused rule

-- the same field, its item's first byte told otherwise
same-field : (x : Fault) (r : ItemRule) (a b : ℕ) → x ≡ broken_at a r → a ≡ b → x ≡ broken_at b r
same-field x r a b e s = e ∙ ap (λ (k : ℕ). broken_at k r) s

module _ (c : Counts) (at : ℕ) (i : Item) (is : List Item) (h : Setting) (n : ℕ) (x : Fault) where
  item-here : (r : ItemRule) → item_right i c h (length is) n ≡ refused r → ◌≡◌ {A = Result ℕ Fault} (Err (broken_at at r)) (Err x) → ItemFault c at (i ∷ is) h n x
  item-here r wrong e =
      let q : x ≡ broken_at at r = cc in
      let s : at ≡ at + item_size * 0 = omega arith in
      record { p = 0; below = omega arith; rule = r; place = same-field x r _ _ q s; setting = h; left = length is; actions = n; stands = here; wrong = wrong }

  module _ (right : item_right i c h (length is) n ≡ fine) where
    item-within : within_of i ≤ length is → ItemFault c (at + item_size) (take (within_of i) is) (inside i h) (n + own_of i) x → ItemFault c at (i ∷ is) h n x
    item-within l f =
        let s : at + item_size + item_size * f.p ≡ at + item_size * suc f.p = omega arith in
        let b : f.p < within_of i = omega (arith, f.below, length-take-le (within_of i) is l) in
        record {
          p = suc f.p;
          below = omega arith;
          rule = f.rule;
          place = same-field x f.rule _ _ f.place s;
          setting = f.setting;
          left = f.left;
          actions = f.actions;
          stands = within right f.stands;
          wrong = rw (← get_or-take (within_of i) is f.p blank b) f.wrong;
        }

    item-after : (b at' m : ℕ) → length (take (within_of i) is) ≤ b → walk_of b c at' (take (within_of i) is) (inside i h) (n + own_of i) ≡ Ok m
        → ItemFault c (at + item_size + item_size * within_of i) (drop (within_of i) is) (next i h) m x → ItemFault c at (i ∷ is) h n x
    item-after b at' m k w f =
        let s : at + item_size + item_size * within_of i + item_size * f.p ≡ at + item_size * suc (within_of i + f.p) = omega arith in
        record {
          p = suc (within_of i + f.p);
          below = omega (arith, f.below, length-drop (within_of i) is);
          rule = f.rule;
          place = same-field x f.rule _ _ f.place s;
          setting = f.setting;
          left = f.left;
          actions = f.actions;
          stands = after right b at' m k w f.stands;
          wrong = rw (← get_or-drop (within_of i) is f.p blank) f.wrong;
        }

-- a walk in two parts that stops does so in the first, or in the second from where the first ended
onward-stopped : (w : Result ℕ Fault) (on : ℕ → Result ℕ Fault) (x : Fault) (P : Type 0) → onward w on ≡ Err x → (w ≡ Err x → P) → ((m : ℕ) → w ≡ Ok m → on m ≡ Err x → P) → P
unfolding onward
onward-stopped (Ok m) on x P e first second = second m refl e
onward-stopped (Err y) on x P e first second = first e

-- one item of the walk, with what holds of those within it and after it
module _ (b : ℕ) (c : Counts) (at : ℕ) (i : Item) (is : List Item) (x : Fault) (fits : length is ≤ b)
    (found : (at' : ℕ) (is' : List Item) (h : Setting) (n : ℕ) → length is' ≤ b → walk_of b c at' is' h n ≡ Err x → ItemFault c at' is' h n x) where
  taken-fits : (k : ℕ) → length (take k is) ≤ b
  taken-fits k = omega (arith, length-take k is)

  dropped-fits : (k : ℕ) → length (drop k is) ≤ b
  dropped-fits k = omega (arith, length-drop k is)

  item-step : (h : Setting) (n : ℕ) (v : Check ItemRule) → item_right i c h (length is) n ≡ v
      → on_from v at
      (onward (walk_of b c (at + item_size) (take (within_of i) is) (inside i h) (n + own_of i))
      (λ m. walk_of b c (at + item_size + item_size * within_of i) (drop (within_of i) is) (next i h) m))
      ≡ Err x
      → ItemFault c at (i ∷ is) h n x
  unfolding on_from
  item-step h n (refused r) wrong q = item-here c at i is h n x r wrong q
  item-step h n fine right q =
      onward-stopped _ _ x _ q
      (λ s. item-within c at i is h n x right (within-left (right-item i c h (length is) n right)) (found _ _ _ _ (taken-fits (within_of i)) s))
      (λ m w s. item-after c at i is h n x right b _ m (taken-fits (within_of i)) w (found _ _ _ _ (dropped-fits (within_of i)) s))

walk-fault : (b : ℕ) (c : Counts) (at : ℕ) (is : List Item) (h : Setting) (n : ℕ) (x : Fault) → length is ≤ b → walk_of b c at is h n ≡ Err x → ItemFault c at is h n x
unfolding walk_of
walk-fault zero c at is h n x l e = let z : ◌≡◌ {A = ℕ} 0 1 = cc in absurd (omega arith)
walk-fault (suc b) c at [] h n x l e = let z : ◌≡◌ {A = ℕ} 0 1 = cc in absurd (omega arith)
walk-fault (suc b) c at (i ∷ is) h n x l e =
    item-step b c at i is x (omega arith) (λ at' is' h' n' k q. walk-fault b c at' is' h' n' x k q) h n (item_right i c h (length is) n) refl e

walk-stopped : (w : Result ℕ Fault) (x : Fault) → walk_fault w ≡ refused x → w ≡ Err x
unfolding walk_fault
walk-stopped (Ok n) x e = let z : ◌≡◌ {A = ℕ} 0 1 = cc in absurd (omega arith)
walk-stopped (Err y) x e = cc

pub item-fault : (c : Counts) (is : List Item) (x : Fault) → items_right c is ≡ refused x → ItemFault c (items_at c) is outset 0 x
unfolding items_right walked
item-fault c is x e = walk-fault (length is) c (items_at c) is outset 0 x (omega arith) (walk-stopped _ x e)

-- ---- the messages

-- Where the text of the first n entries ends, if it begins at a byte.
unfoldable pub text_to : List ℕ → (at n from : ℕ) → ℕ
text_to f at zero from = from
text_to f at (suc n) from = text_to f (at + message_size) n (from + u16_at f (at + 2))

-- The message at this place is wrong, where the text of those before it ends, and they are right.
pub record MessageFault (f : List ℕ) (c : Counts) (at count from : ℕ) (x : Fault) : Type 0 where
  pub n : ℕ
  pub below : n < count
  pub place : x ≡ BadMessage (at + message_size * n)
  pub wrong : message_right f c (at + message_size * n) (text_to f at n from) ≡ false
  pub before_right : (j : ℕ) → j < n → message_right f c (at + message_size * j) (text_to f at j from) ≡ true

module _ (f : List ℕ) (c : Counts) (at count from : ℕ) (x : Fault) where
  message-here : message_right f c at from ≡ false → x ≡ BadMessage at → MessageFault f c at (suc count) from x
  unfolding text_to
  message-here wrong e =
      let s : at + message_size * 0 ≡ at = omega arith in
      record { n = 0; below = omega arith; place = e ∙ ap BadMessage (sym s); wrong = rw s wrong; before_right = λ j p. absurd (omega arith) }

  -- an entry of the rest stands one place further on
  further : (j : ℕ) (t : Bool) → message_right f c (at + message_size + message_size * j) (text_to f (at + message_size) j (from + u16_at f (at + 2))) ≡ t
      → message_right f c (at + message_size * suc j) (text_to f at (suc j) from) ≡ t
  unfolding text_to
  further j t e = let s : at + message_size * suc j ≡ at + message_size + message_size * j = omega arith in rw s e

  first-right : message_right f c at from ≡ true → message_right f c (at + message_size * 0) (text_to f at 0 from) ≡ true
  unfolding text_to
  first-right e = let s : at + message_size * 0 ≡ at = omega arith in rw s e

  message-next : message_right f c at from ≡ true → MessageFault f c (at + message_size) count (from + u16_at f (at + 2)) x → MessageFault f c at (suc count) from x
  message-next right h =
      let s : at + message_size * suc h.n ≡ at + message_size + message_size * h.n = omega arith in
      record {
        n = suc h.n;
        below = omega (arith, h.below);
        place = h.place ∙ ap BadMessage (sym s);
        wrong = further h.n false h.wrong;
        before_right = before;
      }
    where
      before : (j : ℕ) → j < suc h.n → message_right f c (at + message_size * j) (text_to f at j from) ≡ true
      before zero p = first-right right
      before (suc j) p = further j true (h.before_right j (omega arith))

-- an entry is wrong, or all are right and the text is not used up
pub message-fault : (f : List ℕ) (c : Counts) (at count from : ℕ) (x : Fault) (P : Type 0) → messages_right f c at count from ≡ refused x → (MessageFault f c at count from x → P) → (x ≡ TextLeft → P) → P
unfolding messages_right
message-fault f c at zero from x P e entry text = text (need-fault _ x TextLeft e)
message-fault f c at (suc count) from x P e entry text =
    fault-of _ _ x P e
    (λ h. entry (message-here f c at count from x (need-wrong _ x (BadMessage at) h) (need-fault _ x (BadMessage at) h)))
    (λ right rest.
    fault-of _ _ x P rest
    (λ h. message-fault f c (at + message_size) count (from + u16_at f (at + 2)) x P h (λ m. entry (message-next f c at count from x (need-right _ (BadMessage at) right) m)) text)
    (λ _ h. no_fault x P h))
