-- The file check accepts what it accepted before document 02 (vi), gives 20 to 27 within the same item where it gave 7, and is the same everywhere else. By recursion along the walk of the
-- items, in which both checks go the same way until the first wrong one. Assumes nothing.
use mathlib.Core.Path.{◌≡◌, refl, ◌∙◌}
use mathlib.Core.Bool.{Bool, true, false}
use mathlib.Core.List.{List, [], ◌∷◌}
use Prim.Native.Nat.{ℕ, zero, suc, ◌+◌, ◌*◌}
use native.Mathlib.Omega.{arith}
use lib.Dec.{leb, ltb, eqb}
use lib.ListN.{length, take, drop}
use Rattle.std.specs.Prelude.{Result, Ok, Err}
use Rattle.page.specs.declared.Item.{Item}
use Rattle.base.specs.Tests.{pick, every}
use Rattle.base.specs.Checks.{Check, fine, refused, need, first_fault, is_fine, renamed}
use Rattle.base.proofs.CheckLaws.{fine_end, fine_more}
use Rattle.contents.specs.declared.Fault.{Fault}
use Rattle.contents.specs.declared.Fault.TheVariants.{FileShort, BadCount, BadOffset, BadLength, BadEvent, BadItem, BadMessage, TextLeft, NoMessage}
use Rattle.contents.specs.declared.ItemRule.{ItemRule}
use Rattle.contents.specs.declared.Counts.{Counts}
use Rattle.contents.specs.declared.Reply.{Reply}
use Rattle.contents.specs.Limits.{item_size}
use Rattle.contents.specs.Contents.{counts_of, items_at}
use Rattle.contents.specs.Replies.{fault_row, reply_of, verdict_of}
use Rattle.contents.proofs.RuleRows.{rule-numbered, field-within}
use Rattle.items.specs.declared.Setting.{Setting}
use Rattle.items.specs.Items.{is_action, synchrony_right, error_right, item_right, within_of, own_of, next, inside, onward, broken_at, on_from, walk_of, walked, outset, walk_fault, items_right}
use Rattle.score.specs.Piece.{decode}
use Rattle.score.specs.File.{bodies_right, checked}
use Rattle.score.specs.LookUp.{label_reply}
use Rattle.score.specs.Before.{words_before, right_before, WalkBefore, counted, wrong_at, onward_before, walk_before, told7, items_before, bodies_before, checked_before, Split, accepted, kept, split}

-- ---- one item is right when it was

words_same : (b : Bool) (s e : ℕ) → every (pick b (eqb s 0) (leb s 1) ∷ pick b (eqb e 0) (leb e 3) ∷ []) ≡ pick b (every (eqb s 0 ∷ eqb e 0 ∷ [])) (every (leb s 1 ∷ leb e 3 ∷ []))
unfolding pick
words_same true s e = refl
words_same false s e = refl

every-pair : (k s e : Bool) (l : List Bool) → every (k ∷ s ∷ e ∷ l) ≡ every (k ∷ every (s ∷ e ∷ []) ∷ l)
unfolding every
every-pair true true true l = refl
every-pair true true false l = refl
every-pair true false e l = refl
every-pair false s e l = refl

pub right-when-before : (i : Item) (c : Counts) (h : Setting) (left n : ℕ) → is_fine (item_right i c h left n) ≡ right_before i c h left n
unfolding item_right right_before synchrony_right error_right words_before
right-when-before i c h left n =
    fine_more _ _ _ _ (fine_more _ _ _ _ (fine_more _ _ _ _ (fine_more _ _ _ _ (fine_more _ _ _ _
    (fine_more _ _ _ _ (fine_more _ _ _ _ (fine_more _ _ _ _ (fine_more _ _ _ _ (fine_end ItemRule)))))))))
    ∙ (every-pair _ _ _ _ ∙ rw (words_same (is_action i) i.synchrony i.error))

-- ---- the walk goes the same way

data Alike : WalkBefore → Result ℕ Fault → Type 0 where
  both_count : {n : ℕ} → Alike (counted n) (Ok n)
  both_stop : {r : ItemRule} {at : ℕ} → Alike (wrong_at at) (Err (broken_at at r))

alike-onward : {v : WalkBefore} {w : Result ℕ Fault} (more : ℕ → WalkBefore) (on : ℕ → Result ℕ Fault) → Alike v w → ((m : ℕ) → Alike (more m) (on m)) → Alike (onward_before v more) (onward w on)
unfolding onward_before onward
alike-onward more on (both_count {n}) h = h n
alike-onward more on both_stop h = both_stop

alike_from : (b : Bool) (v : Check ItemRule) (at : ℕ) (u : WalkBefore) (w : Result ℕ Fault) → is_fine v ≡ b → Alike u w → Alike (pick b u (wrong_at at)) (on_from v at w)
unfolding is_fine pick on_from
alike_from true fine at u w e h = h
alike_from false fine at u w e h = let z : ◌≡◌ {A = ℕ} 0 1 = cc in absurd (omega arith)
alike_from true (refused r) at u w e h = let z : ◌≡◌ {A = ℕ} 0 1 = cc in absurd (omega arith)
alike_from false (refused r) at u w e h = both_stop

walks-alike : (x : ℕ) (c : Counts) (at : ℕ) (is : List Item) (h : Setting) (n : ℕ) → Alike (walk_before x c at is h n) (walk_of x c at is h n)
unfolding walk_before walk_of
walks-alike zero c at is h n = both_count
walks-alike (suc x) c at [] h n = both_count
walks-alike (suc x) c at (i ∷ is) h n =
    alike_from _ _ at _ _ (right-when-before i c h (length is) n)
    (alike-onward _ _ (walks-alike x c (at + item_size) (take (within_of i) is) (inside i h) (n + own_of i))
    (λ m. walks-alike x c (at + item_size + item_size * within_of i) (drop (within_of i) is) (next i h) m))

-- ---- 7 is no fault's number

pub no-7 : (x : Fault) → (fault_row x).number ≡ 7 → ⊥
unfolding fault_row
no-7 FileShort e = absurd (omega arith)
no-7 (BadCount at) e = absurd (omega arith)
no-7 (BadOffset at) e = absurd (omega arith)
no-7 BadLength e = absurd (omega arith)
no-7 (BadEvent at) e = absurd (omega arith)
no-7 (BadItem r at) e = absurd (omega (arith, rule-numbered r))
no-7 (BadMessage at) e = absurd (omega arith)
no-7 TextLeft e = absurd (omega arith)
no-7 NoMessage e = absurd (omega arith)

-- ---- of several checks

module _ {X : Type 0} (row : X → Reply) where
  pub split-none : Split row (first_fault []) (first_fault [])
  unfolding first_fault
  split-none = accepted

  pub split-first : (v : Check Reply) (w : Check X) (l : List (Check Reply)) (k : List (Check X)) → Split row v w → Split row (first_fault l) (first_fault k) → Split row (first_fault (v ∷ l)) (first_fault (w ∷ k))
  unfolding first_fault
  split-first fine fine l k accepted h = h
  split-first fine (refused x) l k s h = elim s [ ]
  split-first (refused r) fine l k s h = elim s [ ]
  split-first (refused r) (refused x) l k (kept n) h = kept n
  split-first (refused r) (refused x) l k (split p q s t) h = split p q s t

  pub split-need : (b : Bool) (x : X) → ((row x).number ≡ 7 → ⊥) → Split row (need b (row x)) (need b x)
  unfolding need
  split-need true x n = accepted
  split-need false x n = kept n

-- a check that gave no 7 is as it was
same : (v : Check Fault) → Split fault_row (renamed fault_row v) v
unfolding renamed
same fine = accepted
same (refused x) = kept (no-7 x)

-- ---- the file

alike-split : {v : WalkBefore} {w : Result ℕ Fault} → Alike v w → Split fault_row (told7 v) (walk_fault w)
unfolding told7 walk_fault fault_row
alike-split both_count = accepted
alike-split (both_stop {r} {at}) = let n = rule-numbered r in let p = field-within r in split {x = broken_at at r} {b = at} n.0 n.1 (omega arith) (omega arith)

items-split : (c : Counts) (is : List Item) → Split fault_row (items_before c is) (items_right c is)
unfolding items_before items_right walked
items-split c is = alike-split (walks-alike (length is) c (items_at c) is outset 0)

bodies-split : (f : List ℕ) (c : Counts) → Split fault_row (bodies_before f c) (bodies_right f c)
unfolding bodies_before bodies_right
bodies-split f c =
    split-first fault_row _ _ _ _ (same _)
    (split-first fault_row _ _ _ _ (items-split c (decode f).items) (split-first fault_row _ _ _ _ (same _) (split-none fault_row)))

pub fields-only : (f : List ℕ) → Split fault_row (checked_before f) (checked f)
unfolding checked_before checked
fields-only f =
    split-first fault_row _ _ _ _ (split-need fault_row _ FileShort (no-7 FileShort))
    (split-first fault_row _ _ _ _ (same _)
    (split-first fault_row _ _ _ _ (same _) (split-first fault_row _ _ _ _ (bodies-split f (counts_of f)) (split-none fault_row))))

-- "Text look-up: the file check, 15."
pub look-ups-too : (f : List ℕ) (n : ℕ) → Split fault_row (first_fault (checked_before f ∷ need (ltb n (counts_of f).messages) (fault_row NoMessage) ∷ [])) (label_reply f n)
unfolding label_reply
look-ups-too f n = split-first fault_row _ _ _ _ (fields-only f) (split-first fault_row _ _ _ _ (split-need fault_row _ NoMessage (no-7 NoMessage)) (split-none fault_row))

-- ---- what is accepted

module _ {X : Type 0} {row : X → Reply} where
  pub fine-now : {v : Check Reply} {w : Check X} → Split row v w → v ≡ fine → w ≡ fine
  fine-now accepted e = refl
  fine-now (kept n) e = let z : ◌≡◌ {A = ℕ} 0 1 = cc in absurd (omega arith)
  fine-now (split p q s t) e = let z : ◌≡◌ {A = ℕ} 0 1 = cc in absurd (omega arith)

  pub fine_before : {v : Check Reply} {w : Check X} → Split row v w → w ≡ fine → v ≡ fine
  fine_before accepted e = refl
  fine_before (kept n) e = let z : ◌≡◌ {A = ℕ} 0 1 = cc in absurd (omega arith)
  fine_before (split p q s t) e = let z : ◌≡◌ {A = ℕ} 0 1 = cc in absurd (omega arith)

pub accepted-as-before : (f : List ℕ) → (checked_before f ≡ fine → checked f ≡ fine) × (checked f ≡ fine → checked_before f ≡ fine)
accepted-as-before f = (fine-now (fields-only f), fine_before (fields-only f))

-- ---- "The old number 7 is never given again"

not-7 : (v : Check Fault) → (reply_of (verdict_of v)).number ≡ 7 → ⊥
unfolding reply_of verdict_of
not-7 fine e = absurd (omega arith)
not-7 (refused x) e = no-7 x e

pub never-7 : (f : List ℕ) → (reply_of (verdict_of (checked f))).number ≡ 7 → ⊥
never-7 f = not-7 (checked f)
