-- Of some lines, the one that has number n of a kind is the line that says this entry. The lines and the entries of a kind go together one by one.
-- Assumes nothing.
use mathlib.Core.Path.{◌≡◌, refl}
use mathlib.Core.Bool.{Bool, true, false}
use mathlib.Core.List.{List, [], ◌∷◌}
use Prim.Native.Nat.{ℕ, zero, suc, ◌+◌, ◌-◌, ◌<◌, ◌≤◌}
use native.Mathlib.Omega.{arith}
use lib.Dec.{ltb}
use lib.ListN.{length, get_or}
use borrow.Author.Tests.{lt-ltb, le-ltb, ltb-true, ltb-false}
use Rattle.base.specs.Tests.{pick}
use Rattle.page.specs.declared.Item.{Item}
use Rattle.items.specs.Ranged.{blank}
use Rattle.text.specs.Grammar.{Line, heading, message, event, part, send, group, close}
use Rattle.text.specs.Said.{labels_of, durations_of, items_of}
use Rattle.text.proofs.TextLaws.{script_of}
use Rattle.origins.specs.declared.aims.Table.{Table}
use Rattle.origins.specs.declared.aims.Table.TheVariants.{Events, Items, Messages, Text}
use Rattle.origins.specs.Origins.{adds, count_of}
use Rattle.origins.proofs.OriginLaws.{label_over}
use Rattle.origins.proofs.WrittenLines.{lines_to}

-- ---- one line, and number n of a kind

module _ (k : Table) (n : ℕ) (l : Line) (hs : List Line) where
  lines-here : n < count_of k (adds l) → lines_to k n (l ∷ hs) ≡ 0
  unfolding lines_to pick
  lines-here b = rw (lt-ltb n (count_of k (adds l)) b)

  lines-past : (m : ℕ) → m + count_of k (adds l) ≡ n → lines_to k n (l ∷ hs) ≡ suc (lines_to k m hs)
  unfolding lines_to pick
  lines-past m e = let z : n - count_of k (adds l) ≡ m = omega arith in rw (le-ltb n (count_of k (adds l)) (omega arith), z)

-- ---- lines and entries of one kind

module _ (k : Table) {B : Type 0} (Q : B → Line → Type 0) where
  -- One by one: Q holds of an entry and its line.
  data Says : List Line → List B → Type 0 where
    says_none : Says [] []
    passes : {l : Line} {hs : List Line} {xs : List B} → count_of k (adds l) ≡ 0 → Says hs xs → Says (l ∷ hs) xs
    says : {l : Line} {x : B} {hs : List Line} {xs : List B} → count_of k (adds l) ≡ 1 → Q x l → Says hs xs → Says (l ∷ hs) (x ∷ xs)

  said-there : (z : B) {hs : List Line} {xs : List B} → Says hs xs → (n : ℕ) → n < length xs → Q (get_or xs n z) (get_or hs (lines_to k n hs) heading)
  said-there z says_none n b = absurd (omega arith)
  said-there z (passes {l = l} {hs = hs} e s) n b = rw (lines-past k n l hs n (omega arith)) (said-there z s n b)
  said-there z (says {l = l} {hs = hs} e q s) zero b = rw (lines-here k 0 l hs (omega arith)) q
  said-there z (says {l = l} {hs = hs} e q s) (suc n) b = rw (lines-past k (suc n) l hs n (omega arith)) (said-there z s n (omega arith))

-- ---- the kinds

pub data EventLine (d : ℕ) : Line → Type 0 where
  line_of_event : EventLine d (event d)

-- "an action names its message's number"
pub data ItemLine (i : Item) : Line → Type 0 where
  line_of_send : i.kind ≡ 0 → ItemLine i (send i.delay.0 i.last)
  line_of_group : i.kind ≡ 1 → ItemLine i (group i.delay.0 i.synchrony i.error)

pub data LabelLine (l : List ℕ) : Line → Type 0 where
  label_line : LabelLine l (message l)

events-said : (hs : List Line) → Says Events EventLine hs (durations_of (script_of hs))
unfolding durations_of script_of adds count_of
events-said [] = says_none
events-said (heading ∷ hs) = passes refl (events-said hs)
events-said (message l ∷ hs) = passes refl (events-said hs)
events-said (event d ∷ hs) = says refl line_of_event (events-said hs)
events-said (part p ∷ hs) = passes refl (events-said hs)
events-said (send d n ∷ hs) = passes refl (events-said hs)
events-said (group d w v ∷ hs) = passes refl (events-said hs)
events-said (close ∷ hs) = passes refl (events-said hs)

items-said : (e p depth : ℕ) (hs : List Line) → Says Items ItemLine hs (items_of e p depth (script_of hs))
unfolding items_of script_of adds count_of
items-said e p depth [] = says_none
items-said e p depth (heading ∷ hs) = passes refl (items-said e p depth hs)
items-said e p depth (message l ∷ hs) = passes refl (items-said e p depth hs)
items-said e p depth (event d ∷ hs) = passes refl (items-said (suc e) p depth hs)
items-said e p depth (part q ∷ hs) = passes refl (items-said e q depth hs)
items-said e p depth (send d n ∷ hs) = says refl (line_of_send refl) (items-said e p depth hs)
items-said e p depth (group d w v ∷ hs) = says refl (line_of_group refl) (items-said e p (suc depth) hs)
items-said e p depth (close ∷ hs) = passes refl (items-said e p (depth - 1) hs)

labels-said : (hs : List Line) → Says Messages LabelLine hs (labels_of (script_of hs))
unfolding labels_of script_of adds count_of
labels-said [] = says_none
labels-said (heading ∷ hs) = passes refl (labels-said hs)
labels-said (message l ∷ hs) = says refl label_line (labels-said hs)
labels-said (event d ∷ hs) = passes refl (labels-said hs)
labels-said (part p ∷ hs) = passes refl (labels-said hs)
labels-said (send d n ∷ hs) = passes refl (labels-said hs)
labels-said (group d w v ∷ hs) = passes refl (labels-said hs)
labels-said (close ∷ hs) = passes refl (labels-said hs)

-- ---- the bytes of the labels

unlabelled : (l : Line) (hs : List Line) (n k : ℕ) → count_of Text (adds l) ≡ 0 → count_of Messages (adds l) ≡ 0 → lines_to Text n hs ≡ lines_to Messages k hs
    → lines_to Text n (l ∷ hs) ≡ lines_to Messages k (l ∷ hs)
unlabelled l hs n k e f h = rw (lines-past Text n l hs n (omega arith), lines-past Messages k l hs k (omega arith), h)

labelled : (l : List ℕ) (hs : List Line) (ls : List (List ℕ)) (n : ℕ) → lines_to Text (n - length l) hs ≡ lines_to Messages (label_over ls (n - length l)) hs
    → lines_to Text n (message l ∷ hs) ≡ lines_to Messages (label_over (l ∷ ls) n) (message l ∷ hs)
unfolding label_over adds count_of pick
labelled l hs ls n h = go (ltb n (length l)) refl where
  go : (u : Bool) → ltb n (length l) ≡ u → lines_to Text n (message l ∷ hs) ≡ lines_to Messages (pick u 0 (suc (label_over ls (n - length l)))) (message l ∷ hs)
  go true q = rw (lines-here Text n (message l) hs (ltb-true n (length l) q), lines-here Messages 0 (message l) hs (omega arith))
  go false q =
      let b : length l ≤ n = ltb-false n (length l) q in
      let k = label_over ls (n - length l) in
      rw (lines-past Text n (message l) hs (n - length l) (omega arith), lines-past Messages (suc k) (message l) hs k (omega arith), h)

-- The line of a byte of the labels is that of the message which it lies in.
pub line-of-text : (hs : List Line) (n : ℕ) → lines_to Text n hs ≡ lines_to Messages (label_over (labels_of (script_of hs)) n) hs
unfolding labels_of script_of adds count_of lines_to
line-of-text [] n = refl
line-of-text (heading ∷ hs) n = unlabelled heading hs n _ refl refl (line-of-text hs n)
line-of-text (message l ∷ hs) n = labelled l hs (labels_of (script_of hs)) n (line-of-text hs (n - length l))
line-of-text (event d ∷ hs) n = unlabelled (event d) hs n _ refl refl (line-of-text hs n)
line-of-text (part p ∷ hs) n = unlabelled (part p) hs n _ refl refl (line-of-text hs n)
line-of-text (send d m ∷ hs) n = unlabelled (send d m) hs n _ refl refl (line-of-text hs n)
line-of-text (group d w v ∷ hs) n = unlabelled (group d w v) hs n _ refl refl (line-of-text hs n)
line-of-text (close ∷ hs) n = unlabelled close hs n _ refl refl (line-of-text hs n)

-- ---- the line of an entry says it

module _ (hs : List Line) (n : ℕ) where
  pub line-of-event : n < length (durations_of (script_of hs)) → EventLine (get_or (durations_of (script_of hs)) n 0) (get_or hs (lines_to Events n hs) heading)
  line-of-event b = said-there Events EventLine 0 (events-said hs) n b

  pub line-of-item : n < length (items_of 0 0 0 (script_of hs)) → ItemLine (get_or (items_of 0 0 0 (script_of hs)) n blank) (get_or hs (lines_to Items n hs) heading)
  line-of-item b = said-there Items ItemLine blank (items-said 0 0 0 hs) n b

  pub line-of-label : n < length (labels_of (script_of hs)) → LabelLine (get_or (labels_of (script_of hs)) n []) (get_or hs (lines_to Messages n hs) heading)
  line-of-label b = said-there Messages LabelLine [] (labels-said hs) n b
