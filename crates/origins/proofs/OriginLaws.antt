-- What stands at an origin: number k of a kind was made by the k-th line of that kind, and at its token stands what that entry was read from. Past the last there is
-- none. The lines and the entries of a kind go together one by one. Assumes nothing.
use mathlib.Core.Path.{◌≡◌, refl, ap, ◌∙◌}
use mathlib.Core.Bool.{Bool, true, false}
use mathlib.Core.List.{List, [], ◌∷◌}
use Prim.Native.Nat.{ℕ, zero, suc, ◌+◌, ◌-◌, ◌<◌, ◌≤◌}
use native.Mathlib.Omega.{arith}
use lib.Dec.{ltb}
use lib.ListN.{length, take, get_or, length-append}
use borrow.Author.Tests.{le-ltb, lt-ltb, ltb-true, ltb-false}
use Rattle.base.specs.Tests.{pick}
use Rattle.page.specs.declared.Item.{Item}
use Rattle.items.specs.Ranged.{blank}
use Rattle.score.specs.Piece.{Piece}
use Rattle.score.specs.Encode.{text_bytes, counts_in}
use Rattle.tokens.specs.Tokens.{got}
use Rattle.text.specs.declared.Stage.TheVariants.{Start}
use Rattle.text.specs.Grammar.{send, group, item, Script, script}
use Rattle.text.specs.Said.{labels_of, durations_of, items_of, piece_of, piece, said}
use Rattle.text.proofs.FieldLaws.{said-piece}
use Rattle.origins.specs.declared.aims.Table.{Table}
use Rattle.origins.specs.declared.aims.Table.TheVariants.{Events, Items, Messages, Text}
use Rattle.origins.specs.Origins.{Placed, placed_lines, adds, count_of, token_in, unmade, from, passing}
use Rattle.origins.proofs.Tails.{Tail}
use Rattle.origins.proofs.LineTokens.{Token, tail-token, EventRead, LabelRead, of_heading, of_message, of_event, of_part, of_send, of_group, of_close, Stand, at_end, at_fault, and_then, text_stands}

-- ---- one line, and number n of a kind

module _ (k : Table) (n : ℕ) (p : Placed) (ps : List Placed) where
  passing-here : n < count_of k (adds p.line) → passing k n (p ∷ ps) ≡ from (token_in p.line p.from)
  unfolding passing pick
  passing-here b = rw (lt-ltb n (count_of k (adds p.line)) b)

  passing-past : (m : ℕ) → m + count_of k (adds p.line) ≡ n → passing k n (p ∷ ps) ≡ passing k m ps
  unfolding passing pick
  passing-past m e = let z : n - count_of k (adds p.line) ≡ m = omega arith in rw (le-ltb n (count_of k (adds p.line)) (omega arith), z)

-- ---- the lines of a kind, and the entries that they make

module _ (t : List ℕ) (k : Table) {B : Type 0} (R : B → List ℕ → Type 0) where
  -- One by one: R holds of an entry and its line's token.
  data Makes : List Placed → List B → Type 0 where
    makes_none : Makes [] []
    passes : {p : Placed} {ps : List Placed} {xs : List B} → count_of k (adds p.line) ≡ 0 → Makes ps xs → Makes (p ∷ ps) xs
    makes : {p : Placed} {x : B} {ps : List Placed} {xs : List B} → count_of k (adds p.line) ≡ 1 → Tail t (token_in p.line p.from) → R x (token_in p.line p.from)
        → Makes ps xs → Makes (p ∷ ps) (x ∷ xs)

  made-there : (z : B) {ps : List Placed} {xs : List B} → Makes ps xs → (n : ℕ) → n < length xs → Token t (R (get_or xs n z)) (passing k n ps)
  made-there z makes_none n b = absurd (omega arith)
  made-there z (passes {p = p} {ps = ps} e m) n b = rw (passing-past k n p ps n (omega arith)) (made-there z m n b)
  made-there z (makes {p = p} {ps = ps} e r h m) zero b = rw (passing-here k 0 p ps (omega arith)) (tail-token r h)
  made-there z (makes {p = p} {ps = ps} e r h m) (suc n) b = rw (passing-past k (suc n) p ps n (omega arith)) (made-there z m n (omega arith))

  made-not : {ps : List Placed} {xs : List B} → Makes ps xs → (n : ℕ) → length xs ≤ n → passing k n ps ≡ unmade
  unfolding passing
  made-not makes_none n b = refl
  made-not (passes {p = p} {ps = ps} e m) n b = passing-past k n p ps n (omega arith) ∙ made-not m n b
  made-not (makes e r h m) zero b = absurd (omega arith)
  made-not (makes {p = p} {ps = ps} e r h m) (suc n) b = passing-past k (suc n) p ps n (omega arith) ∙ made-not m n (omega arith)

-- ---- the kinds

events-made : {t : List ℕ} {ps : List Placed} {s : Script} → Stand t ps s → Makes t Events EventRead ps (durations_of s)
unfolding durations_of adds count_of
events-made at_end = makes_none
events-made at_fault = makes_none
events-made (and_then r of_heading h) = passes refl (events-made h)
events-made (and_then r (of_message x) h) = passes refl (events-made h)
events-made (and_then r (of_event x) h) = makes refl r x (events-made h)
events-made (and_then r of_part h) = passes refl (events-made h)
events-made (and_then r (of_send x) h) = passes refl (events-made h)
events-made (and_then r (of_group x) h) = passes refl (events-made h)
events-made (and_then r of_close h) = passes refl (events-made h)

-- An action or a group stands there, with the delay and the words of this item, or its message's number.
pub data ItemRead (i : Item) : List ℕ → Type 0 where
  send_read : {bs rest : List ℕ} → i.kind ≡ 0 → item bs ≡ got (send i.delay.0 i.last) rest → ItemRead i bs
  group_read : {bs rest : List ℕ} → i.kind ≡ 1 → item bs ≡ got (group i.delay.0 i.synchrony i.error) rest → ItemRead i bs

items-made : {t : List ℕ} (e p depth : ℕ) {ps : List Placed} {s : Script} → Stand t ps s → Makes t Items ItemRead ps (items_of e p depth s)
unfolding items_of adds count_of
items-made e p depth at_end = makes_none
items-made e p depth at_fault = makes_none
items-made e p depth (and_then r of_heading h) = passes refl (items-made e p depth h)
items-made e p depth (and_then r (of_message x) h) = passes refl (items-made e p depth h)
items-made e p depth (and_then r (of_event x) h) = passes refl (items-made (suc e) p depth h)
items-made e p depth (and_then r (of_part {p = q}) h) = passes refl (items-made e q depth h)
items-made e p depth (and_then r (of_send x) h) = makes refl r (send_read refl x) (items-made e p depth h)
items-made e p depth (and_then r (of_group x) h) = makes refl r (group_read refl x) (items-made e p (suc depth) h)
items-made e p depth (and_then r of_close h) = passes refl (items-made e p (depth - 1) h)

labels-made : {t : List ℕ} {ps : List Placed} {s : Script} → Stand t ps s → Makes t Messages LabelRead ps (labels_of s)
unfolding labels_of adds count_of
labels-made at_end = makes_none
labels-made at_fault = makes_none
labels-made (and_then r of_heading h) = passes refl (labels-made h)
labels-made (and_then r (of_message x) h) = makes refl r x (labels-made h)
labels-made (and_then r (of_event x) h) = passes refl (labels-made h)
labels-made (and_then r of_part h) = passes refl (labels-made h)
labels-made (and_then r (of_send x) h) = passes refl (labels-made h)
labels-made (and_then r (of_group x) h) = passes refl (labels-made h)
labels-made (and_then r of_close h) = passes refl (labels-made h)

-- ---- the bytes of the labels

-- The number of the label that byte n of them all lies in, or how many there are.
unfoldable pub label_over : List (List ℕ) → ℕ → ℕ
label_over [] n = 0
label_over (l ∷ ls) n = pick (ltb n (length l)) 0 (suc (label_over ls (n - length l)))

-- The labels before it have at most n bytes, and with it there are more.
pub record LiesIn (ls : List (List ℕ)) (n k : ℕ) : Type 0 where
  pub below : k < length ls
  pub before : length (text_bytes (take k ls)) ≤ n
  pub past : n < length (text_bytes (take (suc k) ls))

pub label-over : (ls : List (List ℕ)) (n : ℕ) → n < length (text_bytes ls) → LiesIn ls n (label_over ls n)
unfolding label_over text_bytes pick
label-over [] n b = absurd (omega arith)
label-over (l ∷ ls) n b = go (ltb n (length l)) refl (λ c. label-over ls (n - length l) (omega (arith, length-append l (text_bytes ls)))) where
  go : (u : Bool) → ltb n (length l) ≡ u → (length l ≤ n → LiesIn ls (n - length l) (label_over ls (n - length l))) → LiesIn (l ∷ ls) n (pick u 0 (suc (label_over ls (n - length l))))
  go true e h = record { below = omega arith; before = omega arith; past = omega (arith, length-append l [], ltb-true n (length l) e) }
  go false e h =
      let small : length l ≤ n = ltb-false n (length l) e in
      let k = label_over ls (n - length l) in
      let there = h small in
      record {
        below = omega (arith, there.below);
        before = omega (arith, there.before, length-append l (text_bytes (take k ls)));
        past = omega (arith, there.past, length-append l (text_bytes (take (suc k) ls)));
      }

label-past : (ls : List (List ℕ)) (n : ℕ) → length (text_bytes ls) ≤ n → label_over ls n ≡ length ls
unfolding label_over text_bytes pick
label-past [] n b = refl
label-past (l ∷ ls) n b =
    let z = length-append l (text_bytes ls) in
    rw (le-ltb n (length l) (omega arith), label-past ls (n - length l) (omega arith))

-- The lines, and the labels of those that are messages.
data Labels : List Placed → List (List ℕ) → Type 0 where
  labels_none : Labels [] []
  unlabelled : {p : Placed} {ps : List Placed} {ls : List (List ℕ)} → count_of Text (adds p.line) ≡ 0 → count_of Messages (adds p.line) ≡ 0 → Labels ps ls → Labels (p ∷ ps) ls
  labelled : {p : Placed} {l : List ℕ} {ps : List Placed} {ls : List (List ℕ)} → count_of Text (adds p.line) ≡ length l → count_of Messages (adds p.line) ≡ 1 → Labels ps ls
      → Labels (p ∷ ps) (l ∷ ls)

stand-labels : {t : List ℕ} {ps : List Placed} {s : Script} → Stand t ps s → Labels ps (labels_of s)
unfolding labels_of adds count_of
stand-labels at_end = labels_none
stand-labels at_fault = labels_none
stand-labels (and_then r of_heading h) = unlabelled refl refl (stand-labels h)
stand-labels (and_then r (of_message x) h) = labelled refl refl (stand-labels h)
stand-labels (and_then r (of_event x) h) = unlabelled refl refl (stand-labels h)
stand-labels (and_then r of_part h) = unlabelled refl refl (stand-labels h)
stand-labels (and_then r (of_send x) h) = unlabelled refl refl (stand-labels h)
stand-labels (and_then r (of_group x) h) = unlabelled refl refl (stand-labels h)
stand-labels (and_then r of_close h) = unlabelled refl refl (stand-labels h)

-- What made a byte of a label is its message.
text-made : {ps : List Placed} {ls : List (List ℕ)} → Labels ps ls → (n : ℕ) → passing Text n ps ≡ passing Messages (label_over ls n) ps
unfolding passing label_over pick
text-made labels_none n = refl
text-made (unlabelled {p = p} {ps = ps} {ls = ls} e f h) n =
    let k = label_over ls n in
    rw (passing-past Text n p ps n (omega arith), passing-past Messages k p ps k (omega arith)) (text-made h n)
text-made (labelled {p = p} {l = l} {ps = ps} {ls = ls} e f h) n = go (ltb n (length l)) refl (text-made h (n - length l)) where
  go : (u : Bool) → ltb n (length l) ≡ u → passing Text (n - length l) ps ≡ passing Messages (label_over ls (n - length l)) ps
      → passing Text n (p ∷ ps) ≡ passing Messages (pick u 0 (suc (label_over ls (n - length l)))) (p ∷ ps)
  go true q r = let b : n < length l = ltb-true n (length l) q in rw (passing-here Text n p ps (omega arith), passing-here Messages 0 p ps (omega arith))
  go false q r =
      let b : length l ≤ n = ltb-false n (length l) q in
      let k = label_over ls (n - length l) in
      rw (passing-past Text n p ps (n - length l) (omega arith), passing-past Messages (suc k) p ps k (omega arith)) r

-- ---- what stands at an origin, in a text that says a piece

-- The lines of a text, each where it stands.
abbrev pub placed_in : List ℕ → List Placed
placed_in t = placed_lines Start t (script Start t)

module _ (t : List ℕ) (p : Piece) (says : said t ≡ piece p) where
  made-events : Makes t Events EventRead (placed_in t) p.durations
  unfolding piece_of
  made-events = let e : durations_of (script Start t) ≡ p.durations = ap (λ (q : Piece). q.durations) (said-piece t p says) in rw e at (events-made (text_stands t))

  made-items : Makes t Items ItemRead (placed_in t) p.items
  unfolding piece_of
  made-items = let e : items_of 0 0 0 (script Start t) ≡ p.items = ap (λ (q : Piece). q.items) (said-piece t p says) in rw e at (items-made 0 0 0 (text_stands t))

  same-labels : labels_of (script Start t) ≡ p.labels
  unfolding piece_of
  same-labels = ap (λ (q : Piece). q.labels) (said-piece t p says)

  made_labels : Makes t Messages LabelRead (placed_in t) p.labels
  made_labels = rw same-labels at (labels-made (text_stands t))

  -- What made an event is its word `event`, with its duration behind it.
  pub event-token : (n : ℕ) → n < length p.durations → Token t (EventRead (get_or p.durations n 0)) (passing Events n (placed_in t))
  event-token n b = made-there t Events EventRead 0 made-events n b

  -- What made an item is the text that it was read from.
  pub item-token : (n : ℕ) → n < length p.items → Token t (ItemRead (get_or p.items n blank)) (passing Items n (placed_in t))
  item-token n b = made-there t Items ItemRead blank made-items n b

  -- What made a message is its label in quotes.
  pub label-token : (n : ℕ) → n < length p.labels → Token t (LabelRead (get_or p.labels n [])) (passing Messages n (placed_in t))
  label-token n b = made-there t Messages LabelRead [] made_labels n b

  -- What made a byte of the labels is the message that it lies in.
  pub text-message : (n : ℕ) → passing Text n (placed_in t) ≡ passing Messages (label_over p.labels n) (placed_in t)
  text-message n = rw same-labels at (text-made (stand-labels (text_stands t)) n)

  pub text-token : (n : ℕ) → n < length (text_bytes p.labels) → Token t (LabelRead (get_or p.labels (label_over p.labels n) [])) (passing Text n (placed_in t))
  text-token n b = rw (text-message n) (label-token (label_over p.labels n) (label-over p.labels n b).below)

  -- Nothing made what is past the last of its kind.
  pub past_all : (k : Table) (n : ℕ) → count_of k (counts_in p) ≤ n → passing k n (placed_in t) ≡ unmade
  unfolding count_of counts_in
  past_all Events n b = made-not t Events EventRead made-events n b
  past_all Items n b = made-not t Items ItemRead made-items n b
  past_all Messages n b = made-not t Messages LabelRead made_labels n b
  past_all Text n b =
      let e : label_over p.labels n ≡ length p.labels = label-past p.labels n b in
      text-message n ∙ made-not t Messages LabelRead made_labels (label_over p.labels n) (omega arith)
