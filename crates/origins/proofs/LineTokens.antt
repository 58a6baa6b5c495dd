-- What each line of a text was read from: the lines and the tokens that they are placed at go together, and each token begins at a byte of the text.
-- By recursion along the lines, each by the readers of its stage. Assumes nothing.
use mathlib.Core.Path.{◌≡◌, refl}
use mathlib.Core.Bool.{Bool, true, false}
use mathlib.Core.List.{List, [], ◌∷◌}
use Prim.Native.Nat.{ℕ, zero, suc, ◌≤◌}
use native.Mathlib.Omega.{arith}
use lib.Dec.{eqb}
use lib.ListN.{length, drop}
use Rattle.base.specs.Tests.{pick}
use Rattle.tokens.specs.Bytes.{closing, is_letter}
use Rattle.tokens.specs.Tokens.{left_by, Read, got, stop, onward, blanks, behind, is_word, number, label}
use Rattle.tokens.specs.Beats.{beats}
use Rattle.text.specs.declared.Stage.{Stage}
use Rattle.text.specs.declared.Stage.TheVariants.{Start, Listing, Timed, Playing}
use Rattle.text.specs.Words.{messages_word, event_word, part_word, part_field, any_number}
use Rattle.text.specs.Grammar.{Line, heading, message, event, part, send, group, close, past_word, named, entry, timed, parted, item, closed, line, after, is_over, Script, done, more, fault, follow, script_from, script}
use Rattle.script.proofs.BalancedLaws.{Itemed, sent_item, item_of_group, no_item, item-itemed}
use Rattle.origins.specs.Origins.{Placed, placed, placed_lines, token_in, Origin, from}
use Rattle.origins.proofs.Tails.{Tail, whole, later, tail-on, Leaves, leaves, halts, blanks-tail, number-tail, line-leaves}

-- ---- a token of a text

-- The origin is a byte of the text, or its end, and P holds of what stands from there on.
pub data Token (t : List ℕ) (P : List ℕ → Type 0) : Origin → Type 0 where
  token : (n : ℕ) → n ≤ length t → P (drop n t) → Token t P (from (drop n t))

token-later : {b : ℕ} {t : List ℕ} {P : List ℕ → Type 0} {o : Origin} → Token t P o → Token (b ∷ t) P o
token-later (token n p h) = token (suc n) (omega arith) h

pub tail-token : {t left : List ℕ} {P : List ℕ → Type 0} → Tail t left → P left → Token t P (from left)
tail-token whole h = token 0 (omega arith) h
tail-token (later r) h = token-later (tail-token r h)

-- ---- what a line was read from

-- The word `event` stands there, and this duration behind it.
pub data EventRead (d : ℕ) : List ℕ → Type 0 where
  event_read : {bs rest : List ℕ} → is_word event_word bs ≡ true → timed (past_word bs) ≡ got (event d) rest → EventRead d bs

-- This label stands there, in its quotes.
pub data LabelRead (l : List ℕ) : List ℕ → Type 0 where
  label_read : {bs rest : List ℕ} → label bs ≡ got l rest → LabelRead l bs

-- What stands at a line's token, by its kind. The heading, a part and a closing brace make nothing of the file.
pub data LineRead : Line → List ℕ → Type 0 where
  of_heading : {bs : List ℕ} → LineRead heading bs
  of_message : {l bs : List ℕ} → LabelRead l bs → LineRead (message l) bs
  of_event : {d : ℕ} {bs : List ℕ} → EventRead d bs → LineRead (event d) bs
  of_part : {p : ℕ} {bs : List ℕ} → LineRead (part p) bs
  of_send : {d n : ℕ} {bs rest : List ℕ} → item bs ≡ got (send d n) rest → LineRead (send d n) bs
  of_group : {d w v : ℕ} {bs rest : List ℕ} → item bs ≡ got (group d w v) rest → LineRead (group d w v) bs
  of_close : {bs : List ℕ} → LineRead close bs

-- From these bytes comes such a line, or none.
data Tells (bs : List ℕ) : Read Line → Type 0 where
  tells : {l : Line} {left : List ℕ} → LineRead l (token_in l bs) → Tells bs (got l left)
  tells_none : {left : List ℕ} → Tells bs (stop left)

timed-tells : (bs : List ℕ) → is_word event_word bs ≡ true → Tells bs (timed (past_word bs))
unfolding timed onward token_in
timed-tells bs w = go (beats (past_word bs)) refl where
  go : (r : Read ℕ) → beats (past_word bs) ≡ r → Tells bs (onward r (λ g left. got (event g) left))
  go (got g left) e = let there : timed (past_word bs) ≡ got (event g) left = rw e in tells (of_event (event_read w there))
  go (stop left) e = tells_none

parted-tells : (bs : List ℕ) → Tells bs (parted (past_word bs))
unfolding parted onward
parted-tells bs = go (number part_field (past_word bs)) where
  go : (r : Read ℕ) → Tells bs (onward r (λ p left. got (part p) left))
  go (got p left) = tells of_part
  go (stop left) = tells_none

entry-tells : (next : ℕ) (bs : List ℕ) → Tells bs (entry next bs)
unfolding entry named onward pick token_in left_by
entry-tells next bs = numbered (number any_number bs) refl where
  labelled : (left : List ℕ) → left_by (number any_number bs) ≡ left → (r : Read (List ℕ)) → label (blanks left) ≡ r → Tells bs (onward r (λ l rest. got (message l) rest))
  labelled left q (got l rest) e =
      let there : label (blanks (left_by (number any_number bs))) ≡ got l rest = rw q e in
      tells {l = message l} (of_message (label_read there))
  labelled left q (stop rest) e = tells_none

  same_number : (t : Bool) (left : List ℕ) → left_by (number any_number bs) ≡ left → Tells bs (pick t (named (blanks left)) (stop bs))
  same_number true left q = labelled left q (label (blanks left)) refl
  same_number false left q = tells_none

  numbered : (r : Read ℕ) → number any_number bs ≡ r → Tells bs (onward r (λ n left. pick (eqb n next) (named (blanks left)) (stop bs)))
  numbered (got n left) e = same_number (eqb n next) left (rw e)
  numbered (stop left) e = tells_none

item-tells : (bs : List ℕ) → Tells bs (item bs)
unfolding token_in
item-tells bs = go (item bs) refl (item-itemed bs) where
  go : (r : Read Line) → item bs ≡ r → Itemed r → Tells bs r
  go (got (send d n) left) e sent_item = tells (of_send e)
  go (got (group d w v) left) e item_of_group = tells (of_group e)
  go (stop left) e no_item = tells_none
  go (got heading left) e i = elim i [ ]
  go (got (message l) left) e i = elim i [ ]
  go (got (event g) left) e i = elim i [ ]
  go (got (part p) left) e i = elim i [ ]
  go (got close left) e i = elim i [ ]

closed-tells : (bs : List ℕ) → Tells bs (closed bs)
unfolding closed pick
closed-tells [] = tells_none
closed-tells (b ∷ bs) = go (eqb b closing) where
  go : (t : Bool) → Tells (b ∷ bs) (pick t (got close bs) (item (b ∷ bs)))
  go true = tells of_close
  go false = item-tells (b ∷ bs)

line-tells : (stage : Stage) (bs : List ℕ) → Tells bs (line stage bs)
unfolding line pick
line-tells Start bs = go (is_word messages_word bs) where
  go : (t : Bool) → Tells bs (pick t (got heading (behind is_letter bs)) (stop bs))
  go true = tells of_heading
  go false = tells_none
line-tells (Listing next) bs = go (is_word event_word bs) refl where
  go : (t : Bool) → is_word event_word bs ≡ t → Tells bs (pick t (timed (past_word bs)) (entry next bs))
  go true e = timed-tells bs e
  go false e = entry-tells next bs
line-tells Timed bs = go (is_word event_word bs) refl (is_word part_word bs) where
  go : (t : Bool) → is_word event_word bs ≡ t → (u : Bool) → Tells bs (pick t (timed (past_word bs)) (pick u (parted (past_word bs)) (stop bs)))
  go true e u = timed-tells bs e
  go false e true = parted-tells bs
  go false e false = tells_none
line-tells (Playing zero) bs = go (is_word event_word bs) refl (is_word part_word bs) where
  go : (t : Bool) → is_word event_word bs ≡ t → (u : Bool) → Tells bs (pick t (timed (past_word bs)) (pick u (parted (past_word bs)) (item bs)))
  go true e u = timed-tells bs e
  go false e true = parted-tells bs
  go false e false = item-tells bs
line-tells (Playing (suc depth)) bs = closed-tells bs

-- ---- the lines of a text

-- Each line with its place: its token is an end of the text, and was read as this line.
pub data Stand (t : List ℕ) : List Placed → Script → Type 0 where
  at_end : Stand t [] done
  at_fault : {left : List ℕ} → Stand t [] (fault left)
  and_then : {l : Line} {bs left : List ℕ} {ps : List Placed} {s : Script} → Tail t (token_in l bs) → LineRead l (token_in l bs) → Stand t ps s
      → Stand t (record { line = l; from = bs; left = left } ∷ ps) (more l s)

token-tail : (l : Line) (bs : List ℕ) → Tail bs (token_in l bs)
unfolding token_in
token-tail heading bs = whole
token-tail (message l) bs = tail-on (number-tail any_number bs) (blanks-tail false _)
token-tail (event g) bs = whole
token-tail (part p) bs = whole
token-tail (send d n) bs = whole
token-tail (group d w v) bs = whole
token-tail close bs = whole

lines-stand : (t : List ℕ) (n : ℕ) (stage : Stage) (bs : List ℕ) → Tail t bs → Stand t (placed_lines stage bs (script_from n stage bs)) (script_from n stage bs)
unfolding placed_lines placed script_from follow pick
lines-stand t zero stage bs r = at_end
lines-stand t (suc n) stage bs r =
    go (is_over stage (blanks bs)) (line stage (blanks bs)) refl (line-tells stage (blanks bs)) (line-leaves stage (blanks bs)) (λ l left. lines-stand t n (after l stage) left) where
      here : Tail t (blanks bs)
      here = tail-on r (blanks-tail false bs)

      go : (o : Bool) (x : Read Line) → line stage (blanks bs) ≡ x → Tells (blanks bs) x → Leaves (blanks bs) x
          → ((l : Line) (left : List ℕ) → Tail t left → Stand t (placed_lines (after l stage) left (script_from n (after l stage) left)) (script_from n (after l stage) left))
          → Stand t (placed_lines stage bs (pick o done (follow x (λ l left. script_from n (after l stage) left)))) (pick o done (follow x (λ l left. script_from n (after l stage) left)))
      go true x e y z h = at_end
      go false (stop left) e tells_none halts h = at_fault
      go false (got l left) e (tells y) (leaves z) h = rw e (and_then (tail-on here (token-tail l (blanks bs))) y (h l left (tail-on here z)))

-- Every line of a text stands in it.
pub text_stands : (t : List ℕ) → Stand t (placed_lines Start t (script Start t)) (script Start t)
unfolding script
text_stands t = lines-stand t (suc (length t)) Start t whole
