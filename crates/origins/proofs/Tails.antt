-- What a reader leaves is an end of the bytes that it was given: so every token of a text begins at one of its bytes.
-- By recursion along each reader. Assumes nothing.
use mathlib.Core.Path.{◌≡◌}
use mathlib.Core.Bool.{Bool, true, false}
use mathlib.Core.List.{List, [], ◌∷◌}
use Prim.Native.Nat.{ℕ, zero, suc, ◌*◌, ◌/◌}
use native.Mathlib.Omega.{arith}
use lib.Dec.{eqb, ltb}
use Rattle.base.specs.Tests.{pick}
use Rattle.ascii.specs.Words.{newline}
use Rattle.ascii.specs.Numbers.{is_digit, value}
use Rattle.tokens.specs.Bytes.{hash, slash, quote, backslash, opening, closing, is_blank, is_letter, is_escaped}
use Rattle.tokens.specs.Tokens.{left_by, Read, got, stop, onward, past_blanks, blanks, leading, behind, is_word, is_number, number, with_byte, label_from, label}
use Rattle.tokens.specs.Beats.{field, grains_of_a_beat, is_fraction, valued, fraction, beats}
use Rattle.text.specs.declared.Stage.{Stage}
use Rattle.text.specs.declared.Stage.TheVariants.{Start, Listing, Timed, Playing}
use Rattle.text.specs.Words.{messages_word, event_word, part_word, send_word, group_word, message_field, part_field, any_number}
use Rattle.text.specs.Grammar.{heading, message, group, close, past_word, named, entry, timed, parted, sent, opened, synchrony_at, error_at, erring, grouped, action, item, closed, line}

-- ---- the ends of some bytes

pub data Tail : List ℕ → List ℕ → Type 0 where
  whole : {bs : List ℕ} → Tail bs bs
  later : {b : ℕ} {bs left : List ℕ} → Tail bs left → Tail (b ∷ bs) left

pub tail-on : {bs cs ds : List ℕ} → Tail bs cs → Tail cs ds → Tail bs ds
tail-on whole s = s
tail-on (later r) s = later (tail-on r s)

-- ---- what is left behind what was read

pub data Leaves {A : Type 0} (bs : List ℕ) : Read A → Type 0 where
  leaves : {a : A} {left : List ℕ} → Tail bs left → Leaves bs (got a left)
  halts : {left : List ℕ} → Leaves bs (stop left)

onward-leaves : {A B : Type 0} {bs : List ℕ} {r : Read A} {f : A → List ℕ → Read B} → Leaves bs r → ((a : A) (left : List ℕ) → Tail bs left → Leaves bs (f a left)) → Leaves bs (onward r f)
unfolding onward
onward-leaves (leaves {a = a} {left = left} r) h = h a left r
onward-leaves halts h = halts

leaves-on : {A : Type 0} {bs cs : List ℕ} {r : Read A} → Tail bs cs → Leaves cs r → Leaves bs r
leaves-on r (leaves s) = leaves (tail-on r s)
leaves-on r halts = halts

pub leaves-left : {A : Type 0} {bs : List ℕ} {r : Read A} (a : A) (left : List ℕ) → Leaves bs r → r ≡ got a left → Tail bs left
leaves-left a left (leaves {left = rest} r) e = let z : rest ≡ left = cc in rw z at r
leaves-left a left halts e = let z : ◌≡◌ {A = ℕ} 0 1 = cc in absurd (omega arith)

-- ---- blanks, words and numbers

pub blanks-tail : (c : Bool) (bs : List ℕ) → Tail bs (past_blanks c bs)
unfolding past_blanks pick
blanks-tail c [] = whole
blanks-tail true (b ∷ bs) = go (eqb b newline) (blanks-tail false bs) (blanks-tail true bs) where
  go : (t : Bool) → Tail bs (past_blanks false bs) → Tail bs (past_blanks true bs) → Tail (b ∷ bs) (pick t (past_blanks false bs) (past_blanks true bs))
  go true r s = later r
  go false r s = later s
blanks-tail false (b ∷ bs) = go (is_blank b) (eqb b hash) (blanks-tail false bs) (blanks-tail true bs) where
  go : (t u : Bool) → Tail bs (past_blanks false bs) → Tail bs (past_blanks true bs) → Tail (b ∷ bs) (pick t (past_blanks false bs) (pick u (past_blanks true bs) (b ∷ bs)))
  go true u r s = later r
  go false true r s = later s
  go false false r s = whole

behind-tail : (p : ℕ → Bool) (bs : List ℕ) → Tail bs (behind p bs)
unfolding behind pick
behind-tail p [] = whole
behind-tail p (b ∷ bs) = go (p b) (behind-tail p bs) where
  go : (t : Bool) → Tail bs (behind p bs) → Tail (b ∷ bs) (pick t (behind p bs) (b ∷ bs))
  go true r = later r
  go false r = whole

word-tail : (bs : List ℕ) → Tail bs (past_word bs)
unfolding past_word
word-tail bs = tail-on (behind-tail is_letter bs) (blanks-tail false (behind is_letter bs))

number-leaves : (limit : ℕ) (bs : List ℕ) → Leaves bs (number limit bs)
unfolding number pick
number-leaves limit bs = go (is_number limit (leading is_digit bs)) where
  go : (t : Bool) → Leaves bs (pick t (got (value (leading is_digit bs)) (behind is_digit bs)) (stop bs))
  go true = leaves (behind-tail is_digit bs)
  go false = halts

-- Where no number stands, the bytes themselves are left.
pub number-tail : (limit : ℕ) (bs : List ℕ) → Tail bs (left_by (number limit bs))
unfolding number left_by pick
number-tail limit bs = go (is_number limit (leading is_digit bs)) where
  go : (t : Bool) → Tail bs (left_by (pick t (got (value (leading is_digit bs)) (behind is_digit bs)) (stop bs)))
  go true = behind-tail is_digit bs
  go false = whole

-- ---- delays

valued-leaves : (from bs : List ℕ) (n d : ℕ) (left : List ℕ) → Tail from left → Leaves from (valued bs n d left)
unfolding valued pick
valued-leaves from bs n d left r = go (is_fraction n d) where
  go : (t : Bool) → Leaves from (pick t (got (n * grains_of_a_beat / d) left) (stop bs))
  go true = leaves r
  go false = halts

fraction-leaves : (from bs : List ℕ) (n : ℕ) (left : List ℕ) → Tail from left → Leaves from (fraction bs n left)
unfolding fraction pick
fraction-leaves from bs n [] r = valued-leaves from bs n 1 [] r
fraction-leaves from bs n (b ∷ left) r = go (eqb b slash) where
  go : (t : Bool) → Leaves from (pick t (onward (number field left) (λ d rest. valued bs n d rest)) (valued bs n 1 (b ∷ left)))
  go true = onward-leaves (leaves-on (tail-on r (later whole)) (number-leaves field left)) (λ d rest s. valued-leaves from bs n d rest s)
  go false = valued-leaves from bs n 1 (b ∷ left) r

beats-leaves : (bs : List ℕ) → Leaves bs (beats bs)
unfolding beats
beats-leaves bs = onward-leaves (number-leaves field bs) (λ n left r. fraction-leaves bs bs n left r)

-- ---- labels

byte-leaves : (b : ℕ) {bs : List ℕ} {r : Read (List ℕ)} → Leaves bs r → Leaves (b ∷ bs) (with_byte b r)
unfolding with_byte
byte-leaves b (leaves r) = leaves (later r)
byte-leaves b halts = halts

labelled-leaves : (e : Bool) (bs : List ℕ) → Leaves bs (label_from e bs)
unfolding label_from pick
labelled-leaves e [] = halts
labelled-leaves true (b ∷ bs) = go (is_escaped b) (labelled-leaves false bs) where
  go : (t : Bool) → Leaves bs (label_from false bs) → Leaves (b ∷ bs) (pick t (with_byte b (label_from false bs)) (stop (b ∷ bs)))
  go true r = byte-leaves b r
  go false r = halts
labelled-leaves false (b ∷ bs) = go (eqb b quote) (eqb b backslash) (eqb b newline) (labelled-leaves true bs) (labelled-leaves false bs) where
  go : (t u v : Bool) → Leaves bs (label_from true bs) → Leaves bs (label_from false bs)
      → Leaves (b ∷ bs) (pick t (got [] bs) (pick u (label_from true bs) (pick v (stop (b ∷ bs)) (with_byte b (label_from false bs)))))
  go true u v r s = leaves (later whole)
  go false true v r s = leaves-on (later whole) r
  go false false true r s = halts
  go false false false r s = byte-leaves b s

label-leaves : (bs : List ℕ) → Leaves bs (label bs)
unfolding label pick
label-leaves [] = halts
label-leaves (b ∷ bs) = go (eqb b quote) where
  go : (t : Bool) → Leaves (b ∷ bs) (pick t (label_from false bs) (stop (b ∷ bs)))
  go true = leaves-on (later whole) (labelled-leaves false bs)
  go false = halts

-- ---- lines

entry-leaves : (next : ℕ) (bs : List ℕ) → Leaves bs (entry next bs)
unfolding entry named pick
entry-leaves next bs = onward-leaves (number-leaves any_number bs) (λ n left r. go (eqb n next) left r) where
  go : (t : Bool) (left : List ℕ) → Tail bs left → Leaves bs (pick t (onward (label (blanks left)) (λ l rest. got (message l) rest)) (stop bs))
  go true left r = onward-leaves (leaves-on (tail-on r (blanks-tail false left)) (label-leaves (blanks left))) (λ l rest s. leaves s)
  go false left r = halts

timed-leaves : (bs : List ℕ) → Leaves bs (timed (past_word bs))
unfolding timed
timed-leaves bs = onward-leaves (leaves-on (word-tail bs) (beats-leaves (past_word bs))) (λ g left r. leaves r)

parted-leaves : (bs : List ℕ) → Leaves bs (parted (past_word bs))
unfolding parted
parted-leaves bs = onward-leaves (leaves-on (word-tail bs) (number-leaves part_field (past_word bs))) (λ n left r. leaves r)

opened-leaves : (delay w v : ℕ) (bs : List ℕ) → Leaves bs (opened delay w v bs)
unfolding opened pick
opened-leaves delay w v [] = halts
opened-leaves delay w v (b ∷ bs) = go (eqb b opening) where
  go : (t : Bool) → Leaves (b ∷ bs) (pick t (got (group delay w v) bs) (stop (b ∷ bs)))
  go true = leaves (later whole)
  go false = halts

erring-leaves : (delay w : ℕ) (bs : List ℕ) → Leaves bs (erring delay w bs)
unfolding erring pick
erring-leaves delay w bs = go (ltb (error_at bs) 4) where
  go : (t : Bool) → Leaves bs (pick t (opened delay w (error_at bs) (past_word bs)) (opened delay w 0 bs))
  go true = leaves-on (word-tail bs) (opened-leaves delay w (error_at bs) (past_word bs))
  go false = opened-leaves delay w 0 bs

grouped-leaves : (delay : ℕ) (bs : List ℕ) → Leaves bs (grouped delay bs)
unfolding grouped pick
grouped-leaves delay bs = go (ltb (synchrony_at bs) 2) where
  go : (t : Bool) → Leaves bs (pick t (erring delay (synchrony_at bs) (past_word bs)) (erring delay 0 bs))
  go true = leaves-on (word-tail bs) (erring-leaves delay (synchrony_at bs) (past_word bs))
  go false = erring-leaves delay 0 bs

sent-leaves : (delay : ℕ) (bs : List ℕ) → Leaves bs (sent delay bs)
unfolding sent
sent-leaves delay bs = onward-leaves (number-leaves message_field bs) (λ n left r. leaves r)

action-leaves : (delay : ℕ) (bs : List ℕ) → Leaves bs (action delay bs)
unfolding action pick
action-leaves delay bs = go (is_word send_word bs) (is_word group_word bs) where
  go : (t u : Bool) → Leaves bs (pick t (sent delay (past_word bs)) (pick u (grouped delay (past_word bs)) (stop bs)))
  go true u = leaves-on (word-tail bs) (sent-leaves delay (past_word bs))
  go false true = leaves-on (word-tail bs) (grouped-leaves delay (past_word bs))
  go false false = halts

item-leaves : (bs : List ℕ) → Leaves bs (item bs)
unfolding item
item-leaves bs = onward-leaves (beats-leaves bs) (λ delay left r. leaves-on (tail-on r (blanks-tail false left)) (action-leaves delay (blanks left)))

closed-leaves : (bs : List ℕ) → Leaves bs (closed bs)
unfolding closed pick
closed-leaves [] = halts
closed-leaves (b ∷ bs) = go (eqb b closing) where
  go : (t : Bool) → Leaves (b ∷ bs) (pick t (got close bs) (item (b ∷ bs)))
  go true = leaves (later whole)
  go false = item-leaves (b ∷ bs)

pub line-leaves : (stage : Stage) (bs : List ℕ) → Leaves bs (line stage bs)
unfolding line pick
line-leaves Start bs = go (is_word messages_word bs) where
  go : (t : Bool) → Leaves bs (pick t (got heading (behind is_letter bs)) (stop bs))
  go true = leaves (behind-tail is_letter bs)
  go false = halts
line-leaves (Listing next) bs = go (is_word event_word bs) where
  go : (t : Bool) → Leaves bs (pick t (timed (past_word bs)) (entry next bs))
  go true = timed-leaves bs
  go false = entry-leaves next bs
line-leaves Timed bs = go (is_word event_word bs) (is_word part_word bs) where
  go : (t u : Bool) → Leaves bs (pick t (timed (past_word bs)) (pick u (parted (past_word bs)) (stop bs)))
  go true u = timed-leaves bs
  go false true = parted-leaves bs
  go false false = halts
line-leaves (Playing zero) bs = go (is_word event_word bs) (is_word part_word bs) where
  go : (t u : Bool) → Leaves bs (pick t (timed (past_word bs)) (pick u (parted (past_word bs)) (item bs)))
  go true u = timed-leaves bs
  go false true = parted-leaves bs
  go false false = item-leaves bs
line-leaves (Playing (suc depth)) bs = closed-leaves bs
