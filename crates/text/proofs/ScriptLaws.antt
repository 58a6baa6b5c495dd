-- Each line takes a byte, so the bound on the recursion never matters: a text's lines are its first line and those of what is left behind it.
-- Assumes nothing.
use mathlib.Core.Path.{◌≡◌, refl, ap}
use mathlib.Core.Bool.{Bool, true, false}
use mathlib.Core.List.{List, [], ◌∷◌}
use Prim.Native.Nat.{ℕ, zero, suc, ◌+◌, ◌<◌, ◌≤◌}
use native.Mathlib.Omega.{arith}
use lib.ListN.{length, drop, length-drop}
use lib.Dec.{eqb, ltb}
use Rattle.base.specs.Tests.{pick}
use Rattle.tokens.specs.Bytes.{opening, closing, is_letter}
use Rattle.tokens.specs.Tokens.{Read, got, stop, onward, blanks, behind, is_word, label}
use Rattle.tokens.proofs.ShorterLaws.{Shorter, shorter, stuck, blanks-size, leading-size, word-behind, number-shorter, beats-shorter, Fewer, fewer, unread, label-fewer}
use Rattle.text.specs.declared.Stage.{Stage}
use Rattle.text.specs.declared.Stage.TheVariants.{Start, Listing, Timed, Playing}
use Rattle.text.specs.Words.{messages_word, event_word, part_word, send_word, group_word, message_field, part_field, any_number}
use Rattle.text.specs.Grammar.{Line, heading, message, event, part, send, group, close, past_word, named, entry, timed, parted, sent, opened, synchrony_at, error_at, erring, grouped, action, item, closed, line, after, is_over, Script, done, more, follow, script_from, script}

-- ---- what is read leaves fewer bytes, by those of its label too

unfoldable pub label_size : Line → ℕ
label_size heading = 0
label_size (message l) = length l
label_size (event g) = 0
label_size (part p) = 0
label_size (send d n) = 0
label_size (group d w v) = 0
label_size close = 0

-- A line leaves fewer bytes than n.
data Leaves (n : ℕ) : Read Line → Type 0 where
  leaves : {l : Line} {left : List ℕ} → label_size l + length left < n → Leaves n (got l left)
  halts : {left : List ℕ} → Leaves n (stop left)

onward-leaves : {A : Type 0} {n : ℕ} {r : Read A} {f : A → List ℕ → Read Line} → Shorter n r → ((a : A) (left : List ℕ) → length left < n → Leaves n (f a left)) → Leaves n (onward r f)
unfolding onward
onward-leaves (shorter {a = a} {left = left} p) h = h a left p
onward-leaves stuck h = halts

unlabelled-leaves : {n : ℕ} (l : Line) (left : List ℕ) → label_size l ≡ 0 → length left < n → Leaves n (got l left)
unlabelled-leaves l left e p = leaves {l = l} {left = left} (omega arith)

leaves-more : {m n : ℕ} {r : Read Line} → m ≤ n → Leaves m r → Leaves n r
leaves-more p (leaves {l = l} {left = left} q) = leaves {l = l} {left = left} (omega arith)
leaves-more p halts = halts

word_size : (bs : List ℕ) → length (past_word bs) ≤ length bs
unfolding past_word
word_size bs = omega (arith, blanks-size false (behind is_letter bs), leading-size is_letter bs)

named-leaves : (bs : List ℕ) → Leaves (length bs) (named bs)
unfolding named onward label_size
named-leaves bs = go (label bs) (label-fewer bs) where
  go : (r : Read (List ℕ)) → Fewer (length bs) r → Leaves (length bs) (onward r (λ l left. got (message l) left))
  go (got l left) (fewer p) = leaves {l = message l} {left = left} p
  go (stop left) unread = halts

entry-leaves : (next : ℕ) (bs : List ℕ) → Leaves (length bs) (entry next bs)
unfolding entry pick
entry-leaves next bs = onward-leaves (number-shorter any_number bs) (λ n left p. go (eqb n next) left p) where
  go : (t : Bool) (left : List ℕ) → length left < length bs → Leaves (length bs) (pick t (named (blanks left)) (stop bs))
  go true left p = leaves-more (omega (arith, blanks-size false left)) (named-leaves (blanks left))
  go false left p = halts

timed-leaves : (bs : List ℕ) → Leaves (length bs) (timed bs)
unfolding timed label_size
timed-leaves bs = onward-leaves (beats-shorter bs) (λ g left p. unlabelled-leaves (event g) left refl p)

parted-leaves : (bs : List ℕ) → Leaves (length bs) (parted bs)
unfolding parted label_size
parted-leaves bs = onward-leaves (number-shorter part_field bs) (λ n left p. unlabelled-leaves (part n) left refl p)

sent-leaves : (delay : ℕ) (bs : List ℕ) → Leaves (length bs) (sent delay bs)
unfolding sent label_size
sent-leaves delay bs = onward-leaves (number-shorter message_field bs) (λ n left p. unlabelled-leaves (send delay n) left refl p)

opened-leaves : (delay w v : ℕ) (bs : List ℕ) → Leaves (length bs) (opened delay w v bs)
unfolding opened pick label_size
opened-leaves delay w v [] = halts
opened-leaves delay w v (b ∷ bs) = go (eqb b opening) where
  go : (t : Bool) → Leaves (suc (length bs)) (pick t (got (group delay w v) bs) (stop (b ∷ bs)))
  go true = unlabelled-leaves (group delay w v) bs refl (omega arith)
  go false = halts

erring-leaves : (delay w : ℕ) (bs : List ℕ) → Leaves (length bs) (erring delay w bs)
unfolding erring pick
erring-leaves delay w bs = go (ltb (error_at bs) 4) where
  go : (t : Bool) → Leaves (length bs) (pick t (opened delay w (error_at bs) (past_word bs)) (opened delay w 0 bs))
  go true = leaves-more (word_size bs) (opened-leaves delay w (error_at bs) (past_word bs))
  go false = opened-leaves delay w 0 bs

grouped-leaves : (delay : ℕ) (bs : List ℕ) → Leaves (length bs) (grouped delay bs)
unfolding grouped pick
grouped-leaves delay bs = go (ltb (synchrony_at bs) 2) where
  go : (t : Bool) → Leaves (length bs) (pick t (erring delay (synchrony_at bs) (past_word bs)) (erring delay 0 bs))
  go true = leaves-more (word_size bs) (erring-leaves delay (synchrony_at bs) (past_word bs))
  go false = erring-leaves delay 0 bs

action-leaves : (delay : ℕ) (bs : List ℕ) → Leaves (length bs) (action delay bs)
unfolding action pick
action-leaves delay bs = go (is_word send_word bs) (is_word group_word bs) where
  go : (t u : Bool) → Leaves (length bs) (pick t (sent delay (past_word bs)) (pick u (grouped delay (past_word bs)) (stop bs)))
  go true u = leaves-more (word_size bs) (sent-leaves delay (past_word bs))
  go false true = leaves-more (word_size bs) (grouped-leaves delay (past_word bs))
  go false false = halts

item-leaves : (bs : List ℕ) → Leaves (length bs) (item bs)
unfolding item
item-leaves bs =
    onward-leaves (beats-shorter bs)
    (λ delay left p. leaves-more (omega (arith, blanks-size false left)) (action-leaves delay (blanks left)))

closed-leaves : (bs : List ℕ) → Leaves (length bs) (closed bs)
unfolding closed pick label_size
closed-leaves [] = halts
closed-leaves (b ∷ bs) = go (eqb b closing) where
  go : (t : Bool) → Leaves (suc (length bs)) (pick t (got close bs) (item (b ∷ bs)))
  go true = unlabelled-leaves close bs refl (omega arith)
  go false = item-leaves (b ∷ bs)

heading-leaves : (bs : List ℕ) (t : Bool) → is_word messages_word bs ≡ t → Leaves (length bs) (pick t (got heading (behind is_letter bs)) (stop bs))
unfolding pick label_size
heading-leaves bs true e =
    let w = word-behind messages_word bs e in
    let l : length (behind is_letter bs) ≡ length (drop 8 bs) = ap (λ (x : List ℕ). length x) w.0 in
    unlabelled-leaves heading (behind is_letter bs) refl (omega (arith, length-drop 8 bs, w.1))
heading-leaves bs false e = halts

there-leaves : (stage : Stage) (bs : List ℕ) → Leaves (length bs) (line stage bs)
unfolding line pick
there-leaves Start bs = heading-leaves bs (is_word messages_word bs) refl
there-leaves (Listing next) bs = go (is_word event_word bs) where
  go : (t : Bool) → Leaves (length bs) (pick t (timed (past_word bs)) (entry next bs))
  go true = leaves-more (word_size bs) (timed-leaves (past_word bs))
  go false = entry-leaves next bs
there-leaves Timed bs = go (is_word event_word bs) (is_word part_word bs) where
  go : (t u : Bool) → Leaves (length bs) (pick t (timed (past_word bs)) (pick u (parted (past_word bs)) (stop bs)))
  go true u = leaves-more (word_size bs) (timed-leaves (past_word bs))
  go false true = leaves-more (word_size bs) (parted-leaves (past_word bs))
  go false false = halts
there-leaves (Playing zero) bs = go (is_word event_word bs) (is_word part_word bs) where
  go : (t u : Bool) → Leaves (length bs) (pick t (timed (past_word bs)) (pick u (parted (past_word bs)) (item bs)))
  go true u = leaves-more (word_size bs) (timed-leaves (past_word bs))
  go false true = leaves-more (word_size bs) (parted-leaves (past_word bs))
  go false false = item-leaves bs
there-leaves (Playing (suc depth)) bs = closed-leaves bs

first-leaves : (stage : Stage) (bs : List ℕ) → Leaves (length bs) (line stage (blanks bs))
first-leaves stage bs = leaves-more (blanks-size false bs) (there-leaves stage (blanks bs))

leaves-left : {n : ℕ} {r : Read Line} (l : Line) (left : List ℕ) → Leaves n r → r ≡ got l left → label_size l + length left < n
leaves-left l left (leaves {l = k} {left = rest} p) e = let z : rest ≡ left = cc in let y : k ≡ l = cc in rw (z, y) at p
leaves-left l left halts e = let z : ◌≡◌ {A = ℕ} 0 1 = cc in absurd (omega arith)

module _ (stage : Stage) (bs : List ℕ) (l : Line) (left : List ℕ) (e : line stage (blanks bs) ≡ got l left) where
  pub line-spares : label_size l + length left < length bs
  line-spares = leaves-left l left (first-leaves stage bs) e

  pub line-shorter : length left < length bs
  line-shorter = omega (arith, line-spares)

-- ---- the bound never matters

follow-same : {n : ℕ} {r : Read Line} (f g : Line → List ℕ → Script) → Leaves n r → ((l : Line) (left : List ℕ) → length left < n → f l left ≡ g l left) → follow r f ≡ follow r g
unfolding follow
follow-same f g (leaves {l = l} {left = left} p) h = ap (λ (s : Script). more l s) (h l left (omega arith))
follow-same f g halts h = refl

any-bound : (n m : ℕ) (stage : Stage) (bs : List ℕ) → length bs < n → length bs < m → script_from n stage bs ≡ script_from m stage bs
unfolding script_from
any-bound zero m stage bs p q = absurd (omega arith)
any-bound (suc n) zero stage bs p q = absurd (omega arith)
any-bound (suc n) (suc m) stage bs p q =
    ap (λ (s : Script). pick (is_over stage (blanks bs)) done s)
    (follow-same (λ l left. script_from n (after l stage) left) (λ l left. script_from m (after l stage) left) (first-leaves stage bs)
    (λ l left s. any-bound n m (after l stage) left (omega arith) (omega arith)))

-- A text's lines are its first line and those of what is left behind it.
pub script-follow : (stage : Stage) (bs : List ℕ)
    → script stage bs ≡ pick (is_over stage (blanks bs)) done (follow (line stage (blanks bs)) (λ l left. script (after l stage) left))
unfolding script script_from
script-follow stage bs =
    ap (λ (s : Script). pick (is_over stage (blanks bs)) done s)
    (follow-same (λ l left. script_from (length bs) (after l stage) left) (λ l left. script (after l stage) left) (first-leaves stage bs)
    (λ l left s. any-bound (length bs) (suc (length left)) (after l stage) left s (omega arith)))
