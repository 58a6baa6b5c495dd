-- Every number that a text says fits its field: "numerator, denominator and the grains that come out are each below 2^32; a message number after `send` below 65,536;
-- a part below 256". So nothing of what it says is lost in its file. By recursion along the lines. Assumes nothing.
use mathlib.Core.Path.{◌≡◌, refl}
use mathlib.Core.Bool.{Bool, true, false}
use mathlib.Core.List.{List, [], ◌∷◌}
use Prim.Native.Nat.{ℕ, zero, suc, ◌+◌, ◌-◌, ◌*◌, ◌/◌, ◌≤◌, ◌<◌}
use native.Mathlib.Omega.{arith}
use lib.Dec.{eqb, ltb}
use lib.ListN.{length}
use borrow.Author.Tests.{ltb-true}
use Rattle.base.specs.Tests.{pick}
use Rattle.base.specs.Checks.{fine}
use Rattle.base.proofs.TestLaws.{every-head, every_rest}
use Rattle.ascii.specs.Numbers.{is_digit, value}
use Rattle.contents.specs.Contents.{counts_right}
use Rattle.contents.proofs.ContentsLaws.{counts-held}
use Rattle.tokens.specs.Bytes.{slash, opening, closing, is_letter}
use Rattle.tokens.specs.Tokens.{Read, got, stop, onward, blanks, leading, behind, is_word, is_number, number, label}
use Rattle.tokens.specs.Beats.{grains_of_a_beat, field, is_fraction, valued, fraction, beats}
use Rattle.score.specs.Piece.{Piece}
use Rattle.score.specs.Encode.{counts_in}
use Rattle.score.proofs.Fielded.{FitItems, no_item, fit_item, FitDurations, no_duration, fit_duration, Fielded}
use Rattle.text.specs.declared.Stage.{Stage}
use Rattle.text.specs.declared.Stage.TheVariants.{Start, Listing, Timed, Playing}
use Rattle.text.specs.Words.{messages_word, event_word, part_word, send_word, group_word, message_field, part_field, any_number}
use Rattle.text.specs.Grammar.{Line, heading, message, event, part, send, group, close, past_word, named, entry, timed, parted, sent, opened, synchrony_at, error_at, erring, grouped, action, item, closed, line, after, is_over, Script, done, more, fault, follow, script_from, script}
use Rattle.text.specs.Said.{durations_of, within, event_of, items_of, piece_of, piece, told, said}

-- ---- a number that is read is below its limit

data Below (limit : ℕ) : Read ℕ → Type 0 where
  below : {n : ℕ} {left : List ℕ} → n < limit → Below limit (got n left)
  unread_number : {left : List ℕ} → Below limit (stop left)

number-below : (limit : ℕ) (bs : List ℕ) → Below limit (number limit bs)
unfolding number is_number pick
number-below limit bs = go (is_number limit (leading is_digit bs)) refl where
  go : (t : Bool) → is_number limit (leading is_digit bs) ≡ t → Below limit (pick t (got (value (leading is_digit bs)) (behind is_digit bs)) (stop bs))
  go true e = below (ltb-true _ _ (every-head _ _ (every_rest _ _ e)))
  go false e = unread_number

valued-below : (bs : List ℕ) (n d : ℕ) (left : List ℕ) → Below field (valued bs n d left)
unfolding valued is_fraction pick
valued-below bs n d left = go (is_fraction n d) refl where
  go : (t : Bool) → is_fraction n d ≡ t → Below field (pick t (got (n * grains_of_a_beat / d) left) (stop bs))
  go true e = below (ltb-true _ _ (every-head _ _ (every_rest _ _ (every_rest _ _ e))))
  go false e = unread_number

over_below : (bs : List ℕ) (n : ℕ) (r : Read ℕ) → Below field (onward r (λ d rest. valued bs n d rest))
unfolding onward
over_below bs n (got d left) = valued-below bs n d left
over_below bs n (stop left) = unread_number

fraction-below : (bs : List ℕ) (n : ℕ) (left : List ℕ) → Below field (fraction bs n left)
unfolding fraction pick
fraction-below bs n [] = valued-below bs n 1 []
fraction-below bs n (b ∷ left) = go (eqb b slash) where
  go : (t : Bool) → Below field (pick t (onward (number field left) (λ d rest. valued bs n d rest)) (valued bs n 1 (b ∷ left)))
  go true = over_below bs n (number field left)
  go false = valued-below bs n 1 (b ∷ left)

beats-below : (bs : List ℕ) → Below field (beats bs)
unfolding beats onward
beats-below bs = go (number field bs) where
  go : (r : Read ℕ) → Below field (onward r (λ n left. fraction bs n left))
  go (got n left) = fraction-below bs n left
  go (stop left) = unread_number

-- ---- a line that is read

pub data Fields : Line → Type 0 where
  of_heading : Fields heading
  of_message : {l : List ℕ} → Fields (message l)
  of_event : {g : ℕ} → g < field → Fields (event g)
  of_part : {p : ℕ} → p < part_field → Fields (part p)
  of_send : {d n : ℕ} → d < field → n < message_field → Fields (send d n)
  of_group : {d w v : ℕ} → d < field → w < 2 → v < 4 → Fields (group d w v)
  of_close : Fields close

data Keeps : Read Line → Type 0 where
  keeps : {l : Line} {left : List ℕ} → Fields l → Keeps (got l left)
  halts : {left : List ℕ} → Keeps (stop left)

onward-keeps : {limit : ℕ} {r : Read ℕ} {f : ℕ → List ℕ → Read Line} → Below limit r → ((n : ℕ) (left : List ℕ) → n < limit → Keeps (f n left)) → Keeps (onward r f)
unfolding onward
onward-keeps (below {n = n} {left = left} p) h = h n left p
onward-keeps unread_number h = halts

named-keeps : (bs : List ℕ) → Keeps (named bs)
unfolding named onward
named-keeps bs = go (label bs) where
  go : (r : Read (List ℕ)) → Keeps (onward r (λ l left. got (message l) left))
  go (got l left) = keeps of_message
  go (stop left) = halts

entry-keeps : (next : ℕ) (bs : List ℕ) → Keeps (entry next bs)
unfolding entry pick
entry-keeps next bs = onward-keeps (number-below any_number bs) (λ n left p. go (eqb n next) left) where
  go : (t : Bool) (left : List ℕ) → Keeps (pick t (named (blanks left)) (stop bs))
  go true left = named-keeps (blanks left)
  go false left = halts

timed-keeps : (bs : List ℕ) → Keeps (timed bs)
unfolding timed
timed-keeps bs = onward-keeps (beats-below bs) (λ g left p. keeps (of_event p))

parted-keeps : (bs : List ℕ) → Keeps (parted bs)
unfolding parted
parted-keeps bs = onward-keeps (number-below part_field bs) (λ n left p. keeps (of_part p))

module _ (delay : ℕ) (small : delay < field) where
  sent-keeps : (bs : List ℕ) → Keeps (sent delay bs)
  unfolding sent
  sent-keeps bs = onward-keeps (number-below message_field bs) (λ n left p. keeps (of_send small p))

  opened-keeps : (w v : ℕ) (bs : List ℕ) → w < 2 → v < 4 → Keeps (opened delay w v bs)
  unfolding opened pick
  opened-keeps w v [] p q = halts
  opened-keeps w v (b ∷ bs) p q = go (eqb b opening) where
    go : (t : Bool) → Keeps (pick t (got (group delay w v) bs) (stop (b ∷ bs)))
    go true = keeps (of_group small p q)
    go false = halts

  erring-keeps : (w : ℕ) (bs : List ℕ) → w < 2 → Keeps (erring delay w bs)
  unfolding erring pick
  erring-keeps w bs p = go (ltb (error_at bs) 4) refl where
    go : (t : Bool) → ltb (error_at bs) 4 ≡ t → Keeps (pick t (opened delay w (error_at bs) (past_word bs)) (opened delay w 0 bs))
    go true e = opened-keeps w (error_at bs) (past_word bs) p (ltb-true _ _ e)
    go false e = opened-keeps w 0 bs p (omega arith)

  grouped-keeps : (bs : List ℕ) → Keeps (grouped delay bs)
  unfolding grouped pick
  grouped-keeps bs = go (ltb (synchrony_at bs) 2) refl where
    go : (t : Bool) → ltb (synchrony_at bs) 2 ≡ t → Keeps (pick t (erring delay (synchrony_at bs) (past_word bs)) (erring delay 0 bs))
    go true e = erring-keeps (synchrony_at bs) (past_word bs) (ltb-true _ _ e)
    go false e = erring-keeps 0 bs (omega arith)

  action-keeps : (bs : List ℕ) → Keeps (action delay bs)
  unfolding action pick
  action-keeps bs = go (is_word send_word bs) (is_word group_word bs) where
    go : (t u : Bool) → Keeps (pick t (sent delay (past_word bs)) (pick u (grouped delay (past_word bs)) (stop bs)))
    go true u = sent-keeps (past_word bs)
    go false true = grouped-keeps (past_word bs)
    go false false = halts

item-keeps : (bs : List ℕ) → Keeps (item bs)
unfolding item
item-keeps bs = onward-keeps (beats-below bs) (λ d left p. action-keeps d p (blanks left))

closed-keeps : (bs : List ℕ) → Keeps (closed bs)
unfolding closed pick
closed-keeps [] = halts
closed-keeps (b ∷ bs) = go (eqb b closing) where
  go : (t : Bool) → Keeps (pick t (got close bs) (item (b ∷ bs)))
  go true = keeps of_close
  go false = item-keeps (b ∷ bs)

line-keeps : (stage : Stage) (bs : List ℕ) → Keeps (line stage bs)
unfolding line pick
line-keeps Start bs = go (is_word messages_word bs) where
  go : (t : Bool) → Keeps (pick t (got heading (behind is_letter bs)) (stop bs))
  go true = keeps of_heading
  go false = halts
line-keeps (Listing next) bs = go (is_word event_word bs) where
  go : (t : Bool) → Keeps (pick t (timed (past_word bs)) (entry next bs))
  go true = timed-keeps (past_word bs)
  go false = entry-keeps next bs
line-keeps Timed bs = go (is_word event_word bs) (is_word part_word bs) where
  go : (t u : Bool) → Keeps (pick t (timed (past_word bs)) (pick u (parted (past_word bs)) (stop bs)))
  go true u = timed-keeps (past_word bs)
  go false true = parted-keeps (past_word bs)
  go false false = halts
line-keeps (Playing zero) bs = go (is_word event_word bs) (is_word part_word bs) where
  go : (t u : Bool) → Keeps (pick t (timed (past_word bs)) (pick u (parted (past_word bs)) (item bs)))
  go true u = timed-keeps (past_word bs)
  go false true = parted-keeps (past_word bs)
  go false false = item-keeps bs
line-keeps (Playing (suc depth)) bs = closed-keeps bs

-- ---- the lines of a text

pub data AllFields : Script → Type 0 where
  at_end : AllFields done
  at_fault : {left : List ℕ} → AllFields (fault left)
  and_then : {l : Line} {s : Script} → Fields l → AllFields s → AllFields (more l s)

pub script-fields : (n : ℕ) (stage : Stage) (bs : List ℕ) → AllFields (script_from n stage bs)
unfolding script_from pick follow
script-fields zero stage bs = at_end
script-fields (suc n) stage bs = go (is_over stage (blanks bs)) (line stage (blanks bs)) (line-keeps stage (blanks bs)) (λ l left. script-fields n (after l stage) left) where
  go : (t : Bool) (r : Read Line) → Keeps r → ((l : Line) (left : List ℕ) → AllFields (script_from n (after l stage) left))
      → AllFields (pick t done (follow r (λ l left. script_from n (after l stage) left)))
  go true r k h = at_end
  go false (got l left) (keeps k) h = and_then k (h l left)
  go false (stop left) halts h = at_fault

durations-fit : {s : Script} → AllFields s → FitDurations (durations_of s)
unfolding durations_of
durations-fit at_end = no_duration
durations-fit at_fault = no_duration
durations-fit (and_then of_heading r) = durations-fit r
durations-fit (and_then of_message r) = durations-fit r
durations-fit (and_then (of_event p) r) = fit_duration p (durations-fit r)
durations-fit (and_then (of_part p) r) = durations-fit r
durations-fit (and_then (of_send p q) r) = durations-fit r
durations-fit (and_then (of_group p q v) r) = durations-fit r
durations-fit (and_then of_close r) = durations-fit r

within-few : (k e p depth : ℕ) (s : Script) → within k s ≤ length (items_of e p depth s)
unfolding within items_of
within-few k e p depth done = omega arith
within-few k e p depth (fault left) = omega arith
within-few k e p depth (more heading s) = within-few k e p depth s
within-few k e p depth (more (message l) s) = within-few k e p depth s
within-few k e p depth (more (event g) s) = within-few k (suc e) p depth s
within-few k e p depth (more (part q) s) = within-few k e q depth s
within-few k e p depth (more (send d n) s) = omega (arith, within-few k e p depth s)
within-few k e p depth (more (group d w v) s) = omega (arith, within-few (suc k) e p (suc depth) s)
within-few zero e p depth (more close s) = omega arith
within-few (suc k) e p depth (more close s) = within-few k e p (depth - 1) s

event-few : (depth e n : ℕ) → e < n → event_of depth e < n
unfolding event_of
event-few zero e n p = p
event-few (suc depth) e n p = omega arith

items-fit : (e p depth : ℕ) {s : Script} → p < part_field → e + length (durations_of s) < 65536 → length (items_of e p depth s) < 65536 → AllFields s → FitItems (items_of e p depth s)
unfolding durations_of items_of
items-fit e p depth a b c at_end = no_item
items-fit e p depth a b c at_fault = no_item
items-fit e p depth a b c (and_then of_heading r) = items-fit e p depth a b c r
items-fit e p depth a b c (and_then of_message r) = items-fit e p depth a b c r
items-fit e p depth a b c (and_then (of_event q) r) = items-fit (suc e) p depth a (omega arith) c r
items-fit e p depth a b c (and_then (of_part {p = q} f) r) = items-fit e q depth f b c r
items-fit e p depth a b c (and_then (of_send {d = d} {n = n} f g) r) =
    fit_item
    {i = record { kind = 0; synchrony = 0; error = 0; part = p; delay = record { 0 = d }; event = event_of depth e; last = n }}
    (record { kind = omega arith; synchrony = omega arith; error = omega arith; part = a; delay = f; event = event-few depth e 65536 (omega arith); last = g })
    (items-fit e p depth a b (omega arith) r)
items-fit e p depth a b c (and_then {s = s} (of_group {d = d} {w = w} {v = v} f g h) r) =
    fit_item
    {i = record { kind = 1; synchrony = w; error = v; part = p; delay = record { 0 = d }; event = event_of depth e; last = within 0 s }}
    (record {
      kind = omega arith;
      synchrony = omega arith;
      error = omega arith;
      part = a;
      delay = f;
      event = event-few depth e 65536 (omega arith);
      last = omega (arith, within-few 0 e p (suc depth) s);
    })
    (items-fit e p (suc depth) a b (omega arith) r)
items-fit e p depth a b c (and_then of_close r) = items-fit e p (depth - 1) a b c r

-- ---- the piece that a text says

told-piece : (size : ℕ) (p q : Piece) (s : Script) → told size p s ≡ piece q → p ≡ q
unfolding told
told-piece size p q done e = cc
told-piece size p q (more l s) e = told-piece size p q s e
told-piece size p q (fault left) e = let z : ◌≡◌ {A = ℕ} 0 1 = cc in absurd (omega arith)

-- It is that of the text's lines.
pub said-piece : (t : List ℕ) (q : Piece) → said t ≡ piece q → piece_of (script Start t) ≡ q
unfolding said
said-piece t q e = told-piece (length t) (piece_of (script Start t)) q (script Start t) e

lines-fielded : (s : Script) → AllFields s → counts_right (counts_in (piece_of s)) ≡ fine → Fielded (piece_of s)
unfolding piece_of counts_in
lines-fielded s a e =
    let k = counts-held (counts_in (piece_of s)) e in
    record { counts = e; durations = durations-fit a; items = items-fit 0 0 0 (omega arith) (omega (arith, k.events)) (omega (arith, k.items)) a }

-- Its numbers fit their fields, wherever the counts are right.
pub said-fielded : (t : List ℕ) (p : Piece) → said t ≡ piece p → counts_right (counts_in p) ≡ fine → Fielded p
unfolding script
said-fielded t p e c =
    let q = said-piece t p e in
    rw q at (lines-fielded (script Start t) (script-fields (suc (length t)) Start t) (rw q c))
