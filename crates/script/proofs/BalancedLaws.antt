-- A text that was counted has no fault, and its braces match: each stage takes its own lines only, and where the lines end no group is open.
-- Assumes nothing.
use Rattle.std.specs.Prelude.{Ok, Err}
use mathlib.Core.Path.{◌≡◌, refl}
use mathlib.Core.Bool.{Bool, true, false}
use mathlib.Core.List.{List, [], ◌∷◌}
use Prim.Native.Nat.{ℕ, zero, suc, ◌-◌, ◌<◌, ◌≤◌}
use native.Mathlib.Omega.{arith}
use lib.ListN.{length}
use lib.Dec.{eqb, ltb}
use Rattle.contents.specs.declared.Counts.{Counts}
use Rattle.score.specs.Piece.{Piece}
use Rattle.score.specs.Encode.{counts_in}
use Rattle.base.specs.Tests.{pick}
use Rattle.tokens.specs.Bytes.{opening, closing, is_letter}
use Rattle.tokens.specs.Tokens.{Read, got, stop, onward, blanks, behind, is_word, number, label}
use Rattle.tokens.specs.Beats.{beats}
use Rattle.text.specs.declared.Stage.{Stage}
use Rattle.text.specs.declared.Stage.TheVariants.{Start, Listing, Timed, Playing}
use Rattle.text.specs.Words.{messages_word, event_word, part_word, send_word, group_word, message_field, part_field, any_number}
use Rattle.text.specs.Grammar.{Line, heading, message, event, part, send, group, close, past_word, named, entry, timed, parted, sent, opened, synchrony_at, error_at, erring, grouped, action, item, closed, line, after, further, deeper, shallower, may_end, is_over, Script, done, more, fault, follow, script}
use Rattle.text.specs.Said.{piece_of, Reading, piece, unread, told, said}
use Rattle.text.proofs.ScriptLaws.{line-shorter, script-follow}
use Rattle.script.specs.Tallies.{tally_of}
use Rattle.script.specs.Balanced.{BeforeEvent, behind_list, behind_event, behind_items, BeforePart, first_part, next_part, Balanced, ends, heads, lists, times, parts, sends, opens, closes}

-- ---- the lines that a stage takes

-- An item is a send or a group.
pub data Itemed : Read Line → Type 0 where
  sent_item : {d n : ℕ} {left : List ℕ} → Itemed (got (send d n) left)
  item_of_group : {d w v : ℕ} {left : List ℕ} → Itemed (got (group d w v) left)
  no_item : {left : List ℕ} → Itemed (stop left)

onward-itemed : (r : Read ℕ) {f : ℕ → List ℕ → Read Line} → ((a : ℕ) (left : List ℕ) → Itemed (f a left)) → Itemed (onward r f)
unfolding onward
onward-itemed (got a left) h = h a left
onward-itemed (stop left) h = no_item

opened-itemed : (delay w v : ℕ) (bs : List ℕ) → Itemed (opened delay w v bs)
unfolding opened pick
opened-itemed delay w v [] = no_item
opened-itemed delay w v (b ∷ bs) = go (eqb b opening) where
  go : (t : Bool) → Itemed (pick t (got (group delay w v) bs) (stop (b ∷ bs)))
  go true = item_of_group
  go false = no_item

erring-itemed : (delay w : ℕ) (bs : List ℕ) → Itemed (erring delay w bs)
unfolding erring pick
erring-itemed delay w bs = go (ltb (error_at bs) 4) where
  go : (t : Bool) → Itemed (pick t (opened delay w (error_at bs) (past_word bs)) (opened delay w 0 bs))
  go true = opened-itemed delay w (error_at bs) (past_word bs)
  go false = opened-itemed delay w 0 bs

grouped-itemed : (delay : ℕ) (bs : List ℕ) → Itemed (grouped delay bs)
unfolding grouped pick
grouped-itemed delay bs = go (ltb (synchrony_at bs) 2) where
  go : (t : Bool) → Itemed (pick t (erring delay (synchrony_at bs) (past_word bs)) (erring delay 0 bs))
  go true = erring-itemed delay (synchrony_at bs) (past_word bs)
  go false = erring-itemed delay 0 bs

sent-itemed : (delay : ℕ) (bs : List ℕ) → Itemed (sent delay bs)
unfolding sent
sent-itemed delay bs = onward-itemed (number message_field bs) (λ n left. sent_item)

action-itemed : (delay : ℕ) (bs : List ℕ) → Itemed (action delay bs)
unfolding action pick
action-itemed delay bs = go (is_word send_word bs) (is_word group_word bs) where
  go : (t u : Bool) → Itemed (pick t (sent delay (past_word bs)) (pick u (grouped delay (past_word bs)) (stop bs)))
  go true u = sent-itemed delay (past_word bs)
  go false true = grouped-itemed delay (past_word bs)
  go false false = no_item

pub item-itemed : (bs : List ℕ) → Itemed (item bs)
unfolding item
item-itemed bs = onward-itemed (beats bs) (λ delay left. action-itemed delay (blanks left))

data Taken : Stage → Read Line → Type 0 where
  a_heading : {left : List ℕ} → Taken Start (got heading left)
  a_message : {next : ℕ} {l left : List ℕ} → Taken (Listing next) (got (message l) left)
  an_event : {stage : Stage} {g : ℕ} {left : List ℕ} → BeforeEvent stage → Taken stage (got (event g) left)
  a_part : {stage : Stage} {n : ℕ} {left : List ℕ} → BeforePart stage → Taken stage (got (part n) left)
  a_send : {depth d n : ℕ} {left : List ℕ} → Taken (Playing depth) (got (send d n) left)
  a_group : {depth d w v : ℕ} {left : List ℕ} → Taken (Playing depth) (got (group d w v) left)
  a_close : {depth : ℕ} {left : List ℕ} → Taken (Playing (suc depth)) (got close left)
  no_line : {stage : Stage} {left : List ℕ} → Taken stage (stop left)

item-taken : {depth : ℕ} {r : Read Line} → Itemed r → Taken (Playing depth) r
item-taken sent_item = a_send
item-taken item_of_group = a_group
item-taken no_item = no_line

entry-taken : (next : ℕ) (bs : List ℕ) → Taken (Listing next) (entry next bs)
unfolding entry named onward pick
entry-taken next bs = numbered (number any_number bs) where
  labelled : (r : Read (List ℕ)) → Taken (Listing next) (onward r (λ l left. got (message l) left))
  labelled (got l left) = a_message
  labelled (stop left) = no_line

  go : (t : Bool) (left : List ℕ) → Taken (Listing next) (pick t (named (blanks left)) (stop bs))
  go true left = labelled (label (blanks left))
  go false left = no_line

  numbered : (r : Read ℕ) → Taken (Listing next) (onward r (λ n left. pick (eqb n next) (named (blanks left)) (stop bs)))
  numbered (got n left) = go (eqb n next) left
  numbered (stop left) = no_line

timed-taken : {stage : Stage} (bs : List ℕ) → BeforeEvent stage → Taken stage (timed bs)
unfolding timed onward
timed-taken {stage} bs p = go (beats bs) where
  go : (r : Read ℕ) → Taken stage (onward r (λ g left. got (event g) left))
  go (got g left) = an_event p
  go (stop left) = no_line

parted-taken : {stage : Stage} (bs : List ℕ) → BeforePart stage → Taken stage (parted bs)
unfolding parted onward
parted-taken {stage} bs p = go (number part_field bs) where
  go : (r : Read ℕ) → Taken stage (onward r (λ n left. got (part n) left))
  go (got n left) = a_part p
  go (stop left) = no_line

closed-taken : (depth : ℕ) (bs : List ℕ) → Taken (Playing (suc depth)) (closed bs)
unfolding closed pick
closed-taken depth [] = no_line
closed-taken depth (b ∷ bs) = go (eqb b closing) where
  go : (t : Bool) → Taken (Playing (suc depth)) (pick t (got close bs) (item (b ∷ bs)))
  go true = a_close
  go false = item-taken (item-itemed (b ∷ bs))

line_taken : (stage : Stage) (bs : List ℕ) → Taken stage (line stage bs)
unfolding line pick
line_taken Start bs = go (is_word messages_word bs) where
  go : (t : Bool) → Taken Start (pick t (got heading (behind is_letter bs)) (stop bs))
  go true = a_heading
  go false = no_line
line_taken (Listing next) bs = go (is_word event_word bs) where
  go : (t : Bool) → Taken (Listing next) (pick t (timed (past_word bs)) (entry next bs))
  go true = timed-taken (past_word bs) behind_list
  go false = entry-taken next bs
line_taken Timed bs = go (is_word event_word bs) (is_word part_word bs) where
  go : (t u : Bool) → Taken Timed (pick t (timed (past_word bs)) (pick u (parted (past_word bs)) (stop bs)))
  go true u = timed-taken (past_word bs) behind_event
  go false true = parted-taken (past_word bs) first_part
  go false false = no_line
line_taken (Playing zero) bs = go (is_word event_word bs) (is_word part_word bs) where
  go : (t u : Bool) → Taken (Playing 0) (pick t (timed (past_word bs)) (pick u (parted (past_word bs)) (item bs)))
  go true u = timed-taken (past_word bs) behind_items
  go false true = parted-taken (past_word bs) next_part
  go false false = item-taken (item-itemed bs)
line_taken (Playing (suc depth)) bs = closed-taken depth bs

-- ---- the lines of a text that says a piece

over-may : (stage : Stage) (bs : List ℕ) → is_over stage bs ≡ true → may_end stage ≡ true
unfolding is_over
over-may stage [] e = e
over-may stage (b ∷ bs) e = let z : ◌≡◌ {A = ℕ} 0 1 = cc in absurd (omega arith)

module _ (size : ℕ) (p q : Piece) where
  -- Behind its first line, where it has one.
  followed : {stage : Stage} {r : Read Line} → Taken stage r
      → ((l : Line) (left : List ℕ) → r ≡ got l left → told size p (script (after l stage) left) ≡ piece q → Balanced (after l stage) (script (after l stage) left))
      → told size p (follow r (λ l left. script (after l stage) left)) ≡ piece q → Balanced stage (follow r (λ l left. script (after l stage) left))
  unfolding follow told after further deeper shallower
  followed (a_heading {left = left}) h e = heads (h heading left refl e)
  followed (a_message {l = l} {left = left}) h e = lists (h (message l) left refl e)
  followed (an_event {g = g} {left = left} b) h e = times b (h (event g) left refl e)
  followed (a_part {n = n} {left = left} b) h e = parts b (h (part n) left refl e)
  followed (a_send {d = d} {n = n} {left = left}) h e = sends (h (send d n) left refl e)
  followed (a_group {d = d} {w = w} {v = v} {left = left}) h e = opens (h (group d w v) left refl e)
  followed (a_close {depth = depth} {left = left}) h e =
      let z : suc depth - 1 ≡ depth = omega arith in
      let b : Balanced (Playing (suc depth - 1)) (script (Playing (suc depth - 1)) left) = h close left refl e in
      rw z (closes (rw z at b))
  followed no_line h e = let z : ◌≡◌ {A = ℕ} 0 1 = cc in absurd (omega arith)

  bounded : (n : ℕ) (stage : Stage) (bs : List ℕ) → length bs < n → told size p (script stage bs) ≡ piece q → Balanced stage (script stage bs)
  unfolding pick
  bounded zero stage bs b e = absurd (omega arith)
  bounded (suc n) stage bs b e =
      go (is_over stage (blanks bs)) refl (λ l left s. bounded n (after l stage) left (omega (arith, line-shorter stage bs l left s))) where
        go : (t : Bool) → is_over stage (blanks bs) ≡ t
            → ((l : Line) (left : List ℕ) → line stage (blanks bs) ≡ got l left → told size p (script (after l stage) left) ≡ piece q → Balanced (after l stage) (script (after l stage) left))
            → Balanced stage (script stage bs)
        go true o h = rw (script-follow stage bs, o) (ends (over-may stage (blanks bs) o))
        go false o h = let f = rw (script-follow stage bs, o) at e in rw (script-follow stage bs, o) (followed (line_taken stage (blanks bs)) h f)

balanced-told : (size : ℕ) (p : Piece) {stage : Stage} {s : Script} → Balanced stage s → told size p s ≡ piece p
unfolding told
balanced-told size p (ends e) = refl
balanced-told size p (heads b) = balanced-told size p b
balanced-told size p (lists b) = balanced-told size p b
balanced-told size p (times e b) = balanced-told size p b
balanced-told size p (parts e b) = balanced-told size p b
balanced-told size p (sends b) = balanced-told size p b
balanced-told size p (opens b) = balanced-told size p b
balanced-told size p (closes b) = balanced-told size p b

module _ (t : List ℕ) (c : Counts) (counted : Ok c ≡ tally_of (said t)) where
  -- The lines of a text that was counted have no fault, and their braces match.
  pub counted-balanced : Balanced Start (script Start t)
  unfolding said tally_of
  counted-balanced = go (said t) refl where
    go : (r : Reading) → said t ≡ r → Balanced Start (script Start t)
    go (piece q) e = bounded (length t) (piece_of (script Start t)) q (suc (length t)) Start t (omega arith) e
    go (unread at) e = let f = rw e at counted in let z : ◌≡◌ {A = ℕ} 0 1 = cc in absurd (omega arith)

  -- It says the piece of its lines.
  pub counted-said : said t ≡ piece (piece_of (script Start t))
  unfolding said
  counted-said = balanced-told (length t) (piece_of (script Start t)) counted-balanced

  -- The counts are those of this piece.
  pub counts-said : c ≡ counts_in (piece_of (script Start t))
  unfolding tally_of
  counts-said = let f : Ok c ≡ Ok (counts_in (piece_of (script Start t))) = rw counted-said at counted in let z : c ≡ counts_in (piece_of (script Start t)) = cc in z

-- ---- a text with a fault

told-within : (size : ℕ) (p : Piece) (s : Script) (at : ℕ) → told size p s ≡ unread at → at ≤ size
unfolding told
told-within size p done at e = let z : ◌≡◌ {A = ℕ} 0 1 = cc in absurd (omega arith)
told-within size p (more l s) at e = told-within size p s at e
told-within size p (fault left) at e = let z : size - length left ≡ at = cc in omega arith

-- It lies in the text, or at its end.
pub fault-within : (t : List ℕ) (at : ℕ) → Err at ≡ tally_of (said t) → at ≤ length t
unfolding said tally_of
fault-within t at e = go (said t) refl where
  go : (r : Reading) → said t ≡ r → at ≤ length t
  go (piece p) q = let z : Err at ≡ tally_of (piece p) = rw q at e in let y : ◌≡◌ {A = ℕ} 0 1 = cc in absurd (omega arith)
  go (unread k) q = let z : Err at ≡ Err k = rw q at e in let y : at ≡ k = cc in rw y (told-within (length t) _ _ k q)
