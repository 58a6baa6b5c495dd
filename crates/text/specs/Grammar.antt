-- text  =  "messages" { number label }  { "event" beats { "part" number { item } } }
-- item  =  beats "send" number  |  beats "group" [ "loose" | "tight" ] [ "local" | "global" | "partial" | "causal" ] "{" { item } "}"
-- A text is read line by line: each line is the shortest run of tokens after which it is known what was said, wherever its newlines stand.
use Rattle.std.specs.Prelude.{ℕ, zero, suc, ◌-◌, Bool, true, false, List, [], ◌∷◌, eqb, ltb, length}
use Rattle.base.specs.Tests.{pick}
use Rattle.tokens.specs.Bytes.{opening, closing, is_letter}
use Rattle.tokens.specs.Tokens.{Read, got, stop, onward, blanks, behind, is_word, number, label}
use Rattle.tokens.specs.Beats.{beats}
use Rattle.text.specs.declared.Stage.{Stage}
use Rattle.text.specs.declared.Stage.TheVariants.{Start, Listing, Timed, Playing}
use Rattle.text.specs.Words.{messages_word, event_word, part_word, send_word, group_word, loose_word, tight_word, local_word, global_word, partial_word, causal_word, message_field, part_field, any_number}

pub data Line : Type 0 where
  heading : Line
  message : (name : List ℕ) → Line
  event : (duration : ℕ) → Line
  part : (number : ℕ) → Line
  send : (delay number : ℕ) → Line
  group : (delay synchrony error : ℕ) → Line
  close : Line

-- What is left behind a word, and the blanks behind it.
unfoldable pub past_word : List ℕ → List ℕ
past_word bs = blanks (behind is_letter bs)

-- ---- number label

unfoldable pub named : List ℕ → Read Line
named bs = onward (label bs) (λ l left. got (message l) left)

-- "The numbers in the message list are its own, 0, 1, 2 and so on; another number there is a fault at its first byte."
unfoldable pub entry : (next : ℕ) → List ℕ → Read Line
entry next bs = onward (number any_number bs) (λ n left. pick (eqb n next) (named (blanks left)) (stop bs))

-- ---- "event" beats, "part" number: behind the word

unfoldable pub timed : List ℕ → Read Line
timed bs = onward (beats bs) (λ g left. got (event g) left)

unfoldable pub parted : List ℕ → Read Line
parted bs = onward (number part_field bs) (λ p left. got (part p) left)

-- ---- item

unfoldable pub sent : (delay : ℕ) → List ℕ → Read Line
sent delay bs = onward (number message_field bs) (λ n left. got (send delay n) left)

unfoldable pub opened : (delay synchrony error : ℕ) → List ℕ → Read Line
opened delay w v [] = stop []
opened delay w v (b ∷ bs) = pick (eqb b opening) (got (group delay w v) bs) (stop (b ∷ bs))

-- The word that stands here, by its number in a file: "synchrony (0 loose, 1 tight), error word (0 local, 1 global, 2 partial, 3 causal)". Where none stands, the
-- number behind the last.
unfoldable pub synchrony_at : List ℕ → ℕ
synchrony_at bs = pick (is_word loose_word bs) 0 (pick (is_word tight_word bs) 1 2)

unfoldable pub error_at : List ℕ → ℕ
error_at bs =
    pick (is_word local_word bs) 0
    (pick (is_word global_word bs) 1
    (pick (is_word partial_word bs) 2
    (pick (is_word causal_word bs) 3 4)))

-- "A group with no error word reads as local, one with no synchrony as loose."
unfoldable pub erring : (delay synchrony : ℕ) → List ℕ → Read Line
erring delay w bs = pick (ltb (error_at bs) 4) (opened delay w (error_at bs) (past_word bs)) (opened delay w 0 bs)

unfoldable pub grouped : (delay : ℕ) → List ℕ → Read Line
grouped delay bs = pick (ltb (synchrony_at bs) 2) (erring delay (synchrony_at bs) (past_word bs)) (erring delay 0 bs)

unfoldable pub action : (delay : ℕ) → List ℕ → Read Line
action delay bs = pick (is_word send_word bs) (sent delay (past_word bs)) (pick (is_word group_word bs) (grouped delay (past_word bs)) (stop bs))

unfoldable pub item : List ℕ → Read Line
item bs = onward (beats bs) (λ delay left. action delay (blanks left))

unfoldable pub closed : List ℕ → Read Line
closed [] = stop []
closed (b ∷ bs) = pick (eqb b closing) (got close bs) (item (b ∷ bs))

-- ---- what may stand where

-- The line at the front, where no blank stands.
unfoldable pub line : Stage → List ℕ → Read Line
line Start bs = pick (is_word messages_word bs) (got heading (behind is_letter bs)) (stop bs)
line (Listing next) bs = pick (is_word event_word bs) (timed (past_word bs)) (entry next bs)
line Timed bs = pick (is_word event_word bs) (timed (past_word bs)) (pick (is_word part_word bs) (parted (past_word bs)) (stop bs))
line (Playing zero) bs = pick (is_word event_word bs) (timed (past_word bs)) (pick (is_word part_word bs) (parted (past_word bs)) (item bs))
line (Playing (suc depth)) bs = closed bs

-- What may stand behind a message, an opening brace and a closing one.
unfoldable pub further : Stage → Stage
further Start = Start
further (Listing next) = Listing (suc next)
further Timed = Timed
further (Playing depth) = Playing depth

unfoldable pub deeper : Stage → Stage
deeper Start = Start
deeper (Listing next) = Listing next
deeper Timed = Timed
deeper (Playing depth) = Playing (suc depth)

unfoldable pub shallower : Stage → Stage
shallower Start = Start
shallower (Listing next) = Listing next
shallower Timed = Timed
shallower (Playing depth) = Playing (depth - 1)

-- What may stand behind a line.
unfoldable pub after : Line → Stage → Stage
after heading stage = Listing 0
after (message l) stage = further stage
after (event g) stage = Timed
after (part p) stage = Playing 0
after (send d n) stage = stage
after (group d w v) stage = deeper stage
after close stage = shallower stage

-- A text may end behind its list and wherever no group is open.
unfoldable pub may_end : Stage → Bool
may_end Start = false
may_end (Listing next) = true
may_end Timed = true
may_end (Playing depth) = eqb depth 0

unfoldable pub is_over : Stage → List ℕ → Bool
is_over stage [] = may_end stage
is_over stage (b ∷ bs) = false

-- ---- a text: its lines, up to its end or to the first byte that can't be

pub data Script : Type 0 where
  done : Script
  more : Line → Script → Script
  fault : (left : List ℕ) → Script

unfoldable pub follow : Read Line → (Line → List ℕ → Script) → Script
follow (got l left) next = more l (next l left)
follow (stop left) next = fault left

-- The first number only bounds the recursion, and is above the count of bytes: each line has one.
unfoldable pub script_from : ℕ → Stage → List ℕ → Script
script_from zero stage bs = done
script_from (suc n) stage bs =
    pick (is_over stage (blanks bs)) done
    (follow (line stage (blanks bs)) (λ l left. script_from n (after l stage) left))

unfoldable pub script : Stage → List ℕ → Script
script stage bs = script_from (suc (length bs)) stage bs
