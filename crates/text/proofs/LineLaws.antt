-- A line that was written is read there again, and what is left behind it is blank up to the next line.
-- By the bytes of each kind of line. Assumes nothing.
use mathlib.Core.Path.{◌≡◌, refl, ap, ◌∙◌}
use mathlib.Core.Bool.{true, false}
use mathlib.Core.List.{List, [], ◌∷◌, ◌++◌, append_assoc}
use Prim.Native.Nat.{ℕ, zero, suc, ◌+◌, ◌-◌, ◌*◌, ◌<◌, ◌≤◌}
use native.Mathlib.Omega.{arith}
use lib.ListN.{length, get_or, length-append}
use borrow.Author.Tests.{ne_eqb, eq-eqb}
use Rattle.base.specs.Tests.{pick, every, between}
use Rattle.base.proofs.TestLaws.{between-under, between-low, between-high}
use Rattle.ascii.specs.Words.{newline, space, zero_digit, nine_digit, begins, same}
use Rattle.ascii.specs.Numbers.{is_digit}
use Rattle.ascii.specs.Text.{bytes_of}
use Rattle.ascii.specs.Decimals.{decimal}
use Rattle.tokens.specs.Bytes.{closing, letter_a, letter_z, is_blank, is_letter, is_plain, All, none, one, Stops, here}
use Rattle.tokens.specs.Tokens.{Read, got, stop, onward, past_blanks, blanks, leading, behind, is_word, is_number, number}
use Rattle.tokens.specs.Beats.{field, beats}
use Rattle.tokens.specs.Quoted.{quoted}
use Rattle.tokens.proofs.TokenLaws.{digits-end, digits-end-line, blanks-spaces, blanks-newline, comment-passed, high-solid, word-leads, decimal-all, decimal-some, number_read, label_read}
use Rattle.text.specs.declared.Stage.{Stage}
use Rattle.text.specs.declared.Stage.TheVariants.{Start, Listing, Timed, Playing}
use Rattle.text.specs.Words.{event_word, part_word, message_field, part_field, any_number}
use Rattle.text.specs.Grammar.{Line, heading, message, event, part, send, group, close, past_word, named, entry, timed, parted, sent, opened, synchrony_at, error_at, erring, grouped, action, item, closed, line, is_over}
use Rattle.text.specs.Beats.{denominator, numerator, over, beats_text}
use Rattle.text.specs.Written.{synchrony_word, error_word, Spot, indent, remark, line_text}
use Rattle.text.proofs.BeatsLaws.{beats-read}

-- ---- bytes that begin with a digit

pub data Led : List ℕ → Type 0 where
  led : {b : ℕ} {bs : List ℕ} → is_digit b ≡ true → Led (b ∷ bs)

digits-led : {xs : List ℕ} (ys : List ℕ) → All is_digit xs → 1 ≤ length xs → Led (xs ++ ys)
digits-led ys none p = absurd (omega arith)
digits-led ys (one e a) p = led e

pub decimal-led : (n : ℕ) (ys : List ℕ) → Led (decimal n ++ ys)
decimal-led n ys = digits-led ys (decimal-all n) (decimal-some n)

pub beats-led : (g : ℕ) (ys : List ℕ) → Led (beats_text g ++ ys)
unfolding beats_text
beats-led g ys = rw (append_assoc (decimal (numerator g)) (over (denominator g)) ys) (decimal-led (numerator g) _)

pub led-solid : {bs : List ℕ} → Led bs → blanks bs ≡ bs
unfolding is_digit
led-solid (led {b = b} {bs = bs} e) = high-solid b bs (omega (arith, between-low zero_digit nine_digit b e))

led-no-letter : {bs : List ℕ} → Led bs → Stops is_letter bs
unfolding is_digit is_letter
led-no-letter (led {b = b} e) = here (between-under letter_a letter_z b (omega (arith, between-high zero_digit nine_digit b e)))

led-no-word : (word : List ℕ) {bs : List ℕ} → Led bs → is_word word bs ≡ same word []
led-no-word word l = word-leads word none (led-no-letter l)

-- ---- what they begin

led-entry : (n : ℕ) {bs : List ℕ} → Led bs → line (Listing n) bs ≡ entry n bs
unfolding line pick same every
led-entry n l = rw (led-no-word event_word l)

led-closed : {bs : List ℕ} → Led bs → closed bs ≡ item bs
unfolding closed pick is_digit
led-closed (led {b = b} e) = rw (ne_eqb b closing (λ q. omega (arith, between-high zero_digit nine_digit b e)))

led-item : (depth : ℕ) {bs : List ℕ} → Led bs → line (Playing depth) bs ≡ item bs
unfolding line pick same every
led-item zero l = rw (led-no-word event_word l, led-no-word part_word l)
led-item (suc depth) l = led-closed l

-- ---- the list

heading-read : (rest : List ℕ) → line Start (blanks (bytes_of "messages\n" ++ rest)) ≡ got heading (newline ∷ rest)
unfolding line past_blanks is_blank pick is_word same begins every leading behind is_letter between
heading-read rest = refl

label-there : {l : List ℕ} (rest : List ℕ) → All is_plain l → named (blanks (space ∷ (quoted l ++ (newline ∷ rest)))) ≡ got (message l) (newline ∷ rest)
unfolding named onward pick past_blanks is_blank quoted
label-there {l} rest a = rw (label_read {l = l} (newline ∷ rest) a)

entry_read : (n : ℕ) {l : List ℕ} (rest : List ℕ) → n < any_number → All is_plain l → entry n (decimal n ++ (space ∷ (quoted l ++ (newline ∷ rest)))) ≡ got (message l) (newline ∷ rest)
unfolding entry onward pick
entry_read n {l} rest p a =
    rw (number_read any_number n {ys = space ∷ (quoted l ++ (newline ∷ rest))} p p (digits-end _), eq-eqb n n refl) (label-there rest a)

message-read : (n : ℕ) {l : List ℕ} (rest : List ℕ) → n < any_number → All is_plain l
    → line (Listing n) (blanks (bytes_of "  " ++ (decimal n ++ (space ∷ (quoted l ++ (newline ∷ rest)))))) ≡ got (message l) (newline ∷ rest)
unfolding past_blanks is_blank pick
message-read n {l} rest p a =
    let there = decimal-led n (space ∷ (quoted l ++ (newline ∷ rest))) in
    rw (led-solid there, led-entry n there) (entry_read n rest p a)

-- ---- events and parts

-- No group is open: the text may end here, or an event follow.
pub data Outside : Stage → Type 0 where
  in_list : {n : ℕ} → Outside (Listing n)
  in_event : Outside Timed
  in_part : Outside (Playing 0)

-- Behind an event, where a part may stand.
pub data Within : Stage → Type 0 where
  no_part : Within Timed
  other_part : Within (Playing 0)

event-begins : {stage : Stage} (ys : List ℕ) → Outside stage → line stage (blanks (bytes_of "event " ++ ys)) ≡ timed (blanks ys)
unfolding line past_blanks is_blank pick past_word is_word same begins every leading behind is_letter between
event-begins ys in_list = refl
event-begins ys in_event = refl
event-begins ys in_part = refl

event_read : {stage : Stage} (g : ℕ) (ys : List ℕ) → Outside stage → g < field → line stage (blanks (bytes_of "event " ++ (beats_text g ++ (space ∷ ys)))) ≡ got (event g) (space ∷ ys)
unfolding timed onward
event_read g ys o p = rw (event-begins (beats_text g ++ (space ∷ ys)) o, led-solid (beats-led g (space ∷ ys)), beats-read g p ys)

part-begins : {stage : Stage} (ys : List ℕ) → Within stage → line stage (blanks (bytes_of "  part " ++ ys)) ≡ parted (blanks ys)
unfolding line past_blanks is_blank pick past_word is_word same begins every leading behind is_letter between
part-begins ys no_part = refl
part-begins ys other_part = refl

part-read : {stage : Stage} (n : ℕ) (rest : List ℕ) → Within stage → n < part_field → line stage (blanks (bytes_of "  part " ++ (decimal n ++ (newline ∷ rest)))) ≡ got (part n) (newline ∷ rest)
unfolding parted onward
part-read n rest w p =
    rw (part-begins (decimal n ++ (newline ∷ rest)) w, led-solid (decimal-led n (newline ∷ rest)), number_read part_field n {ys = newline ∷ rest} p (omega arith) (digits-end-line rest))

-- ---- items

pub indent-passed : (depth : ℕ) (ys : List ℕ) → blanks (indent depth ++ ys) ≡ blanks ys
unfolding indent
indent-passed depth ys = blanks-spaces (4 + 2 * depth) ys

send-begins : (g : ℕ) (ys : List ℕ) → action g (blanks (bytes_of " send " ++ ys)) ≡ sent g (blanks ys)
unfolding action past_blanks is_blank pick past_word is_word same begins every leading behind is_letter between
send-begins g ys = refl

send-there : (g n : ℕ) (ys : List ℕ) → n < message_field → action g (blanks (bytes_of " send " ++ (decimal n ++ (space ∷ ys)))) ≡ got (send g n) (space ∷ ys)
unfolding sent onward
send-there g n ys p =
    rw (send-begins g (decimal n ++ (space ∷ ys)), led-solid (decimal-led n (space ∷ ys)), number_read message_field n {ys = space ∷ ys} p (omega arith) (digits-end ys))

group-begins : (g : ℕ) (ys : List ℕ) → action g (blanks (bytes_of " group " ++ ys)) ≡ grouped g (blanks ys)
unfolding action past_blanks is_blank pick past_word is_word same begins every leading behind is_letter between
group-begins g ys = refl

brace-there : (g w v : ℕ) (rest : List ℕ) → v ≤ 3 → erring g w (blanks (bytes_of " " ++ (error_word v ++ (bytes_of " {\n" ++ rest)))) ≡ got (group g w v) (newline ∷ rest)
unfolding erring error_at opened error_word past_blanks is_blank pick past_word is_word same begins every leading behind is_letter between
brace-there g w zero rest p = refl
brace-there g w (suc zero) rest p = refl
brace-there g w (suc (suc zero)) rest p = refl
brace-there g w (suc (suc (suc zero))) rest p = refl
brace-there g w (suc (suc (suc (suc v)))) rest p = absurd (omega arith)

words-begin : (g w : ℕ) (ys : List ℕ) → w ≤ 1 → grouped g (blanks (synchrony_word w ++ (space ∷ ys))) ≡ erring g w (blanks (space ∷ ys))
unfolding grouped synchrony_at synchrony_word past_blanks is_blank pick past_word is_word same begins every leading behind is_letter between
words-begin g zero ys p = refl
words-begin g (suc zero) ys p = refl
words-begin g (suc (suc w)) ys p = absurd (omega arith)

group-there : (g w v : ℕ) (rest : List ℕ) → w ≤ 1 → v ≤ 3
    → action g (blanks (bytes_of " group " ++ (synchrony_word w ++ (bytes_of " " ++ (error_word v ++ (bytes_of " {\n" ++ rest)))))) ≡ got (group g w v) (newline ∷ rest)
group-there g w v rest p q =
    group-begins g (synchrony_word w ++ (space ∷ (error_word v ++ (bytes_of " {\n" ++ rest))))
    ∙ words-begin g w (error_word v ++ (bytes_of " {\n" ++ rest)) p
    ∙ brace-there g w v rest q

-- An item, by what its delay is followed by.
item-read : (depth at g : ℕ) (ys : List ℕ) (r : Read Line) → g < field → action g (blanks (space ∷ ys)) ≡ r
    → line (Playing depth) (blanks (indent at ++ (beats_text g ++ (space ∷ ys)))) ≡ r
unfolding item onward
item-read depth at g ys r p e =
    let there = beats-led g (space ∷ ys) in
    rw (indent-passed at (beats_text g ++ (space ∷ ys)), led-solid there, led-item depth there, beats-read g p ys) e

close-read : (depth at : ℕ) (rest : List ℕ) → line (Playing (suc depth)) (blanks (indent at ++ (bytes_of "}\n" ++ rest))) ≡ got close (newline ∷ rest)
unfolding line closed past_blanks is_blank pick
close-read depth at rest = ap (λ (bs : List ℕ). line (Playing (suc depth)) bs) (indent-passed at (bytes_of "}\n" ++ rest))

-- ---- a line where it may stand

-- This line may stand here, behind the lines that a spot tells of, and its fields fit.
pub data May (ls : List (List ℕ)) : Stage → Spot → Line → Type 0 where
  may_head : {s : Spot} → May ls Start s heading
  may_list : {n : ℕ} {s : Spot} {l : List ℕ} → s.messages ≡ n → n < any_number → All is_plain l → May ls (Listing n) s (message l)
  may_time : {stage : Stage} {s : Spot} {g : ℕ} → Outside stage → g < field → May ls stage s (event g)
  may_part : {stage : Stage} {s : Spot} {p : ℕ} → Within stage → p < part_field → May ls stage s (part p)
  may_send : {depth : ℕ} {s : Spot} {g n : ℕ} → g < field → n < message_field → All is_plain (get_or ls n []) → May ls (Playing depth) s (send g n)
  may_group : {depth : ℕ} {s : Spot} {g w v : ℕ} → g < field → w ≤ 1 → v ≤ 3 → May ls (Playing depth) s (group g w v)
  may_close : {depth : ℕ} {s : Spot} → May ls (Playing (suc depth)) s close

-- The bytes left behind it.
unfoldable pub line_left : (labels : List (List ℕ)) → Spot → Line → List ℕ → List ℕ
line_left ls s heading rest = newline ∷ rest
line_left ls s (message l) rest = newline ∷ rest
line_left ls s (event g) rest = remark (decimal (suc s.events)) ++ rest
line_left ls s (part p) rest = newline ∷ rest
line_left ls s (send g n) rest = remark (get_or ls n []) ++ rest
line_left ls s (group g w v) rest = newline ∷ rest
line_left ls s close rest = newline ∷ rest

module _ (ls : List (List ℕ)) where
  pub line_read : {stage : Stage} {s : Spot} {l : Line} (rest : List ℕ) → May ls stage s l → line stage (blanks (line_text ls s l ++ rest)) ≡ got l (line_left ls s l rest)
  unfolding line_text line_left remark
  line_read rest may_head = heading-read rest
  line_read rest (may_list {n = n} {s = s} {l = l} e p a) =
      rw (
        append_assoc (decimal s.messages) (bytes_of " " ++ (quoted l ++ bytes_of "\n")) rest,
        append_assoc (quoted l) (bytes_of "\n") rest,
        e,
      )
      (message-read n rest p a)
  line_read rest (may_time {s = s} {g = g} o p) =
      rw (append_assoc (beats_text g) (remark (decimal (suc s.events))) rest) (event_read g _ o p)
  line_read rest (may_part {p = n} w p) = rw (append_assoc (decimal n) (bytes_of "\n") rest) (part-read n rest w p)
  line_read rest (may_send {depth = depth} {s = s} {g = g} {n = n} p q a) =
      rw (
        append_assoc (indent s.depth) (beats_text g ++ (bytes_of " send " ++ (decimal n ++ remark (get_or ls n [])))) rest,
        append_assoc (beats_text g) (bytes_of " send " ++ (decimal n ++ remark (get_or ls n []))) rest,
        append_assoc (decimal n) (remark (get_or ls n [])) rest,
      )
      (item-read depth s.depth g _ _ p (send-there g n _ q))
  line_read rest (may_group {depth = depth} {s = s} {g = g} {w = w} {v = v} p q r) =
      rw (
        append_assoc (indent s.depth) (beats_text g ++ (bytes_of " group " ++ (synchrony_word w ++ (bytes_of " " ++ (error_word v ++ bytes_of " {\n"))))) rest,
        append_assoc (beats_text g) (bytes_of " group " ++ (synchrony_word w ++ (bytes_of " " ++ (error_word v ++ bytes_of " {\n")))) rest,
        append_assoc (synchrony_word w) (bytes_of " " ++ (error_word v ++ bytes_of " {\n")) rest,
        append_assoc (error_word v) (bytes_of " {\n") rest,
      )
      (item-read depth s.depth g _ _ p (group-there g w v rest q r))
  line_read rest (may_close {depth = depth} {s = s}) =
      rw (append_assoc (indent (s.depth - 1)) (bytes_of "}\n") rest) (close-read depth (s.depth - 1) rest)

-- ---- behind it

digit-plain : (b : ℕ) → is_digit b ≡ true → is_plain b ≡ true
unfolding is_digit
digit-plain b e = rw (ne_eqb b newline (λ q. omega (arith, between-low zero_digit nine_digit b e)))

pub digits-plain : {bs : List ℕ} → All is_digit bs → All is_plain bs
digits-plain none = none
digits-plain (one {b = b} e a) = one (digit-plain b e) (digits-plain a)

-- "` # ` and its label's own bytes"
remark-passed : {l : List ℕ} (rest : List ℕ) → All is_plain l → blanks (remark l ++ rest) ≡ blanks rest
unfolding remark past_blanks is_blank pick
remark-passed {l} rest a = rw (append_assoc l (newline ∷ []) rest) (comment-passed rest a)

module _ (ls : List (List ℕ)) where
  pub left_passed : {stage : Stage} {s : Spot} {l : Line} (rest : List ℕ) → May ls stage s l → blanks (line_left ls s l rest) ≡ blanks rest
  unfolding line_left
  left_passed rest may_head = blanks-newline rest
  left_passed rest (may_list e p a) = blanks-newline rest
  left_passed rest (may_time {s = s} o p) = remark-passed rest (digits-plain (decimal-all (suc s.events)))
  left_passed rest (may_part w p) = blanks-newline rest
  left_passed rest (may_send p q a) = remark-passed rest a
  left_passed rest (may_group p q r) = blanks-newline rest
  left_passed rest may_close = blanks-newline rest

-- ---- and a byte of it stands there

line-none : (stage : Stage) → line stage [] ≡ stop []
unfolding line entry item closed beats number is_number onward pick is_word same begins every leading between
line-none Start = refl
line-none (Listing n) = refl
line-none Timed = refl
line-none (Playing zero) = refl
line-none (Playing (suc depth)) = refl

pub line-not-over : (stage : Stage) (bs left : List ℕ) (l : Line) → line stage bs ≡ got l left → is_over stage bs ≡ false
unfolding is_over
line-not-over stage [] left l e = let n = line-none stage in let z : ◌≡◌ {A = ℕ} 0 1 = cc in absurd (omega arith)
line-not-over stage (b ∷ bs) left l e = refl

pub line-some : (ls : List (List ℕ)) (s : Spot) (l : Line) → 1 ≤ length (line_text ls s l)
unfolding line_text
line-some ls s heading = omega arith
line-some ls s (message l) = omega arith
line-some ls s (event g) = omega arith
line-some ls s (part p) = omega arith
line-some ls s (send g n) = simp length-append (omega arith)
line-some ls s (group g w v) = simp length-append (omega arith)
line-some ls s close = simp length-append (omega arith)
