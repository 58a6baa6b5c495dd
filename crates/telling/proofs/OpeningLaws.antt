-- What a line prints tells of a refusal exactly where the line is an opening that is refused: no other line begins as an opening's does, and 0 is no refusal's number.
-- Assumes nothing.
use mathlib.Core.Path.{◌≡◌, refl}
use mathlib.Core.Bool.{true, false, not}
use mathlib.Core.List.{List, [], ◌∷◌, ◌++◌}
use Prim.Native.Nat.{ℕ, ◌≤◌}
use native.Mathlib.Omega.{arith}
use lib.Dec.{eqb}
use borrow.Author.Tests.{ne_eqb}
use Rattle.std.specs.Prelude.{Option, Some, None, Result, Ok, Err}
use Rattle.base.specs.Tests.{pick}
use Rattle.base.proofs.TestLaws.{every-head, between-high}
use Rattle.ascii.specs.Words.{begins, space, zero_digit, nine_digit}
use Rattle.ascii.specs.Numbers.{is_digit, all_digits}
use Rattle.ascii.specs.Decimals.{digits_of, decimal}
use Rattle.ascii.proofs.DecimalLaws.{decimal-digits}
use Rattle.contents.specs.declared.Fault.{Fault}
use Rattle.contents.specs.declared.Fault.TheVariants.{FileShort, BadCount, BadOffset, BadLength, BadEvent, BadItem, BadMessage, TextLeft, NoMessage}
use Rattle.contents.specs.declared.ItemRule.{ItemRule}
use Rattle.contents.specs.declared.ItemRule.TheVariants as rule
use Rattle.contents.specs.Replies.{rule_row, fault_row}
use Rattle.session.specs.declared.Refusal.{Refusal}
use Rattle.session.specs.declared.Refusal.TheVariants.{MemoryShort, RoomShort, File, BadTempo, BadGrace, NoSession, NoEvent, NotAfter, BadMillis, ClockFull}
use Rattle.session.specs.Replies.{refusal_row}
use Rattle.sending.specs.Room.{Message}
use Rattle.opening.specs.Replies.{opening_reply}
use Rattle.lines.specs.declared.Command.{Command}
use Rattle.lines.specs.declared.Command.TheVariants.{Open, Hear, Pass}
use Rattle.lines.specs.Output.{word_line, words_line, open_line, figure, message_line}
use Rattle.playing.specs.Printed.{Stand, sent_line, sent_lines, sending_lines, carried_opening, carried_sending, carried_by, carried}
use Rattle.playing.proofs.OpenSteps.{refusal-numbered}
use Rattle.telling.specs.Openings.{tells_refusal, tells_grace, refused_by, opening_refused}

-- ---- an opening's line

rule_told : (r : ItemRule) (c : ℕ) → tells_refusal (open_line (rule_row r).number c) ≡ true
unfolding tells_refusal begins pick words_line decimal digits_of rule_row
rule_told rule.Kind c = refl
rule_told rule.Synchrony c = refl
rule_told rule.ErrorWord c = refl
rule_told rule.Part c = refl
rule_told rule.Delay c = refl
rule_told rule.Event c = refl
rule_told rule.Nesting c = refl
rule_told rule.Message c = refl
rule_told rule.Actions c = refl

fault-told : (x : Fault) (c : ℕ) → tells_refusal (open_line (fault_row x).number c) ≡ true
unfolding tells_refusal begins pick words_line decimal digits_of fault_row
fault-told FileShort c = refl
fault-told (BadCount at) c = refl
fault-told (BadOffset at) c = refl
fault-told BadLength c = refl
fault-told (BadEvent at) c = refl
fault-told (BadItem r at) c = rule_told r c
fault-told (BadMessage at) c = refl
fault-told TextLeft c = refl
fault-told NoMessage c = refl

number-told : (x : Refusal) (c : ℕ) → tells_refusal (open_line (refusal_row x).number c) ≡ true
unfolding tells_refusal begins pick words_line decimal digits_of refusal_row
number-told MemoryShort c = refl
number-told RoomShort c = refl
number-told (File x) c = fault-told x c
number-told BadTempo c = refl
number-told BadGrace c = refl
number-told NoSession c = refl
number-told NoEvent c = refl
number-told NotAfter c = refl
number-told BadMillis c = refl
number-told ClockFull c = refl

opening-told : (y : Result ℕ Refusal) → tells_refusal (open_line (opening_reply y).number (opening_reply y).parts) ≡ not (eqb (opening_reply y).number 0)
unfolding tells_refusal begins pick word_line words_line decimal digits_of opening_reply
opening-told (Ok n) = refl
opening-told (Err x) = rw (number-told x 0, refusal-numbered x)

-- It tells of the grace exactly where the number is the grace's.
rule-graceless : (r : ItemRule) (c : ℕ) → tells_grace (open_line (rule_row r).number c) ≡ eqb (rule_row r).number 19
unfolding tells_grace begins pick word_line words_line decimal digits_of rule_row
rule-graceless rule.Kind c = refl
rule-graceless rule.Synchrony c = refl
rule-graceless rule.ErrorWord c = refl
rule-graceless rule.Part c = refl
rule-graceless rule.Delay c = refl
rule-graceless rule.Event c = refl
rule-graceless rule.Nesting c = refl
rule-graceless rule.Message c = refl
rule-graceless rule.Actions c = refl

fault-graceless : (x : Fault) (c : ℕ) → tells_grace (open_line (fault_row x).number c) ≡ eqb (fault_row x).number 19
unfolding tells_grace begins pick word_line words_line decimal digits_of fault_row
fault-graceless FileShort c = refl
fault-graceless (BadCount at) c = refl
fault-graceless (BadOffset at) c = refl
fault-graceless BadLength c = refl
fault-graceless (BadEvent at) c = refl
fault-graceless (BadItem r at) c = rule-graceless r c
fault-graceless (BadMessage at) c = refl
fault-graceless TextLeft c = refl
fault-graceless NoMessage c = refl

pub grace-told : (x : Refusal) (c : ℕ) → tells_grace (open_line (refusal_row x).number c) ≡ eqb (refusal_row x).number 19
unfolding tells_grace begins pick word_line words_line decimal digits_of refusal_row
grace-told MemoryShort c = refl
grace-told RoomShort c = refl
grace-told (File x) c = fault-graceless x c
grace-told BadTempo c = refl
grace-told BadGrace c = refl
grace-told NoSession c = refl
grace-told NoEvent c = refl
grace-told NotAfter c = refl
grace-told BadMillis c = refl
grace-told ClockFull c = refl

-- ---- other lines

-- a line that begins with a number, or with the space behind it, is no opening's
number-silent : (ds a b : List ℕ) → all_digits ds ≡ true → tells_refusal (((ds ++ (space ∷ [])) ++ a) ++ b) ≡ false
unfolding tells_refusal begins pick all_digits is_digit
number-silent [] a b p = refl
number-silent (d ∷ ds) a b p =
    let l : d ≤ nine_digit = between-high zero_digit nine_digit d (every-head _ _ p) in
    let e : eqb 111 d ≡ false = ne_eqb 111 d (λ q. omega arith) in
    rw e

sent-silent : (f : List ℕ) (k : ℕ) (l : List Message) → tells_refusal (sent_lines f k l) ≡ false
unfolding sent_lines sent_line message_line figure tells_refusal begins pick
sent-silent f k [] = refl
sent-silent f k (x ∷ l) = number-silent (decimal k) _ _ (decimal-digits k)

sending-silent : (f m room : List ℕ) (y : Result ℕ Refusal) → tells_refusal (sending_lines f m room y) ≡ false
unfolding sending_lines tells_refusal begins pick word_line
sending-silent f m room (Ok c) = sent-silent f _ _
sending-silent f m room (Err x) = refl

-- ---- every line

command-told : (f : List ℕ) (g n : ℕ) (s : Stand) (c : Option Command) → tells_refusal (carried_by f g n s c).output ≡ refused_by f g n s c
unfolding carried_by carried_opening carried_sending refused_by tells_refusal begins pick word_line
command-told f g n s (Some (Open parts tempo)) = opening-told _
command-told f g n s (Some (Hear event tempo)) = sending-silent f _ _ _
command-told f g n s (Some (Pass ms)) = sending-silent f _ _ _
command-told f g n s None = refl

pub refusal-told : (f : List ℕ) (g n : ℕ) (s : Stand) (l : List ℕ) → tells_refusal (carried f g n s l).output ≡ opening_refused f g n s l
unfolding carried opening_refused
refusal-told f g n s l = command-told f g n s _
