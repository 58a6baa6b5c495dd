-- How long a printed line is at most.
-- Assumes nothing.
use mathlib.Core.Bool.{Bool, true, false}
use mathlib.Core.List.{List, [], ◌∷◌, ◌++◌}
use Prim.Native.Nat.{ℕ, zero, suc, ◌+◌, ◌/◌, ◌%◌, ◌≤◌}
use native.Mathlib.Omega.{arith}
use lib.Dec.{ltb}
use lib.ListN.{length, length-append}
use Rattle.base.specs.Tests.{pick}
use Rattle.ascii.specs.Words.{space, newline, zero_digit}
use Rattle.ascii.specs.Decimals.{most_places, digits_of, decimal}
use Rattle.lines.specs.Output.{figure, message_line, line_room}

digits-short : (k n : ℕ) → length (digits_of k n) ≤ k
unfolding digits_of pick
digits-short zero n = omega arith
digits-short (suc k) n = go (ltb n 10) (digits-short k (n / 10)) where
  go : (t : Bool) → length (digits_of k (n / 10)) ≤ k → length (pick t ((zero_digit + n) ∷ []) (digits_of k (n / 10) ++ ((zero_digit + n % 10) ∷ []))) ≤ suc k
  go true i = omega arith
  go false i = omega (arith, length-append (digits_of k (n / 10)) ((zero_digit + n % 10) ∷ []))

figure-short : (n : ℕ) → length (figure n) ≤ most_places + 1
unfolding figure decimal
figure-short n = omega (arith, digits-short most_places n, length-append (digits_of most_places n) (space ∷ []))

-- a message's line: three figures, the label and the newline
pub message-short : (clock due part : ℕ) (label : List ℕ) → length (message_line clock due part label) ≤ line_room + length label
unfolding message_line
message-short clock due part label =
    omega (
      arith,
      figure-short clock,
      figure-short due,
      figure-short part,
      length-append (figure clock) (figure due ++ (figure part ++ (label ++ (newline ∷ [])))),
      length-append (figure due) (figure part ++ (label ++ (newline ∷ []))),
      length-append (figure part) (label ++ (newline ∷ [])),
      length-append label (newline ∷ []),
    )
