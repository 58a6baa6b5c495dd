-- The lines of the rows, laid one behind the other, are the table's.
-- Assumes nothing.
use mathlib.Core.List.{List, [], ◌∷◌, ◌++◌, append_assoc, append-nil}
use Prim.Native.Nat.{ℕ, ◌+◌, ◌*◌, ◌<◌, ◌≤◌}
use native.Mathlib.Numerals.{add-one}
use native.Mathlib.Omega.{arith}
use lib.ListN.{length, take, get_or}
use lib.Seq.{take-suc, take_all}
use borrow.Author.Rules.{rules}
use Rattle.base.specs.Tests.{pick}
use Rattle.ascii.specs.Words.{space, newline}
use Rattle.ascii.specs.Decimals.{digits_of, decimal}
use Rattle.ascii.specs.Laying.{Laid}
use Rattle.ascii.specs.Text.{bytes_of}
use Rattle.ascii.proofs.LayLaws.{laid-join, laid-nothing}
use mathlib.Core.Path.{◌≡◌}
use Rattle.wording.specs.declared.Row.{Row}
use Rattle.wording.specs.Words.{row_number, row_words, reply_rows, row_count, first_row, done_number, done_words, reply_line, row_room, row_lines, reply_lines}

-- ---- one line

pub lay-row : (o m₁ m₂ m₃ n : List ℕ) (at a b c r : ℕ) (x : Row) (number : ℕ) → number ≡ row_number x → Laid o at (decimal number) m₁ a → Laid m₁ a (space ∷ []) m₂ b
    → Laid m₂ b (row_words x) m₃ c → Laid m₃ c (newline ∷ []) n r → Laid o at (reply_line (row_number x) (row_words x)) n r
unfolding reply_line
lay-row o m₁ m₂ m₃ n at a b c r x number h p q s t =
    rw (← h) (laid-join o m₁ n _ _ at a r p (laid-join m₁ m₂ n _ _ a b r q (laid-join m₂ m₃ n _ _ b c r s t)))

pub lay_done : (o n : List ℕ) (at r : ℕ) → Laid o at (bytes_of "0 done\n") n r → Laid o at (reply_line done_number done_words) n r
unfolding reply_line decimal digits_of pick
lay_done o n at r l = l

pub ruleset lining = (lay-row, lay_done, rules)

-- ---- all lines

rows_more : (xs : List Row) (x : Row) → row_lines (xs ++ (x ∷ [])) ≡ row_lines xs ++ reply_line (row_number x) (row_words x)
unfolding row_lines
rows_more [] x = append-nil _
rows_more (y ∷ ys) x = rw (rows_more ys x, append_assoc)

pub rows_none : (o : List ℕ) (at : ℕ) → at + row_count * row_room ≤ length o → Laid o at (row_lines (take 0 reply_rows)) o at
unfolding row_lines
rows_none o at p = laid-nothing o at (omega arith)

module _ (o m : List ℕ) (at a i : ℕ) (laid : Laid o at (row_lines (take i reply_rows)) m a) where
  pub rows_step : (n : List ℕ) (r : ℕ) (x : Row) → i < row_count → x ≡ get_or reply_rows i first_row → Laid m a (reply_line (row_number x) (row_words x)) n r
      → Laid o at (row_lines (take (i + 1) reply_rows)) n r
  unfolding reply_rows
  rows_step n r x p e l =
      let t : take (i + 1) reply_rows ≡ take i reply_rows ++ (get_or reply_rows i first_row ∷ []) = rw add-one (take-suc reply_rows i first_row p) in
      rw (t, ← e, rows_more (take i reply_rows) x) (laid-join o m n _ _ at a r laid l)

  pub rows_whole : row_count ≤ i → Laid o at (row_lines reply_rows) m a
  unfolding reply_rows
  rows_whole p = rw (take_all i reply_rows p) at laid

pub ruleset tabling = (rows_none, rows_step, rows_whole, rules)

pub lay-table : (o m n : List ℕ) (a r : ℕ) → Laid o 0 (reply_line done_number done_words) m a → Laid m a (row_lines reply_rows) n r → Laid o 0 reply_lines n r
unfolding reply_lines
lay-table o m n a r p q = laid-join o m n _ _ 0 a r p q

pub ruleset table = (lay-table, rules)
