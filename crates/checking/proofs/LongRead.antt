-- A file that is longer than any score, of which only the first bytes are read, gets the same line.
-- Its check finds the same fault, and the entry is told by the contents, which are the same. Assumes nothing.
use mathlib.Core.Path.{◌≡◌, refl, ap}
use mathlib.Core.Bool.{Bool, true, false}
use mathlib.Core.List.{List}
use Prim.Native.Nat.{ℕ, ◌<◌, ◌≤◌}
use native.Mathlib.Omega.{arith}
use lib.ListN.{length, take}
use lib.Seq.{take_all, length-take-le}
use lib.Dec.{leb}
use borrow.Author.Tests.{le-leb, leb-true, leb-false}
use Rattle.base.specs.Checks.{Check, fine, refused}
use Rattle.contents.specs.declared.Fault.{Fault}
use Rattle.contents.specs.Limits.{contents_size, longest_score}
use Rattle.score.specs.File.{checked}
use Rattle.score.proofs.LongFile.{file_room, long-refused, counts-cut, checked-cut}
use Rattle.session.specs.declared.Refusal.{Refusal}
use Rattle.refusals.specs.Entries.{entry_of}
use Rattle.refusals.specs.Line.{where_words, refusal_line}
use Rattle.checking.specs.Checked.{line_by, checked_line}

module _ (name f : List ℕ) (n : ℕ) (long : longest_score < n) (cut : n ≤ length f) where
  entry-cut : (x : Refusal) → entry_of (take n f) x ≡ entry_of f x
  unfolding entry_of
  entry-cut x =
      let a : leb contents_size n ≡ true = le-leb contents_size n (omega arith) in
      let b : leb contents_size (length f) ≡ true = le-leb contents_size (length f) (omega arith) in
      rw (length-take-le n f cut, a, b, counts-cut f n long cut)

  refusal-cut : (x : Refusal) → refusal_line name (take n f) x ≡ refusal_line name f x
  unfolding refusal_line where_words
  refusal-cut x = rw (entry-cut x)

  line-cut-by : (v : Check Fault) → checked f ≡ v → line_by v name (take n f) ≡ line_by v name f
  unfolding line_by
  line-cut-by fine e = absurd (long-refused f (omega arith) e)
  line-cut-by (refused x) e = refusal-cut _

  pub checked-cut-line : checked_line name (take n f) ≡ checked_line name f
  unfolding checked_line
  checked-cut-line = rw (checked-cut f n long cut) (line-cut-by (checked f) refl)

-- Of any file: a shorter one is read whole.
pub checked-read : (name f : List ℕ) → checked_line name (take file_room f) ≡ checked_line name f
checked-read name f = go (leb file_room (length f)) refl where
  go : (t : Bool) → leb file_room (length f) ≡ t → checked_line name (take file_room f) ≡ checked_line name f
  go true e = checked-cut-line name f file_room (omega arith) (leb-true file_room (length f) e)
  go false e =
      let p : length f < file_room = leb-false file_room (length f) e in
      ap (λ (l : List ℕ). checked_line name l) (take_all file_room f (omega arith))
