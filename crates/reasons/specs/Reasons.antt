-- Why something can't be read or written, in words, and the line that tells it.
use Rattle.std.specs.Prelude.{ℕ, List, [], ◌∷◌, ◌++◌, eqb, ℤ, pos, negsuc}
use Prim.Native.String.{String}
use Rattle.base.specs.Tests.{pick}
use Rattle.ascii.specs.Words.{newline}
use Rattle.ascii.specs.Decimals.{decimal}
use Rattle.ascii.specs.Text.{bytes_of}

-- A row of the table: an error number of the system, and its words.
pub record Reason : Type 0 where
  pub number : ℕ
  pub words : List ℕ

abbrev pub reason : (number : ℕ) (words : String) → Reason
reason number words = record { number = number; words = bytes_of words }

-- The errors that people meet. Linux calls them EPERM, ENOENT, EIO, EBADF, EACCES, EEXIST, ENOTDIR, EISDIR, EFBIG, ENOSPC, EROFS, ENAMETOOLONG and ELOOP.
unfoldable pub reason_table : List Reason
reason_table =
    reason 1 "no permission"
    ∷ reason 2 "no such file"
    ∷ reason 5 "the disk or the device has failed"
    ∷ reason 9 "closed"
    ∷ reason 13 "no permission"
    ∷ reason 17 "ten .part files are in the way"
    ∷ reason 20 "the name leads through a file"
    ∷ reason 21 "a folder"
    ∷ reason 27 "too large"
    ∷ reason 28 "the disk is full"
    ∷ reason 30 "the disk can only be read"
    ∷ reason 36 "the name is too long"
    ∷ reason 40 "links in a circle, or too many"
    ∷ []

-- The words of the row that has the number. One without a row is told as it is.
unfoldable pub words_in : List Reason → ℕ → List ℕ
words_in [] n = bytes_of "error " ++ decimal n
words_in (r ∷ rs) n = pick (eqb n r.number) r.words (words_in rs n)

unfoldable pub reason_words : ℕ → List ℕ
reason_words n = words_in reason_table n

-- An error number as the system leaves it. None is below 0: that would be told as 0.
unfoldable pub error_number : ℤ → ℕ
error_number (pos n) = n
error_number (negsuc n) = 0

-- A name, what can't be done, and why.
unfoldable pub reason_line : (name what : List ℕ) (error : ℤ) → List ℕ
reason_line name what error = name ++ (what ++ (reason_words (error_number error) ++ (newline ∷ [])))

-- `NAME: can't be read: REASON`
unfoldable pub unread_line : (name : List ℕ) (error : ℤ) → List ℕ
unread_line name error = reason_line name (bytes_of ": can't be read: ") error

-- `NAME: can't be written: REASON`
unfoldable pub unwritten_line : (name : List ℕ) (error : ℤ) → List ℕ
unwritten_line name error = reason_line name (bytes_of ": can't be written: ") error

-- Room for a reason, and for either line without its name.
abbrev pub reason_room : ℕ
reason_room = 33

abbrev pub reason_line_room : ℕ
reason_line_room = 54
