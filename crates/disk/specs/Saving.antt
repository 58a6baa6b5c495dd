-- A file saved whole or not at all: the other name that it is made under, and which step's failure is told.
use Rattle.std.specs.Prelude.{◌≡◌, Bool, false, cond, List, [], ◌∷◌, ◌++◌, ℕ, ◌+◌, ◌≤◌, eqb, ℤ, pos, negsuc, Result, Ok, Err, ⊤}
use Rattle.std.specs.declared.fs.File.{File}
use Rattle.ascii.specs.Text.{bytes_of}
use Rattle.ascii.specs.Words.{zero_digit}
use Rattle.links.specs.Paths.{name_long}
use Rattle.disk.specs.declared.failures.SaveError.{SaveError}
use Rattle.disk.specs.declared.failures.SaveError.TheVariants.{NotMade, NotSafe}

-- ---- the other name

abbrev pub last_digit : ℕ
last_digit = 9

abbrev pub suffix_size : ℕ
suffix_size = 6

-- The path, ".part" and a digit: a file in the same folder.
unfoldable pub part_name : (path : List ℕ) (digit : ℕ) → List ℕ
part_name path digit = path ++ (bytes_of ".part" ++ ((zero_digit + digit) ∷ []))

-- A name that a file is made under, removed and renamed from.
pub record IsPart (path part : List ℕ) : Type 0 where
  pub digit : ℕ
  pub most : digit ≤ last_digit
  pub is : part ≡ part_name path digit

-- The error number of a name that is taken.
abbrev pub taken : ℕ
taken = 17

unfoldable pub is_taken_by : (error : ℤ) → Bool
is_taken_by (pos n) = eqb n taken
is_taken_by (negsuc n) = false

abbrev pub is_taken : Result File ℤ → Bool
is_taken (Ok file) = false
is_taken (Err error) = is_taken_by error

-- ---- which failure is told

-- The error number of what can't be asked at all: a path that is none, a folder of a file system that makes none safe.
abbrev pub invalid : ℕ
invalid = 22

unfoldable pub settled_for : (error : ℤ) → Result ⊤ SaveError
settled_for (pos n) = cond (eqb n invalid) (Ok tt) (Err (NotSafe (pos n)))
settled_for (negsuc n) = Err (NotSafe (negsuc n))

-- A folder that failed to become safe is told, and one that can't be made so is not.
abbrev pub settled_by : Result ⊤ ℤ → Result ⊤ SaveError
settled_by (Ok synced) = Ok synced
settled_by (Err error) = settled_for error

-- Nothing is made at a path that is longer than any, or that has a byte 0, at which the system would take it to end.
abbrev pub not_made_long : Result ⊤ SaveError
not_made_long = Err (NotMade (pos name_long))

abbrev pub not_made_zero : Result ⊤ SaveError
not_made_zero = Err (NotMade (pos invalid))
