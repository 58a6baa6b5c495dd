-- What stands at a path, by the system's answer and the mode that it tells, and which way a file is saved there.
use Rattle.std.specs.Prelude.{ℕ, Bool, false, cond, eqb, ℤ, pos, negsuc, Some, None, Result, Ok, Err}
use Rattle.std.specs.Int.Bits.{bit_and}
use Rattle.links.specs.Faults.{reason_of}
use Rattle.links.specs.Paths.{name_long}
use Rattle.links.specs.declared.looking.Kind.{Kind}
use Rattle.links.specs.declared.looking.Kind.TheVariants as kind
use Rattle.links.specs.declared.looking.Way.{Way}
use Rattle.links.specs.declared.looking.Way.TheVariants as way

-- The bits of a mode that tell what kind of file it is, and the three kinds that matter here.
abbrev pub kind_bits : ℕ
kind_bits = 61440

abbrev pub regular_bits : ℕ
regular_bits = 32768

abbrev pub folder_bits : ℕ
folder_bits = 16384

abbrev pub link_bits : ℕ
link_bits = 40960

-- The bits that tell who may read, write and run a file; not those that let it run as its owner.
abbrev pub permission_bits : ℕ
permission_bits = 511

unfoldable pub kind_of : (mode : ℕ) → Kind
kind_of mode =
    cond (eqb (bit_and mode kind_bits) regular_bits) (kind.Regular (bit_and mode permission_bits))
    (cond (eqb (bit_and mode kind_bits) folder_bits) kind.Folder (cond (eqb (bit_and mode kind_bits) link_bits) kind.Link kind.Other))

-- The error numbers of a path at which nothing stands, and of a folder where a file was asked for.
abbrev pub no_entry : ℕ
no_entry = 2

abbrev pub is_folder : ℕ
is_folder = 21

unfoldable pub unseen_by : (error : ℤ) → Kind
unseen_by (pos n) = cond (eqb n no_entry) kind.Missing (kind.Unseen (reason_of (pos n)))
unseen_by (negsuc n) = kind.Unseen (reason_of (negsuc n))

-- The system tells a mode, or fails, and one of the failures says that nothing stands there.
abbrev pub found_of : Result ℕ ℤ → Kind
found_of (Ok mode) = kind_of mode
found_of (Err error) = unseen_by error

-- Only a regular file is renamed over, by one with its permissions. A folder is never written, and all else that is there, a link that is not followed too, is written in place.
abbrev pub way_of : Kind → Way
way_of kind.Missing = way.Beside None
way_of (kind.Regular bits) = way.Beside (Some bits)
way_of kind.Folder = way.Barred (pos is_folder)
way_of kind.Link = way.InPlace
way_of kind.Other = way.InPlace
way_of (kind.Unseen error) = way.Barred error

-- Whether it is a regular file with these permissions.
abbrev pub has_bits : Kind → (bits : ℕ) → Bool
has_bits kind.Missing bits = false
has_bits (kind.Regular own) bits = eqb own bits
has_bits kind.Folder bits = false
has_bits kind.Link bits = false
has_bits kind.Other bits = false
has_bits (kind.Unseen error) bits = false

-- What is told of a path that is longer than any.
abbrev pub unseen_long : Kind
unseen_long = kind.Unseen (pos name_long)
