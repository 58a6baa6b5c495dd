-- The line of a file that was read, or could not be, and what came of it.
use Rattle.std.specs.Prelude.{ℕ, zero, suc, ◌≡◌, Bool, true, false, List, ℤ, pos, negsuc}
use Rattle.base.specs.Tests.{pick}
use Rattle.base.specs.Checks.{is_fine}
use Rattle.ascii.specs.Laying.{Laid}
use Rattle.score.specs.File.{checked}
use Rattle.reasons.specs.Reasons.{unread_line}
use Rattle.checking.specs.declared.run.Came.{Came}
use Rattle.checking.specs.declared.run.Came.TheVariants.{Accepted, Refused, Unread}
use Rattle.checking.specs.declared.account.Account.{Account}
use Rattle.checking.specs.Checked.{checked_line, check_room}

-- The error number of a read that did not fail.
unfoldable pub was_read : (error : ℤ) → Bool
was_read (pos zero) = true
was_read (pos (suc n)) = false
was_read (negsuc n) = false

unfoldable pub account_line : (name : List ℕ) (error : ℤ) (file : List ℕ) → List ℕ
account_line name error f = pick (was_read error) (checked_line name f) (unread_line name error)

-- What came of a file that was checked, and of any.
abbrev pub checked_came : (accepted : Bool) → Came
checked_came true = Accepted
checked_came false = Refused

unfoldable pub came_of : (error : ℤ) (file : List ℕ) → Came
came_of error f = pick (was_read error) (checked_came (is_fine (checked f))) Unread

-- What a call of `account_line` gives: the line from the front, how long it is, and what came of the file.
pub record AccountTold (out name : List ℕ) (error : ℤ) (file new : List ℕ) (r : Account) : Type 0 where
  pub line : Laid out 0 (account_line name error file) new r.count
  pub came : r.came ≡ came_of error file

-- Room for the line of any file, read or not, without its name.
abbrev pub account_room : ℕ
account_room = check_room
