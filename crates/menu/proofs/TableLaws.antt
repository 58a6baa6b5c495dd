-- Every command of the table is listed and found by its own name, and by no other; each usage leaves a space before its help; behind the files there is one number
-- at most.
-- Assumes nothing.
use mathlib.Core.Path.{◌≡◌, refl}
use mathlib.Core.Bool.{Bool, true, false}
use mathlib.Core.List.{List, [], ◌∷◌}
use Prim.Native.Nat.{ℕ, ◌+◌, ◌<◌, ◌≤◌}
use native.Mathlib.Omega.{arith}
use lib.ListN.{length}
use Rattle.base.specs.Tests.{pick, every}
use Rattle.ascii.specs.Words.{begins, same}
use Rattle.ascii.proofs.WordLaws.{same_bytes}
use Rattle.menu.specs.declared.Command.{Command}
use Rattle.menu.specs.declared.Command.TheVariants.{Check, Play, Read, Write, Unfold, Replies, Help}
use Rattle.std.specs.Prelude.{Some}
use Rattle.menu.specs.Table.{row_of, commands, count, usage_width, named_in, command_named}

-- ---- listed, each under its own name

pub name-found : (c : Command) → command_named (row_of c).name ≡ Some c
unfolding command_named named_in commands row_of same begins pick every
name-found Check = refl
name-found Play = refl
name-found Read = refl
name-found Write = refl
name-found Unfold = refl
name-found Replies = refl
name-found Help = refl

pub commands-counted : length commands ≡ count
unfolding commands
commands-counted = refl

pub usage-apart : (c : Command) → length (row_of c).usage < usage_width
unfolding row_of
usage-apart Check = omega arith
usage-apart Play = omega arith
usage-apart Read = omega arith
usage-apart Write = omega arith
usage-apart Unfold = omega arith
usage-apart Replies = omega arith
usage-apart Help = omega arith

-- the files that are read are files, the files are arguments, and one argument at most is no file
pub arguments-fit : (c : Command) → ((row_of c).reads ≤ (row_of c).files) × ((row_of c).files ≤ (row_of c).most) × ((row_of c).most ≤ (row_of c).files + 1)
unfolding row_of
arguments-fit Check = (omega arith, omega arith, omega arith)
arguments-fit Play = (omega arith, omega arith, omega arith)
arguments-fit Read = (omega arith, omega arith, omega arith)
arguments-fit Write = (omega arith, omega arith, omega arith)
arguments-fit Unfold = (omega arith, omega arith, omega arith)
arguments-fit Replies = (omega arith, omega arith, omega arith)
arguments-fit Help = (omega arith, omega arith, omega arith)

-- ---- what is found is the command of that name

found_in : (cs : List Command) (bytes : List ℕ) (c : Command) → named_in cs bytes ≡ Some c → (row_of c).name ≡ bytes
unfolding named_in pick
found_in [] bytes c e = let z : ◌≡◌ {A = ℕ} 0 1 = cc in absurd (omega arith)
found_in (d ∷ cs) bytes c e = go (same (row_of d).name bytes) (found_in cs bytes c) refl e where
  go : (t : Bool) → (named_in cs bytes ≡ Some c → (row_of c).name ≡ bytes) → same (row_of d).name bytes ≡ t → pick t (Some d) (named_in cs bytes) ≡ Some c → (row_of c).name ≡ bytes
  go true r p q =
      let k : d ≡ c = cc in
      rw k at (same_bytes (row_of d).name bytes p)
  go false r p q = r q

pub found_name : (bytes : List ℕ) (c : Command) → command_named bytes ≡ Some c → (row_of c).name ≡ bytes
unfolding command_named
found_name bytes c e = found_in commands bytes c e
