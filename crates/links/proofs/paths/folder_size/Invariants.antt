-- The invariant: the last slash of the bytes that are left is the last slash of all.
-- Assumes nothing.
use mathlib.Core.Path.{◌≡◌}
use Rattle.links.specs.Paths.{up_to_slash, folder_size}
use Rattle.links.proofs.paths.folder_size.Given as goal

abbrev pub invariant-loop-n : goal.invariant-loop-n
invariant-loop-n l = up_to_slash l.n l.path ≡ folder_size l.path
