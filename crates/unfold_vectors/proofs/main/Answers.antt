-- The rooms' lengths are those of their arrays.
-- Assumes nothing.
use mathlib.Core.Path.{sym}
use Prim.Native.Nat.{ℕ}
use lib.ListN.{length-replicate}
use borrow.Author.Rules.{rules}
use Rattle.unfold_vectors.proofs.main.Goals as goal

pub slice_bounds-run_cases-end : goal.slice_bounds-run_cases-end
slice_bounds-run_cases-end c = sym (length-replicate {0} {A = ℕ} 1500000 0)

pub slice_bounds-run_cases-end-2 : goal.slice_bounds-run_cases-end-2
slice_bounds-run_cases-end-2 c = sym (length-replicate {0} {A = ℕ} 262144 0)

pub run_cases-requires : goal.run_cases-requires
run_cases-requires c = search rules

pub returns : goal.returns
returns c = search rules
