-- The four meet their contracts: a body is at least one level deeper than its item, so the levels left fall at each call. The invariants: what is laid of the
-- items left makes the whole, and the passes so far are laid. Assumes nothing.
use Prim.Native.Nat.{◌<◌}
use mathlib.Core.Path.{◌≡◌}
use Prim.Native.Nat.{◌+◌, ◌-◌, ◌*◌, ◌≤◌}
use lib.ListN.{length}
use Rattle.ascii.specs.Laying.{Laid}
use Rattle.contents.specs.Limits.{item_size}
use Rattle.extended.specs.Inner.{word_range}
use Rattle.unfolding.specs.Unfolded.{unfolded, passes, items}
use Rattle.building.specs.Rows.{numbered_in}
use Rattle.building.specs.Inner.{page_bytes, delay_of, Tabled, Buildable}
use Rattle.building.proofs.BuildSteps.{Goes}
use Rattle.building.proofs.pages.+build_item_build_items_build_loop_build_passes.Given as goal

abbrev pub decreases-build_item : goal.decreases-build_item
decreases-build_item l = 4 * (9 - l.d) + 2

abbrev pub decreases-build_items : goal.decreases-build_items
decreases-build_items l = 4 * (9 - l.d) + 3

abbrev pub invariant-build_items-loop-left : goal.invariant-build_items-loop-left
invariant-build_items-loop-left l =
    (l.i + l.left ≡ l.k + l.count) × (l.left ≤ l.count) × (length l.out ≡ length l.initial.out) × Tabled l.s.file.now l.s.start l.s.table.now l.s.numbers.now l.i l.left
    × Buildable (length l.out) l.at l.d (unfolded (numbered_in l.s.file.now l.s.start l.s.table.now l.s.numbers.now l.i l.left)) × Goes l.s.file.now l.s.start l.s.table.now l.s.numbers.now l.k l.count l.initial.out l.to l.out l.i l.left l.at

abbrev pub decreases-build_items-loop-left : goal.decreases-build_items-loop-left
decreases-build_items-loop-left l = l.left

abbrev pub decreases-build_loop : goal.decreases-build_loop
decreases-build_loop l = 4 * (9 - l.d) + 1

abbrev pub decreases-build_passes : goal.decreases-build_passes
decreases-build_passes l = 4 * (9 - l.d)

abbrev pub invariant-build_passes-loop : goal.invariant-build_passes-loop
invariant-build_passes-loop l =
    (l.counter ≤ l.times) × Laid l.initial.out l.to (page_bytes (passes l.item l.period 0 l.counter (unfolded (numbered_in l.s.file.now l.s.start l.s.table.now l.s.numbers.now l.k l.body)))) l.out l.at
    × (l.at + item_size * ((l.times - l.counter) * (1 + items (unfolded (numbered_in l.s.file.now l.s.start l.s.table.now l.s.numbers.now l.k l.body)))) ≤ length l.initial.out) × (l.delay ≡ delay_of 0 l.period l.counter) × (l.delay < word_range)
