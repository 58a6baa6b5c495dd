use mathlib.Core.Path.{◌≡◌}
use borrow.Author.Rules.{rules}
use Rattle.std.specs.Prelude.{None}
use Rattle.naming.proofs.EachSteps.{naming}
use Rattle.naming.proofs.all.name_each.Goals as goal

pub loop-i-init : goal.loop-i-init
loop-i-init c = search naming

pub offset_bounds-values-i : goal.offset_bounds-values-i
offset_bounds-values-i c = search naming

pub bounds-values-i : goal.bounds-values-i
bounds-values-i c = search naming

pub place_value-requires : goal.place_value-requires
place_value-requires c = search naming

pub returns-in_err-place : goal.returns-in_err-place
returns-in_err-place c =
    let e : c.from_residual.result ≡ None = search rules in
    search (naming, e, c.in_err-place.was)

pub offset_bounds-numbers-i : goal.offset_bounds-numbers-i
offset_bounds-numbers-i c = search naming

pub bounds-numbers-i : goal.bounds-numbers-i
bounds-numbers-i c = search naming

pub loop-i-preserved : goal.loop-i-preserved
loop-i-preserved c = search (naming, c.in_ok-place.was)

pub shape_of-entries : goal.shape_of-entries
shape_of-entries c = search naming

pub shape_of-labels : goal.shape_of-labels
shape_of-labels c = search naming

pub shape_of-keys : goal.shape_of-keys
shape_of-keys c = search naming

pub shape_of-numbers : goal.shape_of-numbers
shape_of-numbers c = search naming

pub returns : goal.returns
returns c = search naming
