-- What a step from one unit to another gives.
use Rattle.std.specs.Prelude.{ℕ, ◌*◌}
use Rattle.units.specs.declared.Grains.{Grains}
use Rattle.units.specs.declared.Thousandths.{Thousandths}
use Rattle.units.specs.declared.Millis.{Millis}

-- "While the tempo is T, m milliseconds move the clock by m times T, exactly."
abbrev pub moved_by : Millis → ℕ → Thousandths
moved_by m tempo = record { 0 = m.0 * tempo }

-- "The beat clock counts thousandths of a grain."
abbrev pub on_clock : Grains → Thousandths
on_clock g = record { 0 = 1000 * g.0 }
