-- Each case is its own row, by definition.
-- Assumes nothing.
use native.Mathlib.Omega.{arith}
use Rattle.std.proofs.Common.{refl}
use Rattle.menu.specs.Table.{row_of}
use Rattle.menu.proofs.TableSteps.{row-case}
use Rattle.menu.proofs.table.entry_of.Goals as goal

pub returns-in-Check : goal.returns-in-Check
unfolding row_of
returns-in-Check c =
    row-case c.in-Check.is
    (record { name = refl; usage = refl; help = refl; least = refl; most = refl; files = refl; reads = refl; brief = omega arith; narrow = omega arith; short = omega arith })

pub returns-in-Play : goal.returns-in-Play
unfolding row_of
returns-in-Play c =
    row-case c.in-Play.is
    (record { name = refl; usage = refl; help = refl; least = refl; most = refl; files = refl; reads = refl; brief = omega arith; narrow = omega arith; short = omega arith })

pub returns-in-Read : goal.returns-in-Read
unfolding row_of
returns-in-Read c =
    row-case c.in-Read.is
    (record { name = refl; usage = refl; help = refl; least = refl; most = refl; files = refl; reads = refl; brief = omega arith; narrow = omega arith; short = omega arith })

pub returns-in-Write : goal.returns-in-Write
unfolding row_of
returns-in-Write c =
    row-case c.in-Write.is
    (record { name = refl; usage = refl; help = refl; least = refl; most = refl; files = refl; reads = refl; brief = omega arith; narrow = omega arith; short = omega arith })

pub returns-in-Unfold : goal.returns-in-Unfold
unfolding row_of
returns-in-Unfold c =
    row-case c.in-Unfold.is
    (record { name = refl; usage = refl; help = refl; least = refl; most = refl; files = refl; reads = refl; brief = omega arith; narrow = omega arith; short = omega arith })

pub returns-in-Replies : goal.returns-in-Replies
unfolding row_of
returns-in-Replies c =
    row-case c.in-Replies.is
    (record { name = refl; usage = refl; help = refl; least = refl; most = refl; files = refl; reads = refl; brief = omega arith; narrow = omega arith; short = omega arith })

pub returns-in-Help : goal.returns-in-Help
unfolding row_of
returns-in-Help c =
    row-case c.in-Help.is
    (record { name = refl; usage = refl; help = refl; least = refl; most = refl; files = refl; reads = refl; brief = omega arith; narrow = omega arith; short = omega arith })
