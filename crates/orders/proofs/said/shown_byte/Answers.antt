-- Two tests decide.
-- Assumes nothing.
use native.Mathlib.Omega.{arith}
use Rattle.orders.proofs.SaidSteps.{shown-none, shown-itself}
use Rattle.orders.proofs.said.shown_byte.Goals as goal

pub returns-then-b-lt-FIRST_SHOWN : goal.returns-then-b-lt-FIRST_SHOWN
returns-then-b-lt-FIRST_SHOWN c = shown-none _ c.then-b-lt-FIRST_SHOWN.either

pub returns : goal.returns
returns c = shown-itself _ (omega arith) (λ e. omega arith)
