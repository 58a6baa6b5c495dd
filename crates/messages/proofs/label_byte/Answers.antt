-- Each arm is its own case; the single number is asked first.
-- Assumes nothing.
use native.Mathlib.Omega.{arith}
use Rattle.messages.proofs.LabelLaws.{label-to-31, label-to-126, label-127, label-to-255}
use Rattle.messages.proofs.label_byte.Goals as goal

pub returns-in-127 : goal.returns-in-127
returns-in-127 c = label-127 _ c.in-127.is

pub returns-in-0-to-31 : goal.returns-in-0-to-31
returns-in-0-to-31 c = label-to-31 _ (omega arith)

pub returns-in-32-to-126 : goal.returns-in-32-to-126
returns-in-32-to-126 c = label-to-126 _ (omega arith) (omega arith)

pub returns-in-128-to-255 : goal.returns-in-128-to-255
returns-in-128-to-255 c = label-to-255 _ (omega arith) (omega arith)
