use Prim.Native.Nat.{◌≤◌, ◌<◌}
use native.Mathlib.Omega.{arith}
use lib.ListN.{length-set}
use Rattle.sequencer.proofs.NoteLaws.{took-step, took-done}
use Rattle.sequencer.proofs.heard.take_note.Goals as goal

pub loop-k-preserved : goal.loop-k-preserved
loop-k-preserved c =
    let here : c.loop-k.k ≤ c.args.event = omega arith in
    (simp length-set (omega arith), search took-step)

pub returns : goal.returns
returns c =
    let past : c.args.event < c.loop-k.k = omega arith in
    search took-done
