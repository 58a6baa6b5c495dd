-- Each early return is the first rule that does not hold, of the two numbers as they were read.
-- Assumes nothing.
use Prim.Native.Nat.{◌+◌}
use Rattle.messages.proofs.MessageSteps.{entries, whole-entries, label-read}
use Rattle.messages.proofs.message_right.Goals as goal

pub returns-then-start-from : goal.returns-then-start-from
returns-then-start-from c = search entries depth 9

pub returns-then-size-lt1 : goal.returns-then-size-lt1
returns-then-size-lt1 c = search entries depth 9

pub returns-then-size-gt-LONGEST_LABEL : goal.returns-then-size-gt-LONGEST_LABEL
returns-then-size-gt-LONGEST_LABEL c = search entries depth 9

pub returns-then-c-from : goal.returns-then-c-from
returns-then-c-from c = search entries depth 9

pub returns : goal.returns
returns c =
    let e = label-read c.args.file.now (c.text_at.result + c.args.from) c.read16-size.result c.label_bytes.result c.label_bytes.ensures in
    search (whole-entries, e) depth 9
