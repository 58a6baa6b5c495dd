-- The invariant: what the entries left are found to be, from where the one before ended, is what all of them are found to be.
-- Assumes nothing.
use Prim.Native.Nat.{◌+◌, ◌-◌, ◌*◌, ◌≤◌}
use mathlib.Core.Path.{◌≡◌}
use Rattle.contents.specs.Limits.{message_size}
use Rattle.contents.specs.Contents.{messages_at}
use Rattle.messages.specs.Messages.{messages_right}
use Rattle.messages.proofs.check_messages.Given as goal

abbrev pub invariant-loop-k : goal.invariant-loop-k
invariant-loop-k l = record {
  within : l.from ≤ l.c.text;
  same : messages_right l.file l.c (l.first + message_size * l.k) (l.c.messages - l.k) l.from ≡ messages_right l.file l.c (messages_at l.c) l.c.messages 0;
}
