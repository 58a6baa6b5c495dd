-- What an inner function asks. No promise of a call of document 01 needs it.
use Rattle.std.specs.Prelude.{◌≡◌, ℕ, ◌+◌, ◌*◌, ◌≤◌, ◌<◌, List}
use Rattle.base.specs.Checks.{fine}
use Rattle.contents.specs.declared.Counts.{Counts}
use Rattle.contents.specs.Limits.{message_size}
use Rattle.contents.specs.Bytes.{u16_at}
use Rattle.contents.specs.Contents.{messages_at}
use Rattle.contents.specs.Inner.{RightContents}
use Rattle.score.specs.LookUp.{label_reply}

-- What a granted look-up knows of its file.
pub record Granted (f : List ℕ) (c : Counts) (n : ℕ) : Type 0 where
  pub contents : RightContents f c
  pub reply : label_reply f n ≡ fine
  pub below : n < c.messages
  pub fits : u16_at f (messages_at c + message_size * n) + u16_at f (messages_at c + message_size * n + 2) ≤ c.text
