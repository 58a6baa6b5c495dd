-- The same opening and list of calls over session memory: what the contracts say of each call, one after the other.
use Rattle.std.specs.Prelude.{◌≡◌, ℕ, ◌≤◌, ◌<◌, true, List, [], ◌∷◌, length}
use Rattle.base.specs.Tests.{between}
use Rattle.contents.specs.Replies.{reply_of, verdict_of}
use Rattle.score.specs.File.{Accepted}
use Rattle.score.specs.LookUp.{label_reply, label_bytes}
use Rattle.rules.specs.Terms.{Terms}
use Rattle.session.specs.Layout.{memory_size, most_tempo, most_grace}
use Rattle.opening.specs.Replies.{opening_reply}
use Rattle.opening.specs.Opening.{opened}
use Rattle.sequencer.specs.Replies.{sending_reply, report_reply}
use Rattle.sequencer.specs.Calls.{heard_note, passing_time, reported}
use Rattle.demands.specs.History.{Call, note, pass, report, look_up}
use Rattle.demands.specs.Answers.{Answer, opening, sending, reporting, looking}

-- What an opening is handed that is granted: an accepted file, 8,192 words or more, sixteen part bits, a lawful tempo and a grace of 0 to 630.
pub record Openable (file memory : List ℕ) (o : Terms) : Type 0 where
  pub accepted : Accepted file
  pub long : memory_size ≤ length memory
  pub sixteen : o.parts < 65536
  pub speed : between 1 most_tempo o.tempo ≡ true
  pub graced : o.grace ≤ most_grace

-- The answer of a call on this memory, and the memory after it.
unfoldable pub answer_in : (file memory : List ℕ) → Call → Answer
answer_in f m (note room h tempo) = sending (sending_reply (heard_note m room h tempo).reply) (heard_note m room h tempo).room
answer_in f m (pass room ms) = sending (sending_reply (passing_time m room ms).reply) (passing_time m room ms).room
answer_in f m report = reporting (report_reply (reported m))
answer_in f m (look_up n) = looking (reply_of (verdict_of (label_reply f n))) (label_bytes f n)

unfoldable pub memory_after : (memory : List ℕ) → Call → List ℕ
memory_after m (note room h tempo) = (heard_note m room h tempo).memory
memory_after m (pass room ms) = (passing_time m room ms).memory
memory_after m report = m
memory_after m (look_up n) = m

unfoldable pub answers_in : (file memory : List ℕ) → List Call → List Answer
answers_in f m [] = []
answers_in f m (c ∷ cs) = answer_in f m c ∷ answers_in f (memory_after m c) cs

-- The memory after a list of calls.
unfoldable pub memory_after_all : (memory : List ℕ) → List Call → List ℕ
memory_after_all m [] = m
memory_after_all m (c ∷ cs) = memory_after_all (memory_after m c) cs

-- From the opening on, in this memory.
unfoldable pub run_in : (file memory : List ℕ) → Terms → List Call → List Answer
run_in f m o cs = opening (opening_reply (opened m f o).reply) ∷ answers_in f (opened m f o).memory cs
