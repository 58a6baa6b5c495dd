-- Demand 2 over session memory: the answers of an opening and of a list of calls after it, as the contracts have them, are those of the history; and what the memory
-- is like after them. From the opening on, call by call. Assumes nothing.
use mathlib.Core.Path.{◌≡◌, refl, ap, ap₂, sym, ◌∙◌}
use Prim.Native.Nat.{ℕ, ◌+◌}
use mathlib.Core.Bool.{true}
use mathlib.Core.List.{List, [], ◌∷◌, map}
use lib.ListN.{length, drop, length-map}
use Rattle.base.specs.Checks.{Check, fine, refused}
use Rattle.score.specs.Piece.{decode}
use Rattle.score.specs.File.{Accepted}
use Rattle.rules.specs.Terms.{Terms}
use Rattle.rules.specs.Page.{Entry}
use Rattle.session.specs.declared.Refusal.{Refusal}
use Rattle.session.specs.Layout.{memory_size}
use Rattle.session.specs.Parts.{sounds}
use Rattle.session.specs.Session.{is_session}
use Rattle.sending.specs.Room.{pairs_in}
use Rattle.sending.proofs.SentLaws.{pairs-filled}
use Rattle.opening.specs.Replies.{opening_reply}
use Rattle.opening.specs.Opening.{opened}
use Rattle.opening.proofs.Opened.{opened-past, opened-length, opened-sounding}
use Rattle.sequencer.specs.Replies.{sending_reply}
use Rattle.sequencer.proofs.CallsKeep.{heard-keeps, pass-keeps}
use Rattle.demands.specs.History.{Call, note, pass, report, look_up, Now, start, verdict, after}
use Rattle.demands.specs.Messages.{Sent}
use Rattle.demands.specs.Answers.{Answer, message_of, sending_answer, messages_of, if_granted, messages_by, answer, answers, sounding_in, answers_of, run_of}
use Rattle.demands.specs.Memory.{Openable, memory_after, memory_after_all, answers_in, run_in}
use Rattle.demands.specs.Demands.{sent_by, messages_in, sent_in}
use Rattle.demands.proofs.MemoryAndHistory.Holds.{Holds}
use Rattle.demands.proofs.MemoryAndHistory.Answers.{call-answers, call-leaves}
use Rattle.demands.proofs.MemoryAndHistory.Opened.{granted, opened-holds}

-- ---- any session that says what a history comes to

module _ (f : List ℕ) (accepted : Accepted f) (o : Terms) where
  abbrev ds : List ℕ
  ds = (decode f).durations

  abbrev es : List Entry
  es = sounding_in f (sounds o.parts)

  calls-answer : (total : ℕ) (s : Now) (m : List ℕ) → Holds f o total s m → (cs : List Call) → answers_in f m cs ≡ answers f ds es total s cs
  unfolding answers_in answers
  calls-answer total s m h [] = refl
  calls-answer total s m h (c ∷ cs) =
      ap₂ {C = List Answer} (λ (a : Answer) (l : List Answer). a ∷ l) (call-answers f accepted o total s m h c)
      (calls-answer (total + length (messages_by ds es s c)) (after (length ds) s c) (memory_after m c) (call-leaves f accepted o total s m h c) cs)

  calls-session : (total : ℕ) (s : Now) (m : List ℕ) → Holds f o total s m → (cs : List Call) → is_session (memory_after_all m cs) ≡ true
  unfolding memory_after_all
  calls-session total s m h [] = h.session
  calls-session total s m h (c ∷ cs) =
      calls-session (total + length (messages_by ds es s c)) (after (length ds) s c) (memory_after m c) (call-leaves f accepted o total s m h c) cs

-- ---- an opened session

module _ (f m : List ℕ) (o : Terms) (can : Openable f m o) (cs : List Call) where
  start-holds : Holds f o 0 (start o) (opened m f o).memory
  start-holds = opened-holds f m o can.accepted can.long can.sixteen can.speed can.graced

  pub demand-2-answers : answers_in f (opened m f o).memory cs ≡ answers_of f o cs
  unfolding answers_of
  demand-2-answers = calls-answer f can.accepted o 0 (start o) _ start-holds cs

  -- The opening and each call of every list of calls after it reply, and leave the send room, as the history says: the messages of the sounding parts by the rules,
  -- at the first call whose clock has reached the due date, by due date and then page place.
  pub demand-2 : run_in f m o cs ≡ run_of f o cs
  unfolding run_in run_of opening_reply
  demand-2 =
      rw (opened-sounding m f o (granted f m o can.accepted can.long can.sixteen can.speed can.graced) can.sixteen, demand-2-answers)

  -- "Every opened session satisfies it after every call": number 10's rule.
  pub demand-2-session : is_session (memory_after_all (opened m f o).memory cs) ≡ true
  demand-2-session = calls-session f can.accepted o 0 (start o) _ start-holds cs

-- What the memory held before the opening changes no answer.
pub demand-2-any-memory : (f m k : List ℕ) (o : Terms) (cs : List Call) → Openable f m o → Openable f k o → run_in f m o cs ≡ run_in f k o cs
demand-2-any-memory f m k o cs a b = demand-2 f m o a cs ∙ sym (demand-2 f k o b cs)

-- ---- the messages that the send room holds

room-sent : (g : Check Refusal) (l : List Sent) (room : List ℕ) → sent_in (sending_answer g l room) ≡ map message_of (if_granted g l)
unfolding sent_in sending_answer sending_reply if_granted pairs_in
room-sent fine l room = rw (← length-map l message_of) (pairs-filled (map message_of l) room)
room-sent (refused x) l room = refl

none-sent : (g : Check Refusal) → [] ≡ map message_of (if_granted g [])
unfolding if_granted
none-sent fine = refl
none-sent (refused x) = refl

call-sent : (f ds : List ℕ) (es : List Entry) (total : ℕ) (s : Now) (c : Call) → sent_in (answer f ds es total s c) ≡ map message_of (messages_by ds es s c)
unfolding answer messages_by messages_of sent_in
call-sent f ds es total s (note room h tempo) = room-sent (verdict (length ds) s (note room h tempo)) _ room
call-sent f ds es total s (pass room ms) = room-sent (verdict (length ds) s (pass room ms)) _ room
call-sent f ds es total s report = none-sent (verdict (length ds) s report)
call-sent f ds es total s (look_up n) = none-sent (verdict (length ds) s (look_up n))

calls-sent : (f ds : List ℕ) (es : List Entry) (total : ℕ) (s : Now) (cs : List Call) → map sent_in (answers f ds es total s cs) ≡ map (map message_of) (sent_by ds es s cs)
unfolding answers sent_by
calls-sent f ds es total s [] = refl
calls-sent f ds es total s (c ∷ cs) = rw (call-sent f ds es total s c, calls-sent f ds es (total + length (messages_by ds es s c)) (after (length ds) s c) cs)

-- The words of the send room after each call are the history's messages.
pub demand-2-room : (f m : List ℕ) (o : Terms) → Openable f m o → (cs : List Call)
    → map sent_in (answers_in f (opened m f o).memory cs) ≡ map (map message_of) (messages_in f o cs)
unfolding answers_of messages_in
demand-2-room f m o can cs = ap (map sent_in) (demand-2-answers f m o can cs) ∙ calls-sent f (decode f).durations _ 0 (start o) cs

-- ---- the words that no call touches, whatever the memory

call-past : (m : List ℕ) (c : Call) → drop memory_size (memory_after m c) ≡ drop memory_size m
unfolding memory_after
call-past m (note room h tempo) = (heard-keeps m room h tempo).words.past
call-past m (pass room ms) = (pass-keeps m room ms).words.past
call-past m report = refl
call-past m (look_up n) = refl

call_length : (m : List ℕ) (c : Call) → length (memory_after m c) ≡ length m
unfolding memory_after
call_length m (note room h tempo) = (heard-keeps m room h tempo).words.long
call_length m (pass room ms) = (pass-keeps m room ms).words.long
call_length m report = refl
call_length m (look_up n) = refl

-- "Words past 8,192 are never [..] changed", nor is the number of words.
pub calls-past : (m : List ℕ) (cs : List Call) → drop memory_size (memory_after_all m cs) ≡ drop memory_size m
unfolding memory_after_all
calls-past m [] = refl
calls-past m (c ∷ cs) = calls-past (memory_after m c) cs ∙ call-past m c

pub calls-length : (m : List ℕ) (cs : List Call) → length (memory_after_all m cs) ≡ length m
unfolding memory_after_all
calls-length m [] = refl
calls-length m (c ∷ cs) = calls-length (memory_after m c) cs ∙ call_length m c

pub demand-2-past : (f m : List ℕ) (o : Terms) (cs : List Call) → drop memory_size (memory_after_all (opened m f o).memory cs) ≡ drop memory_size m
demand-2-past f m o cs = calls-past (opened m f o).memory cs ∙ opened-past m f o

pub demand-2-length : (f m : List ℕ) (o : Terms) (cs : List Call) → length (memory_after_all (opened m f o).memory cs) ≡ length m
demand-2-length f m o cs = calls-length (opened m f o).memory cs ∙ opened-length m f o
