-- Each call on a session's memory, granted or refused, answers as the history does, and leaves memory that says what the history says after it.
-- Assumes nothing.
use mathlib.Core.Path.{◌≡◌, refl}
use Prim.Native.Nat.{ℕ, ◌+◌}
use mathlib.Core.Bool.{true}
use mathlib.Core.List.{List}
use native.Mathlib.Omega.{arith}
use lib.ListN.{length}
use borrow.Author.Tests.{le-leb}
use Rattle.std.specs.Prelude.{Ok}
use Rattle.base.specs.Checks.{Check, fine, refused, need, first_fault}
use Rattle.score.specs.Piece.{decode}
use Rattle.score.specs.File.{Accepted}
use Rattle.rules.specs.Terms.{Terms}
use Rattle.session.specs.declared.Refusal.{Refusal}
use Rattle.session.specs.Layout.{memory_size}
use Rattle.session.specs.Parts.{sounds}
use Rattle.session.specs.Session.{is_session}
use Rattle.sequencer.specs.Replies.{sending_reply}
use Rattle.sequencer.specs.Calls.{SendingResult, if_fine, heard_note, passing_time, report_check, if_known, reported}
use Rattle.sequencer.proofs.CallsKeep.{heard-keeps, pass-keeps}
use Rattle.demands.specs.History.{Call, note, pass, report, look_up, Now, verdict, moved, kept, after}
use Rattle.demands.specs.Messages.{Sent}
use Rattle.demands.specs.Answers.{sending, sending_answer, messages_of, if_granted, messages_by, answer, sounding_in}
use Rattle.demands.specs.Memory.{answer_in, memory_after}
use Rattle.demands.proofs.MemoryAndHistory.Holds.{Holds}
use Rattle.demands.proofs.MemoryAndHistory.Calls.{Does, pass-checked, pass-does, note-checked, note-does}

module _ (f : List ℕ) (accepted : Accepted f) (o : Terms) (total : ℕ) (s : Now) (m : List ℕ) (holds : Holds f o total s m) where
  -- The events of the score, and what a call sends where it is granted.
  abbrev events : ℕ
  events = length (decode f).durations

  abbrev messages : Call → List Sent
  messages c = messages_of (decode f).durations (sounding_in f (sounds o.parts)) s c

  -- ---- a call that sends, by one look at its check: r is what it comes to where it is granted, n the history after it, l what it sends

  module _ (n : Now) (l : List Sent) (room : List ℕ) (r : SendingResult) where
    either-answers : (g : Check Refusal) → (g ≡ fine → Does f o total n l room r)
        → sending (sending_reply (if_fine g r m room).reply) (if_fine g r m room).room ≡ sending_answer g l room
    unfolding if_fine sending_answer
    either-answers fine does = (does refl).answer
    either-answers (refused x) does = refl

    either-leaves : (g : Check Refusal) → (g ≡ fine → Does f o total n l room r) → is_session (if_fine g r m room).memory ≡ true
        → Holds f o (total + length (if_granted g l)) (kept g s n) (if_fine g r m room).memory
    unfolding if_fine if_granted kept
    either-leaves fine does session = (does refl).holds session
    either-leaves (refused x) does session = let none : total + 0 ≡ total = omega arith in rw none holds

  -- ---- report

  report-answer : reported m ≡ Ok (record { clock = s.clock; tempo = s.tempo; last = s.last; total = total })
  unfolding reported if_known report_check first_fault need
  report-answer = rw (le-leb memory_size (length m) holds.score.long, holds.session, holds.clock, holds.tempo, holds.last, holds.sent)

  -- ---- any call

  pub call-answers : (c : Call) → answer_in f m c ≡ answer f (decode f).durations (sounding_in f (sounds o.parts)) total s c
  unfolding answer_in answer heard_note passing_time
  call-answers (note room h tempo) =
      rw (note-checked f accepted o total s m holds room h tempo)
      (either-answers (moved s (note room h tempo)) (messages (note room h tempo)) room _ (verdict events s (note room h tempo)) (note-does f accepted o total s m holds room h tempo))
  call-answers (pass room ms) =
      rw (pass-checked f accepted o total s m holds room ms)
      (either-answers (moved s (pass room ms)) (messages (pass room ms)) room _ (verdict events s (pass room ms)) (λ g. pass-does f accepted o total s m holds room ms))
  call-answers report = rw report-answer
  call-answers (look_up n) = refl

  module _ (room : List ℕ) (h tempo : ℕ) where
    abbrev noted : Check Refusal
    noted = verdict events s (note room h tempo)

    note-leaves : Holds f o (total + length (if_granted noted (messages (note room h tempo)))) (kept noted s (moved s (note room h tempo))) (heard_note m room h tempo).memory
    unfolding heard_note
    note-leaves =
        let check = note-checked f accepted o total s m holds room h tempo in
        rw check
        (either-leaves (moved s (note room h tempo)) (messages (note room h tempo)) room _ noted (note-does f accepted o total s m holds room h tempo)
        (rw check at ((heard-keeps m room h tempo).session holds.session)))

  module _ (room : List ℕ) (ms : ℕ) where
    abbrev passed : Check Refusal
    passed = verdict events s (pass room ms)

    pass-leaves : Holds f o (total + length (if_granted passed (messages (pass room ms)))) (kept passed s (moved s (pass room ms))) (passing_time m room ms).memory
    unfolding passing_time
    pass-leaves =
        let check = pass-checked f accepted o total s m holds room ms in
        rw check
        (either-leaves (moved s (pass room ms)) (messages (pass room ms)) room _ passed (λ g. pass-does f accepted o total s m holds room ms)
        (rw check at ((pass-keeps m room ms).session holds.session)))

  pub call-leaves : (c : Call) → Holds f o (total + length (messages_by (decode f).durations (sounding_in f (sounds o.parts)) s c)) (after events s c) (memory_after m c)
  unfolding memory_after after kept moved verdict messages_by messages_of if_granted
  call-leaves (note room h tempo) = note-leaves room h tempo
  call-leaves (pass room ms) = pass-leaves room ms
  call-leaves report = let none : total + 0 ≡ total = omega arith in rw none holds
  call-leaves (look_up n) = let none : total + 0 ≡ total = omega arith in rw none holds
