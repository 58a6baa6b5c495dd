-- A granted call over words does what the history says: its answer is the history's, and the words go on saying the history after it.
-- Assumes nothing.
use mathlib.Core.Path.{◌≡◌, refl, ap, sym, subst, ◌∙◌}
use Prim.Native.Nat.{ℕ, suc, ◌+◌, ◌≤◌}
use mathlib.Core.Bool.{true}
use mathlib.Core.List.{List, [], ◌∷◌, ◌++◌, map}
use native.Mathlib.Omega.{arith}
use native.Mathlib.Nat.{le_trans}
use lib.ListN.{length, length-map}
use borrow.Author.Tests.{le-leb}
use lib.Dec.{leb}
use Rattle.base.specs.Checks.{Check, fine, refused, need, first_fault}
use Rattle.score.specs.Piece.{decode}
use Rattle.score.specs.File.{Accepted}
use Rattle.rules.specs.Terms.{Terms}
use Rattle.rules.specs.Rules.{reading_of}
use Rattle.rules.specs.Page.{Entry, Cue, cues}
use Rattle.session.specs.declared.Refusal.TheVariants.{RoomShort}
use Rattle.session.specs.Layout.{memory_size, most_sent, clock_at, tempo_at, last_at, total_at, word_at, room_size}
use Rattle.session.specs.Parts.{sounds}
use Rattle.session.specs.Session.{is_session}
use Rattle.session.proofs.SessionRule.{session-header}
use Rattle.session.proofs.Kept.{kept_word}
use Rattle.sending.specs.Sending.{sent_at, fired_at}
use Rattle.sequencer.specs.Replies.{sending_reply}
use Rattle.sequencer.specs.Calls.{noted, clock_after, SendingResult, sent_now, heard_check, pass_check}
use Rattle.sequencer.proofs.NoteLaws.{noted-kept}
use Rattle.sequencer.proofs.HeadedLaws.{headed-clock, headed-tempo, headed-last, headed-total}
use Rattle.demands.specs.History.{note, pass, Now, heard_events, verdict, moved}
use Rattle.demands.specs.Messages.{Sent, order}
use Rattle.demands.specs.Answers.{sending, message_of, sending_answer, messages_of, sounding_in}
use Rattle.demands.proofs.Outcomes.{heard-one-more, UpToLast, NextEvent, granted-fits}
use Rattle.demands.proofs.Slots.{SlotRow, settle_all, fire_all, collect, rows_of, slots_of}
use Rattle.demands.proofs.Engine.{note-settles, note-sends, pass-settles, pass-sends}
use Rattle.demands.proofs.Room.{few-cues}
use Rattle.demands.proofs.MemoryAndHistory.Shows.{Shows}
use Rattle.demands.proofs.MemoryAndHistory.Taken.{EventsSettled}
use Rattle.demands.proofs.MemoryAndHistory.Holds.{Score, Holds}
use Rattle.demands.proofs.MemoryAndHistory.Finish.{fired-long, sent-rows, after-score, after-settled, after-slots}
use Rattle.demands.proofs.MemoryAndHistory.Fair.{Fair, accepted-fair}
use Rattle.demands.proofs.MemoryAndHistory.Noted.{Noted, noted-says}

-- What a granted call has to come to, where it leads to n and sends l.
pub record Does (f : List ℕ) (o : Terms) (total : ℕ) (n : Now) (l : List Sent) (room : List ℕ) (r : SendingResult) : Type 0 where
  pub answer : sending (sending_reply r.reply) r.room ≡ sending_answer fine l room
  pub holds : is_session r.memory ≡ true → Holds f o (total + length l) n r.memory

-- ---- a check that is known to pass, behind another

first-skip : {X : Type 0} (v : Check X) (l : List (Check X)) → first_fault (v ∷ fine ∷ l) ≡ first_fault (v ∷ l)
unfolding first_fault
first-skip fine l = refl
first-skip (refused x) l = refl

-- ---- how many rows

rows-length : (s : Now) (l : List Cue) → length (rows_of s l) ≡ length l
unfolding rows_of
rows-length s [] = refl
rows-length s (c ∷ l) = ap suc (rows-length s l)

settle-length : (clock : ℕ) (rs : List SlotRow) (l : List Cue) → length (settle_all clock rs l) ≤ length rs
unfolding settle_all
settle-length clock [] l = omega arith
settle-length clock (r ∷ rs) [] = omega arith
settle-length clock (r ∷ rs) (c ∷ l) = omega (arith, settle-length clock rs l)

-- ---- a session of an accepted file

module _ (f : List ℕ) (accepted : Accepted f) (o : Terms) where
  abbrev ds : List ℕ
  ds = (decode f).durations

  abbrev es : List Entry
  es = sounding_in f (sounds o.parts)

  fair : Fair ds (decode f).items
  fair = accepted-fair f accepted

  rows_fit : (s : Now) → length (slots_of ds es s) ≤ most_sent
  unfolding slots_of
  rows_fit s =
      let R = reading_of s.terms ds (heard_events s.hearings) in
      omega (arith, rows-length s (cues R es), few-cues f accepted (sounds o.parts) R)

  -- ---- the end of a granted call: the words m show rows, and those rows, when they are fired, come to what the history has after the call

  ends : (total : ℕ) (n : Now) (l : List Sent) (m room : List ℕ) (rows : List SlotRow) → n.terms ≡ o → word_at m total_at ≡ total
      → Score ds (decode f).items o m
      → EventsSettled (length ds) n.last (heard_events n.hearings) m
      → Shows (sounds o.parts) m 0 (decode f).items rows
      → length rows ≤ most_sent
      → fire_all n.clock rows ≡ slots_of ds es n
      → order (collect n.clock rows) ≡ l
      → Does f o total n l room (sent_now n.clock n.tempo n.last m room)
  unfolding sent_now sending_answer
  ends total n l m room rows terms before score settled slots fit fired sent =
      let messages : sent_at n.clock m ≡ map message_of l = sent-rows fair o n.clock m score fit slots ∙ ap (map message_of) sent in
      let count : length (sent_at n.clock m) ≡ length l = ap length messages ∙ length-map l message_of in
      let long = fired-long fair o n.clock m score in
      record {
        answer = rw (count, messages);
        holds =
            λ session.
            rw (before, count)
            record {
              score = after-score fair o n.clock m score n.tempo n.last (total + length l);
              terms = terms;
              session = rw (before, count) at session;
              clock = headed-clock n.clock n.tempo n.last (total + length l) (fired_at n.clock m) long;
              tempo = headed-tempo n.clock n.tempo n.last (total + length l) (fired_at n.clock m) long;
              last = headed-last n.clock n.tempo n.last (total + length l) (fired_at n.clock m) long;
              sent = headed-total n.clock n.tempo n.last (total + length l) (fired_at n.clock m) long;
              settled = after-settled fair o n.clock m score n.tempo n.last (total + length l) settled;
              slots = rw fired at (after-slots fair o n.clock m score n.tempo n.last (total + length l) fit slots);
            };
      }

  module _ (total : ℕ) (s : Now) (m : List ℕ) (holds : Holds f o total s m) where
    -- ---- passing time

    module _ (room : List ℕ) (ms : ℕ) where
      pub pass-checked : pass_check m room ms ≡ verdict (length ds) s (pass room ms)
      unfolding pass_check clock_after verdict first_fault need
      pass-checked = rw (le-leb memory_size (length m) holds.score.long, holds.session, holds.clock, holds.tempo) (first-skip (need (leb room_size (length room)) RoomShort) _)

      pub pass-does : Does f o total (moved s (pass room ms)) (messages_of ds es s (pass room ms)) room (sent_now (clock_after m ms) (word_at m tempo_at) (word_at m last_at) m room)
      unfolding clock_after moved messages_of
      pass-does =
          rw (holds.clock, holds.tempo, holds.last)
          (ends total (moved s (pass room ms)) _ m room (slots_of ds es s) holds.terms holds.sent holds.score holds.settled holds.slots (rows_fit s)
          (pass-settles ds es s room ms) (pass-sends ds es s room ms))

    -- ---- a heard note

    module _ (room : List ℕ) (h tempo : ℕ) where
      pub note-checked : heard_check m room h tempo ≡ verdict (length ds) s (note room h tempo)
      unfolding heard_check verdict first_fault need
      note-checked = rw (le-leb memory_size (length m) holds.score.long, holds.session, holds.score.events, holds.last) (first-skip (need (leb room_size (length room)) RoomShort) _)

      module _ (g : verdict (length ds) s (note room h tempo) ≡ fine) where
        fits : NextEvent (length ds) s.last h
        fits = granted-fits (length ds) s room h tempo g

        up : UpToLast s
        up = record { below = holds.settled.below }

        -- The rows that the note sends from.
        abbrev noted_rows : List SlotRow
        noted_rows =
            settle_all s.clock (slots_of ds es s)
            (cues (reading_of s.terms ds (heard_events s.hearings ++ (h ∷ []))) es)

        says : Noted ds (decode f).items o h s.clock (heard_events s.hearings) (slots_of ds es s) (noted h m)
        says =
            noted-says fair o h s.last m holds.score holds.settled fits.next fits.few s.clock holds.last holds.clock holds.slots

        shown : Shows (sounds o.parts) (noted h m) 0 (decode f).items noted_rows
        unfolding sounding_in
        shown =
            subst (λ (t : Terms). Shows (sounds o.parts) (noted h m) 0 (decode f).items (settle_all s.clock (slots_of ds es s) (cues (reading_of t ds (heard_events s.hearings ++ (h ∷ []))) es)))
            (sym holds.terms) says.slots

        -- The note leaves the count of messages alone.
        total_kept : word_at (noted h m) total_at ≡ word_at m total_at
        total_kept =
            kept_word (noted-kept m h holds.score.long (session-header m holds.session) (rw holds.score.events fits.few)) total_at (omega arith)

        pub note-does : Does f o total (moved s (note room h tempo)) (messages_of ds es s (note room h tempo)) room (sent_now (word_at m clock_at) tempo h (noted h m) room)
        unfolding moved messages_of
        note-does =
            rw holds.clock
            (ends total (moved s (note room h tempo)) _ (noted h m) room noted_rows holds.terms (total_kept ∙ holds.sent) says.score
            (rw (heard-one-more s.hearings (record { event = h; clock = s.clock })) says.settled) shown (le_trans (settle-length s.clock _ _) (rows_fit s))
            (note-settles ds es s room h tempo up fits) (note-sends ds es s room h tempo up fits))
