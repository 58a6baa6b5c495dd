-- What heard note and passing time keep, granted or refused, on any words: number 10's rule, the number of words, the words past 8,192, and the send room from the
-- last message on. Assumes nothing.
use mathlib.Core.Path.{◌≡◌, refl}
use mathlib.Core.Bool.{true}
use mathlib.Core.List.{List}
use Prim.Native.Nat.{ℕ, ◌+◌, ◌*◌, ◌≤◌, ◌<◌}
use native.Mathlib.Nat.{one-le-mul}
use native.Mathlib.Omega.{arith}
use lib.ListN.{length, drop}
use Rattle.std.specs.Prelude.{Ok, Err}
use Rattle.base.specs.Checks.{Check, fine, refused}
use Rattle.session.specs.declared.Refusal.{Refusal}
use Rattle.session.specs.Layout.{memory_size, room_size, most_sent, most_tempo, clock_end, mark_at, event_count_at, item_count_at, clock_at, tempo_at, last_at, total_at, taken_at, word_at}
use Rattle.session.specs.Session.{is_session}
use Rattle.session.specs.Inner.{Header}
use Rattle.session.proofs.SessionRule.{header-session}
use Rattle.session.proofs.Kept.{Kept, kept-none, kept_then, kept-wider, kept_word}
use Rattle.sending.specs.Sending.{sent_at, fired_at}
use Rattle.sending.proofs.KeptLaws.{fired-kept}
use Rattle.sending.proofs.SentLaws.{sent-few, filled-length, filled-past}
use Rattle.sequencer.specs.Calls.{noted, headed, clock_after, SendingResult, sent_now, if_fine, heard_check, heard_note, pass_check, passing_time}
use Rattle.sequencer.proofs.HeadedLaws.{headed-kept, headed-header}
use Rattle.sequencer.proofs.NoteLaws.{header-kept, noted-kept, noted-header}
use Rattle.sequencer.proofs.GrantLaws.{Hearable, hearable, Passable, passable}

pub record Keeps (m room : List ℕ) (s : SendingResult) : Type 0 where
  -- "Every opened session satisfies it after every call": number 10's rule.
  pub session : is_session m ≡ true → is_session s.memory ≡ true
  -- "Words past 8,192 are never read or changed": the same words stand there, and as many of them.
  pub words : Kept mark_at memory_size m s.memory
  -- "The first 2c words of the send room then hold [..]; the rest is unchanged."
  pub after : (c : ℕ) → s.reply ≡ Ok c → drop (2 * c) s.room ≡ drop (2 * c) room
  pub room_long : length s.room ≡ length room

refused-keeps : (m room : List ℕ) (x : Refusal) → Keeps m room (record { reply = Err x; memory = m; room = room })
refused-keeps m room x = record { session = λ e. e; words = kept-none mark_at memory_size m; after = λ c e. refl; room_long = refl }

-- ---- a granted call: m₁ are the words of m after the note was taken, and the clock or the last event has moved on

module _ (clock tempo last : ℕ) (m m₁ room : List ℕ) (noted : Kept taken_at memory_size m m₁) (h : Header m₁) (long : memory_size ≤ length m) (wide : room_size ≤ length room)
    (end : clock ≤ clock_end) (slow : 1 ≤ tempo) (fast : tempo ≤ most_tempo) (event : last ≤ word_at m₁ event_count_at)
    (on : word_at m₁ clock_at + word_at m₁ last_at < clock + last) where
  fired : Kept taken_at memory_size m₁ (fired_at clock m₁)
  unfolding fired_at
  fired = kept-wider (omega arith) (omega arith) (fired-kept clock most_sent (word_at m₁ item_count_at) 0 m₁ (omega (arith, h.items)))

  sent-header : Header (headed clock tempo last (word_at m₁ total_at + length (sent_at clock m₁)) (fired_at clock m₁))
  sent-header =
      headed-header clock tempo last _ _ (omega (arith, fired.long, noted.long)) (header-kept h fired) end slow fast
      (rw (kept_word fired event_count_at (omega arith)) event)
      (omega (arith, h.total, sent-few clock m₁))

  sent-keeps : Keeps m room (sent_now clock tempo last m₁ room)
  unfolding sent_now
  sent-keeps =
      record {
        session = λ e. header-session _ sent-header;
        words = kept_then (kept-wider (omega arith) (omega arith) (kept_then noted fired)) (kept-wider (omega arith) (omega arith) (headed-kept _ _ _ _ _));
        after = λ c e. let z : length (sent_at clock m₁) ≡ c = cc in filled-past (sent_at clock m₁) room (2 * c) (omega arith);
        room_long = filled-length (sent_at clock m₁) room (omega (arith, sent-few clock m₁));
      }

-- ---- the calls, on any words

pub heard-keeps : (m room : List ℕ) (event tempo : ℕ) → Keeps m room (heard_note m room event tempo)
unfolding heard_note if_fine
heard-keeps m room event tempo = go (heard_check m room event tempo) (λ e. hearable m room event tempo e)
  where
    go : (c : Check Refusal) → (c ≡ fine → Hearable m room event tempo)
        → Keeps m room (if_fine c (sent_now (word_at m clock_at) tempo event (noted event m) room) m room)
    go (refused x) g = refused-keeps m room x
    go fine g =
        let a = g refl in
        let k = noted-kept m event a.long a.header a.last in
        sent-keeps (word_at m clock_at) tempo event m (noted event m) room k (noted-header m event a.long a.header a.last) a.long a.wide
        a.header.clock a.slow a.fast (rw (kept_word k event_count_at (omega arith)) a.last)
        (omega (arith, a.after, kept_word k clock_at (omega arith), kept_word k last_at (omega arith)))

clock-moves : (m room : List ℕ) (ms : ℕ) → Passable m room ms → word_at m clock_at + 1 ≤ clock_after m ms
unfolding clock_after
clock-moves m room ms a = let h = one-le-mul a.some a.header.moving in omega arith

pub pass-keeps : (m room : List ℕ) (ms : ℕ) → Keeps m room (passing_time m room ms)
unfolding passing_time if_fine
pass-keeps m room ms = go (pass_check m room ms) (λ e. passable m room ms e)
  where
    go : (c : Check Refusal) → (c ≡ fine → Passable m room ms)
        → Keeps m room (if_fine c (sent_now (clock_after m ms) (word_at m tempo_at) (word_at m last_at) m room) m room)
    go (refused x) g = refused-keeps m room x
    go fine g =
        let a = g refl in
        let h = a.header in
        sent-keeps (clock_after m ms) (word_at m tempo_at) (word_at m last_at) m m room (kept-none taken_at memory_size m) h a.long a.wide
        a.clock h.moving h.tempo h.last (omega (arith, clock-moves m room ms a))
