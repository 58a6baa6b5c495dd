-- The returns of heard note and passing time: the first check that fails, or what a granted call makes of memory and room.
-- Assumes nothing.
use mathlib.Core.Path.{◌≡◌}
use mathlib.Core.Bool.{Bool, false, not}
use mathlib.Core.List.{List}
use Prim.Native.Nat.{ℕ, ◌+◌, ◌≤◌, ◌<◌}
use native.Mathlib.Omega.{arith}
use lib.ListN.{length, set}
use mir.Syntax.{w64}
use mir.Val.{Fits}
use Rattle.std.specs.Prelude.{Ok, Err}
use Rattle.base.specs.Checks.{fine, refused}
use Rattle.base.proofs.TestLaws.{told-true}
use Rattle.base.proofs.CheckLaws.{checks}
use Rattle.units.specs.declared.Thousandths.{Thousandths}
use Rattle.units.specs.Units.{moved_by}
use Rattle.session.specs.declared.Refusal.{Refusal}
use Rattle.session.specs.declared.Refusal.TheVariants.{ClockFull}
use Rattle.session.specs.Layout.{memory_size, room_size, most_tempo, most_millis, clock_end, event_count_at, clock_at, tempo_at, last_at, total_at, word_at}
use Rattle.session.specs.Session.{is_session}
use Rattle.session.specs.Inner.{Header}
use Rattle.session.proofs.SessionRule.{session-header}
use Rattle.session.proofs.Kept.{kept_word}
use Rattle.sending.specs.Inner.{SentAll}
use Rattle.sequencer.specs.Calls.{headed, noted, clock_after, SendingResult, sent_now, if_fine, heard_check, heard_note, pass_check, passing_time}
use Rattle.sequencer.proofs.NoteLaws.{noted-kept, noted-header}

-- ---- what is known of words that have passed number 10's rule

module _ (m : List ℕ) (b : Bool) (r : b ≡ is_session m) (t : not b ≡ false) where
  pub told-header : Header m
  told-header = session-header m (told-true b (is_session m) r t)

  pub told-tempo : word_at m tempo_at ≤ most_tempo
  told-tempo = told-header.tempo

  pub clock-fits : (d : ℕ) → d ≤ 50400000 → Fits w64 (word_at m clock_at + d)
  clock-fits d h = let g = told-header.clock in omega arith

  module _ (long : memory_size ≤ length m) where
    pub noted-told : (m₁ : List ℕ) (h : ℕ) → h ≤ word_at m event_count_at → m₁ ≡ noted h m → Header m₁
    noted-told m₁ h f e = rw e (noted-header m h long told-header f)

    pub noted-clock : (m₁ : List ℕ) (h : ℕ) → h ≤ word_at m event_count_at → m₁ ≡ noted h m → word_at m₁ clock_at ≤ clock_end
    noted-clock m₁ h f e = (noted-told m₁ h f e).clock

-- ---- the end of a call

pub finished-by : (m room m₁ room₁ : List ℕ) (clock tempo last c : ℕ) → SentAll clock m room c m₁ room₁
    → sent_now clock tempo last m room
    ≡ record { reply = Ok c; memory = set (set (set (set m₁ clock_at clock) tempo_at tempo) last_at last) total_at (word_at m total_at + c); room = room₁ }
unfolding sent_now headed
finished-by m room m₁ room₁ clock tempo last c s = rw (s.memory, s.count, s.sent)

-- ---- passing time

module _ (m room : List ℕ) (ms : ℕ) where
  pub pass-refused : (x : Refusal) → refused x ≡ pass_check m room ms → passing_time m room ms ≡ record { reply = Err x; memory = m; room = room }
  unfolding passing_time if_fine
  pass-refused x e = rw (← e)

  module _ (long : memory_size ≤ length m) (wide : room_size ≤ length room) (b : Bool) (r : b ≡ is_session m) (t : not b ≡ false) (low : 1 ≤ ms) (high : ms ≤ most_millis)
      (moved : Thousandths) (by : moved ≡ moved_by (record { 0 = ms }) (word_at m tempo_at)) where
    after : word_at m clock_at + moved.0 ≡ clock_after m ms
    unfolding clock_after
    after = rw by

    pub pass-full : clock_end < word_at m clock_at + moved.0 → passing_time m room ms ≡ record { reply = Err ClockFull; memory = m; room = room }
    unfolding pass_check
    pass-full h =
        let h' : clock_end < clock_after m ms = rw after at h in
        pass-refused ClockFull (search checks depth 8)

    pub pass-granted : (s : SendingResult) → word_at m clock_at + moved.0 ≤ clock_end
        → sent_now (word_at m clock_at + moved.0) (word_at m tempo_at) (word_at m last_at) m room ≡ s → passing_time m room ms ≡ s
    unfolding pass_check passing_time if_fine
    pass-granted s h f =
        let h' : clock_after m ms ≤ clock_end = rw after at h in
        let e : fine ≡ pass_check m room ms = search checks depth 8 in
        rw (← e) (rw after at f)

-- ---- heard note

module _ (m room : List ℕ) (event tempo : ℕ) where
  pub heard-refused : (x : Refusal) → refused x ≡ heard_check m room event tempo → heard_note m room event tempo ≡ record { reply = Err x; memory = m; room = room }
  unfolding heard_note if_fine
  heard-refused x e = rw (← e)

  module _ (long : memory_size ≤ length m) (wide : room_size ≤ length room) (b : Bool) (r : b ≡ is_session m) (t : not b ≡ false) (low : 1 ≤ event)
      (high : event ≤ word_at m event_count_at) (after : word_at m last_at < event) (slow : 1 ≤ tempo) (fast : tempo ≤ most_tempo) where
    pub heard-granted : (m₁ : List ℕ) (s : SendingResult) → m₁ ≡ noted event m → sent_now (word_at m₁ clock_at) tempo event m₁ room ≡ s
        → heard_note m room event tempo ≡ s
    unfolding heard_check heard_note if_fine
    heard-granted m₁ s e f =
        let k = noted-kept m event long (told-header m b r t) high in
        let g : fine ≡ heard_check m room event tempo = search checks depth 9 in
        rw (← g) (rw (e, kept_word k clock_at (omega arith)) at f)
