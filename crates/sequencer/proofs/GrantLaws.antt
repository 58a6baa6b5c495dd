-- What a granted call's checks say.
-- Assumes nothing.
use mathlib.Core.Path.{◌≡◌}
use mathlib.Core.List.{List}
use Prim.Native.Nat.{ℕ, ◌≤◌, ◌<◌}
use lib.ListN.{length}
use borrow.Author.Tests.{leb-true, ltb-true}
use Rattle.base.proofs.TestLaws.{between-low, between-high}
use Rattle.base.proofs.CheckLaws.{first_rest, first_holds}
use Rattle.session.specs.Layout.{memory_size, room_size, most_tempo, most_millis, clock_end, event_count_at, last_at, word_at}
use Rattle.session.specs.Inner.{Header}
use Rattle.base.specs.Checks.{fine}
use Rattle.sequencer.specs.Calls.{clock_after, heard_check, pass_check}
use Rattle.session.proofs.SessionRule.{session-header}

-- A heard note is granted.
pub record Hearable (m room : List ℕ) (event tempo : ℕ) : Type 0 where
  pub long : memory_size ≤ length m
  pub wide : room_size ≤ length room
  pub header : Header m
  pub last : event ≤ word_at m event_count_at
  pub after : word_at m last_at < event
  pub slow : 1 ≤ tempo
  pub fast : tempo ≤ most_tempo

pub hearable : (m room : List ℕ) (event tempo : ℕ) → heard_check m room event tempo ≡ fine → Hearable m room event tempo
unfolding heard_check
hearable m room event tempo e =
    let e₁ = first_rest _ _ e in
    let e₂ = first_rest _ _ e₁ in
    let e₃ = first_rest _ _ e₂ in
    let e₄ = first_rest _ _ e₃ in
    let e₅ = first_rest _ _ e₄ in
    record {
      long = leb-true _ _ (first_holds _ _ _ e);
      wide = leb-true _ _ (first_holds _ _ _ e₁);
      header = session-header m (first_holds _ _ _ e₂);
      last = between-high 1 _ _ (first_holds _ _ _ e₃);
      after = ltb-true _ _ (first_holds _ _ _ e₄);
      slow = between-low 1 most_tempo _ (first_holds _ _ _ e₅);
      fast = between-high 1 most_tempo _ (first_holds _ _ _ e₅);
    }

-- Passing time is granted.
pub record Passable (m room : List ℕ) (ms : ℕ) : Type 0 where
  pub long : memory_size ≤ length m
  pub wide : room_size ≤ length room
  pub header : Header m
  pub some : 1 ≤ ms
  pub few : ms ≤ most_millis
  pub clock : clock_after m ms ≤ clock_end

pub passable : (m room : List ℕ) (ms : ℕ) → pass_check m room ms ≡ fine → Passable m room ms
unfolding pass_check
passable m room ms e =
    let e₁ = first_rest _ _ e in
    let e₂ = first_rest _ _ e₁ in
    let e₃ = first_rest _ _ e₂ in
    let e₄ = first_rest _ _ e₃ in
    record {
      long = leb-true _ _ (first_holds _ _ _ e);
      wide = leb-true _ _ (first_holds _ _ _ e₁);
      header = session-header m (first_holds _ _ _ e₂);
      some = between-low 1 most_millis _ (first_holds _ _ _ e₃);
      few = between-high 1 most_millis _ (first_holds _ _ _ e₃);
      clock = leb-true _ _ (first_holds _ _ _ e₄);
    }
