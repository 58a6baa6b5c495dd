-- The header that a granted call writes, word by word, and that it keeps number 10's rule.
-- Assumes nothing.
use mathlib.Core.Path.{◌≡◌, ◌∙◌}
use mathlib.Core.List.{List}
use Prim.Native.Nat.{ℕ, ◌+◌, ◌*◌, ◌≤◌}
use native.Mathlib.Omega.{arith}
use lib.ListN.{length, set, length-set}
use lib.Seq.{get_or-set_same, get_or-set_other}
use Rattle.session.specs.Layout.{memory_size, most_sent, most_tempo, clock_end, mark_at, event_count_at, item_count_at, parts_at, grace_at, clock_at, tempo_at, last_at, total_at, taken_at, word_at}
use Rattle.session.specs.Inner.{Header}
use Rattle.sequencer.specs.Calls.{headed}
use Rattle.session.proofs.Kept.{Kept, kept-none, kept_set, kept_word}

pub headed-kept : (clock tempo last total : ℕ) (m : List ℕ) → Kept clock_at taken_at m (headed clock tempo last total m)
unfolding headed
headed-kept clock tempo last total m =
    kept_set _ _ (omega arith) (omega arith)
    (kept_set _ _ (omega arith) (omega arith) (kept_set _ _ (omega arith) (omega arith) (kept_set _ _ (omega arith) (omega arith) (kept-none clock_at taken_at _))))

module _ (clock tempo last total : ℕ) (m : List ℕ) (long : memory_size ≤ length m) where
  pub headed-total : word_at (headed clock tempo last total m) total_at ≡ total
  unfolding headed
  headed-total = get_or-set_same (set (set (set m clock_at clock) tempo_at tempo) last_at last) total_at total 0 (simp length-set (omega arith))

  pub headed-last : word_at (headed clock tempo last total m) last_at ≡ last
  unfolding headed
  headed-last =
      let b = set (set m clock_at clock) tempo_at tempo in
      get_or-set_other (set b last_at last) total_at last_at total 0 (λ e. omega arith) ∙ get_or-set_same b last_at last 0 (simp length-set (omega arith))

  pub headed-tempo : word_at (headed clock tempo last total m) tempo_at ≡ tempo
  unfolding headed
  headed-tempo =
      let a = set m clock_at clock in
      let b = set a tempo_at tempo in
      get_or-set_other (set b last_at last) total_at tempo_at total 0 (λ e. omega arith)
      ∙ get_or-set_other b last_at tempo_at last 0 (λ e. omega arith)
      ∙ get_or-set_same a tempo_at tempo 0 (simp length-set (omega arith))

  pub headed-clock : word_at (headed clock tempo last total m) clock_at ≡ clock
  unfolding headed
  headed-clock =
      let a = set m clock_at clock in
      let b = set a tempo_at tempo in
      get_or-set_other (set b last_at last) total_at clock_at total 0 (λ e. omega arith)
      ∙ get_or-set_other b last_at clock_at last 0 (λ e. omega arith)
      ∙ get_or-set_other a tempo_at clock_at tempo 0 (λ e. omega arith)
      ∙ get_or-set_same m clock_at clock 0 (omega arith)

  pub headed-header : Header m → clock ≤ clock_end → 1 ≤ tempo → tempo ≤ most_tempo → last ≤ word_at m event_count_at → total ≤ most_sent * (clock + last)
      → Header (headed clock tempo last total m)
  headed-header h c s f l t =
      let k = headed-kept clock tempo last total m in
      record {
        marked = kept_word k mark_at (omega arith) ∙ h.marked;
        some = rw (kept_word k event_count_at (omega arith)) h.some;
        events = rw (kept_word k event_count_at (omega arith)) h.events;
        items = rw (kept_word k item_count_at (omega arith)) h.items;
        parts = rw (kept_word k parts_at (omega arith)) h.parts;
        grace = rw (kept_word k grace_at (omega arith)) h.grace;
        clock = rw headed-clock c;
        moving = rw headed-tempo s;
        tempo = rw headed-tempo f;
        last = rw (headed-last, kept_word k event_count_at (omega arith)) l;
        total = rw (headed-total, headed-clock, headed-last) t;
      }
