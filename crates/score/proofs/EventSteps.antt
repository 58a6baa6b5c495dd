-- One step of the check of the events, in the code's own terms.
-- Assumes nothing.
use mathlib.Core.Path.{◌≡◌, sym, ◌∙◌}
use mathlib.Core.Logic.{◌⊎◌, inl, inr}
use mathlib.Core.List.{List, [], ◌∷◌}
use Prim.Native.Nat.{ℕ, ◌+◌, ◌-◌, ◌<◌, ◌≤◌}
use borrow.Author.Rules.{rules}
use Rattle.std.specs.Prelude.{Ok, Err}
use Rattle.base.specs.Tests.{between}
use Rattle.base.specs.Checks.{Check, need, first_fault}
use Rattle.base.proofs.TestLaws.{between_in, between-under, between-over}
use Rattle.contents.specs.declared.Fault.{Fault}
use Rattle.contents.specs.declared.Fault.TheVariants.{BadEvent}
use Rattle.contents.specs.Limits.{event_size, longest}
use Rattle.contents.specs.Bytes.{u32_at}
use Rattle.contents.specs.Replies.{verdict_of}
use Rattle.score.specs.Events.{durations_at, events_right}
use Rattle.contents.proofs.Verdicts.{verdict-stop, check-next}
use Rattle.score.proofs.Decoded.{durations-none, durations-more}

-- what the events from at on are found to be
abbrev found : List ℕ → ℕ → ℕ → Check Fault
found f at count = events_right at (durations_at f at count)

module _ (f : List ℕ) (at count : ℕ) (W : Check Fault) where
  pub events-none : count ≤ 0 → found f at count ≡ W → Ok tt ≡ verdict_of W
  unfolding events_right verdict_of
  events-none p q = rw (← q, durations-none f at count p)

  more : 0 < count → found f at count ≡ first_fault (need (between 1 longest (u32_at f at)) (BadEvent at) ∷ found f (at + event_size) (count - 1) ∷ [])
  unfolding events_right
  more p = rw (durations-more f at count p)

  module _ (d : ℕ) (some : 0 < count) (e : d ≡ u32_at f at) where
    events-under : d < 1 → found f at count ≡ W → Err (BadEvent at) ≡ verdict_of W
    events-under p q = rw (← q, more some) (verdict-stop _ _ _ (rw (← e) (between-under 1 longest d p)))

    events-over : longest < d → found f at count ≡ W → Err (BadEvent at) ≡ verdict_of W
    events-over p q = rw (← q, more some) (verdict-stop _ _ _ (rw (← e) (between-over 1 longest d p)))

    pub events-out : (d < 1) ⊎ ((1 ≤ d) × (longest < d)) → found f at count ≡ W → Err (BadEvent at) ≡ verdict_of W
    events-out (inl p) q = events-under p q
    events-out (inr p) q = events-over p.1 q

    pub events-step : (next left : ℕ) → 1 ≤ d → d ≤ longest → next ≡ at + event_size → left ≡ count - 1 → found f at count ≡ W → found f next left ≡ W
    events-step next left lo hi a l q = rw (a, l) (sym (more some ∙ check-next _ (BadEvent at) _ (rw (← e) (between_in 1 longest d lo hi))) ∙ q)

pub ruleset events = (events-none, events-out, events-step, rules)
