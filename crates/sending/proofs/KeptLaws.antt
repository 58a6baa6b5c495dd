-- What settling and sending leave alone: they write slots and nothing else.
-- Assumes nothing.
use Rattle.std.proofs.Common.{◌≡◌, ℕ, zero, suc, ◌+◌, ◌≤◌, Bool, true, false, List, set, refl, arith}
use Rattle.base.specs.Tests.{pick}
use Rattle.session.specs.Layout.{slots_at, outcomes_at, word_at}
use Rattle.session.proofs.Kept.{Kept, kept-none, kept_then, kept_set}
use Rattle.sending.specs.Sending.{is_open, slot_by, settled, is_due, fired_from}
use Rattle.sending.proofs.DueLaws.{fired-cons, fired-over}

pub settled-kept : (clock n p : ℕ) (m : List ℕ) → p + n ≤ 2048 → Kept slots_at outcomes_at m (settled clock n p m)
unfolding settled pick
settled-kept clock zero p m f = kept-none slots_at outcomes_at m
settled-kept clock (suc n) p m f = kept_then (step (is_open m p)) (settled-kept clock n (p + 1) _ (omega arith))
  where
    step : (b : Bool) → Kept slots_at outcomes_at m (pick b (set m (slots_at + p) (slot_by clock (word_at m (outcomes_at + p)))) m)
    step true = kept_set (slots_at + p) (slot_by clock (word_at m (outcomes_at + p))) (omega arith) (omega arith) (kept-none slots_at outcomes_at _)
    step false = kept-none slots_at outcomes_at m

pub fired-kept : (clock r n p : ℕ) (m : List ℕ) → p + n ≤ 2048 → Kept slots_at outcomes_at m (fired_from clock r n p m)
unfolding fired_from
fired-kept clock zero n p m f = kept-none slots_at outcomes_at m
fired-kept clock (suc r) zero p m f = kept-none slots_at outcomes_at m
fired-kept clock (suc r) (suc n) p m f =
    go (is_due clock (word_at m (slots_at + p))) refl
    (fired-kept clock r n (p + 1) (set m (slots_at + p) 2) (omega arith))
    (fired-kept clock (suc r) n (p + 1) m (omega arith))
  where
    go : (b : Bool) → is_due clock (word_at m (slots_at + p)) ≡ b → Kept slots_at outcomes_at (set m (slots_at + p) 2) (fired_from clock r n (p + 1) (set m (slots_at + p) 2))
        → Kept slots_at outcomes_at m (fired_from clock (suc r) n (p + 1) m) → Kept slots_at outcomes_at m (fired_from clock (suc r) (suc n) p m)
    go true e a b = rw (fired-cons clock m r n p e) (kept_set (slots_at + p) 2 (omega arith) (omega arith) a)
    go false e a b = rw (fired-over clock m r n p e) b
