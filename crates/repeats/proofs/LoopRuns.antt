-- When a loop's passes and a curve's values come, by the rules' own dates: pass n starts n periods after its loop's group, value n is sent n steps after its curve's.
-- Assumes nothing.
use mathlib.Core.Path.{◌≡◌, refl, ap, ◌∙◌}
use mathlib.Core.List.{List, [], ◌∷◌, ◌++◌}
use Prim.Native.Nat.{ℕ, zero, suc, ◌+◌, ◌*◌}
use native.Mathlib.Nat.{suc-mul, zero-mul}
use native.Mathlib.Omega.{arith}
use lib.ListN.{length}
use Rattle.page.specs.declared.Item.{Item}
use Rattle.rules.specs.Words.{synchrony_of, error_of}
use Rattle.rules.specs.Rules.{Reading, Holder, fate_of, enter, run}
use Rattle.unfolding.specs.Extended.{Numbered}
use Rattle.unfolding.specs.Unfolded.{Unfolded, pass_item, send_item, passes, sends, becomes, items}
use Rattle.unfolding.proofs.Shapes.{becomes-loop, becomes-curve}
use Rattle.unfolding.proofs.CountLaws.{passes-items, sends_items}
use Rattle.repeats.specs.Sequences.{sequence}
use Rattle.repeats.specs.Runs.{pass_holder, pass_run, pass_runs, send_runs}

-- ---- passes and values, one after the other

module _ (R : Reading) (h : Holder) (i : Item) where
  passes-from : (period p : ℕ) (body : Unfolded) (k n s d q : ℕ) → s + d ≡ k * period → q ≡ p + k * (1 + items body) →
      run R h s (sequence q (passes i period d n body)) ≡ pass_runs R h i period p body k n
  unfolding passes sequence run pass_runs pass_run pass_holder pass_item
  passes-from period p body k zero s d q e f = refl
  passes-from period p body k (suc n) s d q e f =
      let next : s + d + period ≡ suc k * period = omega (arith, suc-mul k period) in
      let place : q + 1 + items body ≡ p + suc k * (1 + items body) = omega (arith, suc-mul k (1 + items body)) in
      let at : q + 1 ≡ p + k * (1 + items body) + 1 = omega arith in
      rw (passes-from period p body (suc k) n (s + d) period (q + 1 + items body) next place, e, at)

  -- A loop's passes run one after the other: pass n, from 0 on, is its body held by a group of the loop's words that starts n periods after its loop's start.
  pub loop-passes : (period p n : ℕ) (body : Unfolded) → run R h 0 (sequence p (passes i period 0 n body)) ≡ pass_runs R h i period p body 0 n
  loop-passes period p n body = passes-from period p body 0 n 0 0 p (omega (arith, zero-mul period)) (omega (arith, zero-mul (1 + items body)))

  sends-from : (step p k : ℕ) (ns : List ℕ) (s d q : ℕ) → s + d ≡ k * step → q ≡ p + k → run R h s (sequence q (sends i step d ns)) ≡ send_runs R h step p k ns
  unfolding sends sequence run send_runs send_item
  sends-from step p k [] s d q e f = refl
  sends-from step p k (n ∷ ns) s d q e f =
      let next : s + d + step ≡ suc k * step = omega (arith, suc-mul k step) in
      rw (sends-from step p (suc k) ns (s + d) step (q + 1) next (omega arith), e, f)

  -- A curve's values are sent one after the other: value n, from 0 on, n steps after its curve's start.
  pub curve-sends : (step p : ℕ) (ns : List ℕ) → run R h 0 (sequence p (sends i step 0 ns)) ≡ send_runs R h step p 0 ns
  curve-sends step p ns = sends-from step p 0 ns 0 0 p (omega (arith, zero-mul step)) (omega arith)

-- ---- where an item of an extended score is a loop or a curve

module _ (R : Reading) (h : Holder) (s p : ℕ) (x : Numbered) (body rest : Unfolded) where
  -- What holds the items of the group that it becomes.
  abbrev pub entered : Holder
  entered = enter (fate_of R h (s + x.item.delay.0)) (synchrony_of x.item.synchrony) (error_of x.item.error)

  -- A loop's group starts where any group with its delay would, its passes run in it, and what follows the loop is dated from its own delay.
  pub loop-run : x.item.kind ≡ 2 →
      run R h s (sequence p (becomes x body rest))
      ≡ pass_runs R entered x.item x.each (p + 1) body 0 x.times
      ++ run R h (s + x.item.delay.0) (sequence (p + 1 + (x.times + x.times * items body)) rest)
  unfolding sequence run
  loop-run k =
      ap (λ (u : Unfolded). run R h s (sequence p u)) (becomes-loop x body rest k)
      ∙ rw (passes-items x.item x.each 0 x.times body, loop-passes R entered x.item x.each (p + 1) x.times body)

  -- So with a curve's group and its values.
  pub curve-run : x.item.kind ≡ 3 →
      run R h s (sequence p (becomes x body rest))
      ≡ send_runs R entered x.each (p + 1) 0 x.numbers ++ run R h (s + x.item.delay.0) (sequence (p + 1 + length x.numbers) rest)
  unfolding sequence run
  curve-run k =
      ap (λ (u : Unfolded). run R h s (sequence p u)) (becomes-curve x body rest k)
      ∙ rw (sends_items x.item x.each 0 x.numbers, curve-sends R entered x.item x.each (p + 1) x.numbers)
