-- The rules of performance in the words of documents 01 and 02, group by group: each is a law of `perform`, which goes item by item. E(i) is R.start i, and M(i) the j of
-- `missed j`. An item is performed alone at its summed delay d (`delays-add-up`), and each law leads to performances that the laws speak of again, down to actions.
-- They hold of every orderly reading, so of every score whatever was heard (`score-orderly` of Readings); Bodies has them at any depth. Assumes nothing.
use mathlib.Core.Path.{◌≡◌, refl, ap, ap₂, sym, ◌∙◌}
use Prim.Native.Nat.{ℕ, ◌+◌, ◌-◌}
use mathlib.Core.Bool.{Bool, true, false}
use mathlib.Core.List.{[], ◌∷◌, ◌++◌, append-nil}
use native.Mathlib.Omega.{arith}
use native.Mathlib.Nat.{zero-add}
use Rattle.base.specs.Tests.{pick}
use Rattle.rules.specs.Words.{Synchrony, loose, tight, ErrorWord, local, global, partial, causal}
use Rattle.rules.specs.Score.{Seq, end, action, group}
use Rattle.rules.specs.Heard.{heard, missed, unsettled}
use Rattle.rules.specs.Rules.{Reading, not_yet, global_start, heard_fate, heard_group, waiting, fate_of, played, outcome_of, enter, line, run, top_holder, perform, triples, keep}
use Rattle.rules.specs.Groups.{perform_from, select, past_items, past_groups, future_items, goes_to, slice, slices, global_delay, Orderly}
use Rattle.rules.proofs.Bodies.{silence, perform-heard, perform-missed, perform-late, perform-at, heard-loose-body, heard-tight-body, missed-local-body, missed-global-body, missed-causal-body, missed-partial-body}

-- ---- a sequence

module _ (R : Reading) (i : ℕ) where
  -- "Delays add up along a sequence"
  pub delays-add-up-action : (s d m p : ℕ) (rest : Seq) →
      perform_from R i s (action d m p rest) ≡ perform R i (action (s + d) m p end) ++ perform_from R i (s + d) rest
  unfolding perform_from perform run
  delays-add-up-action s d m p rest = rw (zero-add (s + d))

  -- "a group's own delay counts for what follows it, its body's delays don't"
  pub delays-add-up-group : (s d : ℕ) (y : Synchrony) (e : ErrorWord) (body rest : Seq) →
      perform_from R i s (group d y e body rest) ≡ perform R i (group (s + d) y e body end) ++ perform_from R i (s + d) rest
  unfolding perform_from perform run
  delays-add-up-group s d y e body rest = rw (zero-add (s + d), append-nil)

  pub perform-from-nothing : (x : Seq) → perform R i x ≡ perform_from R i 0 x
  unfolding perform_from perform
  perform-from-nothing x = refl

  -- "without one, i yields nothing yet"
  pub nothing_yet : (d : ℕ) (x : Seq) → R.became i ≡ unsettled → triples (perform_from R i d x) ≡ []
  unfolding perform_from top_holder fate_of outcome_of enter keep
  nothing_yet d x h = rw (h, top_holder) (silence R waiting not_yet (λ s. refl) (λ y e. refl) (λ m l. refl) d x)

-- ---- an item at event i

module _ (R : Reading) (n : ℕ) (o : Orderly R n) (i : ℕ) where
  -- ---- heard

  module _ (is-heard : R.became i ≡ heard) where
    -- "Heard, action: (i, d, a), with d the summed delay."
    pub heard_action : (d m p : ℕ) → perform R i (action d m p end) ≡ line p m (played i d) ∷ []
    unfolding perform run top_holder fate_of heard_fate outcome_of
    heard_action d m p = rw (is-heard, top_holder) (ap (λ (z : ℕ). line p m (played i z) ∷ []) (omega arith))

    -- "Heard, loose group: its body as a sequence from (i, d)."
    pub heard_loose : (d : ℕ) (e : ErrorWord) (x : Seq) → perform R i (group d loose e x end) ≡ perform_from R i d x
    unfolding perform_from top_holder
    heard_loose d e x =
        perform-heard R i d loose e x is-heard ∙ (heard-loose-body R e local i (R.start i + d) (R.start i) 0 d x (omega arith) ∙ rw (is-heard, top_holder))

    -- "Heard, tight group: sliced. An item of the body with ideal date t = E(i) + d + its summed delay goes to the last event k with E(k) <= t. Each k that
    -- receives items gets a loose group with the same error word, at k with delay 0, its items at t - E(k). It runs by these rules, k heard or missed."
    pub heard_tight : (d : ℕ) (e : ErrorWord) (x : Seq) → perform R i (group d tight e x end) ≡ slices R e n (R.start i + d) x
    heard_tight d e x = perform-heard R i d tight e x is-heard ∙ heard-tight-body R n o e i (R.start i + d) x

  -- ---- missed: j is M(i)

  module _ (j : ℕ) (is-missed : R.became i ≡ missed j) where
    -- "Missed, action: (j, max(0, E(i) + d - E(j)), a), with j = M(i)." A difference is never below 0.
    pub missed_action : (d m p : ℕ) → perform R i (action d m p end) ≡ line p m (played j (R.start i + d - R.start j)) ∷ []
    unfolding perform run top_holder fate_of outcome_of
    missed_action d m p = rw (is-missed, top_holder, zero-add d)

    -- "Missed, local: nothing."
    pub missed_local : (d : ℕ) (y : Synchrony) (x : Seq) → triples (perform R i (group d y local x end)) ≡ []
    missed_local d y x = ap triples (perform-missed R i j d y local x is-missed) ∙ missed-local-body R y j (R.start i + d) 0 x

    -- "a missed global group is heard at j with delay max(0, E(i) + d - E(j))"
    pub missed_global : (d : ℕ) (y : Synchrony) (x : Seq) → perform R i (group d y global x end) ≡ perform R j (group (global_delay R i j d) y global x end)
    unfolding global_start global_delay
    missed_global d y x =
        perform-missed R i j d y global x is-missed
        ∙ (missed-global-body R y j (R.start i + d) 0 x
        ∙ (ap (λ (z : ℕ). run R (heard_group y global j z) 0 x) (omega arith)
        ∙ sym (perform-heard R j (global_delay R i j d) y global x (o.next i j is-missed))))

    -- "Missed, causal: the items starting before E(j) are past, the others future. Past items run as missed, at their own delays; the future ones are a heard
    -- causal group of the same synchrony at j, their dates less E(j)."
    pub missed_causal : (d : ℕ) (y : Synchrony) (x : Seq) →
        perform R i (group d y causal x end)
        ≡ perform R i (past_items R j (R.start i + d) (R.start i) x) ++ perform R j (group 0 y causal (future_items R j (R.start i + d) x) end)
    missed_causal d y x =
        perform-missed R i j d y causal x is-missed
        ∙ (missed-causal-body R j y (R.start i + d) (R.start i) x (omega arith)
        ∙ sym (ap₂ ◌++◌ (perform-late R i j _ is-missed) (perform-at R j y causal _ (o.next i j is-missed))))

    -- "Missed, partial: as causal, but past actions are dropped and the future ones stay a partial group; past groups run as missed by their own words."
    pub missed_partial : (d : ℕ) (y : Synchrony) (x : Seq) →
        triples (perform R i (group d y partial x end))
        ≡ triples (perform R i (past_groups R j (R.start i + d) (R.start i) x))
        ++ triples (perform R j (group 0 y partial (future_items R j (R.start i + d) x) end))
    missed_partial d y x =
        ap triples (perform-missed R i j d y partial x is-missed)
        ∙ (missed-partial-body R j y (R.start i + d) (R.start i) x (omega arith)
        ∙ sym (ap₂ ◌++◌ (ap triples (perform-late R i j _ is-missed)) (ap triples (perform-at R j y partial _ (o.next i j is-missed)))))

-- "A group inside goes whole, by its start, with its own words."
pub whole-group : (R : Reading) (k b d : ℕ) (y : Synchrony) (e : ErrorWord) (x : Seq) →
    slice R k b (group d y e x end) ≡ pick (goes_to R k (b + d)) (group (b + d - R.start k) y e x end) end
unfolding slice select pick
whole-group R k b d y e x = go (goes_to R k (b + d)) refl
  where
    go : (v : Bool) → goes_to R k (b + d) ≡ v → slice R k b (group d y e x end) ≡ pick v (group (b + d - R.start k) y e x end) end
    go true p = rw (select, zero-add d, p) (rw (zero-add d))
    go false p = rw (select, zero-add d, p)
