-- Document 01's rules have one reading: the rules item by item keep to them, and any two that keep to them yield the same triples.
-- By induction on the number of items; within it a missed group goes back to a heard one, and a tight one to loose ones. Assumes nothing.
use mathlib.Core.Path.{◌≡◌, refl, ap, ap₂, sym, ◌∙◌}
use Prim.Native.Nat.{ℕ, zero, suc, ◌+◌, ◌≤◌}
use mathlib.Core.Bool.{Bool, true, false}
use mathlib.Core.List.{List, [], ◌++◌}
use native.Mathlib.Omega.{arith}
use native.Mathlib.Nat.{le_refl, le_trans}
use Rattle.rules.specs.Words.{Synchrony, loose, tight, ErrorWord, local, global, partial, causal}
use Rattle.rules.specs.Score.{Seq, end, action, group}
use Rattle.rules.specs.Heard.{Taken, heard, missed, unsettled}
use Rattle.rules.specs.Rules.{Reading, run, perform, Triple, keep, triples}
use Rattle.rules.specs.Groups.{perform_from, select, past_items, past_groups, future_items, split_of, slice, slices, global_delay, Orderly}
use Rattle.rules.specs.GroupWise.{sliced, GroupWise}
use Rattle.rules.proofs.Sift.{triples-append}
use Rattle.rules.proofs.RuleLaws

-- ---- fewer items

items_in : Seq → ℕ
items_in end = 0
items_in (action d m p rest) = suc (items_in rest)
items_in (group d y e body rest) = suc (items_in body + items_in rest)

select-few : (dated : ℕ → ℕ) (A G : ℕ → Bool) (b s c : ℕ) (x : Seq) → items_in (select dated A G b s c x) ≤ items_in x
unfolding select items_in
select-few dated A G b s c end = omega arith
select-few dated A G b s c (action d m p r) = go (A (b + (s + d))) refl (λ z. select-few dated A G b (s + d) z r)
  where
    go : (v : Bool) → A (b + (s + d)) ≡ v → ((z : ℕ) → items_in (select dated A G b (s + d) z r) ≤ items_in r) →
        items_in (select dated A G b s c (action d m p r)) ≤ suc (items_in r)
    go true e ih = rw (e, select) (omega (arith, ih (dated (b + (s + d)))))
    go false e ih = rw (e, select) (omega (arith, ih c))
select-few dated A G b s c (group d y w x r) = go (G (b + (s + d))) refl (λ z. select-few dated A G b (s + d) z r)
  where
    go : (v : Bool) → G (b + (s + d)) ≡ v → ((z : ℕ) → items_in (select dated A G b (s + d) z r) ≤ items_in r) →
        items_in (select dated A G b s c (group d y w x r)) ≤ suc (items_in x + items_in r)
    go true e ih = rw (e, select) (omega (arith, ih (dated (b + (s + d)))))
    go false e ih = rw (e, select) (omega (arith, ih c))

past-few : (R : Reading) (j b c : ℕ) (x : Seq) → items_in (past_items R j b c x) ≤ items_in x
unfolding past_items
past-few R j b c x = select-few _ _ _ b 0 c x

groups-few : (R : Reading) (j b c : ℕ) (x : Seq) → items_in (past_groups R j b c x) ≤ items_in x
unfolding past_groups
groups-few R j b c x = select-few _ _ _ b 0 c x

future-few : (R : Reading) (j b : ℕ) (x : Seq) → items_in (future_items R j b x) ≤ items_in x
unfolding future_items
future-few R j b x = select-few _ _ _ b 0 _ x

slice-few : (R : Reading) (k b : ℕ) (x : Seq) → items_in (slice R k b x) ≤ items_in x
unfolding slice
slice-few R k b x = select-few _ _ _ b 0 _ x

-- ---- two that keep to the rules

module _ (R : Reading) (G : (i j d : ℕ) → ℕ) (n : ℕ) (o : Orderly R n) (P Q : (i d : ℕ) → Seq → List Triple) (p : GroupWise R (split_of R) G n P) (q : GroupWise R (split_of R) G n Q) where
  module _ (N : ℕ) (ih : (i s : ℕ) (x : Seq) → items_in x ≤ N → P i s x ≡ Q i s x) where
    -- A group of synchrony y and at most N items, alone, where one that is heard yields the same.
    abbrev HeardSame : Synchrony → Type 0
    HeardSame y = (i d : ℕ) (e : ErrorWord) (x : Seq) → items_in x ≤ N → R.became i ≡ heard → P i 0 (group d y e x end) ≡ Q i 0 (group d y e x end)

    missed-same : (y : Synchrony) → HeardSame y → (i j d : ℕ) (e : ErrorWord) (x : Seq) → items_in x ≤ N → R.became i ≡ missed j →
        P i 0 (group d y e x end) ≡ Q i 0 (group d y e x end)
    unfolding split_of
    missed-same y H i j d local x f h = p.missed_local i j d y x h ∙ sym (q.missed_local i j d y x h)
    missed-same y H i j d global x f h = p.missed_global i j d y x h ∙ (H j (G i j d) global x f (o.next i j h) ∙ sym (q.missed_global i j d y x h))
    missed-same y H i j d partial x f h =
        let b = R.start i + d in
        p.missed_partial i j d y x h
        ∙ (ap₂ ◌++◌
        (ih i 0 (past_groups R j b (R.start i) x) (le_trans (groups-few R j b (R.start i) x) f))
        (H j 0 partial (future_items R j b x) (le_trans (future-few R j b x) f) (o.next i j h))
        ∙ sym (q.missed_partial i j d y x h))
    missed-same y H i j d causal x f h =
        let b = R.start i + d in
        p.missed_causal i j d y x h
        ∙ (ap₂ ◌++◌
        (ih i 0 (past_items R j b (R.start i) x) (le_trans (past-few R j b (R.start i) x) f))
        (H j 0 causal (future_items R j b x) (le_trans (future-few R j b x) f) (o.next i j h))
        ∙ sym (q.missed_causal i j d y x h))

    group-same : (y : Synchrony) → HeardSame y → (i d : ℕ) (e : ErrorWord) (x : Seq) → items_in x ≤ N → P i 0 (group d y e x end) ≡ Q i 0 (group d y e x end)
    group-same y H i d e x f = go (R.became i) refl
      where
        go : (a : Taken) → R.became i ≡ a → P i 0 (group d y e x end) ≡ Q i 0 (group d y e x end)
        go heard h = H i d e x f h
        go (missed j) h = missed-same y H i j d e x f h
        go unsettled h = p.nothing_yet i 0 _ h ∙ sym (q.nothing_yet i 0 _ h)

    loose-heard : HeardSame loose
    loose-heard i d e x f h = p.heard_loose i d e x h ∙ (ih i d x f ∙ sym (q.heard_loose i d e x h))

    sliced-same : (e : ErrorWord) (k b : ℕ) (x : Seq) → items_in x ≤ N → sliced R P e k b x ≡ sliced R Q e k b x
    unfolding sliced
    sliced-same e zero b x f = refl
    sliced-same e (suc k) b x f =
        ap₂ ◌++◌ (sliced-same e k b x f) (group-same loose loose-heard (suc k) 0 e (slice R (suc k) b x) (le_trans (slice-few R (suc k) b x) f))

    tight-heard : HeardSame tight
    tight-heard i d e x f h = p.heard_tight i d e x h ∙ (sliced-same e n (R.start i + d) x f ∙ sym (q.heard_tight i d e x h))

    alone : (y : Synchrony) (i d : ℕ) (e : ErrorWord) (x : Seq) → items_in x ≤ N → P i 0 (group d y e x end) ≡ Q i 0 (group d y e x end)
    alone loose i d e x f = group-same loose loose-heard i d e x f
    alone tight i d e x f = group-same tight tight-heard i d e x f

    action-same : (i d m a : ℕ) → P i 0 (action d m a end) ≡ Q i 0 (action d m a end)
    action-same i d m a = go (R.became i) refl
      where
        go : (v : Taken) → R.became i ≡ v → P i 0 (action d m a end) ≡ Q i 0 (action d m a end)
        go heard h = p.heard_action i d m a h ∙ sym (q.heard_action i d m a h)
        go (missed j) h = p.missed_action i j d m a h ∙ sym (q.missed_action i j d m a h)
        go unsettled h = p.nothing_yet i 0 _ h ∙ sym (q.nothing_yet i 0 _ h)

    sequence-same : (i s : ℕ) (x : Seq) → items_in x ≤ suc N → P i s x ≡ Q i s x
    unfolding items_in
    sequence-same i s end f = p.no_items i s ∙ sym (q.no_items i s)
    sequence-same i s (action d m a r) f =
        p.action_first i s d m a r
        ∙ (ap₂ ◌++◌ (action-same i (s + d) m a) (sequence-same i (s + d) r (omega arith)) ∙ sym (q.action_first i s d m a r))
    sequence-same i s (group d y e x r) f =
        p.group_first i s d y e x r
        ∙ (ap₂ ◌++◌ (alone y i (s + d) e x (omega arith)) (sequence-same i (s + d) r (omega arith)) ∙ sym (q.group_first i s d y e x r))

  none-same : (i s : ℕ) (x : Seq) → items_in x ≤ 0 → P i s x ≡ Q i s x
  unfolding items_in
  none-same i s end f = p.no_items i s ∙ sym (q.no_items i s)
  none-same i s (action d m a r) f = absurd (omega arith)
  none-same i s (group d y e x r) f = absurd (omega arith)

  up_to : (N i s : ℕ) (x : Seq) → items_in x ≤ N → P i s x ≡ Q i s x
  up_to zero i s x f = none-same i s x f
  up_to (suc N) i s x f = sequence-same N (up_to N) i s x f

  pub one-reading : (i s : ℕ) (x : Seq) → P i s x ≡ Q i s x
  one-reading i s x = up_to (items_in x) i s x (le_refl (items_in x))

-- ---- the rules item by item

module _ (R : Reading) (n : ℕ) (o : Orderly R n) where
  abbrev pub yields : (i d : ℕ) → Seq → List Triple
  yields i d x = triples (perform_from R i d x)

  single : (i : ℕ) (x : Seq) → yields i 0 x ≡ triples (perform R i x)
  single i x = ap triples (sym (RuleLaws.perform-from-nothing R i x))

  slices-yield : (e : ErrorWord) (k b : ℕ) (x : Seq) → triples (slices R e k b x) ≡ sliced R yields e k b x
  unfolding slices sliced triples
  slices-yield e zero b x = refl
  slices-yield e (suc k) b x = triples-append (slices R e k b x) _ ∙ ap₂ ◌++◌ (slices-yield e k b x) (sym (single (suc k) _))

  none : (i s : ℕ) → yields i s end ≡ []
  unfolding perform_from run triples
  none i s = refl

  join : (i j s : ℕ) (l r : Seq) → triples (perform R i l ++ perform_from R j s r) ≡ yields i 0 l ++ yields j s r
  join i j s l r = triples-append (perform R i l) (perform_from R j s r) ∙ ap (λ (z : List Triple). z ++ yields j s r) (sym (single i l))

  join-alone : (i j : ℕ) (l r : Seq) → triples (perform R i l) ++ triples (perform R j r) ≡ yields i 0 l ++ yields j 0 r
  join-alone i j l r = ap₂ ◌++◌ (sym (single i l)) (sym (single j r))

  join-lines : (i j : ℕ) (l r : Seq) → triples (perform R i l ++ perform R j r) ≡ yields i 0 l ++ yields j 0 r
  join-lines i j l r = triples-append (perform R i l) (perform R j r) ∙ join-alone i j l r

  pub rules-group-wise : GroupWise R (split_of R) (global_delay R) n yields
  unfolding triples keep split_of
  rules-group-wise =
      record {
        no_items = none;
        action_first = λ i s d m p r. ap triples (RuleLaws.delays-add-up-action R i s d m p r) ∙ join i i (s + d) (action (s + d) m p end) r;
        group_first = λ i s d y e x r. ap triples (RuleLaws.delays-add-up-group R i s d y e x r) ∙ join i i (s + d) (group (s + d) y e x end) r;
        nothing_yet = λ i s x h. RuleLaws.nothing_yet R i s x h;
        heard_action = λ i d m p h. single i _ ∙ ap triples (RuleLaws.heard_action R n o i h d m p);
        heard_loose = λ i d e x h. single i _ ∙ ap triples (RuleLaws.heard_loose R n o i h d e x);
        heard_tight = λ i d e x h. single i _ ∙ (ap triples (RuleLaws.heard_tight R n o i h d e x) ∙ slices-yield e n (R.start i + d) x);
        missed_action = λ i j d m p h. single i _ ∙ ap triples (RuleLaws.missed_action R n o i j h d m p);
        missed_local = λ i j d y x h. single i _ ∙ RuleLaws.missed_local R n o i j h d y x;
        missed_global = λ i j d y x h. single i _ ∙ (ap triples (RuleLaws.missed_global R n o i j h d y x) ∙ sym (single j _));
        missed_causal = λ i j d y x h. single i _ ∙ (ap triples (RuleLaws.missed_causal R n o i j h d y x) ∙ join-lines i j _ _);
        missed_partial = λ i j d y x h. single i _ ∙ (RuleLaws.missed_partial R n o i j h d y x ∙ join-alone i j _ _);
      }

  -- Whatever keeps to document 01's rules, split on the terms of the opening and with document 02's delay, yields just the triples that the rules item by item do.
  pub only-reading : (P : (i d : ℕ) → Seq → List Triple) → GroupWise R (split_of R) (global_delay R) n P → (i d : ℕ) (x : Seq) → P i d x ≡ triples (perform_from R i d x)
  only-reading P p i d x = one-reading R (global_delay R) n o P yields p rules-group-wise i d x
