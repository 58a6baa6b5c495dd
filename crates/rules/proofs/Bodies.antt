-- What a group's body yields, by what holds it, at any depth: the same as its past and future items, or its slices, each under their own rule.
-- Each holds since the two sides give every item the same fate by its date (Sift). Assumes nothing.
use mathlib.Core.Path.{◌≡◌, refl, ap, ap₂, sym, ◌∙◌}
use Prim.Native.Nat.{ℕ, zero, suc, ◌+◌, ◌≤◌, ◌<◌}
use mathlib.Core.Bool.{Bool, true, false}
use mathlib.Core.List.{List, [], ◌++◌, append-nil}
use native.Mathlib.Omega.{arith}
use native.Mathlib.Nat.{add-zero, zero-add}
use lib.Dec.{leb, eqb}
use borrow.Author.Tests.{leb-true, leb-false, le-leb, lt-leb, eqb-true, eqb-false, ne_eqb, not-true}
use Rattle.base.specs.Tests.{pick}
use Rattle.rules.specs.Words.{Synchrony, loose, tight, ErrorWord, local, global, partial, causal}
use Rattle.rules.specs.Score.{Seq, end, action, group}
use Rattle.rules.specs.Heard.{Taken, heard, missed, unsettled}
use Rattle.rules.specs.Rules.{Reading, Fate, missed_by, groups_only, nothing, grains, past, future_date, global_start, missed_fate, loosely, sliced_fate, heard_fate, Holder, heard_group, missed_group, missed_top, silent, waiting, fate_of, outcome_of, enter, Line, run, top_holder, perform, Triple, triples, keep}
use Rattle.rules.specs.Groups.{own_date, past_items, past_groups, future, future_items, goes_to, slice, slices, Orderly}
use Rattle.rules.proofs.PastLaws.{past_first, future-from, future-rises}
use Rattle.rules.proofs.Sift.{all, run-alike, sift, sift-all, sift-select, sift-same, sift-tests, sift-groups, sift-none, Splits, sift-split, triples-append, sift-dropped}

-- ---- one rule for the whole body

-- What holds the items of a group that is written at event i and starts at the date b, by what has become of i.
unfoldable pub held : Synchrony → ErrorWord → (i b : ℕ) → Taken → Holder
held y e i b heard = heard_group y e i b
held y e i b (missed j) = missed_group y e j b
held y e i b unsettled = waiting

module _ (R : Reading) where
  enter-top : (y : Synchrony) (e : ErrorWord) (i d : ℕ) (a : Taken) → enter (fate_of R (top_holder R i a) d) y e ≡ held y e i (R.start i + d) a
  unfolding enter fate_of top_holder held heard_fate
  enter-top y e i d heard = refl
  enter-top y e i d (missed j) = refl
  enter-top y e i d unsettled = refl

  pub perform-group : (i d : ℕ) (y : Synchrony) (e : ErrorWord) (x : Seq) → perform R i (group d y e x end) ≡ run R (held y e i (R.start i + d) (R.became i)) 0 x
  unfolding perform run
  perform-group i d y e x =
      append-nil _ ∙ ap (λ (h : Holder). run R h 0 x) (ap (λ (z : ℕ). enter (fate_of R (top_holder R i (R.became i)) z) y e) (zero-add d) ∙ enter-top y e i d (R.became i))

  pub perform-heard : (i d : ℕ) (y : Synchrony) (e : ErrorWord) (x : Seq) → R.became i ≡ heard →
      perform R i (group d y e x end) ≡ run R (heard_group y e i (R.start i + d)) 0 x
  unfolding held
  perform-heard i d y e x h = perform-group i d y e x ∙ rw (h, held)

  pub perform-missed : (i j d : ℕ) (y : Synchrony) (e : ErrorWord) (x : Seq) → R.became i ≡ missed j →
      perform R i (group d y e x end) ≡ run R (missed_group y e j (R.start i + d)) 0 x
  unfolding held
  perform-missed i j d y e x h = perform-group i d y e x ∙ rw (h, held)

  -- A missed sequence, and a group that is heard with delay 0.
  pub perform-late : (i j : ℕ) (x : Seq) → R.became i ≡ missed j → perform R i x ≡ run R (missed_top j (R.start i)) 0 x
  unfolding perform top_holder
  perform-late i j x h = rw (h, top_holder)

  pub perform-at : (j : ℕ) (y : Synchrony) (e : ErrorWord) (x : Seq) → R.became j ≡ heard →
      perform R j (group 0 y e x end) ≡ run R (heard_group y e j (R.start j)) 0 x
  perform-at j y e x h = perform-heard j 0 y e x h ∙ ap (λ (z : ℕ). run R (heard_group y e j z) 0 x) (add-zero (R.start j))

  -- Under a holder that gives each item a fate by which nothing is played, and enters its groups by itself, nothing is.
  pub silence : (h : Holder) (f : Fate) → ((s : ℕ) → fate_of R h s ≡ f) → ((y : Synchrony) (e : ErrorWord) → enter f y e ≡ h) →
      ((m : ℕ) (l : List Triple) → keep (outcome_of R f) m l ≡ l) → (s : ℕ) (x : Seq) → triples (run R h s x) ≡ []
  unfolding run triples
  silence h f F N K s end = refl
  silence h f F N K s (action d m p r) = rw (F (s + d), K m (triples (run R h (s + d) r))) (silence h f F N K (s + d) r)
  silence h f F N K s (group d y e x r) =
      rw (F (s + d), N y e) (triples-append (run R h 0 x) (run R h (s + d) r) ∙ ap₂ ◌++◌ (silence h f F N K 0 x) (silence h f F N K (s + d) r))

  pub missed-local-body : (y : Synchrony) (j b s : ℕ) (x : Seq) → triples (run R (missed_group y local j b) s x) ≡ []
  unfolding fate_of missed_fate enter outcome_of keep
  missed-local-body y j b s x =
      ap triples (run-alike R (missed_group y local j b) silent s s x (λ n. refl)) ∙ silence silent nothing (λ n. refl) (λ v e. refl) (λ m l. refl) s x

  pub missed-global-body : (y : Synchrony) (j b s : ℕ) (x : Seq) → run R (missed_group y global j b) s x ≡ run R (heard_group y global j (global_start R j b)) s x
  unfolding fate_of missed_fate
  missed-global-body y j b s x = run-alike R _ _ s s x (λ n. refl)

  -- A loose group's word is not asked where the group is heard, and its start and the delays' sum count together.
  pub heard-loose-body : (e w : ErrorWord) (i a b s u : ℕ) (x : Seq) → a + s ≡ b + u → run R (heard_group loose e i a) s x ≡ run R (heard_group loose w i b) u x
  unfolding fate_of heard_fate
  heard-loose-body e w i a b s u x h = run-alike R _ _ s u x (λ n. ap (loosely i) (omega arith))

-- ---- past and future

module _ (R : Reading) (j : ℕ) where
  not-past : (t : ℕ) → future R j t ≡ true → past R j t ≡ false
  unfolding future
  not-past t p = not-true _ p

  past-then-future : Splits all (past R j) (future R j)
  unfolding future
  past-then-future =
      record {
        earlier = λ t p. (refl, rw p);
        later = λ t p. rw p;
        apart = λ t u l p. past_first R j t u l (not-past t p);
      }

  -- A missed body whose past items run as P says by their dates, and whose future ones are heard at j.
  module _ (y : Synchrony) (e : ErrorWord) (P : ℕ → Fate) where
    abbrev either : ℕ → Fate
    either t = pick (past R j t) (P t) (heard_fate R y e j (future_date R j t))

    either-past : (t : ℕ) → past R j t ≡ true → either t ≡ P t
    unfolding pick
    either-past t p = rw (p, pick)

    either-future : (t : ℕ) → future R j t ≡ true → either t ≡ heard_fate R y e j (future_date R j t)
    unfolding pick
    either-future t p = rw (not-past t p, pick)

    future-select : (b : ℕ) (x : Seq) →
        run R (heard_group y e j (R.start j)) 0 (future_items R j b x) ≡ sift R (future R j) (future R j) (λ t. heard_fate R y e j (future_date R j t)) b 0 x
    unfolding future_items fate_of
    future-select b x =
        sift-select R (future_date R j) (future-rises R j) _ _ (heard_group y e j (R.start j)) (heard_fate R y e j) (R.start j) (λ n. refl) b 0 0 (R.start j) x
        (add-zero _) (λ t l p. future-from R j t) (λ t l p. future-from R j t)

    cut : (b : ℕ) (x : Seq) → ((n : ℕ) → fate_of R (missed_group y e j b) n ≡ either (b + n)) →
        run R (missed_group y e j b) 0 x ≡ sift R (past R j) (past R j) P b 0 x ++ run R (heard_group y e j (R.start j)) 0 (future_items R j b x)
    cut b x F =
        sift-all R (missed_group y e j b) either b 0 x F
        ∙ (sift-split R all (past R j) (future R j) either b past-then-future 0 x
        ∙ ap₂ ◌++◌
        (sift-same R _ _ either P b 0 x either-past either-past)
        (sift-same R _ _ either _ b 0 x either-future either-future ∙ sym (future-select b x)))

  module _ (y : Synchrony) (b c : ℕ) (x : Seq) (l : c ≤ b) where
    from_start : (A : ℕ → Bool) (t : ℕ) → b + 0 ≤ t → A t ≡ true → c ≤ t
    from_start A t h p = omega arith

    pub missed-causal-body :
        run R (missed_group y causal j b) 0 x
        ≡ run R (missed_top j c) 0 (past_items R j b c x) ++ run R (heard_group y causal j (R.start j)) 0 (future_items R j b x)
    unfolding fate_of missed_fate past_items
    missed-causal-body =
        cut y causal (λ t. missed_by j (grains t)) b x (λ n. refl)
        ∙ ap (λ (z : List Line). z ++ run R (heard_group y causal j (R.start j)) 0 (future_items R j b x))
        (sym (sift-select R own_date (λ t u h. h) (past R j) (past R j) (missed_top j c) (λ t. missed_by j (grains t)) c (λ n. refl) b 0 0 c x (add-zero c)
        (from_start (past R j)) (from_start (past R j))))

    -- Past groups run as missed by their own words, and keep their dates.
    past-groups : run R (missed_top j c) 0 (past_groups R j b c x) ≡ sift R (λ t. false) (past R j) (λ t. groups_only j (grains t)) b 0 x
    unfolding fate_of past_groups enter
    past-groups =
        sift-select R own_date (λ t u h. h) (λ t. false) (past R j) (missed_top j c) (λ t. missed_by j (grains t)) c (λ n. refl) b 0 0 c x (add-zero c)
        (from_start (λ t. false)) (from_start (past R j))
        ∙ sift-groups R (past R j) (λ t. missed_by j (grains t)) (λ t. groups_only j (grains t)) b 0 x (λ t o w. refl)

    pub missed-partial-body :
        triples (run R (missed_group y partial j b) 0 x)
        ≡ triples (run R (missed_top j c) 0 (past_groups R j b c x)) ++ triples (run R (heard_group y partial j (R.start j)) 0 (future_items R j b x))
    unfolding fate_of missed_fate outcome_of
    missed-partial-body =
        ap triples (cut y partial (λ t. groups_only j (grains t)) b x (λ n. refl))
        ∙ (triples-append (sift R (past R j) (past R j) (λ t. groups_only j (grains t)) b 0 x) _
        ∙ ap (λ (z : List Triple). z ++ triples (run R (heard_group y partial j (R.start j)) 0 (future_items R j b x)))
        (sift-dropped R (past R j) (λ t. groups_only j (grains t)) b 0 x (λ t p. refl) ∙ ap triples (sym past-groups)))

-- ---- slices

module _ (R : Reading) (n : ℕ) (o : Orderly R n) where
  -- the dates whose event is k or earlier
  unfoldable by : ℕ → ℕ → Bool
  by k t = leb (R.last_before t) k

  by-none : (t : ℕ) → by 0 t ≡ false
  unfolding by
  by-none t = lt-leb (R.last_before t) 0 (o.some t)

  by_all : (t : ℕ) → all t ≡ by n t
  unfolding by
  by_all t = sym (le-leb (R.last_before t) n (o.fits t))

  event-by-event : (k : ℕ) → Splits (by (suc k)) (by k) (goes_to R (suc k))
  unfolding by goes_to
  event-by-event k =
      record {
        earlier =
            λ t p. let l = leb-true (R.last_before t) k p in (le-leb (R.last_before t) (suc k) (omega arith), ne_eqb (R.last_before t) (suc k) (λ e. omega arith));
        later = λ t p. beyond (R.last_before t) (leb-false (R.last_before t) k p);
        apart = λ t u l p. let e = eqb-true (R.last_before t) (suc k) p in lt-leb (R.last_before u) k (omega (arith, o.rises t u l));
      }
    where
      beyond : (a : ℕ) → k < a → leb a (suc k) ≡ eqb a (suc k)
      beyond a h = go (eqb a (suc k)) refl
        where
          go : (v : Bool) → eqb a (suc k) ≡ v → leb a (suc k) ≡ v
          go true p = le-leb a (suc k) (omega (arith, eqb-true a (suc k) p))
          go false p = let q : a ≡ suc k → ⊥ = eqb-false a (suc k) p in lt-leb a (suc k) (omega arith)

  slice-fate : (e : ErrorWord) (k m : ℕ) (a : Taken) → fate_of R (held loose e k (R.start k) a) m ≡ sliced_fate R e k (R.start k + m) a
  unfolding held fate_of sliced_fate heard_fate
  slice-fate e k m heard = refl
  slice-fate e k m (missed j) = ap (λ (z : ℕ). missed_fate R e j (R.start k) z (loosely j)) (omega arith)
  slice-fate e k m unsettled = refl

  slice-from : (k t : ℕ) → goes_to R k t ≡ true → R.start k ≤ t
  unfolding goes_to
  slice-from k t p = rw (eqb-true (R.last_before t) k p) at (o.begun t)

  slice-select : (e : ErrorWord) (k b : ℕ) (x : Seq) →
      run R (held loose e k (R.start k) (R.became k)) 0 (slice R k b x) ≡ sift R (goes_to R k) (goes_to R k) (λ t. sliced_fate R e k t (R.became k)) b 0 x
  unfolding slice
  slice-select e k b x =
      sift-select R own_date (λ t u h. h) _ _ (held loose e k (R.start k) (R.became k)) (λ t. sliced_fate R e k t (R.became k)) (R.start k)
      (λ m. slice-fate e k m (R.became k)) b 0 0 (R.start k) x (add-zero _) (λ t l p. slice-from k t p) (λ t l p. slice-from k t p)

  goes-fate : (e : ErrorWord) (i k t : ℕ) → goes_to R k t ≡ true → heard_fate R tight e i t ≡ sliced_fate R e k t (R.became k)
  unfolding goes_to heard_fate
  goes-fate e i k t p = rw (eqb-true (R.last_before t) k p)

  pub slice-body : (e : ErrorWord) (i k b : ℕ) (x : Seq) →
      run R (held loose e k (R.start k) (R.became k)) 0 (slice R k b x) ≡ sift R (goes_to R k) (goes_to R k) (heard_fate R tight e i) b 0 x
  slice-body e i k b x = slice-select e k b x ∙ sym (sift-same R _ _ (heard_fate R tight e i) _ b 0 x (goes-fate e i k) (goes-fate e i k))

  slices-by : (e : ErrorWord) (i k b : ℕ) (x : Seq) → sift R (by k) (by k) (heard_fate R tight e i) b 0 x ≡ slices R e k b x
  unfolding slices
  slices-by e i zero b x = sift-none R (by 0) _ b 0 x (λ t l. by-none t)
  slices-by e i (suc k) b x =
      sift-split R (by (suc k)) (by k) (goes_to R (suc k)) (heard_fate R tight e i) b (event-by-event k) 0 x
      ∙ ap₂ ◌++◌ (slices-by e i k b x) (sym (perform-slice (suc k)))
    where
      perform-slice : (m : ℕ) → perform R m (group 0 loose e (slice R m b x) end) ≡ sift R (goes_to R m) (goes_to R m) (heard_fate R tight e i) b 0 x
      perform-slice m =
          perform-group R m 0 loose e (slice R m b x)
          ∙ (ap (λ (z : ℕ). run R (held loose e m z (R.became m)) 0 (slice R m b x)) (add-zero (R.start m)) ∙ slice-body e i m b x)

  pub heard-tight-body : (e : ErrorWord) (i b : ℕ) (x : Seq) → run R (heard_group tight e i b) 0 x ≡ slices R e n b x
  unfolding fate_of
  heard-tight-body e i b x =
      sift-all R (heard_group tight e i b) (heard_fate R tight e i) b 0 x (λ m. refl)
      ∙ (sift-tests R all (by n) (heard_fate R tight e i) b 0 x by_all ∙ slices-by e i n b x)
