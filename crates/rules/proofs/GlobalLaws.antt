-- Document 02 (v): a missed global group starts at its own date, or at E(j) where that is later. What the rules were: with its own delay thrown away and all else as it
-- is now they keep to document 01's sentence on it, and nothing else does. And only what a missed top global group holds can sound otherwise than before. Assumes nothing.
use mathlib.Core.Path.{◌≡◌, refl, ap, ap₂, sym, ◌∙◌}
use Prim.Native.Nat.{ℕ, zero, suc, ◌+◌, ◌-◌, ◌≤◌}
use mathlib.Core.Bool.{Bool, true, false}
use mathlib.Core.List.{List, [], ◌∷◌, ◌++◌, append-nil}
use native.Mathlib.Omega.{arith}
use native.Mathlib.Nat.{zero-add, add-zero, add_assoc, le_trans}
use lib.ListN.{length}
use lib.Dec.{ltb}
use borrow.Author.Tests.{ltb-true, ltb-false}
use Rattle.rules.specs.Terms.{Terms}
use Rattle.rules.specs.Words.{Synchrony, loose, ErrorWord, local, global, partial, causal}
use Rattle.rules.specs.Score.{Seq, end, action, group}
use Rattle.rules.specs.Heard.{Taken, heard, missed, unsettled}
use Rattle.rules.specs.Rules.{Reading, reading_of, Fate, past, global_start, missed_fate, Line, line, Holder, enter, fate_of, run, perform, Triple, triples}
use Rattle.rules.specs.Page.{Entry, cast, cues}
use Rattle.rules.specs.Groups.{perform_from, select, own_date, past_items, past_groups, split_of, slice, global_delay, Orderly}
use Rattle.rules.specs.GroupWise.{sliced, GroupWise}
use Rattle.rules.specs.Document01.{split01, at_once, delay_before, performed_before, cues_before, Holds, here, inside, behind_action, behind_group, HeldLater, in_this, past_action, past_group, SameBut, no_lines, same_line, held_line, last_global, NoneLater, InTime, AllEntries, no_entries, with_entry}
use Rattle.rules.proofs.Sift.{triples-append}
use Rattle.rules.proofs.Bodies.{perform-missed}
use Rattle.rules.proofs.RuleLaws
use Rattle.rules.proofs.Dates.{E-mono}
use Rattle.rules.proofs.HeardLaws.{next-after}
use Rattle.rules.proofs.Readings.{score-orderly}
use Rattle.rules.proofs.GroupWiseLaws.{yields, rules-group-wise, one-reading}
use Rattle.rules.proofs.GraceLaws.{flip, resplit, same-split, causal-late, partial-late}

-- ---- the later of the two

module _ (R : Reading) (j b s : ℕ) (hear : ℕ → Fate) where
  -- A group that was to start no later than E(j) starts there, as before,
  pub global-early : b ≤ R.start j → missed_fate R global j b s hear ≡ hear (R.start j + s)
  unfolding missed_fate global_start
  global-early l = ap hear (omega arith)

  -- and one that was to start later starts when it was to.
  pub global-late : R.start j ≤ b → missed_fate R global j b s hear ≡ hear (b + s)
  unfolding missed_fate global_start
  global-late l = ap hear (omega arith)

  -- There its items are heard as those of a causal and of a partial group are, wherever a heard item goes: so a loose one goes as these do.
  pub later-as-causal : R.start j ≤ b → missed_fate R global j b s hear ≡ missed_fate R causal j b s hear
  later-as-causal l = global-late l ∙ sym (causal-late R j b s hear (omega arith))

  pub later-as-partial : R.start j ≤ b → missed_fate R global j b s hear ≡ missed_fate R partial j b s hear
  later-as-partial l = global-late l ∙ sym (partial-late R j b s hear (omega arith))

-- ---- the last global group of a sequence

none_last : (t m : ℕ) → last_global t end ≤ m
unfolding last_global
none_last t m = omega arith

module _ (t d : ℕ) (y : Synchrony) (body rest : Seq) (m : ℕ) where
  last-own : (e : ErrorWord) → last_global t (group d y e body rest) ≤ m → e ≡ global → t + d ≤ m
  unfolding last_global
  last-own global l g = omega arith
  last-own local l g = let z : ◌≡◌ {A = ℕ} 0 1 = cc in absurd (omega arith)
  last-own partial l g = let z : ◌≡◌ {A = ℕ} 0 1 = cc in absurd (omega arith)
  last-own causal l g = let z : ◌≡◌ {A = ℕ} 0 1 = cc in absurd (omega arith)

  last_rest : (e : ErrorWord) → last_global t (group d y e body rest) ≤ m → last_global (t + d) rest ≤ m
  unfolding last_global
  last_rest global l = omega arith
  last_rest local l = l
  last_rest partial l = l
  last_rest causal l = l

  last-of-both : (e : ErrorWord) → (e ≡ global → t + d ≤ m) → last_global (t + d) rest ≤ m → last_global t (group d y e body rest) ≤ m
  unfolding last_global
  last-of-both global g l = let h : t + d ≤ m = g refl in omega arith
  last-of-both local g l = l
  last-of-both partial g l = l
  last-of-both causal g l = l

-- ---- the same but for some places

module _ (H : ℕ → Type 0) where
  same-all : (l : List Line) → SameBut H l l
  same-all [] = no_lines
  same-all (line p m o ∷ l) = same_line (same-all l)

  same-append : {a b l k : List Line} → SameBut H a b → SameBut H l k → SameBut H (a ++ l) (b ++ k)
  same-append no_lines w = w
  same-append (same_line v) w = same_line (same-append v w)
  same-append (held_line h v) w = held_line h (same-append v w)

  -- A body whose places all are such, under any two holders.
  same-held : (R : Reading) (h k : Holder) (s t : ℕ) (x : Seq) → ((p : ℕ) → Holds p x → H p) → SameBut H (run R h s x) (run R k t x)
  unfolding run
  same-held R h k s t end f = no_lines
  same-held R h k s t (action d m p x) f = held_line (f p here) (same-held R h k (s + d) (t + d) x (λ q m. f q (behind_action m)))
  same-held R h k s t (group d y e b x) f =
      same-append
      (same-held R (enter (fate_of R h (s + d)) y e) (enter (fate_of R k (t + d)) y e) 0 0 b (λ q m. f q (inside m)))
      (same-held R h k (s + d) (t + d) x (λ q m. f q (behind_group m)))

  same-wider : {I : ℕ → Type 0} {l k : List Line} → ((p : ℕ) → I p → H p) → SameBut I l k → SameBut H l k
  same-wider f no_lines = no_lines
  same-wider f (same_line w) = same_line (same-wider f w)
  same-wider f (held_line {p = p} h w) = held_line (f p h) (same-wider f w)

-- ---- what is as before

module _ (R : Reading) (n : ℕ) (o : Orderly R n) where
  early-as-before : (i j d : ℕ) (y : Synchrony) (x : Seq) → R.became i ≡ missed j → R.start i + d ≤ R.start j →
      perform R i (group 0 y global x end) ≡ perform R i (group d y global x end)
  unfolding global_delay
  early-as-before i j d y x h l =
      RuleLaws.missed_global R n o i j h 0 y x
      ∙ (ap (λ (z : ℕ). perform R j (group z y global x end)) (omega arith) ∙ sym (RuleLaws.missed_global R n o i j h d y x))

  -- One group with the summed delay d, which is later or not.
  group-as-before : (i d : ℕ) (y : Synchrony) (e : ErrorWord) (x : Seq) → (e ≡ global → (j : ℕ) → R.became i ≡ missed j → R.start i + d ≤ R.start j) →
      perform R i (group (delay_before (R.became i) e d) y e x end) ≡ perform R i (group d y e x end)
  unfolding delay_before
  group-as-before i d y e x l = go (R.became i) refl e l
    where
      go : (a : Taken) → R.became i ≡ a → (e : ErrorWord) → (e ≡ global → (j : ℕ) → R.became i ≡ missed j → R.start i + d ≤ R.start j) →
          perform R i (group (delay_before a e d) y e x end) ≡ perform R i (group d y e x end)
      go (missed j) h global l = early-as-before i j d y x h (l refl j h)
      go (missed j) h local l = refl
      go (missed j) h partial l = refl
      go (missed j) h causal l = refl
      go heard h e l = refl
      go unsettled h e l = refl

  global-held-later : (i j s d : ℕ) (y : Synchrony) (b x : Seq) → R.became i ≡ missed j →
      SameBut (HeldLater R i s (group d y global b x)) (perform R i (group 0 y global b end)) (perform R i (group (s + d) y global b end))
  global-held-later i j s d y b x h = go (ltb (R.start j) (R.start i + (s + d))) refl
    where
      go : (v : Bool) → ltb (R.start j) (R.start i + (s + d)) ≡ v →
          SameBut (HeldLater R i s (group d y global b x)) (perform R i (group 0 y global b end)) (perform R i (group (s + d) y global b end))
      go true q =
          rw (perform-missed R i j 0 y global b h, perform-missed R i j (s + d) y global b h)
          (same-held _ R _ _ 0 0 b (λ p m. in_this h (ltb-true (R.start j) (R.start i + (s + d)) q) m))
      go false q = rw (early-as-before i j (s + d) y b h (ltb-false (R.start j) (R.start i + (s + d)) q)) (same-all _ _)

  group-held-later : (i s d : ℕ) (y : Synchrony) (e : ErrorWord) (b x : Seq) →
      SameBut (HeldLater R i s (group d y e b x)) (perform R i (group (delay_before (R.became i) e (s + d)) y e b end)) (perform R i (group (s + d) y e b end))
  unfolding delay_before
  group-held-later i s d y e b x = go (R.became i) refl e
    where
      go : (a : Taken) → R.became i ≡ a → (e : ErrorWord) →
          SameBut (HeldLater R i s (group d y e b x)) (perform R i (group (delay_before a e (s + d)) y e b end)) (perform R i (group (s + d) y e b end))
      go (missed j) h global = global-held-later i j s d y b x h
      go (missed j) h local = same-all _ _
      go (missed j) h partial = same-all _ _
      go (missed j) h causal = same-all _ _
      go heard h e = same-all _ _
      go unsettled h e = same-all _ _

  nothing-as-before : (i s : ℕ) → performed_before R i s end ≡ perform_from R i s end
  unfolding performed_before perform_from run
  nothing-as-before i s = refl

  -- Only what is held by a missed top global group whose own date is after E(j) can sound otherwise than before.
  pub only-held-later : (i s : ℕ) (x : Seq) → SameBut (HeldLater R i s x) (performed_before R i s x) (perform_from R i s x)
  unfolding performed_before
  only-held-later i s end = rw (← nothing-as-before i s) no_lines
  only-held-later i s (action d m p x) =
      rw (RuleLaws.delays-add-up-action R i s d m p x)
      (same-append _ (same-all _ (perform R i (action (s + d) m p end))) (same-wider _ (λ q h. past_action h) (only-held-later i (s + d) x)))
  only-held-later i s (group d y e b x) =
      rw (RuleLaws.delays-add-up-group R i s d y e b x)
      (same-append _ (group-held-later i s d y e b x) (same-wider _ (λ q h. past_group h) (only-held-later i (s + d) x)))

  -- Where a part's sequence is missed and no global group of its own has its date after E(j), it is performed as before, line by line.
  pub as_before : (i s : ℕ) (x : Seq) → ((j : ℕ) → R.became i ≡ missed j → last_global (R.start i + s) x ≤ R.start j) → performed_before R i s x ≡ perform_from R i s x
  unfolding performed_before last_global
  as_before i s end l = nothing-as-before i s
  as_before i s (action d m p x) l =
      ap (λ (z : List Line). perform R i (action (s + d) m p end) ++ z) (as_before i (s + d) x (λ j h. rw (add_assoc (R.start i) s d) at (l j h)))
      ∙ sym (RuleLaws.delays-add-up-action R i s d m p x)
  as_before i s (group d y e b x) l =
      ap₂ ◌++◌ (group-as-before i (s + d) y e b (λ g j h. omega (arith, last-own (R.start i + s) d y b x (R.start j) e (l j h) g)))
      (as_before i (s + d) x (λ j h. rw (add_assoc (R.start i) s d) at (last_rest (R.start i + s) d y b x (R.start j) e (l j h))))
      ∙ sym (RuleLaws.delays-add-up-group R i s d y e b x)

  -- And a page of such sequences.
  pub page-as-before : {es : List Entry} → AllEntries (NoneLater R) es → cues_before R es ≡ cues R es
  unfolding cues_before cues
  page-as-before no_entries = refl
  page-as-before (with_entry {e = e} l w) =
      ap₂ ◌++◌ (ap (cast e.part) (as_before e.event 0 e.body (λ j h. rw (add-zero (R.start e.event)) (l j h)) ∙ sym (RuleLaws.perform-from-nothing R e.event e.body)))
      (page-as-before w)

  -- ---- what is taken from a body at its dates, groups no later than a limit

  selected : (A G : ℕ → Bool) (m : ℕ) → ((t : ℕ) → G t ≡ true → t ≤ m) → (b u c : ℕ) (x : Seq) → c ≤ b + u → last_global c (select own_date A G b u c x) ≤ m
  unfolding select last_global
  selected A G m l b u c end h = omega arith
  selected A G m l b u c (action d a p x) h = go (A (b + (u + d))) refl (λ z. selected A G m l b (u + d) z x)
    where
      go : (v : Bool) → A (b + (u + d)) ≡ v → ((z : ℕ) → z ≤ b + (u + d) → last_global z (select own_date A G b (u + d) z x) ≤ m) →
          last_global c (select own_date A G b u c (action d a p x)) ≤ m
      go true q ih = let e : c + (b + (u + d) - c) ≡ b + (u + d) = omega arith in rw (q, select, e) (ih (b + (u + d)) (omega arith))
      go false q ih = rw (q, select) (ih c (omega arith))
  selected A G m l b u c (group d y w k x) h = go (G (b + (u + d))) refl (λ z. selected A G m l b (u + d) z x)
    where
      go : (v : Bool) → G (b + (u + d)) ≡ v → ((z : ℕ) → z ≤ b + (u + d) → last_global z (select own_date A G b (u + d) z x) ≤ m) →
          last_global c (select own_date A G b u c (group d y w k x)) ≤ m
      go true q ih =
          let e : c + (b + (u + d) - c) ≡ b + (u + d) = omega arith in
          rw (q, select) (last-of-both c (b + (u + d) - c) y k (select own_date A G b (u + d) (b + (u + d)) x) m w (λ g. omega (arith, l (b + (u + d)) q)) (rw e (ih (b + (u + d)) (omega arith))))
      go false q ih = rw (q, select) (ih c (omega arith))

  -- ---- the sentences

  abbrev pub yielded : (i d : ℕ) → Seq → List Triple
  yielded i d x = triples (performed_before R i d x)

  abbrev now : (i d : ℕ) → Seq → List Triple
  now = yields R n o

  rules : GroupWise R (split_of R) (global_delay R) n now
  rules = rules-group-wise R n o

  same : (i s : ℕ) (x : Seq) → ((j : ℕ) → R.became i ≡ missed j → last_global (R.start i + s) x ≤ R.start j) → yielded i s x ≡ now i s x
  same i s x l = ap triples (as_before i s x l)

  heard-same : (i : ℕ) → R.became i ≡ heard → (s : ℕ) (x : Seq) → yielded i s x ≡ now i s x
  heard-same i h s x = same i s x (λ j m. let z : ◌≡◌ {A = ℕ} 0 1 = cc in absurd (omega arith))

  unsettled-same : (i : ℕ) → R.became i ≡ unsettled → (s : ℕ) (x : Seq) → yielded i s x ≡ now i s x
  unsettled-same i h s x = same i s x (λ j m. let z : ◌≡◌ {A = ℕ} 0 1 = cc in absurd (omega arith))

  action-same : (i d m p : ℕ) → yielded i 0 (action d m p end) ≡ now i 0 (action d m p end)
  unfolding last_global
  action-same i d m p = same i 0 (action d m p end) (λ j h. none_last (R.start i + 0 + d) (R.start j))

  -- A group by another word, and one with no delay.
  other-same : (i d : ℕ) (y : Synchrony) (e : ErrorWord) (x : Seq) → (e ≡ global → ⊥) → yielded i 0 (group d y e x end) ≡ now i 0 (group d y e x end)
  other-same i d y e x w = same i 0 (group d y e x end) (λ j h. last-of-both (R.start i + 0) d y x end (R.start j) e (λ g. absurd (w g)) (none_last (R.start i + 0 + d) (R.start j)))

  slice-same : (k : ℕ) (y : Synchrony) (e : ErrorWord) (x : Seq) → yielded k 0 (group 0 y e x end) ≡ now k 0 (group 0 y e x end)
  slice-same k y e x = same k 0 (group 0 y e x end) (λ j h. last-of-both (R.start k + 0) 0 y x end (R.start j) e (λ g. omega (arith, o.ahead k j h)) (none_last (R.start k + 0 + 0) (R.start j)))

  slices-same : (e : ErrorWord) (k b : ℕ) (x : Seq) → sliced R now e k b x ≡ sliced R yielded e k b x
  unfolding sliced
  slices-same e zero b x = refl
  slices-same e (suc k) b x = ap₂ ◌++◌ (slices-same e k b x) (sym (slice-same (suc k) loose e (slice R (suc k) b x)))

  -- Past items start before E(j).
  past-ends : (i j k : ℕ) → R.became i ≡ missed j → R.became i ≡ missed k → (t : ℕ) → past R j t ≡ true → t ≤ R.start k
  unfolding past
  past-ends i j k h m t p =
      let e : ◌≡◌ {A = ℕ} j k = cc in
      rw (← e) (omega (arith, ltb-true (t + R.grace) (R.start j) p))

  past_same : (i j d : ℕ) (x : Seq) → R.became i ≡ missed j →
      yielded i 0 (past_items R j (R.start i + d) (R.start i) x) ≡ now i 0 (past_items R j (R.start i + d) (R.start i) x)
  unfolding past_items
  past_same i j d x h =
      same i 0 _ (λ k m. rw (add-zero (R.start i)) (selected (past R j) (past R j) (R.start k) (past-ends i j k h m) (R.start i + d) 0 (R.start i) x (omega arith)))

  past-groups-same : (i j d : ℕ) (x : Seq) → R.became i ≡ missed j →
      yielded i 0 (past_groups R j (R.start i + d) (R.start i) x) ≡ now i 0 (past_groups R j (R.start i + d) (R.start i) x)
  unfolding past_groups
  past-groups-same i j d x h =
      same i 0 _ (λ k m. rw (add-zero (R.start i)) (selected (λ t. false) (past R j) (R.start k) (past-ends i j k h m) (R.start i + d) 0 (R.start i) x (omega arith)))

  thrown-away : (i j d : ℕ) (y : Synchrony) (x : Seq) → R.became i ≡ missed j → yielded i 0 (group d y global x end) ≡ now i 0 (group 0 y global x end)
  unfolding performed_before delay_before
  thrown-away i j d y x h =
      ap triples (append-nil _)
      ∙ (ap (λ (z : Taken). triples (perform R i (group (delay_before z global (0 + d)) y global x end))) h ∙ ap triples (RuleLaws.perform-from-nothing R i (group 0 y global x end)))

  -- A sequence goes item by item.
  first-action : (i s d m p : ℕ) (r : Seq) → yielded i s (action d m p r) ≡ yielded i 0 (action (s + d) m p end) ++ yielded i (s + d) r
  unfolding performed_before
  first-action i s d m p r =
      triples-append (perform R i (action (s + d) m p end)) _
      ∙ ap (λ (z : List Line). triples z ++ yielded i (s + d) r) (ap (λ (z : ℕ). perform R i (action z m p end)) (sym (zero-add (s + d))) ∙ sym (append-nil _))

  first_group : (i s d : ℕ) (y : Synchrony) (e : ErrorWord) (x r : Seq) → yielded i s (group d y e x r) ≡ yielded i 0 (group (s + d) y e x end) ++ yielded i (s + d) r
  unfolding performed_before
  first_group i s d y e x r =
      triples-append (perform R i (group (delay_before (R.became i) e (s + d)) y e x end)) _
      ∙ ap (λ (z : List Line). triples z ++ yielded i (s + d) r)
      (ap (λ (z : ℕ). perform R i (group (delay_before (R.became i) e z) y e x end)) (sym (zero-add (s + d))) ∙ sym (append-nil _))

  at-once : (i j : ℕ) (y : Synchrony) (x : Seq) → R.became i ≡ missed j → now i 0 (group 0 y global x end) ≡ now j 0 (group 0 y global x end)
  unfolding global_delay
  at-once i j y x h =
      let l : R.start i ≤ R.start j = o.ahead i j h in
      rules.missed_global i j 0 y x h ∙ ap (λ (z : ℕ). now j 0 (group z y global x end)) (omega arith)

  -- What the rules were: split as now, they keep to document 01's sentence on a missed global group,
  pub rules-before : GroupWise R (split_of R) at_once n yielded
  unfolding split_of at_once
  rules-before =
      record {
        no_items = λ i s. same i s end (λ j h. none_last (R.start i + s) (R.start j)) ∙ rules.no_items i s;
        action_first = first-action;
        group_first = first_group;
        nothing_yet = λ i s x h. unsettled-same i h s x ∙ rules.nothing_yet i s x h;
        heard_action = λ i d m p h. action-same i d m p ∙ rules.heard_action i d m p h;
        heard_loose = λ i d e x h. heard-same i h 0 _ ∙ (rules.heard_loose i d e x h ∙ sym (heard-same i h d x));
        heard_tight = λ i d e x h. heard-same i h 0 _ ∙ (rules.heard_tight i d e x h ∙ slices-same e n (R.start i + d) x);
        missed_action = λ i j d m p h. action-same i d m p ∙ rules.missed_action i j d m p h;
        missed_local = λ i j d y x h. other-same i d y local x (λ w. let z : ◌≡◌ {A = ℕ} 0 1 = cc in absurd (omega arith)) ∙ rules.missed_local i j d y x h;
        missed_global = λ i j d y x h. thrown-away i j d y x h ∙ (at-once i j y x h ∙ sym (heard-same j (o.next i j h) 0 _));
        missed_causal =
            λ i j d y x h. other-same i d y causal x (λ w. let z : ◌≡◌ {A = ℕ} 0 1 = cc in absurd (omega arith))
            ∙ (rules.missed_causal i j d y x h ∙ sym (ap₂ ◌++◌ (past_same i j d x h) (heard-same j (o.next i j h) 0 _)));
        missed_partial =
            λ i j d y x h. other-same i d y partial x (λ w. let z : ◌≡◌ {A = ℕ} 0 1 = cc in absurd (omega arith))
            ∙ (rules.missed_partial i j d y x h ∙ sym (ap₂ ◌++◌ (past-groups-same i j d x h) (heard-same j (o.next i j h) 0 _)));
      }

  -- and whatever keeps to it so yields just their triples.
  pub only-before : (P : (i d : ℕ) → Seq → List Triple) → GroupWise R (split_of R) at_once n P → (i d : ℕ) (x : Seq) → P i d x ≡ triples (performed_before R i d x)
  only-before P p i d x = one-reading R at_once n o P yielded p rules-before i d x

  -- With no grace, they keep to document 01's sentences as they stand there, every one, and nothing else does.
  module _ (none : R.grace ≡ 0) where
    pub document-01 : GroupWise R (split01 R) at_once n yielded
    document-01 = resplit R (split_of R) (split01 R) at_once n yielded (same-split R none) rules-before

    pub only-document-01 : (P : (i d : ℕ) → Seq → List Triple) → GroupWise R (split01 R) at_once n P → (i d : ℕ) (x : Seq) → P i d x ≡ triples (performed_before R i d x)
    only-document-01 P p i d x = only-before P (resplit R (split01 R) (split_of R) at_once n P (flip (same-split R none)) p) i d x

-- A piece in which no global group that stands under an event itself is written to start after that event's end is performed as before, whatever is heard: where the
-- event is missed, the next heard one begins at its end or later.
pub never-moved : (terms : Terms) (ds D : List ℕ) → 1 ≤ length ds → {es : List Entry} → AllEntries (InTime ds) es →
    cues_before (reading_of terms ds D) es ≡ cues (reading_of terms ds D) es
unfolding reading_of
never-moved terms ds D some w = page-as-before (reading_of terms ds D) (length ds) (score-orderly terms ds D some) (go w)
  where
    go : {es : List Entry} → AllEntries (InTime ds) es → AllEntries (NoneLater (reading_of terms ds D)) es
    go no_entries = no_entries
    go (with_entry {e = e} l v) = with_entry (λ j h. le_trans l (E-mono ds (suc e.event) j (next-after D e.event j h))) (go v)
