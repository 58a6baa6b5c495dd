-- How late a date can come to be, for code whose sums must not wrap: over a score's reading a date lies past its event's start by no more than the delays around
-- the item, and so does a played action's delay. Assumes nothing.
use mathlib.Core.Path.{◌≡◌, refl}
use Prim.Native.Nat.{ℕ, suc, ◌+◌, ◌-◌, ◌≤◌, ◌<◌}
use mathlib.Core.List.{List, ◌∷◌, ◌++◌}
use native.Mathlib.Omega.{arith}
use lib.ListN.{length}
use Rattle.rules.specs.Terms.{Terms}
use Rattle.rules.specs.Words.{Synchrony, loose, tight, ErrorWord}
use Rattle.rules.specs.Score.{Seq, end, action, group, last_by}
use Rattle.rules.specs.Heard.{Taken, heard, missed, unsettled}
use Rattle.rules.specs.Rules.{Reading, reading_of, Fate, heard_at, missed_by, groups_only, nothing, not_yet, future_date, global_start, missed_fate, loosely, sliced_fate, heard_fate, Holder, heard_group, missed_group, missed_top, silent, waiting, fate_of, outcome_of, enter, Line, line, run, top_holder, perform}
use Rattle.rules.specs.Settled.{Below}
use Rattle.rules.specs.Written.{delays_of, WaitsUpTo, no_waits, waits_played, waits_dropped, waits_undecided}
use Rattle.rules.proofs.PastLaws.{future-to}
use Rattle.rules.proofs.Events.{FateWith, HolderWith, enter-with, missed-with}
use Rattle.rules.proofs.Dates.{last_by-le, last_by-fits, last_by-ge, E-mono}
use Rattle.rules.proofs.HeardLaws.{next-after, next-below}

waits-append : {L : ℕ} {l k : List Line} → WaitsUpTo L l → WaitsUpTo L k → WaitsUpTo L (l ++ k)
waits-append no_waits w = w
waits-append (waits_played h v) w = waits_played h (waits-append v w)
waits-append (waits_dropped v) w = waits_dropped (waits-append v w)
waits-append (waits_undecided v) w = waits_undecided (waits-append v w)

-- Only an event that has begun is found by a date, none that has begun is later, and M(k) starts no earlier than k.
pub record StartsInOrder (R : Reading) (n : ℕ) : Type 0 where
  pub begun : (t : ℕ) → R.start (R.last_before t) ≤ t
  pub fits : (t : ℕ) → R.last_before t ≤ n
  pub last : (i t : ℕ) → i ≤ n → R.start i ≤ t → R.start i ≤ R.start (R.last_before t)
  pub next : (k j : ℕ) → k ≤ n → R.became k ≡ missed j → (j ≤ n) × (R.start k ≤ R.start j)

pub score-starts-in-order : (terms : Terms) (ds D : List ℕ) → Below (suc (length ds)) D → StartsInOrder (reading_of terms ds D) (length ds)
unfolding reading_of
score-starts-in-order terms ds D b =
    record {
      begun = last_by-le ds;
      fits = last_by-fits ds;
      last = λ i t h l. E-mono ds i (last_by ds t) (last_by-ge ds t i h l);
      next =
          λ k j h p. let a : j < suc (length ds) =
          next-below (suc (length ds)) k j b p in let c : k < j = next-after D k j p in (omega arith, E-mono ds k j (omega arith));
    }

module _ (R : Reading) (n : ℕ) (o : StartsInOrder R n) where
  -- Of an event of the score, and past its start by no more than L; where it is heard, not before its start.
  abbrev HeardUpTo : (L i t : ℕ) → Type 0
  HeardUpTo L i t = (i ≤ n) × (R.start i ≤ t) × (t ≤ R.start i + L)

  abbrev MissedUpTo : (L j t : ℕ) → Type 0
  MissedUpTo L j t = (j ≤ n) × (t ≤ R.start j + L)

  abbrev pub FateBy : ℕ → Fate → Type 0
  FateBy L = FateWith (HeardUpTo L) (MissedUpTo L)

  abbrev pub HolderBy : ℕ → Holder → Type 0
  HolderBy L = HolderWith (HeardUpTo L) (MissedUpTo L)

  by-missed : (L : ℕ) (e : ErrorWord) (j b s : ℕ) (hear : ℕ → Fate) → j ≤ n → b + s ≤ R.start j + L → s ≤ L →
      ((t : ℕ) → R.start j ≤ t → t ≤ R.start j + L → FateBy L (hear t)) → FateBy L (missed_fate R e j b s hear)
  unfolding global_start
  by-missed L e j b s hear p q r f =
      missed-with (HeardUpTo L) (MissedUpTo L) R e j b s hear (p, q) (f (global_start R j b + s) (omega arith) (omega arith))
      (λ l. f (future_date R j (b + s)) l (future-to R j (b + s) (R.start j + L) q (omega arith)))

  by-sliced : (L : ℕ) (e : ErrorWord) (k t : ℕ) (a : Taken) → R.became k ≡ a → k ≤ n → R.start k ≤ t → t ≤ R.start k + L → FateBy L (sliced_fate R e k t a)
  unfolding sliced_fate FateWith
  by-sliced L e k t heard p h l u = (h, l, u)
  by-sliced L e k t (missed j) p h l u =
      let x = o.next k j h p in
      let y : R.start k ≤ R.start j = x.1 in
      by-missed L e j (R.start k) (t - R.start k) (loosely j) x.0 (omega arith) (omega arith) (λ z v w. (x.0, v, w))
  by-sliced L e k t unsettled p h l u = tt

  by-heard : (L : ℕ) (y : Synchrony) (e : ErrorWord) (i t : ℕ) → i ≤ n → R.start i ≤ t → t ≤ R.start i + L → FateBy L (heard_fate R y e i t)
  unfolding heard_fate FateWith
  by-heard L loose e i t h l u = (h, l, u)
  by-heard L tight e i t h l u =
      let a : R.start i ≤ R.start (R.last_before t) = o.last i t h l in
      by-sliced L e (R.last_before t) t _ refl (o.fits t) (o.begun t) (omega arith)

  pub by-fate : (L : ℕ) (h : Holder) (s : ℕ) → HolderBy L h → FateBy (L + s) (fate_of R h s)
  unfolding fate_of FateWith HolderWith
  by-fate L (heard_group y e i b) s p = by-heard (L + s) y e i (b + s) p.0 (omega arith) (omega arith)
  by-fate L (missed_group y e j b) s p =
      by-missed (L + s) e j b s (heard_fate R y e j) p.0 (omega arith) (omega arith) (λ t l u. by-heard (L + s) y e j t p.0 l u)
  by-fate L (missed_top j b) s p = (p.0, omega arith)
  by-fate L silent s p = tt
  by-fate L waiting s p = tt

  waits-line : {L p m : ℕ} {l : List Line} (f : Fate) → FateBy L f → WaitsUpTo L l → WaitsUpTo L (line p m (outcome_of R f) ∷ l)
  unfolding outcome_of FateWith
  waits-line (heard_at i t) a w = waits_played {d = t.0 - R.start i} (omega arith) w
  waits-line (missed_by j t) a w = waits_played {d = t.0 - R.start j} (omega arith) w
  waits-line (groups_only j t) a w = waits_dropped w
  waits-line nothing a w = waits_dropped w
  waits-line not_yet a w = waits_undecided w

  by-more : {K L : ℕ} (f : Fate) → K ≤ L → FateBy K f → FateBy L f
  unfolding FateWith
  by-more (heard_at i t) l p = (p.0, p.1, omega arith)
  by-more (missed_by j t) l p = (p.0, omega arith)
  by-more (groups_only j t) l p = (p.0, omega arith)
  by-more nothing l p = tt
  by-more not_yet l p = tt

  pub by-run : (L N : ℕ) (h : Holder) (s : ℕ) (x : Seq) → HolderBy L h → L + s + delays_of x ≤ N → WaitsUpTo N (run R h s x)
  unfolding run delays_of
  by-run L N h s end p l = no_waits
  by-run L N h s (action d m q x) p l =
      waits-line (fate_of R h (s + d)) (by-more (fate_of R h (s + d)) (omega arith) (by-fate L h (s + d) p)) (by-run L N h (s + d) x p (omega arith))
  by-run L N h s (group d y e b x) p l =
      waits-append
      (by-run (L + (s + d)) N (enter (fate_of R h (s + d)) y e) 0 b (enter-with (HeardUpTo (L + (s + d))) (MissedUpTo (L + (s + d))) (fate_of R h (s + d)) y e (by-fate L h (s + d) p)) (omega arith))
      (by-run L N h (s + d) x p (omega arith))

  pub by-top : (i : ℕ) (a : Taken) → R.became i ≡ a → i ≤ n → HolderBy 0 (top_holder R i a)
  unfolding top_holder HolderWith
  by-top i heard p h = (h, omega arith, omega arith)
  by-top i (missed j) p h = let x = o.next i j h p in let y : R.start i ≤ R.start j = x.1 in (x.0, omega arith)
  by-top i unsettled p h = tt

  -- No action waits longer than all the delays of its part's sequence together; its date is that much past E of its event, and no more.
  pub delays-bounded : (i : ℕ) (x : Seq) → i ≤ n → WaitsUpTo (delays_of x) (perform R i x)
  unfolding perform
  delays-bounded i x h = by-run 0 (delays_of x) _ 0 x (by-top i _ refl h) (omega arith)
