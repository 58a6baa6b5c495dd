-- No delay that the rules come to is too long to be read back: it is at most the sum of all delays of its sequence, and a table has at most 2,048 of them.
-- Assumes nothing.
use mathlib.Core.Path.{◌≡◌, refl, ap, sym, ◌∙◌}
use Prim.Native.Nat.{ℕ, zero, suc, ◌+◌, ◌*◌, ◌≤◌, ◌<◌}
use mathlib.Core.Bool.{Bool, true, false}
use mathlib.Core.List.{List, [], ◌∷◌, ◌++◌}
use native.Mathlib.Omega.{arith}
use native.Mathlib.Nat.{le_trans}
use lib.Dec.{eqb}
use lib.ListN.{length, take, drop, take-append-drop}
use Rattle.page.specs.declared.Item.{Item}
use Rattle.contents.specs.Limits.{longest}
use Rattle.items.proofs.Ranges.{Ranges, none, more}
use Rattle.rules.specs.Terms.{Terms}
use Rattle.rules.specs.Score.{Seq, end}
use Rattle.rules.specs.Rules.{reading_of, Line}
use Rattle.rules.specs.Page.{levels, sequence_of, Entry, run_length, entries_of, entries, Cue, cast, cues}
use Rattle.rules.specs.Settled.{Below}
use Rattle.rules.specs.Written.{delays_of, WaitsUpTo, no_waits, waits_played, waits_dropped, waits_undecided}
use Rattle.rules.proofs.Bounds.{score-starts-in-order, delays-bounded}
use Rattle.rules.proofs.Readings.{Within, no_entries, entry_within}
use Rattle.demands.proofs.MemoryAndHistory.Outcomes.{Short, AllShort, none_short, one_short}

-- ---- the delays of a table

delays_in : List Item → ℕ
delays_in [] = 0
delays_in (x ∷ is) = x.delay.0 + delays_in is

delays-append : (is js : List Item) → delays_in (is ++ js) ≡ delays_in is + delays_in js
unfolding delays_in
delays-append [] js = omega arith
delays-append (x ∷ is) js = omega (arith, delays-append is js)

delays-split : (k : ℕ) (is : List Item) → delays_in (take k is) + delays_in (drop k is) ≡ delays_in is
delays-split k is = sym (delays-append (take k is) (drop k is)) ∙ ap delays_in (take-append-drop k is)

delays-few : {is : List Item} → Ranges is → delays_in is ≤ longest * length is
unfolding delays_in
delays-few none = omega arith
delays-few (more {i = i} r rs) = omega (arith, r.delay, delays-few rs)

-- ---- of its sequences

sequence-delays : (n v p : ℕ) (is : List Item) → delays_of (sequence_of n v p is) ≤ delays_in is
unfolding sequence_of delays_of delays_in
sequence-delays zero v p is = omega arith
sequence-delays (suc n) v p [] = omega arith
sequence-delays (suc n) v p (x ∷ is) =
    go (eqb x.kind 0) refl (sequence-delays n v (p + 1) is) (within v (λ u. sequence-delays n u (p + 1) (take x.last is)))
    (sequence-delays n v (p + 1 + x.last) (drop x.last is))
  where
    Body : ℕ → Seq
    Body w = elim w [ zero ↦ end | suc u ↦ sequence_of n u (p + 1) (take x.last is) ]

    within : (w : ℕ) → ((u : ℕ) → delays_of (sequence_of n u (p + 1) (take x.last is)) ≤ delays_in (take x.last is)) → delays_of (Body w) ≤ delays_in (take x.last is)
    within zero f = omega arith
    within (suc u) f = f u

    go : (t : Bool) → eqb x.kind 0 ≡ t → delays_of (sequence_of n v (p + 1) is) ≤ delays_in is → delays_of (Body v) ≤ delays_in (take x.last is)
        → delays_of (sequence_of n v (p + 1 + x.last) (drop x.last is)) ≤ delays_in (drop x.last is)
        → delays_of (sequence_of (suc n) v p (x ∷ is)) ≤ delays_in (x ∷ is)
    go true e a b c = rw (e, sequence_of) (omega arith)
    go false e a b c = rw (e, sequence_of) (omega (arith, delays-split x.last is))

-- 2,048 delays of 5,040,000.
abbrev most_delay : ℕ
most_delay = 10321920000

-- No sequence's delays sum up to more than L.
data UpTo (L : ℕ) : List Entry → Type 0 where
  none_up : UpTo L []
  one_up : {e : Entry} {es : List Entry} → delays_of e.body ≤ L → UpTo L es → UpTo L (e ∷ es)

entries-up-to : (L n p : ℕ) (is : List Item) → delays_in is ≤ L → UpTo L (entries_of n p is)
unfolding entries_of delays_in
entries-up-to L zero p is h = none_up
entries-up-to L (suc n) p [] h = none_up
entries-up-to L (suc n) p (x ∷ is) h =
    let k = run_length x.event x.part is in
    let s : delays_in (take k is) + delays_in (drop k is) ≡ delays_in is = delays-split k is in
    one_up (le_trans (sequence-delays (suc k) levels p (x ∷ take k is)) (omega arith)) (entries-up-to L n (p + 1 + k) (drop k is) (omega arith))

-- ---- so every delay is short

waits-short : {L : ℕ} (q : ℕ) {l : List Line} {cs : List Cue} → L < 34359738368 → WaitsUpTo L l → AllShort cs → AllShort (cast q l ++ cs)
unfolding cast Short
waits-short q h no_waits r = r
waits-short q h (waits_played {d = d} g w) r = let s : d < 34359738368 = omega arith in one_short s (waits-short q h w r)
waits-short q h (waits_dropped w) r = one_short tt (waits-short q h w r)
waits-short q h (waits_undecided w) r = one_short tt (waits-short q h w r)

module _ (o : Terms) (ds D : List ℕ) (heard : Below (suc (length ds)) D) where
  cues-short : {es : List Entry} → Within (length ds) es → UpTo most_delay es → AllShort (cues (reading_of o ds D) es)
  unfolding cues
  cues-short no_entries none_up = none_short
  cues-short (entry_within {e = e} a w) (one_up b u) =
      waits-short e.part (omega arith) (delays-bounded (reading_of o ds D) (length ds) (score-starts-in-order o ds D heard) e.event e.body a.1) (cues-short w u)

  pub page-short : {is : List Item} → Ranges is → length is ≤ 2048 → Within (length ds) (entries is) → AllShort (cues (reading_of o ds D) (entries is))
  unfolding entries
  page-short {is} r f w = cues-short w (entries-up-to most_delay (length is) 0 is (omega (arith, delays-few r)))
