-- What the rules yield does not hang on the numbers of the page places, nor does what a table of items says but for them.
-- By induction along the sequence. Assumes nothing.
use mathlib.Core.Path.{◌≡◌, refl, ap, ap₂, sym, ◌∙◌}
use Prim.Native.Nat.{ℕ, zero, suc, ◌+◌}
use mathlib.Core.Bool.{Bool, true, false}
use mathlib.Core.List.{List, [], ◌∷◌, ◌++◌}
use lib.Dec.{eqb}
use lib.ListN.{take, drop}
use Rattle.page.specs.declared.Item.{Item}
use Rattle.rules.specs.Words.{synchrony_of, error_of}
use Rattle.rules.specs.Score.{Seq, end, action, group}
use Rattle.rules.specs.Rules.{Reading, Holder, fate_of, outcome_of, enter, Line, line, run, top_holder, perform}
use Rattle.rules.specs.Page.{sequence_of, Entry, Cue, cast, cues}
use Rattle.rules.specs.Parts.{placeless}

-- Without the page places.
unfoldable pub bare_seq : Seq → Seq
bare_seq end = end
bare_seq (action d m p rest) = action d m 0 (bare_seq rest)
bare_seq (group d y e body rest) = group d y e (bare_seq body) (bare_seq rest)

unfoldable pub bare_entries : List Entry → List Entry
bare_entries [] = []
bare_entries (e ∷ es) = record { event = e.event; part = e.part; body = bare_seq e.body } ∷ bare_entries es

bare_lines : List Line → List Line
bare_lines [] = []
bare_lines (line p m o ∷ l) = line 0 m o ∷ bare_lines l

lines-append : (l k : List Line) → bare_lines (l ++ k) ≡ bare_lines l ++ bare_lines k
unfolding bare_lines
lines-append [] k = refl
lines-append (line p m o ∷ l) k = ap (λ (r : List Line). line 0 m o ∷ r) (lines-append l k)

placeless-append : (c d : List Cue) → placeless (c ++ d) ≡ placeless c ++ placeless d
unfolding placeless
placeless-append [] d = refl
placeless-append (x ∷ c) d = ap (λ (r : List Cue). record { place = 0; part = x.part; message = x.message; outcome = x.outcome } ∷ r) (placeless-append c d)

cast-bare : (q : ℕ) (l : List Line) → cast q (bare_lines l) ≡ placeless (cast q l)
unfolding cast bare_lines placeless
cast-bare q [] = refl
cast-bare q (line p m o ∷ l) = ap (λ (r : List Cue). record { place = 0; part = q; message = m; outcome = o } ∷ r) (cast-bare q l)

run-bare : (R : Reading) (h : Holder) (s : ℕ) (x : Seq) → run R h s (bare_seq x) ≡ bare_lines (run R h s x)
unfolding run bare_seq bare_lines
run-bare R h s end = refl
run-bare R h s (action d m p x) = ap (λ (l : List Line). line 0 m (outcome_of R (fate_of R h (s + d))) ∷ l) (run-bare R h (s + d) x)
run-bare R h s (group d y e b x) =
    ap₂ ◌++◌ (run-bare R (enter (fate_of R h (s + d)) y e) 0 b) (run-bare R h (s + d) x)
    ∙ sym (lines-append (run R (enter (fate_of R h (s + d)) y e) 0 b) (run R h (s + d) x))

pub cues-bare : (R : Reading) (es : List Entry) → cues R (bare_entries es) ≡ placeless (cues R es)
unfolding cues bare_entries placeless perform
cues-bare R [] = refl
cues-bare R (e ∷ es) =
    let h = top_holder R e.event (R.became e.event) in
    ap₂ ◌++◌ (ap (cast e.part) (run-bare R h 0 e.body) ∙ cast-bare e.part (run R h 0 e.body)) (cues-bare R es)
    ∙ sym (placeless-append (cast e.part (run R h 0 e.body)) (cues R es))

-- Two pages that differ in places alone.
pub same-but-places : (R : Reading) (es fs : List Entry) → bare_entries es ≡ bare_entries fs → placeless (cues R es) ≡ placeless (cues R fs)
same-but-places R es fs e = sym (cues-bare R es) ∙ (ap (cues R) e ∙ cues-bare R fs)

-- A table read from one place or another.
pub sequence-bare : (n v p q : ℕ) (is : List Item) → bare_seq (sequence_of n v p is) ≡ bare_seq (sequence_of n v q is)
unfolding sequence_of bare_seq
sequence-bare zero v p q is = refl
sequence-bare (suc n) v p q [] = refl
sequence-bare (suc n) v p q (i ∷ is) = go (eqb i.kind 0) refl (sequence-bare n)
  where
    inner : (u : ℕ) → ((v p q : ℕ) (is : List Item) → bare_seq (sequence_of n v p is) ≡ bare_seq (sequence_of n v q is)) →
        bare_seq (elim u [ zero ↦ end | suc w ↦ sequence_of n w (p + 1) (take i.last is) ])
        ≡ bare_seq (elim u [ zero ↦ end | suc w ↦ sequence_of n w (q + 1) (take i.last is) ])
    inner zero ih = refl
    inner (suc w) ih = ih w (p + 1) (q + 1) (take i.last is)

    go : (t : Bool) → eqb i.kind 0 ≡ t → ((v p q : ℕ) (is : List Item) → bare_seq (sequence_of n v p is) ≡ bare_seq (sequence_of n v q is)) →
        bare_seq (sequence_of (suc n) v p (i ∷ is)) ≡ bare_seq (sequence_of (suc n) v q (i ∷ is))
    go true e ih = rw (e, sequence_of) (ap (action i.delay.0 i.last 0) (ih v (p + 1) (q + 1) is))
    go false e ih =
        rw (e, sequence_of)
        (ap₂ (group i.delay.0 (synchrony_of i.synchrony) (error_of i.error)) (inner v ih) (ih v (p + 1 + i.last) (q + 1 + i.last) (drop i.last is)))
