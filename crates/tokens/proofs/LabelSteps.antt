-- Each step of reading a label, in the code's own terms. The invariant: the bytes so far and those left are the label's.
-- Assumes nothing.
use Rattle.std.specs.Prelude.{Ok, Err}
use mathlib.Core.Path.{◌≡◌, refl, sym, ap, ◌∙◌}
use mathlib.Core.Bool.{Bool, true, false}
use mathlib.Core.List.{List, [], ◌∷◌}
use Prim.Native.Nat.{ℕ, suc, ◌+◌, ◌-◌, ◌<◌, ◌≤◌}
use native.Mathlib.Omega.{arith}
use lib.ListN.{length, take, drop, get_or, length-drop, drop_of_length-le}
use Rattle.std.proofs.lemmas.List.{take_rest}
use borrow.Author.Tests.{eq-eqb, ne_eqb}
use borrow.Author.Rules.{rules}
use Rattle.base.specs.Tests.{pick}
use Rattle.ascii.specs.Words.{newline}
use Rattle.ascii.proofs.WordSteps.{drop-next}
use Rattle.tokens.specs.Bytes.{quote, backslash, is_escaped}
use Rattle.tokens.specs.Tokens.{Read, got, stop, with_byte, label_from, label}
use Rattle.tokens.specs.Asked.{as_read, met_at, sized_from, Sizes}

pub escaped-quote : (b : ℕ) → b ≡ quote → true ≡ is_escaped b
unfolding is_escaped pick
escaped-quote b e = rw e

pub escaped-backslash : (b : ℕ) → b ≡ backslash → true ≡ is_escaped b
unfolding is_escaped pick
escaped-backslash b e = rw e

pub escaped-none : (b : ℕ) → (b ≡ quote → ⊥) → (b ≡ backslash → ⊥) → false ≡ is_escaped b
unfolding is_escaped pick
escaped-none b q n = rw (ne_eqb b quote q, ne_eqb b backslash n)

pub ruleset escaped-tests = (escaped-quote, escaped-backslash, escaped-none, rules)

-- one byte more
sized-byte : (n b : ℕ) (r : Read (List ℕ)) → sized_from n (with_byte b r) ≡ sized_from (n + 1) r
unfolding sized_from with_byte
sized-byte n b (got l left) = let z : n + suc (length l) ≡ n + 1 + length l = omega arith in rw z
sized-byte n b (stop left) = refl

stopped-sizes : (t : List ℕ) (what : Read (List ℕ)) (at : ℕ) → at ≤ length t → stop (drop at t) ≡ sized_from 0 what → Sizes t what (Err at)
unfolding as_read met_at
stopped-sizes t what at p e = record { says = e; within = p }

-- ---- the first quote

module _ (t : List ℕ) (at : ℕ) (start : at ≤ length t) where
  pub label-none : length t ≤ at → Sizes t (label (drop at t)) (Err at)
  unfolding label sized_from
  label-none p = let z : drop at t ≡ [] = drop_of_length-le t p in stopped-sizes t _ at start (rw z)

  pub label-other : at < length t → (get_or t at 0 ≡ quote → ⊥) → Sizes t (label (drop at t)) (Err at)
  unfolding label sized_from pick
  label-other p n = stopped-sizes t _ at start (rw (drop-next t at p, ne_eqb (get_or t at 0) quote n))

-- ---- from there on

-- r: the bytes that are left, from byte i on. e: a backslash stands before them.
pub record Labelled (t : List ℕ) (at n : ℕ) (e : Bool) (r : List ℕ) : Type 0 where
  pub i : ℕ
  pub tail : drop i t ≡ r
  pub whole : i + length r ≡ length t
  pub few : n ≤ i
  pub rest : sized_from n (label_from e r) ≡ sized_from 0 (label (drop at t))

pub label-start : (t : List ℕ) (at : ℕ) → at < length t → get_or t at 0 ≡ quote → Labelled t at 0 false (take (length t - (at + 1)) (drop (at + 1) t))
unfolding label pick
label-start t at p e =
    let z : take (length t - (at + 1)) (drop (at + 1) t) ≡ drop (at + 1) t = take_rest t (at + 1) in
    rw z (record {
      i = at + 1;
      tail = refl;
      whole = omega (arith, length-drop (at + 1) t);
      few = omega arith;
      rest = rw (drop-next t at p, eq-eqb (get_or t at 0) quote e);
    })

module _ (t : List ℕ) (at n : ℕ) (e : Bool) (r : List ℕ) (inv : Labelled t at n e r) where
  stopped-at : stop r ≡ sized_from 0 (label (drop at t)) → Sizes t (label (drop at t)) (Err inv.i)
  stopped-at q = stopped-sizes t _ inv.i (omega (arith, inv.whole)) (rw inv.tail q)

  -- The same fault's place, counted from the text's end.
  stopped-left : stop r ≡ sized_from 0 (label (drop at t)) → Sizes t (label (drop at t)) (Err (length t - length r))
  stopped-left q = let l : length t - length r ≡ inv.i = omega (arith, inv.whole) in rw l (stopped-at q)

  pub label-cut : length r < 1 → Sizes t (label (drop at t)) (Err (length t - length r))
  unfolding label_from sized_from
  label-cut p =
      let z : r ≡ [] = drop_of_length-le r {i = 0} (omega arith) in
      let q : stop [] ≡ sized_from 0 (label (drop at t)) = rw z at inv.rest in
      stopped-left (rw z q)

  pub label-over : length r < 1 → Sizes t (label (drop at t)) (Err (length t))
  label-over p = let l : length t - length r ≡ length t = omega arith in rw l at (label-cut p)

  module _ (more : 1 ≤ length r) where
    front : r ≡ get_or r 0 0 ∷ drop 1 r
    front = drop-next r 0 more

    -- ---- what a pattern leaves behind the first byte

    next-place : length t - length (take (length r - 1) (drop 1 r)) ≡ inv.i + 1
    next-place = rw (take_rest r 1) (omega (arith, length-drop 1 r, inv.whole))

    next-tail : drop (inv.i + 1) t ≡ drop 1 r
    next-tail =
        let p : inv.i < length t = omega (arith, inv.whole) in
        let d : get_or t inv.i 0 ∷ drop (inv.i + 1) t ≡ r = sym (drop-next t inv.i p) ∙ inv.tail in
        ap (λ (l : List ℕ). drop 1 l) d

    next : (m : ℕ) (f : Bool) → m ≤ inv.i + 1 → sized_from m (label_from f (drop 1 r)) ≡ sized_from 0 (label (drop at t)) → Labelled t at m f (take (length r - 1) (drop 1 r))
    next m f l q = rw (take_rest r 1) (record { i = inv.i + 1; tail = next-tail; whole = omega (arith, length-drop 1 r, inv.whole); few = l; rest = q })

    -- ---- behind a backslash

    module _ (k : e ≡ true) (s : Bool) (told : s ≡ is_escaped (get_or r 0 0)) where
      pub label-odd : s ≡ false → Sizes t (label (drop at t)) (Err (length t - length r))
      unfolding label_from sized_from pick
      label-odd p =
          let q : stop (get_or r 0 0 ∷ drop 1 r) ≡ sized_from 0 (label (drop at t)) = rw (k, front, sym told, p) at inv.rest in
          stopped-left (rw front q)

      pub label-escape : s ≡ true → Labelled t at (n + 1) false (take (length r - 1) (drop 1 r))
      unfolding label_from pick
      label-escape p =
          let q : sized_from n (with_byte (get_or r 0 0) (label_from false (drop 1 r))) ≡ sized_from 0 (label (drop at t)) =
          rw (k, front, sym told, p) at inv.rest in
          next (n + 1) false (omega (arith, inv.few)) (sym (sized-byte n (get_or r 0 0) _) ∙ q)

    -- ---- elsewhere

    module _ (k : e ≡ false) where
      pub label-ends : get_or r 0 0 ≡ quote → Sizes t (label (drop at t)) (Ok (record { value = n; next = length t - length (take (length r - 1) (drop 1 r)) }))
      unfolding label_from sized_from as_read met_at pick
      label-ends p =
          let q : got (n + 0) (drop 1 r) ≡ sized_from 0 (label (drop at t)) = rw (k, front, eq-eqb (get_or r 0 0) quote p) at inv.rest in
          let z : n + 0 ≡ n = omega arith in
          rw next-place (record { says = rw next-tail (rw z at q); within = omega (arith, inv.whole) })

      pub label-broken : get_or r 0 0 ≡ newline → Sizes t (label (drop at t)) (Err (length t - length (take (length r - 1) (drop 1 r)) - 1))
      unfolding label_from sized_from pick
      label-broken b =
          let a : get_or r 0 0 ≡ quote → ⊥ = (λ h. omega arith) in
          let o : get_or r 0 0 ≡ backslash → ⊥ = (λ h. omega arith) in
          let q : stop (get_or r 0 0 ∷ drop 1 r) ≡ sized_from 0 (label (drop at t)) =
          rw (k, front, ne_eqb (get_or r 0 0) quote a, ne_eqb (get_or r 0 0) backslash o, eq-eqb (get_or r 0 0) newline b) at inv.rest in
          let l : length t - length (take (length r - 1) (drop 1 r)) - 1 ≡ inv.i = omega (arith, next-place) in
          rw l (stopped-at (rw front q))

      pub label-slash : get_or r 0 0 ≡ backslash → Labelled t at n true (take (length r - 1) (drop 1 r))
      unfolding label_from pick
      label-slash b =
          let a : get_or r 0 0 ≡ quote → ⊥ = (λ h. omega arith) in
          next n true (omega (arith, inv.few)) (rw (k, front, ne_eqb (get_or r 0 0) quote a, eq-eqb (get_or r 0 0) backslash b) at inv.rest)

      pub label-byte : (get_or r 0 0 ≡ quote → ⊥) → (get_or r 0 0 ≡ backslash → ⊥) → (get_or r 0 0 ≡ newline → ⊥) → Labelled t at (n + 1) false (take (length r - 1) (drop 1 r))
      unfolding label_from pick
      label-byte a o w =
          let q : sized_from n (with_byte (get_or r 0 0) (label_from false (drop 1 r))) ≡ sized_from 0 (label (drop at t)) =
          rw (k, front, ne_eqb (get_or r 0 0) quote a, ne_eqb (get_or r 0 0) backslash o, ne_eqb (get_or r 0 0) newline w) at inv.rest in
          next (n + 1) false (omega (arith, inv.few)) (sym (sized-byte n (get_or r 0 0) _) ∙ q)

pub ruleset labels = (label-none, label-other, label-start, label-cut, label-over, label-odd, label-escape, label-ends, label-broken, label-slash, label-byte, rules)
