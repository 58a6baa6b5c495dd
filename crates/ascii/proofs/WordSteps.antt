-- One step of comparing a word with a line, and of looking for a byte, in the code's own terms.
-- Assumes nothing.
use mathlib.Core.Path.{◌≡◌, refl}
use mathlib.Core.Bool.{Bool, true, false, cond, ◌&&◌}
use mathlib.Core.List.{List, [], ◌∷◌}
use Prim.Native.Nat.{ℕ, suc, ◌+◌, ◌<◌, ◌≤◌}
use native.Mathlib.Numerals.{add-one}
use native.Mathlib.Omega.{arith}
use lib.Dec.{eqb, ltb, eqb-suc-suc}
use lib.ListN.{length, take, drop, get_or, drop_of_length-le}
use lib.Seq.{drop-cons}
use borrow.Author.Tests.{eq-eqb, ne_eqb, ltb-true, ltb-false}
use Rattle.std.specs.List.{starts_with, position_or_len}
use Rattle.std.specs.Cmp.Lexicographic.{pointwise}
use Rattle.std.specs.Option.{unwrap_or}
use Rattle.std.specs.Prelude.{Option, Some, None}
use Rattle.std.proofs.lemmas.List.Recursion.{is_position_or_len}
use Rattle.std.proofs.lemmas.List.Sums.{prefix_len-le-length}
use Rattle.base.specs.Tests.{pick, every}
use Rattle.base.proofs.TestLaws.{every-stop}
use Rattle.ascii.specs.Words.{begins, same, bytes_before}

-- the bytes from i on, in the code's own terms
pub drop-next : (l : List ℕ) (i : ℕ) → i < length l → drop i l ≡ get_or l i 0 ∷ drop (i + 1) l
drop-next l i p = rw (add-one, drop-cons l i 0)

-- ---- a word compared with a line

pub begins-with : (word bytes : List ℕ) → starts_with eqb bytes word ≡ begins word bytes
unfolding begins pick
begins-with [] [] = refl
begins-with [] (b ∷ bs) = refl
begins-with (w ∷ ws) [] = refl
begins-with (w ∷ ws) (b ∷ bs) = go (eqb w b) (begins-with ws bs) where
  go : (t : Bool) → starts_with eqb bs ws ≡ begins ws bs → (t && pointwise eqb ws (take (length ws) bs)) ≡ pick t (begins ws bs) false
  go true e = e
  go false e = refl

pub same-with : (word bytes : List ℕ) → pointwise eqb word bytes ≡ same word bytes
unfolding same begins pick every
same-with [] [] = refl
same-with [] (b ∷ bs) = every-stop _ _ (ne_eqb 0 (length (b ∷ bs)) (λ q. omega arith))
same-with (w ∷ ws) [] = every-stop _ _ (ne_eqb (length (w ∷ ws)) 0 (λ q. omega arith))
same-with (w ∷ ws) (b ∷ bs) = rw (eqb-suc-suc (length ws) (length bs)) (go (eqb w b) (eqb (length ws) (length bs)) (same-with ws bs)) where
  go : (t u : Bool) → pointwise eqb ws bs ≡ every (u ∷ begins ws bs ∷ []) → (t && pointwise eqb ws bs) ≡ every (u ∷ pick t (begins ws bs) false ∷ [])
  go true u e = e
  go false true e = refl
  go false false e = refl

-- ---- the first byte that is stop

before-nothing : (stop : ℕ) → bytes_before stop [] ≡ 0
unfolding bytes_before
before-nothing stop = refl

before-more : (stop b : ℕ) (bs : List ℕ) → bytes_before stop (b ∷ bs) ≡ cond (eqb b stop) 0 (1 + bytes_before stop bs)
unfolding bytes_before pick
before-more stop b bs = go (eqb b stop) where
  go : (t : Bool) → pick t 0 (suc (bytes_before stop bs)) ≡ cond t 0 (1 + bytes_before stop bs)
  go true = refl
  go false = omega arith

pub before-first : (stop : ℕ) (bytes : List ℕ) → bytes_before stop bytes ≡ position_or_len (λ b. eqb b stop) bytes
before-first stop bytes = is_position_or_len (bytes_before stop) (λ b. eqb b stop) (before-nothing stop) (before-more stop) bytes

-- where the first is found, or else behind them all
pub before-found_or : (stop : ℕ) (bytes : List ℕ) (found : Option ℕ) (r : ℕ) → found ≡ cond (ltb (position_or_len (λ b. eqb b stop) bytes) (length bytes)) (Some (position_or_len (λ b. eqb b stop) bytes)) None
    → r ≡ unwrap_or found (length bytes) → (r ≡ bytes_before stop bytes) × (r ≤ length bytes)
before-found_or stop bytes found r e u = rw (before-first stop bytes) (go (ltb (position_or_len (λ b. eqb b stop) bytes) (length bytes)) refl) where
  go : (t : Bool) → ltb (position_or_len (λ b. eqb b stop) bytes) (length bytes) ≡ t → (r ≡ position_or_len (λ b. eqb b stop) bytes) × (r ≤ length bytes)
  go true p =
      let q : r ≡ position_or_len (λ b. eqb b stop) bytes = rw (e, p) at u in
      let w : position_or_len (λ b. eqb b stop) bytes < length bytes = ltb-true _ _ p in
      (q, omega arith)
  go false p =
      let q : r ≡ length bytes = rw (e, p) at u in
      let w : position_or_len (λ b. eqb b stop) bytes ≤ length bytes = prefix_len-le-length _ bytes in
      (omega (arith, ltb-false _ _ p), omega arith)

pub before-start : (stop : ℕ) (bytes : List ℕ) → 0 + bytes_before stop (drop 0 bytes) ≡ bytes_before stop bytes
before-start stop bytes = omega arith

module _ (stop : ℕ) (bytes : List ℕ) (i W : ℕ) (inv : i + bytes_before stop (drop i bytes) ≡ W) where
  pub before-none : length bytes ≤ i → i ≡ W
  unfolding bytes_before
  before-none p = let e : i + 0 ≡ W = rw (drop_of_length-le bytes p) at inv in omega arith

  module _ (more : i < length bytes) where
    pub before-found : get_or bytes i 0 ≡ stop → i ≡ W
    unfolding bytes_before pick
    before-found q = let e : i + 0 ≡ W = rw (drop-next bytes i more, eq-eqb (get_or bytes i 0) stop q) at inv in omega arith

    pub before-step : (get_or bytes i 0 ≡ stop → ⊥) → i + 1 + bytes_before stop (drop (i + 1) bytes) ≡ W
    unfolding bytes_before pick
    before-step q =
        let e : i + suc (bytes_before stop (drop (i + 1) bytes)) ≡ W = rw (drop-next bytes i more, ne_eqb (get_or bytes i 0) stop q) at inv in
        omega arith
