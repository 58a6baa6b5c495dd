-- Laws of a run of words with_words from a place on: what is read within it, before it and after it.
-- Assumes nothing.
use mathlib.Core.Path.{◌≡◌, refl, ◌∙◌}
use mathlib.Core.List.{List, [], ◌∷◌}
use Prim.Native.Nat.{ℕ, zero, suc, ◌+◌, ◌<◌, ◌≤◌}
use native.Mathlib.Omega.{arith}
use lib.ListN.{length, get_or, set, take, drop, length-set, length-take, length-drop}
use lib.Seq.{get_or-set_same, get_or-set_other, drop-set-lt, get_or-take, get_or-drop, ext_get_or}
use Rattle.opening.specs.Opening.{with_words}

pub written-length : (at : ℕ) (ws m : List ℕ) → length (with_words at ws m) ≡ length m
unfolding with_words
written-length at [] m = refl
written-length at (w ∷ ws) m = written-length (at + 1) ws (set m at w) ∙ length-set m at w

-- what stands before the run, and after it, is left alone
pub written-before : (at : ℕ) (ws m : List ℕ) (j : ℕ) → j < at → get_or (with_words at ws m) j 0 ≡ get_or m j 0
unfolding with_words
written-before at [] m j l = refl
written-before at (w ∷ ws) m j l =
    written-before (at + 1) ws (set m at w) j (omega arith) ∙ get_or-set_other m at j w 0 (λ (e : j ≡ at). absurd (omega arith))

pub written_after : (at : ℕ) (ws m : List ℕ) (j : ℕ) → at + length ws ≤ j → get_or (with_words at ws m) j 0 ≡ get_or m j 0
unfolding with_words
written_after at [] m j l = refl
written_after at (w ∷ ws) m j l =
    written_after (at + 1) ws (set m at w) j (omega arith) ∙ get_or-set_other m at j w 0 (λ (e : j ≡ at). absurd (omega arith))

pub written-past : (at : ℕ) (ws m : List ℕ) (n : ℕ) → at + length ws ≤ n → drop n (with_words at ws m) ≡ drop n m
unfolding with_words
written-past at [] m n l = refl
written-past at (w ∷ ws) m n l = written-past (at + 1) ws (set m at w) n (omega arith) ∙ drop-set-lt n m at w (omega arith)

-- what stands within the run
pub written-within : (at : ℕ) (ws m : List ℕ) (k : ℕ) → k < length ws → at + length ws ≤ length m → get_or (with_words at ws m) (at + k) 0 ≡ get_or ws k 0
unfolding with_words
written-within at [] m k l p = absurd (omega arith)
written-within at (w ∷ ws) m zero l p =
    let here : at + 0 ≡ at = omega arith in
    rw here (written-before (at + 1) ws (set m at w) at (omega arith) ∙ get_or-set_same m at w 0 (omega arith))
written-within at (w ∷ ws) m (suc k) l p =
    let there : at + suc k ≡ at + 1 + k = omega arith in
    let room : length (set m at w) ≡ length m = length-set m at w in
    rw there (written-within (at + 1) ws (set m at w) k (omega arith) (omega arith))

-- the whole run, read back
pub written-run : (at : ℕ) (ws m : List ℕ) → at + length ws ≤ length m → take (length ws) (drop at (with_words at ws m)) ≡ ws
written-run at ws m p =
    let long : length (with_words at ws m) ≡ length m = written-length at ws m in
    let size : length (take (length ws) (drop at (with_words at ws m))) ≡ length ws = simp (length-take, length-drop) (omega arith) in
    ext_get_or 0 _ _ size (λ i l.
    get_or-take (length ws) (drop at (with_words at ws m)) i 0 (omega arith)
    ∙ get_or-drop at (with_words at ws m) i 0
    ∙ written-within at ws m i (omega arith) p)
