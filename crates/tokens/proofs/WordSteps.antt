-- Each step of comparing a word with the letters at a place, in the code's own terms.
-- Assumes nothing.
use mathlib.Core.Path.{◌≡◌, refl, sym, ◌∙◌}
use mathlib.Core.Bool.{Bool, true, false, not}
use mathlib.Core.List.{List, [], ◌∷◌}
use Prim.Native.Nat.{ℕ, suc, ◌+◌, ◌-◌, ◌<◌, ◌≤◌}
use native.Mathlib.Omega.{arith}
use lib.ListN.{length, drop, get_or, drop_of_length-le}
use lib.Dec.{leb, eqb-suc-suc}
use borrow.Author.Tests.{eq-eqb, ne_eqb, le-leb}
use borrow.Author.Rules.{rules}
use Rattle.base.specs.Tests.{pick, every}
use Rattle.base.proofs.TestLaws.{every-stop}
use Rattle.ascii.specs.Words.{begins, same}
use Rattle.ascii.proofs.WordSteps.{drop-next}
use Rattle.ascii.proofs.NumberSteps.{not-two}
use Rattle.tokens.specs.Bytes.{is_letter}
use Rattle.tokens.specs.Tokens.{leading, is_word}

-- ---- the same bytes, one by one

same_none : same [] [] ≡ true
unfolding same begins every
same_none = refl

module _ (b : ℕ) (bs : List ℕ) where
  same_over : same [] (b ∷ bs) ≡ false
  unfolding same
  same_over = sym (every-stop _ _ (ne_eqb 0 (suc (length bs)) (λ e. omega arith)))

  module _ (w : ℕ) (ws : List ℕ) where
    same-other : (w ≡ b → ⊥) → same (w ∷ ws) (b ∷ bs) ≡ false
    unfolding same begins pick
    same-other n = not-two _ _ (rw (ne_eqb w b n))

    same_next : w ≡ b → same (w ∷ ws) (b ∷ bs) ≡ same ws bs
    unfolding same begins pick
    same_next e = rw (eq-eqb w b e, eqb-suc-suc (length ws) (length bs))

same-short : (w : ℕ) (ws : List ℕ) → same (w ∷ ws) [] ≡ false
unfolding same
same-short w ws = sym (every-stop _ _ (ne_eqb (suc (length ws)) 0 (λ e. omega arith)))

-- ---- a word

-- The invariant: the rest of the word and the rest of the letters are the same where all of them are.
pub record Compared (word t : List ℕ) (at i : ℕ) : Type 0 where
  pub rest : same (drop i word) (leading is_letter (drop (at + i) t)) ≡ is_word word (drop at t)

pub word-start : (word t : List ℕ) (at : ℕ) → Compared word t at 0
unfolding is_word
word-start word t at = let z : at + 0 ≡ at = omega arith in record { rest = rw z }

module _ (word t : List ℕ) (at i : ℕ) (inv : Compared word t at i) where
  module _ (more : i < length word) where
    pub word-short : length t - at ≤ i → false ≡ is_word word (drop at t)
    unfolding leading
    word-short p =
        let q : length t ≤ at + i = omega arith in
        let e = rw (drop-next word i more, drop_of_length-le t q) at inv.rest in
        sym (same-short _ _) ∙ e

    module _ (there : i < length t - at) (r : Bool) (told : r ≡ is_letter (get_or t (at + i) 0)) where
      in-text : at + i < length t
      in-text = omega arith

      pub word-no-letter : r ≡ false → false ≡ is_word word (drop at t)
      unfolding leading pick
      word-no-letter p =
          let e = rw (drop-next word i more, drop-next t (at + i) in-text, sym told ∙ p) at inv.rest in
          sym (same-short _ _) ∙ e

      module _ (letter : r ≡ true) where
        lettered : same (get_or word i 0 ∷ drop (i + 1) word) (get_or t (at + i) 0 ∷ leading is_letter (drop (at + i + 1) t)) ≡ is_word word (drop at t)
        unfolding leading pick
        lettered = rw (drop-next word i more, drop-next t (at + i) in-text, sym told ∙ letter) at inv.rest

        pub word-other : (get_or word i 0 ≡ get_or t (at + i) 0 → ⊥) → false ≡ is_word word (drop at t)
        word-other n = sym (same-other _ _ _ _ n) ∙ lettered

        pub word-step : get_or word i 0 ≡ get_or t (at + i) 0 → Compared word t at (i + 1)
        word-step e =
            let a : at + (i + 1) ≡ at + i + 1 = omega arith in
            record { rest = rw a (sym (same_next _ _ _ _ e) ∙ lettered) }

  module _ (over : length word ≤ i) where
    pub word_end : length t - at ≤ length word → leb (length t - at) (length word) ≡ is_word word (drop at t)
    unfolding leading
    word_end p =
        let q : length t ≤ at + i = omega arith in
        let e = rw (drop_of_length-le word over, drop_of_length-le t q) at inv.rest in
        rw (le-leb (length t - at) (length word) p) (sym same_none ∙ e)

    pub word-done : i ≤ length word → length word < length t - at → (r : Bool) → r ≡ is_letter (get_or t (at + length word) 0) → not r ≡ is_word word (drop at t)
    unfolding leading pick
    word-done w p r f =
        let l : length word ≡ i = omega arith in
        let e : r ≡ is_letter (get_or t (at + i) 0) = rw l at f in
        let q : at + i < length t = omega arith in
        go r (is_letter (get_or t (at + i) 0)) e (rw (drop_of_length-le word over, drop-next t (at + i) q) at inv.rest) where
          go : (r b : Bool) → r ≡ b → same [] (pick b (get_or t (at + i) 0 ∷ leading is_letter (drop (at + i + 1) t)) []) ≡ is_word word (drop at t) → not r ≡ is_word word (drop at t)
          go true true e h = sym (same_over _ _) ∙ h
          go true false e h = let z : ◌≡◌ {A = ℕ} 0 1 = cc in absurd (omega arith)
          go false true e h = let z : ◌≡◌ {A = ℕ} 0 1 = cc in absurd (omega arith)
          go false false e h = sym same_none ∙ h

pub ruleset wording = (word-start, word-short, word-no-letter, word-other, word-step, word_end, word-done, rules)
