-- Each step past blanks and comments, in the code's own terms.
-- Assumes nothing.
use mathlib.Core.Path.{◌≡◌, refl, sym, ◌∙◌}
use mathlib.Core.Bool.{Bool, true, false}
use mathlib.Core.List.{List}
use Prim.Native.Nat.{ℕ, ◌+◌, ◌<◌, ◌≤◌}
use native.Mathlib.Omega.{arith}
use lib.ListN.{length, drop, get_or, drop_of_length-le}
use borrow.Author.Tests.{eq-eqb, ne_eqb}
use borrow.Author.Rules.{rules}
use Rattle.base.specs.Tests.{pick}
use Rattle.ascii.specs.Words.{newline, space}
use Rattle.ascii.proofs.WordSteps.{drop-next}
use Rattle.tokens.specs.Bytes.{tab, carriage_return, hash, is_blank}
use Rattle.tokens.specs.Tokens.{past_blanks}
use Rattle.tokens.specs.Asked.{PassesComment, InBlanks, Passes}
use Rattle.tokens.proofs.TokenLaws.{no-blank}

-- ---- a blank

module _ (b : ℕ) where
  pub blank-space : b ≡ space → true ≡ is_blank b
  unfolding is_blank pick
  blank-space e = rw e

  pub blank-tab : b ≡ tab → true ≡ is_blank b
  unfolding is_blank pick
  blank-tab e = rw e

  pub blank-return : b ≡ carriage_return → true ≡ is_blank b
  unfolding is_blank pick
  blank-return e = rw e

  pub blank-newline : b ≡ newline → true ≡ is_blank b
  unfolding is_blank pick
  blank-newline e = rw e

  pub blank_none : (b ≡ space → ⊥) → (b ≡ tab → ⊥) → (b ≡ carriage_return → ⊥) → (b ≡ newline → ⊥) → false ≡ is_blank b
  blank_none s t r n = sym (no-blank b s t r n)

pub ruleset blank-tests = (blank-space, blank-tab, blank-return, blank-newline, blank_none, rules)

-- ---- within a comment

pub record InComment (t : List ℕ) (at i : ℕ) : Type 0 where
  pub left : past_blanks true (drop i t) ≡ past_blanks true (drop at t)
  pub from : at ≤ i
  pub within : i ≤ length t

pub comment-start : (t : List ℕ) (at : ℕ) → at ≤ length t → InComment t at at
comment-start t at p = record { left = refl; from = omega arith; within = p }

module _ (t : List ℕ) (at i : ℕ) (inv : InComment t at i) where
  pub comment-over : length t ≤ i → PassesComment t at (length t)
  unfolding past_blanks pick
  comment-over p =
      let n : length t ≡ i = omega (arith, inv.within) in
      let e : past_blanks false (drop i t) ≡ past_blanks true (drop i t) = rw (drop_of_length-le t p) in
      rw n (record { left = sym (e ∙ inv.left); from = inv.from; within = inv.within })

  module _ (more : i < length t) where
    pub comment-ends : get_or t i 0 ≡ newline → PassesComment t at i
    unfolding past_blanks is_blank pick
    comment-ends e =
        let l : past_blanks true (drop i t) ≡ past_blanks false (drop i t) = rw (drop-next t i more, e) in
        record { left = sym inv.left ∙ l; from = inv.from; within = inv.within }

    pub comment-step : (get_or t i 0 ≡ newline → ⊥) → InComment t at (i + 1)
    unfolding past_blanks pick
    comment-step e =
        let l : past_blanks true (drop (i + 1) t) ≡ past_blanks true (drop at t) = rw (drop-next t i more, ne_eqb (get_or t i 0) newline e) at inv.left in
        record { left = l; from = omega (arith, inv.from); within = omega arith }

pub ruleset commenting = (comment-start, comment-over, comment-ends, comment-step, rules)

-- ---- within blanks

pub blanks-start : (t : List ℕ) (at : ℕ) → at ≤ length t → InBlanks t at at
blanks-start t at p = record { left = refl; from = omega arith; within = p }

module _ (t : List ℕ) (at i : ℕ) (inv : InBlanks t at i) where
  pub blanks-over : length t ≤ i → Passes t at i
  unfolding past_blanks
  blanks-over p =
      let e : past_blanks false (drop i t) ≡ drop i t = rw (drop_of_length-le t p) in
      record { left = sym inv.left ∙ e; from = inv.from; within = inv.within }

  pub spaces-over : length t ≤ i → InBlanks t at (length t)
  spaces-over p = let n : length t ≡ i = omega (arith, inv.within) in rw n inv

  pub spaces-step : i < length t → get_or t i 0 ≡ space → InBlanks t at (i + 1)
  unfolding past_blanks is_blank pick
  spaces-step more e =
      let l : past_blanks false (drop (i + 1) t) ≡ past_blanks false (drop i t) = rw (drop-next t i more, e) in
      record { left = l ∙ inv.left; from = omega (arith, inv.from); within = omega arith }

  module _ (more : i < length t) (r : Bool) (told : r ≡ is_blank (get_or t i 0)) where
    pub blanks-step : (k : ℕ) → r ≡ true → InBlanks t (i + 1) k → InBlanks t at k
    unfolding past_blanks pick
    blanks-step k e s =
        let b : is_blank (get_or t i 0) ≡ true = sym told ∙ e in
        let l : past_blanks false (drop (i + 1) t) ≡ past_blanks false (drop at t) = rw (drop-next t i more, b) at inv.left in
        record { left = s.left ∙ l; from = omega (arith, inv.from, s.from); within = s.within }

    pub blanks-found : r ≡ false → (get_or t i 0 ≡ hash → ⊥) → Passes t at i
    unfolding past_blanks pick
    blanks-found e n =
        let b : is_blank (get_or t i 0) ≡ false = sym told ∙ e in
        let l : past_blanks false (drop i t) ≡ drop i t = rw (drop-next t i more, b, ne_eqb (get_or t i 0) hash n) in
        record { left = sym inv.left ∙ l; from = inv.from; within = inv.within }

    pub blanks-hash : (k : ℕ) → r ≡ false → get_or t i 0 ≡ hash → PassesComment t (i + 1) k → InBlanks t at k
    unfolding past_blanks pick
    blanks-hash k e n c =
        let b : is_blank (get_or t i 0) ≡ false = sym told ∙ e in
        let l : past_blanks true (drop (i + 1) t) ≡ past_blanks false (drop at t) = rw (drop-next t i more, b, eq-eqb (get_or t i 0) hash n) at inv.left in
        record { left = sym c.left ∙ l; from = omega (arith, inv.from, c.from); within = c.within }

pub ruleset spacing = (blanks-start, spaces-over, spaces-step, rules)

pub ruleset passing = (blanks-over, blanks-step, blanks-found, blanks-hash, rules)
