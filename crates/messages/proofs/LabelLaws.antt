-- What a label byte is in each of the four ranges, and that these are document 01's sentence, one range and one exception: what is known by the sentence is known of
-- label bytes.
-- Assumes nothing.
use mathlib.Core.Path.{◌≡◌, refl, sym, ◌∙◌}
use mathlib.Core.Bool.{Bool, true, false, not}
use mathlib.Core.List.{[], ◌∷◌}
use Prim.Native.Nat.{ℕ, ◌≤◌, ◌<◌}
use native.Mathlib.Omega.{arith}
use lib.Dec.{leb, eqb}
use borrow.Author.Tests.{leb-true, leb-false, eq-eqb, ne_eqb}
use Rattle.base.specs.Tests.{every, between}
use Rattle.base.proofs.TestLaws.{every-head, every-pass, every-stop, every-last, between_in, between-under, between-over, between-low, between-high}
use Rattle.base.proofs.RangeLaws.{range-over, range-in, range_none}
use Rattle.messages.specs.Messages.{label_byte}

module _ (b : ℕ) where
  -- ---- each range, and what is behind them

  pub label-to-31 : b ≤ 31 → false ≡ label_byte b
  unfolding label_byte
  label-to-31 p = range-in _ _ (omega arith) p refl

  pub label-to-126 : 32 ≤ b → b ≤ 126 → true ≡ label_byte b
  unfolding label_byte
  label-to-126 p q = range-over _ _ _ _ (omega arith) (range-in _ _ p q refl)

  pub label-127 : b ≡ 127 → false ≡ label_byte b
  unfolding label_byte
  label-127 e = range-over _ _ _ _ (omega arith) (range-over _ _ _ _ (omega arith) (range-in _ _ (omega arith) (omega arith) refl))

  pub label-to-255 : 128 ≤ b → b ≤ 255 → true ≡ label_byte b
  unfolding label_byte
  label-to-255 p q = range-over _ _ _ _ (omega arith) (range-over _ _ _ _ (omega arith) (range-over _ _ _ _ (omega arith) (range-in _ _ p q refl)))

  label-past-255 : 255 < b → false ≡ label_byte b
  unfolding label_byte
  label-past-255 p =
      range-over _ _ _ _ (omega arith) (range-over _ _ _ _ (omega arith) (range-over _ _ _ _ (omega arith) (range-over _ _ _ _ p (range_none b false))))

  -- ---- "32 to 255 but not 127"

  abbrev sentence : Bool
  sentence = every (between 32 255 b ∷ not (eqb b 127) ∷ [])

  within : 32 ≤ b → b ≤ 255 → (b ≡ 127 → ⊥) → true ≡ sentence
  within p q n = every-pass _ _ _ (between_in 32 255 b p q) (every-last _ _ (rw (ne_eqb b 127 n)))

  excepted : b ≡ 127 → false ≡ sentence
  excepted e = every-pass _ _ _ (between_in 32 255 b (omega arith) (omega arith)) (every-last _ _ (rw (eq-eqb b 127 e)))

  -- the same answer for every byte, and for every number
  pub label-byte-sentence : label_byte b ≡ every (between 32 255 b ∷ not (eqb b 127) ∷ [])
  label-byte-sentence = go (leb b 31) refl (leb b 126) refl (leb b 127) refl (leb b 255) refl where
    go : (s : Bool) → leb b 31 ≡ s → (t : Bool) → leb b 126 ≡ t → (u : Bool) → leb b 127 ≡ u → (v : Bool) → leb b 255 ≡ v → label_byte b ≡ sentence
    go true e t f u g v h = let p = leb-true b 31 e in sym (label-to-31 p) ∙ every-stop _ _ (between-under 32 255 b (omega arith))
    go false e true f u g v h =
        let p = leb-false b 31 e in
        let q = leb-true b 126 f in
        sym (label-to-126 p q) ∙ within p (omega arith) (λ n. omega arith)
    go false e false f true g v h = let z : b ≡ 127 = omega (arith, leb-false b 126 f, leb-true b 127 g) in sym (label-127 z) ∙ excepted z
    go false e false f false g true h =
        let p = leb-false b 127 g in
        let q = leb-true b 255 h in
        sym (label-to-255 p q) ∙ within (omega arith) q (λ n. omega arith)
    go false e false f false g false h = let p = leb-false b 255 h in sym (label-past-255 p) ∙ every-stop _ _ (between-over 32 255 b p)

  -- ---- what the sentence says of a label byte

  pub label-byte-low : label_byte b ≡ true → 32 ≤ b
  label-byte-low e = between-low 32 255 b (every-head _ _ (sym label-byte-sentence ∙ e))

  pub label-byte-high : label_byte b ≡ true → b ≤ 255
  label-byte-high e = between-high 32 255 b (every-head _ _ (sym label-byte-sentence ∙ e))
