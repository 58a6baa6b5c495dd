-- Each line that is printed is its words, numbers and label, laid one behind the other.
-- Assumes nothing.
use mathlib.Core.List.{List, [], ◌∷◌}
use Prim.Native.Nat.{ℕ}
use borrow.Author.Rules.{rules}
use Rattle.ascii.specs.Words.{space, newline}
use Rattle.ascii.specs.Decimals.{decimal}
use Rattle.ascii.specs.Laying.{Laid}
use Rattle.ascii.proofs.LayLaws.{laid-join}
use Rattle.lines.specs.Output.{word_line, words_line, figure, message_line}

module _ (o m₁ m₂ n word : List ℕ) (x at a b r : ℕ) (front : Laid o at word m₁ a) (number : Laid m₁ a (decimal x) m₂ b) where
  pub lay-word-line : Laid m₂ b (newline ∷ []) n r → Laid o at (word_line word x) n r
  unfolding word_line
  lay-word-line p = laid-join o m₁ n _ _ at a r front (laid-join m₁ m₂ n _ _ a b r number p)

  pub lay-words-line : (other : List ℕ) (y : ℕ) → Laid m₂ b (word_line other y) n r → Laid o at (words_line word x other y) n r
  unfolding words_line
  lay-words-line other y p = laid-join o m₁ n _ _ at a r front (laid-join m₁ m₂ n _ _ a b r number p)

pub lay-figure : (o m n : List ℕ) (x a b r : ℕ) → Laid o a (decimal x) m b → Laid m b (space ∷ []) n r → Laid o a (figure x) n r
unfolding figure
lay-figure o m n x a b r p q = laid-join o m n _ _ a b r p q

pub ruleset printed = (lay-word-line, lay-words-line, lay-figure, rules)

module _ {o m₁ m₂ m₃ m₄ n label : List ℕ} {at a b c d r : ℕ} (clock due part : ℕ) where
  pub lay-message : Laid o at (figure clock) m₁ a → Laid m₁ a (figure due) m₂ b → Laid m₂ b (figure part) m₃ c → Laid m₃ c label m₄ d → Laid m₄ d (newline ∷ []) n r
      → Laid o at (message_line clock due part label) n r
  unfolding message_line
  lay-message p q s t u = laid-join o m₁ n _ _ at a r p (laid-join m₁ m₂ n _ _ a b r q (laid-join m₂ m₃ n _ _ b c r s (laid-join m₃ m₄ n _ _ c d r t u)))
