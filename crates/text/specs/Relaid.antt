-- Two texts that differ in blanks and comments only, said token by token.
use Rattle.std.specs.Prelude.{ℕ, ◌≡◌, false, true, List, [], ◌∷◌, ◌++◌, eqb}
use Rattle.ascii.specs.Words.{newline}
use Rattle.tokens.specs.Bytes.{quote, hash, is_blank, is_plain, All}
use Rattle.tokens.specs.Quoted.{quoted}

-- What may stand between tokens, one byte at least: "space, tab, carriage return, newline, and `#` with all up to the end of its line".
pub data Gap : List ℕ → Type 0 where
  blank : {b : ℕ} → is_blank b ≡ true → Gap (b ∷ [])
  comment : {l : List ℕ} → All is_plain l → Gap (hash ∷ (l ++ (newline ∷ [])))
  joined : {g h : List ℕ} → Gap g → Gap h → Gap (g ++ h)

-- What may stand behind the last token: the last comment may end with the text.
pub data Tail : List ℕ → Type 0 where
  bare : Tail []
  trailing : {g t : List ℕ} → Gap g → Tail t → Tail (g ++ t)
  remark : {l : List ℕ} → All is_plain l → Tail (hash ∷ l)

-- The same bytes of tokens, and where one has a gap, the other has one too. From any byte on, a label that never ends for one, they may be the same.
pub data Relaid : List ℕ → List ℕ → Type 0 where
  same : {t : List ℕ} → Relaid t t
  tails : {t u : List ℕ} → Tail t → Tail u → Relaid t u
  gaps : {g h t u : List ℕ} → Gap g → Gap h → Relaid t u → Relaid (g ++ t) (h ++ u)
  labels : (l : List ℕ) {t u : List ℕ} → Relaid t u → Relaid (quoted l ++ t) (quoted l ++ u)
  byte : {b : ℕ} {t u : List ℕ} → is_blank b ≡ false → eqb b hash ≡ false → eqb b quote ≡ false → Relaid t u → Relaid (b ∷ t) (b ∷ u)
