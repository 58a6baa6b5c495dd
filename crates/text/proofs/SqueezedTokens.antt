-- Each token is read from a text and from the same text without its layout alike: the same is read, and what is left behind it is the same without its layout.
-- Assumes nothing.
use mathlib.Core.Path.{◌≡◌, refl}
use mathlib.Core.Bool.{Bool, true, false}
use mathlib.Core.List.{List, [], ◌∷◌}
use Prim.Native.Nat.{ℕ, ◌<◌, ◌≤◌}
use native.Mathlib.Omega.{arith}
use lib.Dec.{eqb}
use borrow.Author.Tests.{ne_eqb, eqb-true}
use Rattle.base.specs.Tests.{pick}
use Rattle.base.proofs.TestLaws.{between-low}
use Rattle.ascii.specs.Words.{newline, space, zero_digit, nine_digit}
use Rattle.ascii.specs.Numbers.{is_digit}
use Rattle.tokens.specs.Bytes.{quote, hash, slash, backslash, letter_a, letter_z, is_blank, is_letter, is_escaped, Stops, nothing, here}
use Rattle.tokens.specs.Tokens.{Read, got, stop, onward, past_blanks, blanks, leading, behind, is_word, is_number, number, with_byte, label_from, label}
use Rattle.tokens.specs.Beats.{field, is_fraction, valued, fraction, beats}
use Rattle.tokens.proofs.TokenLaws.{none-leads, none-behind, high-no-blank}
use Rattle.text.specs.Layout.{Lies, in_token, in_gap, in_comment, in_label, in_escape, squeezed_from}

-- ---- blanks

-- Between tokens, within a comment or not.
unfoldable gapped : (comment : Bool) → Lies
gapped true = in_comment
gapped false = in_gap

gap-passed : (c : Bool) (bs : List ℕ) → blanks (squeezed_from (gapped c) bs) ≡ squeezed_from in_token (past_blanks c bs)
unfolding past_blanks squeezed_from gapped is_blank pick
gap-passed true [] = refl
gap-passed false [] = refl
gap-passed true (b ∷ bs) = go (eqb b newline) (gap-passed false bs) (gap-passed true bs) where
  go : (t : Bool) → blanks (squeezed_from in_gap bs) ≡ squeezed_from in_token (blanks bs) → blanks (squeezed_from in_comment bs) ≡ squeezed_from in_token (past_blanks true bs)
      → blanks (pick t (squeezed_from in_gap bs) (squeezed_from in_comment bs)) ≡ squeezed_from in_token (pick t (blanks bs) (past_blanks true bs))
  go true p q = p
  go false p q = q
gap-passed false (b ∷ bs) = go (is_blank b) (eqb b hash) refl refl (gap-passed false bs) (gap-passed true bs) where
  go : (t u : Bool) → is_blank b ≡ t → eqb b hash ≡ u
      → blanks (squeezed_from in_gap bs) ≡ squeezed_from in_token (blanks bs) → blanks (squeezed_from in_comment bs) ≡ squeezed_from in_token (past_blanks true bs)
      → blanks (pick t (squeezed_from in_gap bs) (pick u (squeezed_from in_comment bs) (space ∷ b ∷ pick (eqb b quote) (squeezed_from in_label bs) (squeezed_from in_token bs))))
      ≡ squeezed_from in_token (pick t (blanks bs) (pick u (past_blanks true bs) (b ∷ bs)))
  go true u e f p q = p
  go false true e f p q = q
  go false false e f p q = rw (e, f)

-- The blanks of a text are passed in the same text without its layout.
pub blanks-squeezed : (bs : List ℕ) → blanks (squeezed_from in_token bs) ≡ squeezed_from in_token (blanks bs)
unfolding past_blanks squeezed_from gapped pick
blanks-squeezed [] = refl
blanks-squeezed (b ∷ bs) = go (is_blank b) (eqb b hash) refl refl (gap-passed false bs) (gap-passed true bs) where
  go : (t u : Bool) → is_blank b ≡ t → eqb b hash ≡ u
      → blanks (squeezed_from in_gap bs) ≡ squeezed_from in_token (blanks bs) → blanks (squeezed_from in_comment bs) ≡ squeezed_from in_token (past_blanks true bs)
      → blanks (pick t (squeezed_from in_gap bs) (pick u (squeezed_from in_comment bs) (b ∷ pick (eqb b quote) (squeezed_from in_label bs) (squeezed_from in_token bs))))
      ≡ squeezed_from in_token (pick t (blanks bs) (pick u (past_blanks true bs) (b ∷ bs)))
  go true u e f p q = p
  go false true e f p q = q
  go false false e f p q = rw (e, f)

-- ---- bytes of one kind

-- Every blank, `#` and the quote stand before the bytes of numbers and words.
pub high-kept : (b : ℕ) (bs : List ℕ) → hash < b → squeezed_from in_token (b ∷ bs) ≡ b ∷ squeezed_from in_token bs
unfolding squeezed_from pick
high-kept b bs p = rw (high-no-blank b p, ne_eqb b hash (λ q. omega arith), ne_eqb b quote (λ q. omega arith))

module _ (p : ℕ → Bool) (s : p space ≡ false) where
  gap-stops : (c : Bool) (bs : List ℕ) → Stops p (squeezed_from (gapped c) bs)
  unfolding squeezed_from gapped pick
  gap-stops true [] = nothing
  gap-stops false [] = nothing
  gap-stops true (b ∷ bs) = go (eqb b newline) (gap-stops false bs) (gap-stops true bs) where
    go : (t : Bool) → Stops p (squeezed_from in_gap bs) → Stops p (squeezed_from in_comment bs) → Stops p (pick t (squeezed_from in_gap bs) (squeezed_from in_comment bs))
    go true x y = x
    go false x y = y
  gap-stops false (b ∷ bs) = go (is_blank b) (eqb b hash) (b ∷ pick (eqb b quote) (squeezed_from in_label bs) (squeezed_from in_token bs)) (gap-stops false bs) (gap-stops true bs) where
    go : (t u : Bool) (rest : List ℕ) → Stops p (squeezed_from in_gap bs) → Stops p (squeezed_from in_comment bs)
        → Stops p (pick t (squeezed_from in_gap bs) (pick u (squeezed_from in_comment bs) (space ∷ rest)))
    go true u rest x y = x
    go false true rest x y = y
    go false false rest x y = here s

  -- Where a byte of one kind doesn't stand, none stands then.
  pub stops-squeezed : (b : ℕ) (bs : List ℕ) → p b ≡ false → Stops p (squeezed_from in_token (b ∷ bs))
  unfolding squeezed_from gapped pick
  stops-squeezed b bs e = go (is_blank b) (eqb b hash) (pick (eqb b quote) (squeezed_from in_label bs) (squeezed_from in_token bs)) (gap-stops false bs) (gap-stops true bs) where
    go : (t u : Bool) (rest : List ℕ) → Stops p (squeezed_from in_gap bs) → Stops p (squeezed_from in_comment bs)
        → Stops p (pick t (squeezed_from in_gap bs) (pick u (squeezed_from in_comment bs) (b ∷ rest)))
    go true u rest x y = x
    go false true rest x y = y
    go false false rest x y = here e

module _ (p : ℕ → Bool) (high : (b : ℕ) → p b ≡ true → hash < b) where
  space-apart : p space ≡ false
  space-apart = go (p space) refl where
    go : (t : Bool) → p space ≡ t → t ≡ false
    go true e = absurd (omega (arith, high space e))
    go false e = refl

  leading-same : (bs : List ℕ) → leading p (squeezed_from in_token bs) ≡ leading p bs
  unfolding leading squeezed_from pick
  leading-same [] = none-leads {p = p} nothing
  leading-same (b ∷ bs) = go (p b) refl (leading-same bs) where
    go : (t : Bool) → p b ≡ t → leading p (squeezed_from in_token bs) ≡ leading p bs → leading p (squeezed_from in_token (b ∷ bs)) ≡ pick t (b ∷ leading p bs) []
    go true e r = rw (high-kept b bs (high b e), e, r)
    go false e r = none-leads (stops-squeezed p space-apart b bs e)

  behind-same : (bs : List ℕ) → behind p (squeezed_from in_token bs) ≡ squeezed_from in_token (behind p bs)
  unfolding behind squeezed_from pick
  behind-same [] = none-behind {p = p} nothing
  behind-same (b ∷ bs) = go (p b) refl (behind-same bs) where
    go : (t : Bool) → p b ≡ t → behind p (squeezed_from in_token bs) ≡ squeezed_from in_token (behind p bs)
        → behind p (squeezed_from in_token (b ∷ bs)) ≡ squeezed_from in_token (pick t (behind p bs) (b ∷ bs))
    go true e r = rw (high-kept b bs (high b e), e) r
    go false e r = none-behind (stops-squeezed p space-apart b bs e)

letter-high : (b : ℕ) → is_letter b ≡ true → hash < b
unfolding is_letter
letter-high b e = let low : letter_a ≤ b = between-low letter_a letter_z b e in omega arith

digit-high : (b : ℕ) → is_digit b ≡ true → hash < b
unfolding is_digit
digit-high b e = let low : zero_digit ≤ b = between-low zero_digit nine_digit b e in omega arith

-- "A word ends where its letters (a to z) end": there it ends then too.
pub word-squeezed : (word bs : List ℕ) → is_word word (squeezed_from in_token bs) ≡ is_word word bs
unfolding is_word
word-squeezed word bs = rw (leading-same is_letter letter-high bs)

pub letters-squeezed : (bs : List ℕ) → behind is_letter (squeezed_from in_token bs) ≡ squeezed_from in_token (behind is_letter bs)
letters-squeezed bs = behind-same is_letter letter-high bs

-- ---- what is read alike

pub data Alike {A : Type 0} : Read A → Read A → Type 0 where
  alike : {a : A} {left : List ℕ} → Alike (got a left) (got a (squeezed_from in_token left))
  neither : {left right : List ℕ} → Alike (stop left) (stop right)

pub onward-alike : {A B : Type 0} {r s : Read A} {f : A → List ℕ → Read B} (g : A → List ℕ → Read B) → Alike r s → ((a : A) (left : List ℕ) → Alike (f a left) (g a (squeezed_from in_token left)))
    → Alike (onward r f) (onward s g)
unfolding onward
onward-alike g (alike {a = a} {left = left}) h = h a left
onward-alike g neither h = neither

pub pick-alike : {A : Type 0} (t : Bool) {r s x y : Read A} → Alike r s → Alike x y → Alike (pick t r x) (pick t s y)
unfolding pick
pick-alike true p q = p
pick-alike false p q = q

-- ---- numbers and delays

pub number-alike : (limit : ℕ) (bs : List ℕ) → Alike (number limit bs) (number limit (squeezed_from in_token bs))
unfolding number
number-alike limit bs = rw (leading-same is_digit digit-high bs, behind-same is_digit digit-high bs) (pick-alike (is_number limit (leading is_digit bs)) alike neither)

valued-alike : (bs cs : List ℕ) (n d : ℕ) (left : List ℕ) → Alike (valued bs n d left) (valued cs n d (squeezed_from in_token left))
unfolding valued
valued-alike bs cs n d left = pick-alike (is_fraction n d) alike neither

abbrev is_slash : ℕ → Bool
is_slash b = eqb b slash

no_fraction : (cs : List ℕ) (n : ℕ) {xs : List ℕ} → Stops is_slash xs → fraction cs n xs ≡ valued cs n 1 xs
unfolding fraction pick
no_fraction cs n nothing = refl
no_fraction cs n (here e) = rw e

fraction-alike : (bs cs : List ℕ) (n : ℕ) (left : List ℕ) → Alike (fraction bs n left) (fraction cs n (squeezed_from in_token left))
unfolding fraction squeezed_from pick
fraction-alike bs cs n [] = valued-alike bs cs n 1 []
fraction-alike bs cs n (b ∷ left) = go (eqb b slash) refl where
  go : (t : Bool) → eqb b slash ≡ t
      → Alike (pick t (onward (number field left) (λ d rest. valued bs n d rest)) (valued bs n 1 (b ∷ left))) (fraction cs n (squeezed_from in_token (b ∷ left)))
  go true e =
      let k : b ≡ slash = eqb-true b slash e in
      rw (high-kept b left (omega arith), e) (onward-alike (λ d rest. valued cs n d rest) (number-alike field left) (λ d rest. valued-alike bs cs n d rest))
  go false e = rw (no_fraction cs n (stops-squeezed is_slash refl b left e)) (valued-alike bs cs n 1 (b ∷ left))

pub beats-alike : (bs : List ℕ) → Alike (beats bs) (beats (squeezed_from in_token bs))
unfolding beats
beats-alike bs = onward-alike (λ n left. fraction (squeezed_from in_token bs) n left) (number-alike field bs) (λ n left. fraction-alike bs (squeezed_from in_token bs) n left)

-- ---- labels

-- Within a label, behind a backslash or not.
unfoldable quoting : (escaped : Bool) → Lies
quoting true = in_escape
quoting false = in_label

byte-alike : (b : ℕ) {r s : Read (List ℕ)} → Alike r s → Alike (with_byte b r) (with_byte b s)
unfolding with_byte
byte-alike b alike = alike
byte-alike b neither = neither

labelled-alike : (e : Bool) (bs : List ℕ) → Alike (label_from e bs) (label_from e (squeezed_from (quoting e) bs))
unfolding label_from squeezed_from quoting with_byte pick
labelled-alike true [] = neither
labelled-alike false [] = neither
labelled-alike true (b ∷ bs) = pick-alike (is_escaped b) (byte-alike b (labelled-alike false bs)) neither
labelled-alike false (b ∷ bs) = go (eqb b quote) (eqb b backslash) (eqb b newline) _ refl (labelled-alike true bs) (labelled-alike false bs) where
  go : (t u v : Bool) (rest : List ℕ) → rest ≡ pick t (squeezed_from in_token bs) (pick u (squeezed_from in_escape bs) (squeezed_from in_label bs))
      → Alike (label_from true bs) (label_from true (squeezed_from in_escape bs)) → Alike (label_from false bs) (label_from false (squeezed_from in_label bs))
      → Alike
      (pick t (got [] bs) (pick u (label_from true bs) (pick v (stop (b ∷ bs)) (with_byte b (label_from false bs)))))
      (pick t (got [] rest) (pick u (label_from true rest) (pick v (stop (b ∷ rest)) (with_byte b (label_from false rest)))))
  go true u v rest e p q = rw e alike
  go false true v rest e p q = rw e p
  go false false true rest e p q = neither
  go false false false rest e p q = rw e (byte-alike b q)

abbrev is_quote : ℕ → Bool
is_quote b = eqb b quote

no_label : (left : List ℕ) {xs : List ℕ} → Stops is_quote xs → Alike (stop left) (label xs)
unfolding label pick
no_label left nothing = neither
no_label left (here e) = rw e neither

label_kept : (b : ℕ) (bs : List ℕ) → b ≡ quote → squeezed_from in_token (b ∷ bs) ≡ quote ∷ squeezed_from in_label bs
unfolding squeezed_from is_blank pick
label_kept b bs e = rw e

pub label-alike : (bs : List ℕ) → Alike (label bs) (label (squeezed_from in_token bs))
unfolding label squeezed_from quoting pick
label-alike [] = neither
label-alike (b ∷ bs) = go (eqb b quote) refl where
  go : (t : Bool) → eqb b quote ≡ t → Alike (pick t (label_from false bs) (stop (b ∷ bs))) (label (squeezed_from in_token (b ∷ bs)))
  go true e = rw (label_kept b bs (eqb-true b quote e)) (labelled-alike false bs)
  go false e = no_label (b ∷ bs) (stops-squeezed is_quote refl b bs e)
