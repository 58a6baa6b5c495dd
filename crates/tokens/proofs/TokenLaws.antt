-- What is written of a token is read there again, and blanks are passed.
-- Assumes nothing.
use mathlib.Core.Path.{◌≡◌, refl}
use mathlib.Core.Bool.{Bool, true, false}
use mathlib.Core.List.{List, [], ◌∷◌, ◌++◌}
use Prim.Native.Nat.{ℕ, zero, suc, ◌+◌, ◌-◌, ◌/◌, ◌%◌, ◌^◌, ◌<◌, ◌≤◌}
use native.Mathlib.Nat.{pow-le-pow_right}
use native.Mathlib.Omega.{arith}
use lib.ListN.{length, replicate, length-append}
use lib.Dec.{ltb, eqb}
use borrow.Author.Tests.{lt-ltb, ltb-false, ne_eqb, not-true}
use Rattle.base.specs.Tests.{pick, every, between}
use Rattle.base.proofs.TestLaws.{every-head, every_rest, between_in, between-low}
use Rattle.ascii.specs.Words.{newline, space, zero_digit, nine_digit, same}
use Rattle.ascii.specs.Numbers.{most_digits, is_digit, all_digits}
use Rattle.ascii.specs.Decimals.{most_places, digits_of, decimal}
use Rattle.ascii.proofs.DecimalLaws.{fewer, second-place, decimal-value, decimal-digits}
use Rattle.tokens.specs.Bytes.{tab, carriage_return, hash, slash, quote, backslash, is_blank, is_letter, is_plain, is_escaped, All, none, one, Stops, nothing, here}
use Rattle.tokens.specs.Tokens.{got, past_blanks, blanks, leading, behind, is_word, is_number, number, with_byte, label_from, label}
use Rattle.tokens.specs.Quoted.{escaped, quoted}

-- ---- bytes of one kind, and a front that is of another

pub all_append : {p : ℕ → Bool} {xs ys : List ℕ} → All p xs → All p ys → All p (xs ++ ys)
all_append none b = b
all_append (one e a) b = one e (all_append a b)

module _ {p : ℕ → Bool} {ys : List ℕ} (s : Stops p ys) where
  pub none-leads : leading p ys ≡ []
  unfolding leading pick
  none-leads = go s where
    go : {zs : List ℕ} → Stops p zs → leading p zs ≡ []
    go nothing = refl
    go (here e) = rw e

  pub none-behind : behind p ys ≡ ys
  unfolding behind pick
  none-behind = go s where
    go : {zs : List ℕ} → Stops p zs → behind p zs ≡ zs
    go nothing = refl
    go (here e) = rw e

  pub leading-all : {xs : List ℕ} → All p xs → leading p (xs ++ ys) ≡ xs
  unfolding leading pick
  leading-all none = none-leads
  leading-all (one e a) = rw (e, leading-all a)

  pub behind-all : {xs : List ℕ} → All p xs → behind p (xs ++ ys) ≡ ys
  unfolding behind pick
  behind-all none = none-behind
  behind-all (one e a) = rw e (behind-all a)

space-no-digit : is_digit space ≡ false
unfolding is_digit between every
space-no-digit = refl

newline-no-digit : is_digit newline ≡ false
unfolding is_digit between every
newline-no-digit = refl

slash-no-digit : is_digit slash ≡ false
unfolding is_digit between every
slash-no-digit = refl

space-no-letter : is_letter space ≡ false
unfolding is_letter between every
space-no-letter = refl

newline-no-letter : is_letter newline ≡ false
unfolding is_letter between every
newline-no-letter = refl

pub digits-end : (ys : List ℕ) → Stops is_digit (space ∷ ys)
digits-end ys = here space-no-digit

pub digits-end-line : (ys : List ℕ) → Stops is_digit (newline ∷ ys)
digits-end-line ys = here newline-no-digit

pub digits-over : (ys : List ℕ) → Stops is_digit (slash ∷ ys)
digits-over ys = here slash-no-digit

pub letters-end : (ys : List ℕ) → Stops is_letter (space ∷ ys)
letters-end ys = here space-no-letter

pub letters-end-line : (ys : List ℕ) → Stops is_letter (newline ∷ ys)
letters-end-line ys = here newline-no-letter

-- ---- blanks

pub blanks-space : (bs : List ℕ) → blanks (space ∷ bs) ≡ blanks bs
unfolding past_blanks is_blank pick
blanks-space bs = refl

pub blanks-newline : (bs : List ℕ) → blanks (newline ∷ bs) ≡ blanks bs
unfolding past_blanks is_blank pick
blanks-newline bs = refl

pub blanks-spaces : (n : ℕ) (bs : List ℕ) → blanks (replicate n space ++ bs) ≡ blanks bs
unfolding past_blanks is_blank pick
blanks-spaces zero bs = refl
blanks-spaces (suc n) bs = blanks-spaces n bs

pub comment-passed : {l : List ℕ} (bs : List ℕ) → All is_plain l → past_blanks true (l ++ (newline ∷ bs)) ≡ blanks bs
unfolding past_blanks pick
comment-passed bs none = refl
comment-passed bs (one {b = b} e a) = rw (not-true (eqb b newline) e) (comment-passed bs a)

-- "`#` with all up to the end of its line"
pub blanks-comment : {l : List ℕ} (bs : List ℕ) → All is_plain l → blanks (hash ∷ (l ++ (newline ∷ bs))) ≡ blanks bs
unfolding past_blanks is_blank pick
blanks-comment bs a = comment-passed bs a

-- A byte that is neither a blank nor `#` is passed by none.
pub blanks-solid : (b : ℕ) (bs : List ℕ) → is_blank b ≡ false → (b ≡ hash → ⊥) → blanks (b ∷ bs) ≡ b ∷ bs
unfolding past_blanks pick
blanks-solid b bs e n = rw (e, ne_eqb b hash n)

pub no-blank : (b : ℕ) → (b ≡ space → ⊥) → (b ≡ tab → ⊥) → (b ≡ carriage_return → ⊥) → (b ≡ newline → ⊥) → is_blank b ≡ false
unfolding is_blank pick
no-blank b s t r n = rw (ne_eqb b space s, ne_eqb b tab t, ne_eqb b carriage_return r, ne_eqb b newline n)

-- Every blank and `#` stands before the digits and the letters.
pub high-no-blank : (b : ℕ) → hash < b → is_blank b ≡ false
high-no-blank b p = no-blank b (λ q. omega arith) (λ q. omega arith) (λ q. omega arith) (λ q. omega arith)

pub high-solid : (b : ℕ) (bs : List ℕ) → hash < b → blanks (b ∷ bs) ≡ b ∷ bs
high-solid b bs p = blanks-solid b bs (high-no-blank b p) (λ q. omega arith)

digit-solid : (b : ℕ) (bs : List ℕ) → is_digit b ≡ true → blanks (b ∷ bs) ≡ b ∷ bs
unfolding is_digit
digit-solid b bs e = let low : zero_digit ≤ b = between-low zero_digit nine_digit b e in high-solid b bs (omega arith)

pub digits-solid : {xs : List ℕ} (ys : List ℕ) → All is_digit xs → 1 ≤ length xs → blanks (xs ++ ys) ≡ xs ++ ys
digits-solid ys none p = absurd (omega arith)
digits-solid ys (one {b = b} {bs = bs} e a) p = digit-solid b (bs ++ ys) e

-- ---- words

-- Where the letters of one word stand, each word stands that is the same.
pub word-leads : (word : List ℕ) {letters ys : List ℕ} → All is_letter letters → Stops is_letter ys → is_word word (letters ++ ys) ≡ same word letters
unfolding is_word
word-leads word a s = rw (leading-all s a)

-- ---- a number's digits

digits-digits : (bs : List ℕ) → all_digits bs ≡ true → All is_digit bs
unfolding all_digits is_digit
digits-digits [] e = none
digits-digits (b ∷ bs) e = one (every-head _ _ e) (digits-digits bs (every-head _ _ (every_rest _ _ e)))

pub decimal-all : (n : ℕ) → All is_digit (decimal n)
decimal-all n = digits-digits (decimal n) (decimal-digits n)

digits-some : (k n : ℕ) → 1 ≤ k → 1 ≤ length (digits_of k n)
unfolding digits_of pick
digits-some zero n p = p
digits-some (suc k) n p = go (ltb n 10) where
  go : (t : Bool) → 1 ≤ length (pick t ((zero_digit + n) ∷ []) (digits_of k (n / 10) ++ ((zero_digit + n % 10) ∷ [])))
  go true = omega arith
  go false = omega (arith, length-append (digits_of k (n / 10)) ((zero_digit + n % 10) ∷ []))

pub decimal-some : (n : ℕ) → 1 ≤ length (decimal n)
unfolding decimal
decimal-some n = digits-some most_places n (omega arith)

digits-few : (k places n : ℕ) → 1 ≤ places → n < 10 ^ places → length (digits_of k n) ≤ places
unfolding digits_of pick
digits-few zero places n p q = omega arith
digits-few (suc k) places n p q = go (ltb n 10) (digits-few k (places - 1) (n / 10)) refl where
  go : (t : Bool) → (1 ≤ places - 1 → n / 10 < 10 ^ (places - 1) → length (digits_of k (n / 10)) ≤ places - 1) → ltb n 10 ≡ t
      → length (pick t ((zero_digit + n) ∷ []) (digits_of k (n / 10) ++ ((zero_digit + n % 10) ∷ []))) ≤ places
  go true r e = p
  go false r e =
      let l : 10 ≤ n = ltb-false n 10 e in
      let t : 2 ≤ places = second-place places n l q in
      let i = r (omega arith) (fewer places n p q) in
      omega (arith, length-append (digits_of k (n / 10)) ((zero_digit + n % 10) ∷ []))

-- A number below 10 to the power of the places has no more of them.
pub decimal-few : (places n : ℕ) → 1 ≤ places → n < 10 ^ places → length (decimal n) ≤ places
unfolding decimal
decimal-few places n p q = digits-few most_places places n p q

-- A number that was written is read.
pub number_read : (limit n : ℕ) {ys : List ℕ} → n < limit → n < 10 ^ most_digits → Stops is_digit ys → number limit (decimal n ++ ys) ≡ got n ys
unfolding number is_number pick every
number_read limit n {ys} p q s =
    let m : 10 ^ most_digits ≤ 10 ^ most_places = pow-le-pow_right {n = 10} (omega arith) {i = most_digits} {j = most_places} (omega arith) in
    rw (
      leading-all s (decimal-all n),
      behind-all s (decimal-all n),
      decimal-value n (omega arith),
      between_in 1 most_digits (length (decimal n)) (decimal-some n) (decimal-few most_digits n (omega arith) q),
      lt-ltb n limit p,
    )

-- ---- a label

pub plain_byte : (b : ℕ) → is_escaped b ≡ false → (eqb b quote ≡ false) × (eqb b backslash ≡ false)
unfolding is_escaped pick
plain_byte b e = go (eqb b quote) (eqb b backslash) e where
  go : (t u : Bool) → pick t true (pick u true false) ≡ false → (t ≡ false) × (u ≡ false)
  go true u h = let z : ◌≡◌ {A = ℕ} 0 1 = cc in absurd (omega arith)
  go false true h = let z : ◌≡◌ {A = ℕ} 0 1 = cc in absurd (omega arith)
  go false false h = (refl, refl)

labelled : (l ys : List ℕ) → All is_plain l → label_from false (escaped l ++ ys) ≡ got l ys
unfolding label_from escaped with_byte pick
labelled [] ys none = refl
labelled (b ∷ l) ys (one e a) = go (labelled l ys a) (is_escaped b) refl where
  go : label_from false (escaped l ++ ys) ≡ got l ys → (t : Bool) → is_escaped b ≡ t
      → label_from false (pick t (backslash ∷ b ∷ escaped l) (b ∷ escaped l) ++ ys) ≡ got (b ∷ l) ys
  go r true p = rw (p, r)
  go r false p = let q = plain_byte b p in rw (q.0, q.1, not-true (eqb b newline) e, r)

-- A label that was written is read.
pub label_read : {l : List ℕ} (ys : List ℕ) → All is_plain l → label (quoted l ++ ys) ≡ got l ys
unfolding label quoted pick
label_read {l} ys a = labelled l ys a
