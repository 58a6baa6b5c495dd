-- Keys: no two rows of digits and minus signs have the same, so that the first message with a value's key is the first with just its digits.
-- Assumes nothing.
use mathlib.Core.Path.{◌≡◌, refl, sym, ap, ◌∙◌}
use mathlib.Core.Bool.{Bool, true, false}
use mathlib.Core.List.{List, [], ◌∷◌, ◌++◌}
use Prim.Native.Nat.{ℕ, zero, suc, ◌+◌, ◌-◌, ◌^◌, ◌<◌, ◌≤◌}
use native.Mathlib.Nat.{pow-suc}
use native.Mathlib.Omega.{arith}
use lib.Dec.{leb, eqb}
use lib.ListN.{length, get_or}
use borrow.Author.Tests.{eq-eqb, ne_eqb, le-leb, lt-leb, lt-ltb, leb-true, ltb-true, eqb-true}
use Rattle.base.specs.Tests.{pick, every, between}
use Rattle.base.proofs.TestLaws.{every-end, every-pass, every-stop, every-head, every_rest, between_in, between-under, between-over, between-low, between-high}
use Rattle.ascii.specs.Words.{zero_digit, nine_digit, begins, same, bytes_before}
use Rattle.ascii.proofs.WordLaws.{same_bytes}
use Rattle.contents.specs.Bytes.{part}
use Rattle.values.specs.Digits.{minus}
use Rattle.values.specs.Inner.{most_digits}
use Rattle.unfolding.specs.Messages.{Entry, is_named, number_in}
use Rattle.naming.specs.Inner.{most_symbol, symbol, all_symbols, folded, key_of, key_in, keys_of}

-- ---- symbols

pub symbol-minus : (b : ℕ) → b ≡ minus → 11 ≡ symbol b
unfolding symbol pick
symbol-minus b e = rw (eq-eqb b minus e)

module _ (b : ℕ) (other : b ≡ minus → ⊥) where
  pub symbol-under : b < zero_digit → 0 ≡ symbol b
  unfolding symbol pick
  symbol-under p = rw (ne_eqb b minus other, between-under zero_digit nine_digit b p)

  pub symbol-over : nine_digit < b → 0 ≡ symbol b
  unfolding symbol pick
  symbol-over p = rw (ne_eqb b minus other, between-over zero_digit nine_digit b p)

  pub symbol-digit : (w : ℕ) → zero_digit ≤ b → b ≤ nine_digit → w ≡ b → w - 47 ≡ symbol b
  unfolding symbol pick
  symbol-digit w p q e = rw (ne_eqb b minus other, between_in zero_digit nine_digit b p q, e)

-- the byte of a symbol, and so one symbol has one byte
unfoldable byte_of : ℕ → ℕ
byte_of s = pick (eqb s 11) minus (s + 47)

symbol-byte : (b : ℕ) → 0 < symbol b → byte_of (symbol b) ≡ b
unfolding symbol byte_of pick
symbol-byte b p = go (eqb b minus) (between zero_digit nine_digit b) refl refl p where
  go : (t u : Bool) → eqb b minus ≡ t → between zero_digit nine_digit b ≡ u → 0 < pick t 11 (pick u (b - 47) 0) → pick (eqb (pick t 11 (pick u (b - 47) 0)) 11) minus (pick t 11 (pick u (b - 47) 0) + 47) ≡ b
  go true u e f q = sym (eqb-true b minus e)
  go false true e f q =
      let l : zero_digit ≤ b = between-low zero_digit nine_digit b f in
      let h : b ≤ nine_digit = between-high zero_digit nine_digit b f in
      let n : eqb (b - 47) 11 ≡ false = ne_eqb (b - 47) 11 (λ z. omega arith) in
      rw n (omega arith)
  go false false e f q = absurd (omega arith)

symbol-most : (b : ℕ) → symbol b ≤ most_symbol
unfolding symbol pick
symbol-most b = go (eqb b minus) (between zero_digit nine_digit b) refl where
  go : (t u : Bool) → between zero_digit nine_digit b ≡ u → pick t 11 (pick u (b - 47) 0) ≤ most_symbol
  go true u f = omega arith
  go false true f = let h : b ≤ nine_digit = between-high zero_digit nine_digit b f in omega arith
  go false false f = omega arith

-- ---- rows of symbols

symbols-head : (b : ℕ) (bs : List ℕ) → all_symbols (b ∷ bs) ≡ true → 0 < symbol b
unfolding all_symbols
symbols-head b bs e = ltb-true _ _ (every-head _ _ e)

symbols-rest : (b : ℕ) (bs : List ℕ) → all_symbols (b ∷ bs) ≡ true → all_symbols bs ≡ true
unfolding all_symbols
symbols-rest b bs e = every-head _ _ (every_rest _ _ e)

pub symbols-more : (b : ℕ) (bs : List ℕ) → 0 < symbol b → all_symbols bs ≡ true → all_symbols (b ∷ bs) ≡ true
unfolding all_symbols
symbols-more b bs p e = sym (every-pass _ true _ (lt-ltb 0 (symbol b) p) (every-pass _ true _ e every-end))

pub symbols-at : (bs : List ℕ) (i : ℕ) → i < length bs → all_symbols bs ≡ true → 0 < symbol (get_or bs i 0)
symbols-at [] i p e = absurd (omega arith)
symbols-at (b ∷ bs) zero p e = symbols-head b bs e
symbols-at (b ∷ bs) (suc i) p e = symbols-at bs i (omega arith) (symbols-rest b bs e)

folded-some : (bs : List ℕ) → 0 < length bs → all_symbols bs ≡ true → 0 < folded bs
unfolding folded
folded-some [] p e = absurd (omega arith)
folded-some (b ∷ bs) p e = omega (arith, symbols-head b bs e)

pub folded-small : (k : ℕ) (bs : List ℕ) → length bs ≤ k → folded bs < 16 ^ k
unfolding folded
folded-small zero [] p = omega arith
folded-small zero (b ∷ bs) p = absurd (omega arith)
folded-small (suc k) [] p = let q : 0 < 16 ^ k = folded-small k [] (omega arith) in rw (pow-suc 16 k) (omega arith)
folded-small (suc k) (b ∷ bs) p = let q = folded-small k bs (omega arith) in rw (pow-suc 16 k) (omega (arith, symbol-most b))

-- no two have the same number
folded-parts : (x y : ℕ) (xs ys : List ℕ) → folded (x ∷ xs) ≡ folded (y ∷ ys) → (symbol x ≡ symbol y) × (folded xs ≡ folded ys)
unfolding folded
folded-parts x y xs ys e = let a = symbol-most x in let b = symbol-most y in (omega arith, omega arith)

folded-none : folded [] ≡ 0
unfolding folded
folded-none = refl

folded-one : (xs ys : List ℕ) → all_symbols xs ≡ true → all_symbols ys ≡ true → folded xs ≡ folded ys → xs ≡ ys
folded-one [] [] p q e = refl
folded-one [] (y ∷ ys) p q e = absurd (omega (arith, folded-none, folded-some (y ∷ ys) (omega arith) q))
folded-one (x ∷ xs) [] p q e = absurd (omega (arith, folded-none, folded-some (x ∷ xs) (omega arith) p))
folded-one (x ∷ xs) (y ∷ ys) p q e =
    let s = folded-parts x y xs ys e in
    let r : xs ≡ ys = folded-one xs ys (symbols-rest x xs p) (symbols-rest y ys q) s.1 in
    let b : x ≡ y = sym (symbol-byte x (symbols-head x xs p)) ∙ ap byte_of s.0 ∙ symbol-byte y (symbols-head y ys q) in
    cc

-- ---- keys

module _ (bs : List ℕ) where
  pub key-some : length bs ≤ most_digits → all_symbols bs ≡ true → key_of bs ≡ folded bs
  unfolding key_of pick
  key-some p e = let t : every (leb (length bs) most_digits ∷ all_symbols bs ∷ []) ≡ true = sym (every-pass _ true _ (le-leb _ _ p) (every-pass _ true _ e every-end)) in rw t

  pub key-long : most_digits < length bs → 0 ≡ key_of bs
  unfolding key_of pick
  key-long p = let t : every (leb (length bs) most_digits ∷ all_symbols bs ∷ []) ≡ false = sym (every-stop _ _ (lt-leb _ _ p)) in rw t

  pub key-other : length bs ≤ most_digits → all_symbols bs ≡ false → 0 ≡ key_of bs
  unfolding key_of pick
  key-other p e = let t : every (leb (length bs) most_digits ∷ all_symbols bs ∷ []) ≡ false = sym (every-pass _ false _ (le-leb _ _ p) (every-stop _ _ e)) in rw t

-- a key that isn't 0 tells that the label is a row of symbols
key-symbols : (bs : List ℕ) → 0 < key_of bs → (length bs ≤ most_digits) × (all_symbols bs ≡ true)
unfolding key_of pick
key-symbols bs p = go (every (leb (length bs) most_digits ∷ all_symbols bs ∷ [])) refl p where
  go : (t : Bool) → every (leb (length bs) most_digits ∷ all_symbols bs ∷ []) ≡ t → 0 < pick t (folded bs) 0 → (length bs ≤ most_digits) × (all_symbols bs ≡ true)
  go true e q = (leb-true _ _ (every-head _ _ e), every-head _ _ (every_rest _ _ e))
  go false e q = absurd (omega arith)

every_one : (b : Bool) → every (true ∷ b ∷ []) ≡ b
unfolding every
every_one true = refl
every_one false = refl

every-not : (b : Bool) → every (false ∷ b ∷ []) ≡ false
unfolding every
every-not b = refl

begins-itself : (l : List ℕ) → begins l l ≡ true
unfolding begins pick
begins-itself [] = refl
begins-itself (b ∷ l) = rw (eq-eqb b b refl) (begins-itself l)

same-itself : (l : List ℕ) → same l l ≡ true
unfolding same
same-itself l = sym (every-pass _ true _ (eq-eqb (length l) (length l) refl) (every-pass _ true _ (begins-itself l) every-end))

module _ (name : List ℕ) (some : 0 < length name) (short : length name ≤ most_digits) (right : all_symbols name ≡ true) where
  pub name-key : 0 < key_of name
  name-key = rw (key-some name short right) (folded-some name some right)

  pub key_one : (bs : List ℕ) → key_of bs ≡ key_of name → bs ≡ name
  key_one bs e =
      let k = name-key in
      let s = key-symbols bs (omega arith) in
      folded-one bs name s.1 right (sym (key-some bs s.0 s.1) ∙ e ∙ key-some name short right)

  same_key : (bs : List ℕ) → same name bs ≡ eqb (key_of bs) (key_of name)
  same_key bs = go (eqb (key_of bs) (key_of name)) (same name bs) refl refl where
    go : (t u : Bool) → eqb (key_of bs) (key_of name) ≡ t → same name bs ≡ u → u ≡ t
    go true u e f = let b : bs ≡ name = key_one bs (eqb-true _ _ e) in sym f ∙ ap (λ (l : List ℕ). same name l) b ∙ same-itself name
    go false false e f = refl
    go false true e f =
        let b : name ≡ bs = same_bytes name bs f in
        let k : eqb (key_of bs) (key_of name) ≡ true = eq-eqb _ _ (ap key_of (sym b)) in
        let z : ◌≡◌ {A = ℕ} 0 1 = cc in
        absurd (omega arith)

  named-key : (text : List ℕ) (e : Entry) → is_named text name e ≡ eqb (key_in text e) (key_of name)
  unfolding is_named key_in pick
  named-key text e = go (leb (e.start + e.size) (length text)) where
    go : (t : Bool) → every (t ∷ same name (part text e.start e.size) ∷ []) ≡ eqb (pick t (key_of (part text e.start e.size)) 0) (key_of name)
    go true = every_one (same name (part text e.start e.size)) ∙ same_key (part text e.start e.size)
    go false = every-not (same name (part text e.start e.size)) ∙ sym (ne_eqb 0 (key_of name) (λ z. omega (arith, name-key)))

  -- the first message so named is the first with that key
  pub number-key : (text : List ℕ) (es : List Entry) → bytes_before (key_of name) (keys_of text es) ≡ number_in text name es
  unfolding number_in keys_of bytes_before
  number-key text [] = refl
  number-key text (e ∷ es) = rw (named-key text e, number-key text es)

pub keys-behind : (text : List ℕ) (es : List Entry) (x : Entry) → keys_of text (es ++ (x ∷ [])) ≡ keys_of text es ++ (key_in text x ∷ [])
unfolding keys_of
keys-behind text [] x = refl
keys-behind text (e ∷ es) x = ap (λ (ks : List ℕ). key_in text e ∷ ks) (keys-behind text es x)
