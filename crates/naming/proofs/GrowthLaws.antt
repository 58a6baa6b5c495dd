-- The list as it grows: what lies within the text keeps its bytes, and no list gets shorter.
-- Assumes nothing.
use mathlib.Core.Path.{◌≡◌, refl, sym}
use mathlib.Core.Bool.{Bool, true, false}
use mathlib.Core.List.{List, [], ◌∷◌, ◌++◌}
use Prim.Native.Nat.{ℕ, ◌+◌, ◌<◌, ◌≤◌}
use native.Mathlib.Omega.{arith}
use lib.IntN.{ℤ}
use lib.ListN.{length, length-append}
use lib.Seq.{take-length, drop-append_seam}
use borrow.Author.Tests.{le-leb, leb-true, lt-ltb, le-ltb}
use Rattle.base.specs.Tests.{pick}
use Rattle.base.proofs.TestLaws.{every-end, every-pass, every-head, every_rest}
use Rattle.contents.specs.Limits.{most_messages, most_text}
use Rattle.contents.specs.Bytes.{part}
use Rattle.values.specs.Digits.{digits}
use Rattle.unfolding.specs.Messages.{Entry, Messages, number_of, joined, with_value, with_values}
use Rattle.unfolding.proofs.MessageLaws.{part-grown, grown-values, entries-grow, text-grows}
use Rattle.naming.specs.Named.{fits}
use Rattle.naming.specs.Inner.{all_within, key_of, key_in, keys_of}

-- ---- entries within the text

within-head : (t : ℕ) (e : Entry) (es : List Entry) → all_within t (e ∷ es) ≡ true → e.start + e.size ≤ t
unfolding all_within
within-head t e es p = leb-true _ _ (every-head _ _ p)

within-rest : (t : ℕ) (e : Entry) (es : List Entry) → all_within t (e ∷ es) ≡ true → all_within t es ≡ true
unfolding all_within
within-rest t e es p = every-head _ _ (every_rest _ _ p)

within_more : (t : ℕ) (e : Entry) (es : List Entry) → e.start + e.size ≤ t → all_within t es ≡ true → all_within t (e ∷ es) ≡ true
unfolding all_within
within_more t e es p q = sym (every-pass _ true _ (le-leb _ _ p) (every-pass _ true _ q every-end))

-- within a longer text too, and one more behind them
pub within_grown : (t u : ℕ) (es : List Entry) (x : Entry) → t ≤ u → x.start + x.size ≤ u → all_within t es ≡ true → all_within u (es ++ (x ∷ [])) ≡ true
unfolding all_within
within_grown t u [] x p q w = within_more u x [] q w
within_grown t u (e ∷ es) x p q w = within_more u e (es ++ (x ∷ [])) (let h = within-head t e es w in omega arith) (within_grown t u es x p q (within-rest t e es w))

-- ---- their keys

key-grown : (text name : List ℕ) (e : Entry) → e.start + e.size ≤ length text → key_in (text ++ name) e ≡ key_in text e
unfolding key_in pick
key-grown text name e p =
    let l : e.start + e.size ≤ length (text ++ name) = omega (arith, length-append text name) in
    rw (le-leb _ _ p, le-leb _ _ l, part-grown text name e.start e.size p)

pub keys-grown : (text name : List ℕ) (es : List Entry) → all_within (length text) es ≡ true → keys_of (text ++ name) es ≡ keys_of text es
unfolding keys_of
keys-grown text name [] w = refl
keys-grown text name (e ∷ es) w = rw (key-grown text name e (within-head _ e es w), keys-grown text name es (within-rest _ e es w))

pub key-last : (text name : List ℕ) → key_in (text ++ name) (record { start = length text; size = length name }) ≡ key_of name
unfolding key_in pick part
key-last text name =
    let l : length text + length name ≤ length (text ++ name) = omega (arith, length-append text name) in
    rw (le-leb _ _ l, drop-append_seam text name, take-length name)

-- ---- limits

pub fits_both : (m : Messages) → length m.entries ≤ most_messages → length m.text ≤ most_text → fits m ≡ true
unfolding fits
fits_both m p q = sym (every-pass _ true _ (le-leb _ _ p) (every-pass _ true _ (le-leb _ _ q) every-end))

pub fits-messages : (m : Messages) → fits m ≡ true → length m.entries ≤ most_messages
unfolding fits
fits-messages m p = leb-true _ _ (every-head _ _ p)

pub fits-text : (m : Messages) → fits m ≡ true → length m.text ≤ most_text
unfolding fits
fits-text m p = leb-true _ _ (every-head _ _ (every_rest _ _ p))

-- what fits no more is past one of the limits
fits-unless : (m : Messages) → (fits m ≡ true → ⊥) → fits m ≡ false
fits-unless m p = go (fits m) refl where
  go : (t : Bool) → fits m ≡ t → t ≡ false
  go false e = refl
  go true e = absurd (p e)

pub many : (m : Messages) → most_messages < length m.entries → fits m ≡ false
many m p = fits-unless m (λ t. omega (arith, fits-messages m t))

pub long : (m : Messages) → most_text < length m.text → fits m ≡ false
long m p = fits-unless m (λ t. omega (arith, fits-text m t))

-- ---- a value's list, and values after it

pub with-old : (m : Messages) (v : ℤ) → number_of m v < length m.entries → with_value m v ≡ m
unfolding with_value pick
with-old m v p = rw (lt-ltb _ _ p)

pub with-new : (m : Messages) (v : ℤ) → length m.entries ≤ number_of m v → with_value m v ≡ joined m (digits v)
unfolding with_value pick
with-new m v p = rw (le-ltb _ _ p)

-- what is past a limit stays so
pub stays-over : (m : Messages) (vs : List ℤ) → fits m ≡ false → fits (with_values m vs) ≡ false
stays-over m vs p =
    fits-unless (with_values m vs)
    (λ t.
    let g = grown-values m vs in
    let c = entries-grow m (with_values m vs) g in
    let d = text-grows m (with_values m vs) g in
    let a = fits-messages (with_values m vs) t in
    let b = fits-text (with_values m vs) t in
    let f : fits m ≡ true = fits_both m (omega arith) (omega arith) in
    let z : ◌≡◌ {A = ℕ} 0 1 = cc in
    omega arith)
