-- Each token that is read leaves fewer bytes, and blanks no more: so a reader gets on.
-- Assumes nothing.
use Rattle.std.specs.Prelude.{Result, Ok, Err}
use mathlib.Core.Path.{◌≡◌, refl, sym, ap, ◌∙◌}
use mathlib.Core.Bool.{Bool, true, false}
use mathlib.Core.List.{List, [], ◌∷◌}
use Prim.Native.Nat.{ℕ, suc, ◌+◌, ◌*◌, ◌/◌, ◌<◌, ◌≤◌}
use native.Mathlib.Omega.{arith}
use lib.ListN.{length, drop, length-drop}
use lib.Seq.{drop-drop}
use lib.Dec.{eqb}
use Rattle.base.specs.Tests.{pick}
use Rattle.base.proofs.TestLaws.{every-head, between-low}
use Rattle.ascii.specs.Words.{newline}
use Rattle.ascii.specs.Numbers.{most_digits, is_digit, value}
use Rattle.ascii.proofs.WordLaws.{same_bytes}
use Rattle.tokens.specs.declared.Token.{Token}
use Rattle.tokens.specs.Bytes.{hash, slash, quote, backslash, is_blank, is_letter, is_escaped}
use Rattle.tokens.specs.Tokens.{Read, got, stop, onward, past_blanks, leading, behind, is_word, is_number, number, with_byte, label_from, label}
use Rattle.tokens.specs.Beats.{field, grains_of_a_beat, is_fraction, valued, fraction, beats}
use Rattle.tokens.specs.Asked.{as_read, met_at, value_in, Reads, Sizes}

-- What is read leaves fewer bytes than n.
pub data Shorter {A : Type 0} (n : ℕ) : Read A → Type 0 where
  shorter : {a : A} {left : List ℕ} → length left < n → Shorter n (got a left)
  stuck : {left : List ℕ} → Shorter n (stop left)

pub onward-shorter : {A B : Type 0} {n : ℕ} {r : Read A} {f : A → List ℕ → Read B} → Shorter n r → ((a : A) (left : List ℕ) → length left < n → Shorter n (f a left)) → Shorter n (onward r f)
unfolding onward
onward-shorter (shorter {a = a} {left = left} p) h = h a left p
onward-shorter stuck h = stuck

pub shorter-more : {A : Type 0} {m n : ℕ} {r : Read A} → m ≤ n → Shorter m r → Shorter n r
shorter-more p (shorter {left = left} q) = shorter {left = left} (omega arith)
shorter-more p stuck = stuck

pub shorter-left : {A : Type 0} {n : ℕ} {r : Read A} (a : A) (left : List ℕ) → Shorter n r → r ≡ got a left → length left < n
shorter-left a left (shorter {left = rest} p) e = let z : rest ≡ left = cc in rw z at p
shorter-left a left stuck e = let z : ◌≡◌ {A = ℕ} 0 1 = cc in absurd (omega arith)

-- ---- blanks, words and numbers

pub blanks-size : (c : Bool) (bs : List ℕ) → length (past_blanks c bs) ≤ length bs
unfolding past_blanks pick
blanks-size c [] = omega arith
blanks-size true (b ∷ bs) = go (eqb b newline) (blanks-size false bs) (blanks-size true bs) where
  go : (t : Bool) → length (past_blanks false bs) ≤ length bs → length (past_blanks true bs) ≤ length bs
      → length (pick t (past_blanks false bs) (past_blanks true bs)) ≤ suc (length bs)
  go true p q = omega arith
  go false p q = omega arith
blanks-size false (b ∷ bs) = go (is_blank b) (eqb b hash) (blanks-size false bs) (blanks-size true bs) where
  go : (t u : Bool) → length (past_blanks false bs) ≤ length bs → length (past_blanks true bs) ≤ length bs
      → length (pick t (past_blanks false bs) (pick u (past_blanks true bs) (b ∷ bs))) ≤ suc (length bs)
  go true u p q = omega arith
  go false true p q = omega arith
  go false false p q = omega arith

pub leading-size : (p : ℕ → Bool) (bs : List ℕ) → length (leading p bs) + length (behind p bs) ≡ length bs
unfolding leading behind pick
leading-size p [] = refl
leading-size p (b ∷ bs) = go (p b) (leading-size p bs) where
  go : (t : Bool) → length (leading p bs) + length (behind p bs) ≡ length bs
      → length (pick t (b ∷ leading p bs) []) + length (pick t (behind p bs) (b ∷ bs)) ≡ suc (length bs)
  go true r = omega arith
  go false r = omega arith

pub behind-drop : (p : ℕ → Bool) (bs : List ℕ) → behind p bs ≡ drop (length (leading p bs)) bs
unfolding leading behind pick
behind-drop p [] = refl
behind-drop p (b ∷ bs) = go (p b) (behind-drop p bs) where
  go : (t : Bool) → behind p bs ≡ drop (length (leading p bs)) bs → pick t (behind p bs) (b ∷ bs) ≡ drop (length (pick t (b ∷ leading p bs) [])) (b ∷ bs)
  go true r = r
  go false r = refl

-- Where a word stands, what is left behind its letters is what is left behind the word.
pub word-behind : (word bs : List ℕ) → is_word word bs ≡ true → (behind is_letter bs ≡ drop (length word) bs) × (length word ≤ length bs)
unfolding is_word
word-behind word bs e =
    let w : word ≡ leading is_letter bs = same_bytes word (leading is_letter bs) e in
    let l : length word ≡ length (leading is_letter bs) = ap (λ (x : List ℕ). length x) w in
    (rw l (behind-drop is_letter bs), omega (arith, leading-size is_letter bs))

-- The same in a text, from one of its bytes on.
pub word_next : (word t : List ℕ) (at : ℕ) → at ≤ length t → is_word word (drop at t) ≡ true
    → (behind is_letter (drop at t) ≡ drop (at + length word) t) × (at + length word ≤ length t)
word_next word t at p e =
    let w = word-behind word (drop at t) e in
    (w.0 ∙ drop-drop (length word) at t, omega (arith, w.1, length-drop at t))

pub number-shorter : (limit : ℕ) (bs : List ℕ) → Shorter (length bs) (number limit bs)
unfolding number is_number pick
number-shorter limit bs = go (is_number limit (leading is_digit bs)) refl where
  go : (t : Bool) → is_number limit (leading is_digit bs) ≡ t → Shorter (length bs) (pick t (got (value (leading is_digit bs)) (behind is_digit bs)) (stop bs))
  go true e =
      let some : 1 ≤ length (leading is_digit bs) = between-low 1 most_digits _ (every-head _ _ e) in
      shorter {left = behind is_digit bs} (omega (arith, leading-size is_digit bs))
  go false e = stuck

-- ---- delays

valued-shorter : (n : ℕ) (bs : List ℕ) (k d : ℕ) (left : List ℕ) → length left < n → Shorter n (valued bs k d left)
unfolding valued pick
valued-shorter n bs k d left p = go (is_fraction k d) where
  go : (t : Bool) → Shorter n (pick t (got (k * grains_of_a_beat / d) left) (stop bs))
  go true = shorter p
  go false = stuck

fraction-shorter : (n : ℕ) (bs : List ℕ) (k : ℕ) (left : List ℕ) → length left < n → Shorter n (fraction bs k left)
unfolding fraction pick
fraction-shorter n bs k [] p = valued-shorter n bs k 1 [] p
fraction-shorter n bs k (b ∷ left) p = go (eqb b slash) where
  go : (t : Bool) → Shorter n (pick t (onward (number field left) (λ d rest. valued bs k d rest)) (valued bs k 1 (b ∷ left)))
  go true = onward-shorter (shorter-more (omega arith) (number-shorter field left)) (λ d rest q. valued-shorter n bs k d rest q)
  go false = valued-shorter n bs k 1 (b ∷ left) p

pub beats-shorter : (bs : List ℕ) → Shorter (length bs) (beats bs)
unfolding beats
beats-shorter bs = onward-shorter (number-shorter field bs) (λ k left q. fraction-shorter (length bs) bs k left q)

-- ---- labels

-- A label's bytes and those left are fewer than n.
pub data Fewer (n : ℕ) : Read (List ℕ) → Type 0 where
  fewer : {l left : List ℕ} → length l + length left < n → Fewer n (got l left)
  unread : {left : List ℕ} → Fewer n (stop left)

fewer-more : {m n : ℕ} {r : Read (List ℕ)} → m ≤ n → Fewer m r → Fewer n r
fewer-more p (fewer {l = l} {left = left} q) = fewer {l = l} {left = left} (omega arith)
fewer-more p unread = unread

byte-fewer : {n : ℕ} (b : ℕ) {r : Read (List ℕ)} → Fewer n r → Fewer (suc n) (with_byte b r)
unfolding with_byte
byte-fewer b (fewer {l = l} {left = left} p) = fewer {l = b ∷ l} {left = left} (omega arith)
byte-fewer b unread = unread

labelled-fewer : (e : Bool) (bs : List ℕ) → Fewer (length bs) (label_from e bs)
unfolding label_from pick
labelled-fewer e [] = unread
labelled-fewer true (b ∷ bs) = go (is_escaped b) (labelled-fewer false bs) where
  go : (t : Bool) → Fewer (length bs) (label_from false bs) → Fewer (suc (length bs)) (pick t (with_byte b (label_from false bs)) (stop (b ∷ bs)))
  go true r = byte-fewer b r
  go false r = unread
labelled-fewer false (b ∷ bs) = go (eqb b quote) (eqb b backslash) (eqb b newline) (labelled-fewer true bs) (labelled-fewer false bs) where
  go : (t u v : Bool) → Fewer (length bs) (label_from true bs) → Fewer (length bs) (label_from false bs)
      → Fewer (suc (length bs)) (pick t (got [] bs) (pick u (label_from true bs) (pick v (stop (b ∷ bs)) (with_byte b (label_from false bs)))))
  go true u v r s = fewer {l = []} {left = bs} (omega arith)
  go false true v r s = fewer-more (omega arith) r
  go false false true r s = unread
  go false false false r s = byte-fewer b s

pub label-fewer : (bs : List ℕ) → Fewer (length bs) (label bs)
unfolding label pick
label-fewer [] = unread
label-fewer (b ∷ bs) = go (eqb b quote) where
  go : (t : Bool) → Fewer (suc (length bs)) (pick t (label_from false bs) (stop (b ∷ bs)))
  go true = fewer-more (omega arith) (labelled-fewer false bs)
  go false = unread

fewer-shorter : {n : ℕ} {r : Read (List ℕ)} → Fewer n r → Shorter n r
fewer-shorter (fewer {l = l} {left = left} p) = shorter {a = l} {left = left} (omega arith)
fewer-shorter unread = stuck

pub label-shorter : (bs : List ℕ) → Shorter (length bs) (label bs)
label-shorter bs = fewer-shorter (label-fewer bs)

pub fewer-left : {n : ℕ} {r : Read (List ℕ)} (l left : List ℕ) → Fewer n r → r ≡ got l left → length l + length left < n
fewer-left l left (fewer {l = m} {left = rest} p) e =
    let z : m ≡ l = cc in
    let y : rest ≡ left = cc in
    rw (z, y) at p
fewer-left l left unread e = let z : ◌≡◌ {A = ℕ} 0 1 = cc in absurd (omega arith)

-- ---- in the code's own terms

module _ (t : List ℕ) (v : Result Token ℕ) where
  pub read-got : (k : Token) → v ≡ Ok k → as_read t v ≡ got k.value (drop k.next t)
  unfolding as_read
  read-got k e = rw e

  pub read-stop : (at : ℕ) → v ≡ Err at → as_read t v ≡ stop (drop at t)
  unfolding as_read
  read-stop at e = rw e

  module _ (limit : ℕ) (what : Read ℕ) (told : Reads t limit what v) where
    pub reads-within : (k : Token) → v ≡ Ok k → k.next ≤ length t
    unfolding met_at
    reads-within k e = rw e at told.within

    pub reads-small : (k : Token) → v ≡ Ok k → k.value < limit
    unfolding value_in
    reads-small k e = rw e at told.small

    pub fault-within : (at : ℕ) → v ≡ Err at → at ≤ length t
    unfolding met_at
    fault-within at e = rw e at told.within

  pub sizes-within : (what : Read (List ℕ)) → Sizes t what v → (k : Token) → v ≡ Ok k → k.next ≤ length t
  unfolding met_at
  sizes-within what told k e = rw e at told.within

  pub fault-sized : (what : Read (List ℕ)) → Sizes t what v → (at : ℕ) → v ≡ Err at → at ≤ length t
  unfolding met_at
  fault-sized what told at e = rw e at told.within

module _ (t : List ℕ) (at : ℕ) (v : Result Token ℕ) (k : Token) (e : v ≡ Ok k) where
  read-onward : {what : Read ℕ} → Shorter (length (drop at t)) what → as_read t v ≡ what → k.next ≤ length t → at < k.next
  read-onward s says p =
      let l : length (drop k.next t) < length (drop at t) = shorter-left k.value _ s (sym says ∙ read-got t v k e) in
      omega (arith, length-drop k.next t, length-drop at t)

  pub number-onward : (limit : ℕ) → Reads t limit (number limit (drop at t)) v → at < k.next
  number-onward limit r = read-onward (number-shorter limit (drop at t)) r.says (reads-within t v limit _ r k e)

  pub beats-onward : Reads t field (beats (drop at t)) v → at < k.next
  beats-onward r = read-onward (beats-shorter (drop at t)) r.says (reads-within t v field _ r k e)
