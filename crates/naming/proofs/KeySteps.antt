-- Each step of finding a label's key and the messages' keys, in the code's own terms.
-- Assumes nothing.
use mathlib.Core.Path.{◌≡◌, refl, sym, ◌∙◌}
use mathlib.Core.Bool.{Bool, true, false}
use mathlib.Core.List.{List, [], ◌∷◌, ◌++◌}
use Prim.Native.Nat.{ℕ, zero, suc, ◌+◌, ◌-◌, ◌*◌, ◌^◌, ◌<◌, ◌≤◌}
use native.Mathlib.Numerals.{add-one}
use native.Mathlib.Omega.{arith}
use lib.Dec.{leb}
use lib.ListN.{length, take, drop, get_or, set, length-drop, length-set}
use lib.Seq.{drop-length, take-suc-set}
use borrow.Author.Tests.{le-leb, lt-leb}
use borrow.Author.Rules.{rules}
use Rattle.base.specs.Tests.{pick}
use Rattle.ascii.proofs.WordSteps.{drop-next}
use Rattle.contents.specs.Limits.{message_size}
use Rattle.contents.specs.Bytes.{u16_at, part}
use Rattle.values.specs.Inner.{most_digits}
use Rattle.unfolding.specs.Messages.{entries_from}
use Rattle.naming.specs.Inner.{symbol, all_symbols, folded, key_of, entry_at, key_in, keys_of}
use Rattle.naming.proofs.EntryLaws.{entries-last}
use Rattle.naming.proofs.KeyLaws.{symbol-minus, symbol-under, symbol-over, symbol-digit, symbols-at, symbols-more, folded-small, key-some, key-long, key-other, keys-behind}

pub ruleset symbols = (symbol-minus, symbol-under, symbol-over, symbol-digit, rules)

-- ---- a label's key

-- From left on all bytes are symbols, and this is their number.
pub record KeyGoing (label : List ℕ) (key left : ℕ) : Type 0 where
  pub within : left ≤ length label
  pub short : length label ≤ most_digits
  pub every_symbol : all_symbols (drop left label) ≡ true
  pub number : key ≡ folded (drop left label)
  pub small : key < 16 ^ most_digits

key-small : (label : List ℕ) (left : ℕ) → length label ≤ most_digits → folded (drop left label) < 16 ^ most_digits
key-small label left p = folded-small most_digits (drop left label) (omega (arith, length-drop left label))

pub key-start : (label : List ℕ) → length label ≤ most_digits → KeyGoing label 0 (length label)
unfolding all_symbols folded
key-start label p = record { within = omega arith; short = p; every_symbol = rw (drop-length label); number = rw (drop-length label); small = omega arith }

module _ (label : List ℕ) (key left : ℕ) (inv : KeyGoing label key left) where
  pub key-done : left ≤ 0 → key ≡ key_of label
  key-done p =
      let z : left ≡ 0 = omega arith in
      let s : all_symbols label ≡ true = rw z at inv.every_symbol in
      let n : key ≡ folded label = rw z at inv.number in
      n ∙ sym (key-some label inv.short s)

  module _ (more : 0 < left) where
    before : drop (left - 1) label ≡ get_or label (left - 1) 0 ∷ drop left label
    before =
        let w = inv.within in
        let z : left - 1 + 1 ≡ left = omega arith in
        rw z at (drop-next label (left - 1) (omega arith))

    pub key-stop : (s : ℕ) → s ≡ symbol (get_or label (left - 1) 0) → s ≡ 0 → 0 ≡ key_of label
    key-stop s e z = key-other label inv.short (go (all_symbols label) refl) where
      go : (t : Bool) → all_symbols label ≡ t → t ≡ false
      go false p = refl
      go true p = let w = inv.within in absurd (omega (arith, symbols-at label (left - 1) (omega arith) p))

    pub key_step : (s : ℕ) → s ≡ symbol (get_or label (left - 1) 0) → (s ≡ 0 → ⊥) → KeyGoing label (s + 16 * key) (left - 1)
    unfolding folded
    key_step s e z =
        let w = inv.within in
        let n = inv.number in
        let p : 0 < symbol (get_or label (left - 1) 0) = rw e at (some s z) in
        let q : s + 16 * key ≡ folded (drop (left - 1) label) = rw (before, ← e, ← n) in
        record {
          within = omega arith;
          short = inv.short;
          every_symbol = rw before (symbols-more _ _ p inv.every_symbol);
          number = q;
          small = rw q (key-small label (left - 1) inv.short);
        }
      where
        some : (k : ℕ) → (k ≡ 0 → ⊥) → 0 < k
        some zero q = absurd (q refl)
        some (suc k) q = omega arith

pub ruleset keying = (key-long, key-start, key-done, key-stop, key_step, rules)

-- ---- a message's key

module _ (text e : List ℕ) (at start size : ℕ) (a : start ≡ u16_at e at) (b : size ≡ u16_at e (at + 2)) where
  pub key-outside : length text < start + size → 0 ≡ key_in text (entry_at e at)
  unfolding key_in entry_at pick
  key-outside p = let t : leb (u16_at e at + u16_at e (at + 2)) (length text) ≡ false = lt-leb _ _ (rw (a, b) at p) in rw t

  pub key-inside : (r : ℕ) → start + size ≤ length text → r ≡ key_of (take (start + size - start) (drop start text)) → r ≡ key_in text (entry_at e at)
  unfolding key_in entry_at pick part
  key-inside r p q =
      let t : leb (u16_at e at + u16_at e (at + 2)) (length text) ≡ true = le-leb _ _ (rw (a, b) at p) in
      let z : start + size - start ≡ size = omega arith in
      rw (t, ← a, ← b) (rw z at q)

pub ruleset key-reading = (key-outside, key-inside, rules)

-- ---- all keys

-- The first i messages have their keys.
pub record Keying (text e o keys : List ℕ) (i : ℕ) : Type 0 where
  pub size : length keys ≡ length o
  pub filled : take i keys ≡ keys_of text (entries_from e 0 i)

pub keys-start : (text e keys : List ℕ) → Keying text e keys keys 0
unfolding keys_of entries_from
keys-start text e keys = record { size = refl; filled = refl }

module _ (text e o keys : List ℕ) (i : ℕ) (inv : Keying text e o keys i) where
  pub keys_step : (k : ℕ) → i < length o → k ≡ key_in text (entry_at e (message_size * i)) → Keying text e o (set keys i k) (i + 1)
  keys_step k p q =
      let w : i < length keys = rw inv.size p in
      let z : 0 + message_size * i ≡ message_size * i = omega arith in
      let t : take (i + 1) (set keys i k) ≡ keys_of text (entries_from e 0 i) ++ (key_in text (entry_at e (message_size * i)) ∷ []) = rw (add-one i, take-suc-set keys i k w, inv.filled, q) in
      record { size = length-set keys i k ∙ inv.size; filled = t ∙ rw (entries-last e 0 i, z) (sym (keys-behind text (entries_from e 0 i) (entry_at e (message_size * i)))) }

  pub keys-done : (n : ℕ) → i ≤ n → n ≤ i → take n keys ≡ keys_of text (entries_from e 0 n)
  keys-done n p q = let z : i ≡ n = omega arith in rw z at inv.filled

pub ruleset keys-filling = (keys-start, keys_step, keys-done, rules)
