-- Each step of searching a message by its bytes or by its key, in the code's own terms.
-- Assumes nothing.
use mathlib.Core.Path.{◌≡◌, refl, sym, ◌∙◌}
use mathlib.Core.Bool.{Bool, true, false}
use mathlib.Core.List.{List}
use Prim.Native.Nat.{ℕ, suc, ◌+◌, ◌-◌, ◌*◌, ◌<◌, ◌≤◌}
use native.Mathlib.Omega.{arith}
use lib.Dec.{ltb}
use lib.ListN.{length, take, drop, get_or, set}
use lib.Seq.{lt-length-set, length-take-le, take-set-le, get_or-take, get_or-set_same}
use borrow.Author.Tests.{le-leb, lt-leb, ltb-true, ltb-false}
use borrow.Author.Rules.{rules}
use Rattle.base.specs.Tests.{pick}
use Rattle.base.proofs.TestLaws.{every-pass, every-stop, every-last}
use Rattle.ascii.specs.Words.{same, bytes_before}
use Rattle.ascii.proofs.WordSteps.{before-start, before-none, before-found, before-step}
use Rattle.contents.specs.Limits.{message_size}
use Rattle.contents.specs.Bytes.{u16_at, part}
use Rattle.unfolding.specs.Messages.{is_named, entries_from, number_in}
use Rattle.naming.specs.Inner.{entry_at, key_of, keys_of, KeyFound, Searchable, Finds}
use Rattle.naming.proofs.EntryLaws.{entries_next, entries_none}
use Rattle.naming.proofs.KeyLaws.{number-key}

-- ---- one message by its bytes

module _ (text name e : List ℕ) (at start size : ℕ) (a : start ≡ u16_at e at) (b : size ≡ u16_at e (at + 2)) where
  pub named-outside : length text < start + size → false ≡ is_named text name (entry_at e at)
  unfolding is_named entry_at
  named-outside p = every-stop _ _ (lt-leb _ _ (rw (a, b) at p))

  pub named-inside : (r : Bool) → start + size ≤ length text → r ≡ same name (take (start + size - start) (drop start text)) → r ≡ is_named text name (entry_at e at)
  unfolding is_named entry_at part
  named-inside r p q =
      let z : start + size - start ≡ size = omega arith in
      every-pass _ _ _ (le-leb _ _ (rw (a, b) at p)) (every-last _ _ (rw (← a, ← b) (rw z at q)))

pub ruleset comparing = (named-outside, named-inside, rules)

-- ---- the first by its bytes

pub label-start : (text name e : List ℕ) (n : ℕ) → 0 + number_in text name (entries_from e (message_size * 0) (n - 0)) ≡ number_in text name (entries_from e 0 n)
label-start text name e n = let z : n - 0 ≡ n = omega arith in rw z (omega arith)

module _ (text name e : List ℕ) (n i W : ℕ) (inv : i + number_in text name (entries_from e (message_size * i) (n - i)) ≡ W) where
  pub label-none : n ≤ i → i ≡ W
  unfolding number_in
  label-none p = let z : i + 0 ≡ W = rw (entries_none e (message_size * i) i n p) at inv in omega arith

  module _ (more : i < n) (r : Bool) (told : r ≡ is_named text name (entry_at e (message_size * i))) where
    pub label-found : r ≡ true → i ≡ W
    unfolding number_in pick
    label-found p = let z : i + 0 ≡ W = rw (entries_next e i n more, ← told, p) at inv in omega arith

    pub label-step : r ≡ false → i + 1 + number_in text name (entries_from e (message_size * (i + 1)) (n - (i + 1))) ≡ W
    unfolding number_in pick
    label-step p =
        let z : i + suc (number_in text name (entries_from e (message_size * (i + 1)) (n - (i + 1)))) ≡ W = rw (entries_next e i n more, ← told, p) at inv in
        omega arith

pub ruleset labels = (label-start, label-none, label-found, label-step, rules)

-- ---- the first by its key

-- The key stands behind the first n, and none of the first i is it.
pub record Seeking (keys : List ℕ) (n key i : ℕ) : Type 0 where
  pub within : i ≤ n
  pub room : n < length keys
  pub behind : get_or keys n 0 ≡ key
  pub passed : i + bytes_before key (drop i (take n keys)) ≡ bytes_before key (take n keys)

pub seek-start : (keys : List ℕ) (n key : ℕ) → n < length keys → Seeking (set keys n key) n key 0
seek-start keys n key p =
    record {
      within = omega arith;
      room = lt-length-set keys n key p;
      behind = get_or-set_same keys n key 0 p;
      passed = before-start key (take n (set keys n key));
    }

module _ (keys : List ℕ) (n key i : ℕ) (inv : Seeking keys n key i) where
  seek-length : length (take n keys) ≡ n
  seek-length = let r = inv.room in length-take-le n keys (omega arith)

  seek-more : (get_or keys i 0 ≡ key → ⊥) → i < n
  seek-more p = go (ltb i n) refl where
    go : (t : Bool) → ltb i n ≡ t → i < n
    go true e = ltb-true i n e
    go false e =
        let w = inv.within in
        let z : i ≡ n = let q = ltb-false i n e in omega arith in
        absurd (p (rw z inv.behind))

  pub seek-less : (get_or keys i 0 ≡ key → ⊥) → n - (i + 1) < n - i
  seek-less p = let q = seek-more p in omega arith

  pub seek-step : (get_or keys i 0 ≡ key → ⊥) → Seeking keys n key (i + 1)
  seek-step p =
      let q = seek-more p in
      let w : i < length (take n keys) = rw seek-length q in
      let o : get_or (take n keys) i 0 ≡ key → ⊥ = λ e. p (sym (get_or-take n keys i 0 q) ∙ e) in
      record { within = omega arith; room = inv.room; behind = inv.behind; passed = before-step key (take n keys) i _ inv.passed w o }

  seek_found : get_or keys i 0 ≡ key → i ≡ bytes_before key (take n keys)
  seek_found p = go (ltb i n) refl where
    go : (t : Bool) → ltb i n ≡ t → i ≡ bytes_before key (take n keys)
    go true e =
        let q : i < n = ltb-true i n e in
        let w : i < length (take n keys) = rw seek-length q in
        before-found key (take n keys) i _ inv.passed w (get_or-take n keys i 0 q ∙ p)
    go false e = before-none key (take n keys) i _ inv.passed (rw seek-length (ltb-false i n e))

pub seek-done : (keys : List ℕ) (n key i : ℕ) → Seeking (set keys n key) n key i → get_or (set keys n key) i 0 ≡ key → KeyFound keys n key (set keys n key) i
seek-done keys n key i inv p =
    record { number = rw (take-set-le n keys n key (omega arith)) at (seek_found (set keys n key) n key i inv p); most = inv.within; put = refl }

pub ruleset seeking = (seek-start, seek-less, seek-step, seek-done, rules)

-- ---- either way

module _ (e : List ℕ) (n : ℕ) (text : List ℕ) (inside : Bool) (keys name : List ℕ) (asked : Searchable e n text inside keys name) (key : ℕ) (k : key ≡ key_of name) (keys' : List ℕ) (number : ℕ)
    (found : KeyFound keys n key keys' number) where
  pub find-fast : inside ≡ true → Finds e n text name keys keys' number
  find-fast t =
      let q : take n keys ≡ keys_of text (entries_from e 0 n) = asked.keys_right t in
      record {
        number = found.number ∙ rw (k, q) (number-key name asked.name_some asked.name_short asked.name_symbols text (entries_from e 0 n));
        most = found.most;
        put = rw k at found.put;
      }

  pub find-slow : (r : ℕ) → r ≡ number_in text name (entries_from e 0 n) → r ≤ n → Finds e n text name keys keys' r
  find-slow r p q = record { number = p; most = q; put = rw k at found.put }

pub ruleset finding = (find-fast, find-slow, rules)
