-- Each step of placing a value, in the code's own terms.
-- Assumes nothing.
use mathlib.Core.Path.{◌≡◌, refl, sym, ap, ◌∙◌}
use mathlib.Core.Bool.{Bool, true, false}
use mathlib.Core.List.{List, [], ◌∷◌, ◌++◌}
use Prim.Native.Nat.{ℕ, ◌+◌, ◌-◌, ◌*◌, ◌/◌, ◌%◌, ◌<◌, ◌≤◌}
use native.Mathlib.Numerals.{add-one}
use native.Mathlib.Omega.{arith}
use lib.Dec.{ltb}
use lib.ListN.{length, take, length-append, length-set}
use lib.Seq.{length-take-le, take-set-le, take-suc-set}
use borrow.Author.Tests.{ltb-true, ltb-false}
use borrow.Author.Rules.{rules}
use Rattle.std.specs.Prelude.{Option, Some, None}
use Rattle.base.specs.Tests.{between}
use Rattle.base.proofs.TestLaws.{every-head, every_rest, between-low, between-high}
use Rattle.ascii.specs.Words.{zero_digit, nine_digit}
use Rattle.ascii.specs.Numbers.{is_digit, all_digits}
use Rattle.ascii.specs.Decimals.{most_places, digits_of, decimal}
use Rattle.ascii.specs.Laying.{Laid}
use Rattle.ascii.proofs.DecimalLaws.{digits-one, digits_more, decimal-digits}
use Rattle.contents.specs.Limits.{message_size, most_messages, most_text}
use Rattle.values.specs.Integers.{whole_range, half_range}
use Rattle.values.specs.Digits.{minus, digits}
use Rattle.values.specs.Inner.{value_of, most_digits}
use Rattle.values.proofs.DigitLaws.{digits-at-or-above, digits-below}
use Rattle.filing.specs.Pieces.{entry_of}
use Rattle.unfolding.specs.Messages.{Messages, entries_from, number_of, joined, with_value}
use Rattle.unfolding.proofs.MessageLaws.{entries-length}
use Rattle.naming.specs.declared.places.Place.{Place}
use Rattle.naming.specs.Inner.{symbol, all_symbols, key_of, keys_of, messages_in, all_within, Standing, Keyed, Searchable, Finds, Joins, joins, joins_none, Placed, placed, placed_none}
use Rattle.naming.proofs.EntryLaws.{list_length, entries-joined, bytes-joined}
use Rattle.naming.proofs.KeyLaws.{symbol-minus, symbol-digit, symbols-more, keys-behind}
use Rattle.naming.proofs.GrowthLaws.{within_grown, keys-grown, key-last, many, long, with-old, with-new}

-- ---- a value's digits are symbols, and there is one

decimal-symbols : (bs : List ℕ) → all_digits bs ≡ true → all_symbols bs ≡ true
unfolding all_digits is_digit all_symbols
decimal-symbols [] e = refl
decimal-symbols (b ∷ bs) e =
    let h : between zero_digit nine_digit b ≡ true = every-head _ _ e in
    let lo : zero_digit ≤ b = between-low zero_digit nine_digit b h in
    let hi : b ≤ nine_digit = between-high zero_digit nine_digit b h in
    let s : b - 47 ≡ symbol b = symbol-digit b (λ z. omega arith) b lo hi refl in
    symbols-more b bs (omega arith) (decimal-symbols bs (every-head _ _ (every_rest _ _ e)))

decimal-some : (n : ℕ) → 0 < length (decimal n)
unfolding decimal
decimal-some n = go (ltb n 10) refl where
  go : (t : Bool) → ltb n 10 ≡ t → 0 < length (digits_of most_places n)
  go true e = rw (digits-one most_places n (omega arith) (ltb-true n 10 e)) (omega arith)
  go false e = rw (digits_more most_places n (omega arith) (ltb-false n 10 e)) (omega (arith, length-append (digits_of (most_places - 1) (n / 10)) ((zero_digit + n % 10) ∷ [])))

module _ (v : ℕ) (small : v < whole_range) where
  pub value-symbols : all_symbols (digits (value_of v)) ≡ true
  value-symbols = go (ltb v half_range) refl where
    go : (t : Bool) → ltb v half_range ≡ t → all_symbols (digits (value_of v)) ≡ true
    go true e =
        let s : 11 ≡ symbol minus = symbol-minus minus refl in
        rw (digits-below v small (ltb-true _ _ e)) (symbols-more minus _ (omega arith) (decimal-symbols _ (decimal-digits (half_range - v))))
    go false e = rw (digits-at-or-above v small (ltb-false _ _ e)) (decimal-symbols _ (decimal-digits (v - half_range)))

  pub value-some : 0 < length (digits (value_of v))
  value-some = go (ltb v half_range) refl where
    go : (t : Bool) → ltb v half_range ≡ t → 0 < length (digits (value_of v))
    go true e = rw (digits-below v small (ltb-true _ _ e)) (omega arith)
    go false e = rw (digits-at-or-above v small (ltb-false _ _ e)) (decimal-some (v - half_range))

-- ---- a message joins the list

module _ (e l : List ℕ) (n text : ℕ) (st : Standing e l n text) (name : List ℕ) where
  text-length : length (take text l) ≡ text
  text-length = let s = st.short in let r = st.room.labels in length-take-le text l (omega arith)

  joined-many : length (joined (messages_in e l n text) name).entries ≡ n + 1
  unfolding joined messages_in
  joined-many = length-append (entries_from e 0 n) _ ∙ rw (entries-length e 0 n)

  joined-long : length (joined (messages_in e l n text) name).text ≡ text + length name
  unfolding joined messages_in
  joined-long = length-append (take text l) name ∙ rw text-length

  pub join-many : most_messages ≤ n → Joins (messages_in e l n text) name e l n None
  join-many p = joins_none (many (joined (messages_in e l n text) name) (omega (arith, joined-many)))

  pub join-long : most_text < text + length name → Joins (messages_in e l n text) name e l n None
  join-long p = joins_none (long (joined (messages_in e l n text) name) (omega (arith, joined-long)))

  module _ (short : length name ≤ most_digits) (e' l' : List ℕ) (q r : ℕ) (few : n < most_messages) (room : text + length name ≤ most_text) (le : Laid e (message_size * n) (entry_of text (length name)) e' q)
      (stop : q ≡ message_size * n + message_size) (ll : Laid l text name l' r) where
    entry-room : message_size * n ≤ length e
    entry-room = let s = st.room.entries in omega arith

    joined-there : messages_in e' l' (n + 1) (text + length name) ≡ joined (messages_in e l n text) name
    unfolding joined messages_in
    joined-there =
        let a : entries_from e' 0 (n + 1) ≡ entries_from e 0 n ++ (record { start = text; size = length name } ∷ []) = entries-joined e e' n text (length name) q le entry-room (omega arith) (omega arith) in
        let b : take (text + length name) l' ≡ take text l ++ name = rw ll.stop at ll.front in
        rw (a, b, text-length)

    pub join-done : Joins (messages_in e l n text) name e' l' n (Some (record { number = n; messages = n + 1; text = text + length name }))
    join-done =
        joins refl refl joined-there
        (record {
          few = omega arith;
          short = room;
          room = record { entries = rw le.size st.room.entries; labels = rw ll.size st.room.labels };
          bytes = bytes-joined e e' n text (length name) q le entry-room (omega arith) (omega arith) st.bytes stop;
        })

pub ruleset joining = (join-many, join-long, join-done, rules)

-- ---- a value's place

module _ (v : ℕ) (small : v < whole_range) (e l : List ℕ) (n text : ℕ) (st : Standing e l n text) (inside : Bool) (keys : List ℕ) (keyed : Keyed inside e l n text keys) (o d : List ℕ) (size : ℕ)
    (laid : Laid o 0 (digits (value_of v)) d size) where
  name-is : take size d ≡ digits (value_of v)
  name-is = laid.front

  pub place-asked : size ≤ 0 + most_digits → Searchable e n (take text l) inside keys (take size d)
  place-asked p =
      let f = st.few in
      let k = keyed.key_room in
      let r = st.room.entries in
      let s = laid.stop in
      record {
        key_room = omega arith;
        room = omega arith;
        keys_right = keyed.keys_right;
        name_short = rw name-is (omega arith);
        name_some = rw name-is (value-some v small);
        name_symbols = rw name-is (value-symbols v small);
      }

  module _ (keys' : List ℕ) (number : ℕ) (finds : Finds e n (take text l) (take size d) keys keys' number) where
    found_number : number ≡ number_of (messages_in e l n text) (value_of v)
    unfolding number_of messages_in
    found_number = rw name-is at finds.number

    keys-room : length keys' ≡ length keys
    keys-room = ap length finds.put ∙ length-set keys n (key_of (take size d))

    pub place_found : number < n → Placed (messages_in e l n text) (value_of v) e l inside keys' (Some (record { number = number; messages = n; text = text }))
    place_found p =
        let f = found_number in
        let g = list_length e l n text in
        let s = st.few in
        placed f (omega arith) (sym (with-old (messages_in e l n text) (value_of v) (omega arith))) st
        (record {
          key_room = rw keys-room keyed.key_room;
          within = keyed.within;
          keys_right = λ t. rw (finds.put, take-set-le n keys n (key_of (take size d)) (omega arith)) (keyed.keys_right t);
        })

    module _ (late : n ≤ number) (e' l' : List ℕ) where
      joined-value : with_value (messages_in e l n text) (value_of v) ≡ joined (messages_in e l n text) (take size d)
      joined-value =
          let f = found_number in
          let g = list_length e l n text in
          with-new (messages_in e l n text) (value_of v) (omega arith) ∙ ap (λ (x : List ℕ). joined (messages_in e l n text) x) (sym name-is)

      module _ (t : ℕ) (is : messages_in e' l' (n + 1) t ≡ joined (messages_in e l n text) (take size d)) (st' : Standing e' l' (n + 1) t) where
        grown-entries : entries_from e' 0 (n + 1) ≡ entries_from e 0 n ++ (record { start = length (take text l); size = length (take size d) } ∷ [])
        unfolding messages_in joined
        grown-entries = ap (λ (m : Messages). m.entries) is

        grown-text : take t l' ≡ take text l ++ take size d
        unfolding messages_in joined
        grown-text = ap (λ (m : Messages). m.text) is

        grown-length : t ≡ length (take text l) + length (take size d)
        grown-length = sym (text-length e' l' (n + 1) t st' (take size d)) ∙ ap length grown-text ∙ length-append (take text l) (take size d)

        joined-keys : inside ≡ true → take (n + 1) keys' ≡ keys_of (take t l') (entries_from e' 0 (n + 1))
        joined-keys i =
            let f = st.few in
            let r = keyed.key_room in
            let w : n < length keys = omega arith in
            let a : take (n + 1) keys' ≡ take n keys ++ (key_of (take size d) ∷ []) = rw (finds.put, add-one n, take-suc-set keys n (key_of (take size d)) w) in
            let h : all_within (length (take text l)) (entries_from e 0 n) ≡ true = rw (text-length e l n text st (take size d)) (keyed.within i) in
            let b : keys_of (take text l ++ take size d) (entries_from e 0 n) ≡ take n keys = keys-grown (take text l) (take size d) (entries_from e 0 n) h ∙ sym (keyed.keys_right i) in
            rw (grown-text, grown-entries, keys-behind, b, key-last (take text l) (take size d)) a

        joined-keyed : Keyed inside e' l' (n + 1) t keys'
        joined-keyed =
            let g = grown-length in
            let h = text-length e l n text st (take size d) in
            record {
              key_room = rw keys-room keyed.key_room;
              within = λ i. rw grown-entries (within_grown text t (entries_from e 0 n) (record { start = length (take text l); size = length (take size d) }) (omega arith) (omega arith) (keyed.within i));
              keys_right = joined-keys;
            }

      pub place-joined : (r : Option Place) → Joins (messages_in e l n text) (take size d) e' l' n r → Placed (messages_in e l n text) (value_of v) e' l' inside keys' r
      place-joined (Some p) (joins a b is st') =
          let f = finds.most in
          let s = st.few in
          let z : n ≡ number = omega arith in
          placed (a ∙ (z ∙ found_number)) (rw a s) (rw b (is ∙ sym joined-value)) (rw b st') (rw b (joined-keyed p.text is st'))
      place-joined None (joins_none p) = placed_none (rw joined-value p)

pub prefix-count : (d : List ℕ) (size : ℕ) → size ≤ length d → size ≡ length (take size d)
prefix-count d size p = sym (length-take-le size d p)

pub text_count : (e l : List ℕ) (n text : ℕ) → Standing e l n text → text ≡ length (take text l)
text_count e l n text st = sym (text-length e l n text st [])

pub prefix-short : (o d xs : List ℕ) (size most : ℕ) → Laid o 0 xs d size → size ≤ 0 + most → length (take size d) ≤ most
prefix-short o d xs size most laid p = let w = laid.within in omega (arith, length-take-le size d w)

pub ruleset placing = (prefix-count, text_count, prefix-short, place-asked, place_found, place-joined, rules)

-- ---- the keys of the list

pub list-keyed : (e l keys : List ℕ) (n text : ℕ) (inside : Bool) → inside ≡ all_within text (entries_from e 0 n) → most_messages < length keys → take n keys ≡ keys_of (take text l) (entries_from e 0 n)
    → Keyed inside e l n text keys
list-keyed e l keys n text inside p r q = record { key_room = r; within = λ t. sym p ∙ t; keys_right = λ t. q }

pub ruleset list-keying = (text_count, list-keyed, rules)
