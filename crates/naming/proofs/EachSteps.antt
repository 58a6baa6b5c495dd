-- Each step through the values, in the code's own terms. The invariant: the list as it stands, with the values left, is the list with all of them, and the
-- numbers that are laid are those before theirs.
-- Assumes nothing.
use mathlib.Core.Path.{◌≡◌, refl, sym, ◌∙◌}
use mathlib.Core.Bool.{Bool, true, false}
use mathlib.Core.List.{List, [], ◌∷◌, ◌++◌, append_assoc, append-nil, map}
use Prim.Native.Nat.{ℕ, ◌+◌, ◌*◌, ◌<◌, ◌≤◌}
use native.Mathlib.Numerals.{add-one}
use native.Mathlib.Omega.{arith}
use lib.IntN.{ℤ}
use lib.ListN.{length, take, drop, get_or, set, length-set, length-take, drop_of_length-le}
use lib.Seq.{length-take-le, get_or-take, take-suc-set}
use borrow.Author.Rules.{rules}
use Rattle.std.specs.Prelude.{Option, Some, None}
use Rattle.base.specs.Tests.{pick}
use Rattle.ascii.proofs.WordSteps.{drop-next}
use Rattle.contents.specs.Limits.{message_size, most_messages, most_text}
use Rattle.values.specs.Integers.{whole_range}
use Rattle.values.specs.Inner.{value_of}
use Rattle.extended.specs.declared.Extent.{Extent}
use Rattle.unfolding.specs.Messages.{Messages, entries_bytes, number_of, with_value, with_values, numbers_of}
use Rattle.unfolding.proofs.MessageLaws.{entries-length}
use Rattle.naming.specs.declared.Named.{Named}
use Rattle.naming.specs.declared.places.Place.{Place}
use Rattle.naming.specs.Named.{fits, naming_of, Namable, Names}
use Rattle.naming.specs.Inner.{messages_in, Standing, Keyed, Placed, placed, placed_none, EachAsked}
use Rattle.naming.proofs.EntryLaws.{list_length}
use Rattle.naming.proofs.GrowthLaws.{fits_both, stays-over}
use Rattle.naming.proofs.PlaceSteps.{text_count}

-- ---- the answers

no-fit : (b : Bool) → b ≡ false → b ≡ true → ⊥
no-fit b p q = let z : ◌≡◌ {A = ℕ} 0 1 = cc in omega arith

names-over : (m : Messages) (vs : List ℤ) (count : ℕ) (e l ns : List ℕ) → fits (with_values m vs) ≡ false → Names m vs count e l ns None
unfolding naming_of pick
names-over m vs count e l ns p =
    record {
      answer = rw p;
      entries_stand = λ t. absurd (no-fit _ p t);
      text_stands = λ t. absurd (no-fit _ p t);
      numbers_stand = λ t. absurd (no-fit _ p t);
    }

module _ (e l : List ℕ) (n text : ℕ) (st : Standing e l n text) where
  in-text : length (messages_in e l n text).text ≡ text
  unfolding messages_in
  in-text = sym (text_count e l n text st)

  in-answer : Some (record { messages = n; text = text }) ≡ naming_of (messages_in e l n text)
  unfolding naming_of pick
  in-answer =
      let a : length (messages_in e l n text).entries ≤ most_messages = rw (list_length e l n text) st.few in
      let b : length (messages_in e l n text).text ≤ most_text = rw in-text st.short in
      rw (fits_both (messages_in e l n text) a b, list_length e l n text, in-text)

  in_bytes : take (message_size * length (messages_in e l n text).entries) e ≡ entries_bytes (messages_in e l n text).entries
  unfolding messages_in
  in_bytes = rw (entries-length e 0 n) st.bytes

  in-labels : take (length (messages_in e l n text).text) l ≡ (messages_in e l n text).text
  unfolding messages_in
  in-labels = rw (← text_count e l n text st)

  names-all : (m : Messages) (vs : List ℤ) (count : ℕ) (ns : List ℕ) → messages_in e l n text ≡ with_values m vs → take count ns ≡ numbers_of m vs → Names m vs count e l ns (Some (record { messages = n; text = text }))
  names-all m vs count ns q k =
      record {
        answer = rw q at in-answer;
        entries_stand = λ t. rw q at in_bytes;
        text_stands = λ t. rw q at in-labels;
        numbers_stand = λ t. k;
      }

-- ---- the invariant

pub record Going (values : List ℕ) (count : ℕ) (m : Messages) (inside : Bool) (e₀ l₀ keys₀ ns₀ e l keys ns : List ℕ) (n text i : ℕ) : Type 0 where
  pub within : i ≤ count
  pub list : with_values (messages_in e l n text) (map value_of (drop i (take count values))) ≡ with_values m (map value_of (take count values))
  pub numbers : take i ns ++ numbers_of (messages_in e l n text) (map value_of (drop i (take count values))) ≡ numbers_of m (map value_of (take count values))
  pub standing : Standing e l n text
  pub keyed : Keyed inside e l n text keys
  pub entries_kept : length e ≡ length e₀
  pub labels_kept : length l ≡ length l₀
  pub keys_kept : length keys ≡ length keys₀
  pub numbers_kept : length ns ≡ length ns₀

pub each_start : (values : List ℕ) (count : ℕ) (inside : Bool) (e l keys ns : List ℕ) (n text : ℕ) → Standing e l n text → Keyed inside e l n text keys
    → Going values count (messages_in e l n text) inside e l keys ns e l keys ns n text 0
each_start values count inside e l keys ns n text st keyed =
    record {
      within = omega arith;
      list = refl;
      numbers = refl;
      standing = st;
      keyed = keyed;
      entries_kept = refl;
      labels_kept = refl;
      keys_kept = refl;
      numbers_kept = refl;
    }

pub each-small : (values ns : List ℕ) (count i : ℕ) → EachAsked values count ns → i < count → get_or values i 0 < whole_range
each-small values ns count i asked p = asked.small i p

-- the values left, and the first of them
left : (values : List ℕ) (count i : ℕ) → count ≤ length values → i < count
    → map value_of (drop i (take count values)) ≡ value_of (get_or values i 0) ∷ map value_of (drop (i + 1) (take count values))
left values count i p q =
    let w : i < length (take count values) = rw (length-take-le count values p) q in
    rw (drop-next (take count values) i w, get_or-take count values i 0 q)

module _ (values : List ℕ) (count : ℕ) (m : Messages) (inside : Bool) (e₀ l₀ keys₀ ns₀ e l keys ns : List ℕ) (n text i : ℕ) (inv : Going values count m inside e₀ l₀ keys₀ ns₀ e l keys ns n text i) where
  pub each-done : count ≤ i → Names m (map value_of (take count values)) count e l ns (Some (record { messages = n; text = text }))
  unfolding with_values numbers_of
  each-done p =
      let w = inv.within in
      let z : i ≡ count = omega arith in
      let few : length (take count values) ≤ i = omega (arith, length-take count values) in
      let none : drop i (take count values) ≡ [] = drop_of_length-le (take count values) few in
      let a : messages_in e l n text ≡ with_values m (map value_of (take count values)) = rw none at inv.list in
      let b : take i ns ++ [] ≡ numbers_of m (map value_of (take count values)) = rw none at inv.numbers in
      names-all e l n text inv.standing m _ count ns a (rw z at (sym (append-nil (take i ns)) ∙ b))

  module _ (asked : EachAsked values count ns₀) (more : i < count) (e' l' keys' : List ℕ) where
    owed-list : with_values (with_value (messages_in e l n text) (value_of (get_or values i 0))) (map value_of (drop (i + 1) (take count values))) ≡ with_values m (map value_of (take count values))
    unfolding with_values
    owed-list = rw (left values count i asked.count_there more) at inv.list

    owed-numbers : take i ns ++ (number_of (messages_in e l n text) (value_of (get_or values i 0)) ∷ numbers_of (with_value (messages_in e l n text) (value_of (get_or values i 0))) (map value_of (drop (i + 1) (take count values)))) ≡ numbers_of m (map value_of (take count values))
    unfolding numbers_of
    owed-numbers = rw (left values count i asked.count_there more) at inv.numbers

    pub each_over : (place : Option Place) (e'' l'' ns'' : List ℕ) (r : Option Named) → Placed (messages_in e l n text) (value_of (get_or values i 0)) e' l' inside keys' place → place ≡ None → r ≡ None
        → Names m (map value_of (take count values)) count e'' l'' ns'' r
    each_over place e'' l'' ns'' r told p s = rw s (names-over m _ count e'' l'' ns'' (rw owed-list at (stays-over _ (map value_of (drop (i + 1) (take count values))) (none place told p)))) where
      none : (x : Option Place) → Placed (messages_in e l n text) (value_of (get_or values i 0)) e' l' inside keys' x → x ≡ None → fits (with_value (messages_in e l n text) (value_of (get_or values i 0))) ≡ false
      none None (placed_none f) q = f
      none (Some a) (placed f g h j k) q = let z : ◌≡◌ {A = ℕ} 0 1 = cc in absurd (omega arith)

    module _ (place : Option Place) (told : Placed (messages_in e l n text) (value_of (get_or values i 0)) e' l' inside keys' place) (there : Place) (p : place ≡ Some there) where
      at_place : Placed (messages_in e l n text) (value_of (get_or values i 0)) e' l' inside keys' (Some there)
      at_place = rw p at told

      pub each-narrow : there.number < 65536
      each-narrow = go at_place where
        go : {a : Place} → Placed (messages_in e l n text) (value_of (get_or values i 0)) e' l' inside keys' (Some a) → a.number < 65536
        go (placed f g h j k) = omega arith

      pub each_step : (w : ℕ) → w ≡ there.number → length e' ≡ length e → length l' ≡ length l → length keys' ≡ length keys
          → Going values count m inside e₀ l₀ keys₀ ns₀ e' l' keys' (set ns i w) there.messages there.text (i + 1)
      each_step w q ke kl kk = go at_place q where
        go : {a : Place} → Placed (messages_in e l n text) (value_of (get_or values i 0)) e' l' inside keys' (Some a) → w ≡ a.number
            → Going values count m inside e₀ l₀ keys₀ ns₀ e' l' keys' (set ns i w) a.messages a.text (i + 1)
        go (placed f g h j k) s =
            let room : i < length ns = let a = asked.numbers_room in let b = inv.numbers_kept in omega arith in
            let t : take (i + 1) (set ns i w) ≡ take i ns ++ (w ∷ []) = rw add-one (take-suc-set ns i w room) in
            record {
              within = omega arith;
              list = rw h owed-list;
              numbers = rw (t, h, s, f) (append_assoc (take i ns) _ _ ∙ owed-numbers);
              standing = j;
              keyed = k;
              entries_kept = ke ∙ inv.entries_kept;
              labels_kept = kl ∙ inv.labels_kept;
              keys_kept = kk ∙ inv.keys_kept;
              numbers_kept = length-set ns i w ∙ inv.numbers_kept;
            }

pub ruleset naming = (each_start, each-small, each-done, each_over, each-narrow, each_step, rules)

-- ---- with the score's own list

pub all_asked : (f : List ℕ) (c : Extent) (values : List ℕ) (count : ℕ) (e l ns : List ℕ) → Namable f c values count e l ns → EachAsked values count ns
all_asked f c values count e l ns asked =
    let a = asked.count_most in
    let b = asked.numbers_room in
    record { count_there = asked.count_there; small = asked.small; numbers_room = omega arith }

pub all_named : (e l : List ℕ) (n text : ℕ) (m : Messages) (vs : List ℤ) (count : ℕ) (e' l' ns : List ℕ) (r : Option Named) → messages_in e l n text ≡ m → Names (messages_in e l n text) vs count e' l' ns r
    → Names m vs count e' l' ns r
all_named e l n text m vs count e' l' ns r q names = rw q at names

pub ruleset naming-all = (all_asked, all_named, rules)
