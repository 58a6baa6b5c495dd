-- "A value's message is the first one of the list, as it then stands, with just those bytes": the number of each value is that of a message with just its digits,
-- in the list as it stands in the end, and never points past it. By what joins the list: entries and text only grow at their ends. Assumes nothing.
use mathlib.Core.Path.{◌≡◌, refl, sym, ap, ◌∙◌}
use mathlib.Core.Bool.{Bool, true, false}
use mathlib.Core.List.{List, [], ◌∷◌, ◌++◌, append_assoc, append-nil}
use Prim.Native.Nat.{ℕ, zero, suc, ◌+◌, ◌<◌, ◌≤◌}
use native.Mathlib.Omega.{arith}
use lib.Dec.{leb, ltb}
use lib.IntN.{ℤ}
use lib.ListN.{length, get_or, take, drop, length-append, length-drop, get_or-append}
use lib.Seq.{take-append-le, drop-append-le, drop-append_seam, take-length, get_or-append_seam}
use borrow.Author.Tests.{ltb-true, ltb-false, leb-true, le-leb, eq-eqb}
use Rattle.base.specs.Tests.{pick, every}
use Rattle.base.proofs.TestLaws.{every-head, every_rest}
use Rattle.ascii.specs.Words.{begins, same}
use Rattle.ascii.proofs.WordLaws.{same_bytes}
use Rattle.contents.specs.Limits.{message_size}
use Rattle.contents.specs.Bytes.{part}
use Rattle.values.specs.Digits.{digits}
use Rattle.values.specs.Curves.{Point}
use Rattle.extended.specs.declared.Folded.{Folded}
use Rattle.extended.specs.Points.{points_after, values_of, all_values}
use Rattle.unfolding.specs.Extended.{Numbered, numbered_by, numbered}
use Rattle.unfolding.specs.Messages.{Entry, Messages, entries_from, is_named, number_in, number_of, joined, with_value, with_values, numbers_of}

-- ---- the entries of a file

pub entries-length : (f : List ℕ) (at n : ℕ) → length (entries_from f at n) ≡ n
unfolding entries_from
entries-length f at zero = refl
entries-length f at (suc n) = ap suc (entries-length f (at + message_size) n)

-- ---- a list that grew

-- The second list is the first with entries and text behind it.
pub record Grown (m n : Messages) : Type 0 where
  pub more : List Entry
  pub behind : List ℕ
  pub entries : n.entries ≡ m.entries ++ more
  pub text : n.text ≡ m.text ++ behind

grown-none : (m : Messages) → Grown m m
grown-none m = record { more = []; behind = []; entries = sym (append-nil m.entries); text = sym (append-nil m.text) }

grown-both : (l m n : Messages) → Grown l m → Grown m n → Grown l n
grown-both l m n a b =
    record {
      more = a.more ++ b.more;
      behind = a.behind ++ b.behind;
      entries = b.entries ∙ ap (λ (x : List Entry). x ++ b.more) a.entries ∙ append_assoc l.entries a.more b.more;
      text = b.text ∙ ap (λ (x : List ℕ). x ++ b.behind) a.text ∙ append_assoc l.text a.behind b.behind;
    }

grown-joined : (m : Messages) (name : List ℕ) → Grown m (joined m name)
unfolding joined
grown-joined m name = record { more = record { start = length m.text; size = length name } ∷ []; behind = name; entries = refl; text = refl }

-- A value joins the list at its end, or is there; so with several.
pub grown-value : (m : Messages) (v : ℤ) → Grown m (with_value m v)
unfolding with_value pick
grown-value m v = go (ltb (number_of m v) (length m.entries))
  where
    go : (b : Bool) → Grown m (pick b m (joined m (digits v)))
    go true = grown-none m
    go false = grown-joined m (digits v)

pub grown-values : (m : Messages) (vs : List ℤ) → Grown m (with_values m vs)
unfolding with_values
grown-values m [] = grown-none m
grown-values m (v ∷ vs) = grown-both m (with_value m v) (with_values (with_value m v) vs) (grown-value m v) (grown-values (with_value m v) vs)

pub values-append : (m : Messages) (vs ws : List ℤ) → with_values m (vs ++ ws) ≡ with_values (with_values m vs) ws
unfolding with_values
values-append m [] ws = refl
values-append m (v ∷ vs) ws = values-append (with_value m v) vs ws

module _ (m n : Messages) (g : Grown m n) where
  pub entries-grow : length m.entries ≤ length n.entries
  entries-grow = omega (arith, ap length g.entries, length-append m.entries g.more)

  pub text-grows : length m.text ≤ length n.text
  text-grows = omega (arith, ap length g.text, length-append m.text g.behind)

-- ---- a message with just these bytes

-- What lies within the text keeps its bytes.
pub part-grown : (text name : List ℕ) (s z : ℕ) → s + z ≤ length text → part (text ++ name) s z ≡ part text s z
unfolding part
part-grown text name s z p =
    let d : drop s (text ++ name) ≡ drop s text ++ name = drop-append-le s text name (omega arith) in
    rw d (take-append-le z (drop s text) name (omega (arith, length-drop s text)))

begins-itself : (l : List ℕ) → begins l l ≡ true
unfolding begins pick
begins-itself [] = refl
begins-itself (b ∷ l) = rw (eq-eqb b b refl) (begins-itself l)

same-itself : (l : List ℕ) → same l l ≡ true
unfolding same every
same-itself l = rw (eq-eqb (length l) (length l) refl, begins-itself l)

module _ (text name : List ℕ) (e : Entry) (h : is_named text name e ≡ true) where
  named-within : e.start + e.size ≤ length text
  unfolding is_named
  named-within = leb-true _ _ (every-head _ _ h)

  named-same : same name (part text e.start e.size) ≡ true
  unfolding is_named
  named-same = every-head _ _ (every_rest _ _ h)

  -- Text behind it changes nothing.
  named-on : (behind : List ℕ) → is_named (text ++ behind) name e ≡ true
  unfolding is_named every
  named-on behind =
      let w = named-within in
      let l = length-append text behind in
      rw (le-leb (e.start + e.size) (length (text ++ behind)) (omega arith), part-grown text behind e.start e.size w, named-same)

abbrev pub no_entry : Entry
no_entry = record { start = 0; size = 0 }

-- Message n of the list is the value's: it lies in the list, and its label is the value's digits.
pub record Named (m : Messages) (v : ℤ) (n : ℕ) : Type 0 where
  pub below : n < length m.entries
  pub named : is_named m.text (digits v) (get_or m.entries n no_entry) ≡ true

pub named-label : (m : Messages) (v : ℤ) (n : ℕ) → Named m v n → part m.text (get_or m.entries n no_entry).start (get_or m.entries n no_entry).size ≡ digits v
named-label m v n h = sym (same_bytes (digits v) _ (named-same m.text (digits v) (get_or m.entries n no_entry) h.named))

-- It stays so in a list that grew.
named-grown : (m n : Messages) (v : ℤ) (k : ℕ) → Grown m n → Named m v k → Named n v k
named-grown m n v k g h =
    record {
      below = omega (arith, h.below, entries-grow m n g);
      named =
          rw (g.entries, g.text, get_or-append m.entries g.more no_entry k h.below)
          (named-on m.text (digits v) (get_or m.entries k no_entry) h.named g.behind);
    }

-- ---- the number of a value

module _ (text name : List ℕ) where
  number-most : (es : List Entry) → number_in text name es ≤ length es
  unfolding number_in pick
  number-most [] = omega arith
  number-most (e ∷ es) = go (is_named text name e) (number-most es)
    where
      go : (b : Bool) → number_in text name es ≤ length es → pick b 0 (suc (number_in text name es)) ≤ suc (length es)
      go true h = omega arith
      go false h = omega arith

  number-names : (es : List Entry) → number_in text name es < length es → is_named text name (get_or es (number_in text name es) no_entry) ≡ true
  unfolding number_in pick
  number-names [] l = absurd (omega arith)
  number-names (e ∷ es) l = go (is_named text name e) refl (number-names es) l
    where
      go : (b : Bool) → is_named text name e ≡ b → (number_in text name es < length es → is_named text name (get_or es (number_in text name es) no_entry) ≡ true)
          → pick b 0 (suc (number_in text name es)) < suc (length es) → is_named text name (get_or (e ∷ es) (pick b 0 (suc (number_in text name es))) no_entry) ≡ true
      go true x h p = x
      go false x h p = h (omega arith)

  -- No message before it has these bytes.
  pub number-first : (es : List Entry) (k : ℕ) → k < number_in text name es → is_named text name (get_or es k no_entry) ≡ false
  unfolding number_in pick
  number-first [] k l = absurd (omega arith)
  number-first (e ∷ es) k l = go (is_named text name e) refl (number-first es) k l
    where
      go : (b : Bool) → is_named text name e ≡ b → ((j : ℕ) → j < number_in text name es → is_named text name (get_or es j no_entry) ≡ false)
          → (k : ℕ) → k < pick b 0 (suc (number_in text name es)) → is_named text name (get_or (e ∷ es) k no_entry) ≡ false
      go true x h k p = absurd (omega arith)
      go false x h zero p = x
      go false x h (suc k) p = h k (omega arith)

module _ (m : Messages) (v : ℤ) where
  here-named : number_of m v < length m.entries → Named m v (number_of m v)
  unfolding number_of
  here-named l = record { below = l; named = number-names m.text (digits v) m.entries l }

  joined-named : length m.entries ≤ number_of m v → Named (joined m (digits v)) v (number_of m v)
  unfolding number_of joined is_named every part
  joined-named l =
      let name = digits v in
      let own : Entry = record { start = length m.text; size = length name } in
      let most : number_of m v ≤ length m.entries = number-most m.text name m.entries in
      let n : number_of m v ≡ length m.entries = omega arith in
      let last : get_or (m.entries ++ (own ∷ [])) (length m.entries) no_entry ≡ own = get_or-append_seam m.entries own [] no_entry in
      let label : take (length name) (drop (length m.text) (m.text ++ name)) ≡ name = rw (drop-append_seam m.text name) (take-length name) in
      let fits : leb (length m.text + length name) (length (m.text ++ name)) ≡ true = le-leb (length m.text + length name) (length (m.text ++ name)) (omega (arith, length-append m.text name)) in
      record {
        below = omega (arith, length-append m.entries (own ∷ []));
        named = rw (n, last, fits, label, same-itself name);
      }

  -- A value's number is that of its message, in the list that it has joined.
  pub value-named : Named (with_value m v) v (number_of m v)
  unfolding with_value pick
  value-named = go (ltb (number_of m v) (length m.entries)) refl
    where
      go : (b : Bool) → ltb (number_of m v) (length m.entries) ≡ b → Named (pick b m (joined m (digits v))) v (number_of m v)
      go true e = here-named (ltb-true _ _ e)
      go false e = joined-named (ltb-false _ _ e)

-- ---- the numbers of several

-- Each number is that of its value's message.
pub data AllNamed (m : Messages) : List ℤ → List ℕ → Type 0 where
  no_number : AllNamed m [] []
  number : {v : ℤ} {n : ℕ} {vs : List ℤ} {ns : List ℕ} → Named m v n → AllNamed m vs ns → AllNamed m (v ∷ vs) (n ∷ ns)

pub all_grown : (m n : Messages) → Grown m n → {vs : List ℤ} {ns : List ℕ} → AllNamed m vs ns → AllNamed n vs ns
all_grown m n g no_number = no_number
all_grown m n g (number {v = v} {n = k} h r) = number (named-grown m n v k g h) (all_grown m n g r)

-- Values' numbers are those of messages with just their digits, in the list after them.
pub values-named : (m : Messages) (vs : List ℤ) → AllNamed (with_values m vs) vs (numbers_of m vs)
unfolding with_values numbers_of
values-named m [] = no_number
values-named m (v ∷ vs) =
    let next = with_value m v in
    number (named-grown next (with_values next vs) v (number_of m v) (grown-values next vs) (value-named m v)) (values-named next vs)

-- So are they in the list in the end, after all values: those of the items' curves in page order.
pub data ItemsNamed (m : Messages) : List Folded → List Point → List Numbered → Type 0 where
  no_item : {ps : List Point} → ItemsNamed m [] ps []
  item : {i : Folded} {is : List Folded} {ps : List Point} {x : Numbered} {xs : List Numbered} →
      AllNamed m (values_of i ps) x.numbers → ItemsNamed m is (points_after i ps) xs → ItemsNamed m (i ∷ is) ps (x ∷ xs)

-- "Message numbers are held against the unfolded list": every curve's numbers, in page order, name messages of the final list with just their values' digits.
pub numbers-name : (is : List Folded) (ps : List Point) (m : Messages) → ItemsNamed (with_values m (all_values is ps)) is ps (numbered is ps m)
unfolding all_values numbered numbered_by
numbers-name [] ps m = no_item
numbers-name (i ∷ is) ps m =
    let next = with_values m (values_of i ps) in
    let after = all_values is (points_after i ps) in
    let e : with_values m (values_of i ps ++ after) ≡ with_values next after = values-append m (values_of i ps) after in
    rw e
    (item {x = numbered_by i (numbers_of m (values_of i ps))} (all_grown next (with_values next after) (grown-values next after) (values-named m (values_of i ps)))
    (numbers-name is (points_after i ps) next))
