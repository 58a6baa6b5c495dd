-- Each step of copying the score's messages, and of seeing whether each lies within the text, in the code's own terms.
-- Assumes nothing.
use mathlib.Core.Path.{◌≡◌, refl, ◌∙◌}
use mathlib.Core.Bool.{Bool, true, false}
use mathlib.Core.List.{List, [], ◌∷◌, ◌++◌}
use Prim.Native.Nat.{ℕ, ◌+◌, ◌-◌, ◌*◌, ◌<◌, ◌≤◌}
use native.Mathlib.Omega.{arith}
use lib.Dec.{leb}
use lib.ListN.{length, take, drop}
use borrow.Author.Tests.{le-leb, lt-leb}
use borrow.Author.Rules.{rules}
use Rattle.base.specs.Tests.{every}
use Rattle.base.proofs.TestLaws.{every-pass, every-stop, every-last}
use Rattle.ascii.specs.Laying.{Laid}
use Rattle.contents.specs.Limits.{message_size, most_messages, most_text}
use Rattle.contents.specs.Bytes.{u16_at, part}
use Rattle.contents.proofs.PartLaws.{part_length}
use Rattle.extended.specs.declared.Extent.{Extent}
use Rattle.extended.specs.Layout.{messages_start, text_start, points_start}
use Rattle.extended.specs.Inner.{Foldable}
use Rattle.filing.specs.Pieces.{entry_of}
use Rattle.unfolding.specs.Messages.{entries_from, entries_bytes}
use Rattle.unfolding.specs.Extended.{extended_of}
use Rattle.naming.specs.Inner.{entry_at, all_within, messages_in, Copied, Standing}
use Rattle.naming.proofs.EntryLaws.{entries_next, entries_none, entries-last, entries-joined, bytes-joined}

-- ---- entries copied

-- The first i are copied.
pub record Copying (f : List ℕ) (at : ℕ) (o e : List ℕ) (i : ℕ) : Type 0 where
  pub copied : Copied f at i e
  pub size : length e ≡ length o

pub copy_start : (f e : List ℕ) (at : ℕ) → Copying f at e e 0
unfolding entries_from entries_bytes
copy_start f e at = record { copied = record { entries = refl; bytes = refl }; size = refl }

module _ (f o e : List ℕ) (at i : ℕ) (inv : Copying f at o e i) where
  pub copy_step : (e' : List ℕ) (start size r : ℕ) → start ≡ u16_at f (at + message_size * i) → size ≡ u16_at f (at + message_size * i + 2) → start < 65536 → size < 65536
      → message_size * i + message_size ≤ length e → Laid e (message_size * i) (entry_of start size) e' r → r ≡ message_size * i + message_size → Copying f at o e' (i + 1)
  unfolding entry_at
  copy_step e' start size r a b sa sb p laid q =
      let w : message_size * i ≤ length e = omega arith in
      let j : entries_from e' 0 (i + 1) ≡ entries_from e 0 i ++ (record { start = start; size = size } ∷ []) = entries-joined e e' i start size r laid w sa sb in
      record {
        copied = record {
          entries = rw (j, entries-last f at i, inv.copied.entries, ← a, ← b);
          bytes = bytes-joined e e' i start size r laid w sa sb inv.copied.bytes q;
        };
        size = laid.size ∙ inv.size;
      }

  pub copy_done : (count : ℕ) → i ≤ count → count ≤ i → Copied f at count e
  copy_done count p q = let z : i ≡ count = omega arith in rw z at inv.copied

  pub copy-room : (count : ℕ) → i < count → message_size * count ≤ length o → message_size * i + message_size ≤ length e
  copy-room count p q = let z = inv.size in omega arith

pub ruleset copying = (copy_start, copy_step, copy_done, copy-room, rules)

-- ---- within the text

pub within-start : (e : List ℕ) (n text : ℕ) → all_within text (entries_from e (message_size * 0) (n - 0)) ≡ all_within text (entries_from e 0 n)
within-start e n text = let z : n - 0 ≡ n = omega arith in rw z

module _ (e : List ℕ) (n text i : ℕ) (W : Bool) (inv : all_within text (entries_from e (message_size * i) (n - i)) ≡ W) where
  pub within-done : n ≤ i → true ≡ W
  unfolding all_within
  within-done p = rw (entries_none e (message_size * i) i n p) at inv

  module _ (more : i < n) (start size : ℕ) (a : start ≡ u16_at e (message_size * i)) (b : size ≡ u16_at e (message_size * i + 2)) where
    at_next : every (leb (start + size) text ∷ all_within text (entries_from e (message_size * (i + 1)) (n - (i + 1))) ∷ []) ≡ W
    unfolding all_within entry_at
    at_next = rw (a, b) (rw (entries_next e i n more) at inv)

    pub within-stop : text < start + size → false ≡ W
    within-stop p = every-stop _ _ (lt-leb _ _ p) ∙ at_next

    pub within_step : start + size ≤ text → all_within text (entries_from e (message_size * (i + 1)) (n - (i + 1))) ≡ W
    within_step p = every-pass _ _ _ (le-leb _ _ p) (every-last _ _ refl) ∙ at_next

pub ruleset withins = (within-start, within-done, within-stop, within_step, rules)

-- ---- the whole list copied

module _ (f : List ℕ) (c : Extent) (asked : Foldable f c) (e' : List ℕ) (at : ℕ) (a : at ≡ messages_start c) (copied : Copied f at c.messages e') (l l' : List ℕ) (start end r : ℕ)
    (s : start ≡ text_start c) (t : end ≡ points_start c) (laid : Laid l 0 (take (end - start) (drop start f)) l' r) where
  pub messages-copied : messages_in e' l' c.messages c.text ≡ (extended_of f).messages
  unfolding messages_in extended_of part
  messages-copied =
      let z : end - start ≡ c.text = omega arith in
      let k : length (part f start c.text) ≡ c.text = let w = asked.whole in part_length f start c.text (omega arith) in
      let d : Laid l 0 (part f start c.text) l' r = rw z at laid in
      let q : r ≡ c.text = let w = d.stop in omega arith in
      let b : take c.text l' ≡ part f start c.text = rw q at d.front in
      rw (← asked.counts, copied.entries, a, b, s)

  pub list_copied : c.messages ≤ most_messages → c.text ≤ most_text → message_size * most_messages ≤ length e' → most_text ≤ length l → Standing e' l' c.messages c.text
  list_copied few short p q =
      let w = laid.size in
      record { few = few; short = short; room = record { entries = p; labels = omega arith }; bytes = copied.bytes }

pub ruleset lists = (messages-copied, list_copied, rules)
