-- The names of an entry and of an item's field are laid as their case has them, and have no more bytes than there is room for.
-- Assumes nothing.
use mathlib.Core.Path.{◌≡◌}
use mathlib.Core.Bool.{Bool, true, false, not}
use mathlib.Core.List.{List, [], ◌∷◌}
use Prim.Native.Nat.{ℕ, ◌+◌, ◌≤◌}
use native.Mathlib.Omega.{arith}
use lib.Dec.{leb}
use lib.ListN.{length, get_or, get_or-eq_default}
use borrow.Author.Rules.{rules}
use borrow.Author.Tests.{leb-true}
use Rattle.base.specs.Tests.{pick}
use Rattle.base.proofs.TestLaws.{told-true, told-false}
use Rattle.ascii.specs.Laying.{Laid}
use Rattle.ascii.proofs.LayLaws.{laid-nothing, laid-join}
use Rattle.session.specs.declared.Refusal.{Refusal}
use Rattle.contents.specs.declared.entries.Entry.{Entry}
use Rattle.refusals.specs.Entries.{field_words, field_count, name_words, name_room, is_entry, entry_words, entry_room, refusal_field, named_words}

-- ---- a field of the contents

pub field-case : {o m words : List ℕ} {at r i k : ℕ} → i ≡ k → Laid o at words m r → get_or field_words k [] ≡ words → leb (length words) name_room ≡ true
    → Laid o at (get_or field_words i []) m r × (r ≤ at + name_room)
field-case {o} {m} {words} {at} {r} e laid p q =
    let s : r ≡ at + length words = laid.stop in
    let l : length words ≤ name_room = leb-true (length words) name_room q in
    (rw (e, p) laid, omega arith)

pub field-none : (o : List ℕ) (at i : ℕ) → field_count ≤ i → at + name_room ≤ length o → Laid o at (get_or field_words i []) o at × (at ≤ at + name_room)
unfolding field_words
field-none o at i p q = (rw (get_or-eq_default field_words [] {n = i} p) (laid-nothing o at (omega arith)), omega arith)

-- ---- an entry

module _ (o : List ℕ) (at mark : ℕ) (e : Entry) (b : Bool) (told : b ≡ is_entry e) where
  pub mark-none : not b ≡ true → at + entry_room ≤ length o → Laid o at (entry_words mark e) o at
  unfolding entry_words pick
  mark-none p q = rw (told-false b _ told p) (laid-nothing o at (omega arith))

  pub mark-name : (m n : List ℕ) (a r : ℕ) → not b ≡ false → Laid o at (mark ∷ []) m a → Laid m a (name_words e) n r → Laid o at (entry_words mark e) n r
  unfolding entry_words pick
  mark-name m n a r p l k = rw (told-true b _ told p) (laid-join o m n _ _ at a r l k)

pub ruleset marking = (mark-none, mark-name, rules)

-- ---- an entry and its field

pub lay-named : (o m n : List ℕ) (at a r mark : ℕ) (e : Entry) (x : Refusal) → Laid o at (entry_words mark e) m a → Laid m a (refusal_field x) n r → Laid o at (named_words mark e x) n r
unfolding named_words
lay-named o m n at a r mark e x p q = laid-join o m n _ _ at a r p q

pub ruleset fields = (lay-named, rules)
