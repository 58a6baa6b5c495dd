-- The line of a refusal is its name, number, place, entry and words, laid one behind the other.
-- Assumes nothing.
use mathlib.Core.Path.{◌≡◌}
use mathlib.Core.Bool.{Bool, true, false}
use mathlib.Core.List.{List, [], ◌∷◌, ◌++◌}
use Prim.Native.Nat.{ℕ, ◌+◌, ◌≤◌}
use native.Mathlib.Omega.{arith}
use lib.ListN.{length}
use borrow.Author.Rules.{rules}
use Rattle.base.specs.Tests.{pick}
use Rattle.ascii.specs.Words.{newline}
use Rattle.ascii.specs.Decimals.{decimal}
use Rattle.ascii.specs.Laying.{Laid}
use Rattle.ascii.proofs.LayLaws.{laid-join, laid-nothing}
use Rattle.contents.specs.declared.Reply.{Reply}
use Rattle.session.specs.declared.Refusal.{Refusal}
use Rattle.session.specs.Replies.{refusal_row}
use Rattle.ascii.specs.Text.{bytes_of}
use Rattle.wording.specs.Words.{refusal_words, placed}
use Rattle.contents.specs.declared.entries.Entry.{Entry}
use Rattle.refusals.specs.Entries.{entry_of, comma, named_words}
use Rattle.refusals.specs.Line.{at_byte, place_words, place_room, where_words, refusal_line}

-- ---- the place

module _ (o : List ℕ) (at : ℕ) (x : Refusal) (t : Bool) (e : t ≡ placed x) where
  pub place-told : (n : List ℕ) (r : ℕ) (row : Reply) → t ≡ true → row ≡ refusal_row x → Laid o at (bytes_of " at byte " ++ decimal row.place) n r → Laid o at (place_words x) n r
  unfolding at_byte place_words pick
  place-told n r row p f l = rw (← e, p, ← f) l

  pub place_none : t ≡ false → at + place_room ≤ length o → Laid o at (place_words x) o at
  unfolding place_words pick
  place_none p q = rw (← e, p) (laid-nothing o at (omega arith))

pub ruleset places = (place-told, place_none, rules)

pub lay-where : (o m n file : List ℕ) (at a r : ℕ) (x : Refusal) (entry : Entry) → entry ≡ entry_of file x → Laid o at (place_words x) m a → Laid m a (named_words comma entry x) n r → Laid o at (where_words file x) n r
unfolding where_words
lay-where o m n file at a r x entry e p q = rw (← e) (laid-join o m n _ _ at a r p q)

pub ruleset wheres = (lay-where, rules)

-- ---- the line

module _ {o m₁ m₂ m₃ m₄ m₅ m₆ n name : List ℕ} {a b c d e f r : ℕ} {row : Reply} (file : List ℕ) (x : Refusal) where
  pub lay-refusal : row ≡ refusal_row x → Laid o 0 name m₁ a → Laid m₁ a (bytes_of ": refused ") m₂ b → Laid m₂ b (decimal row.number) m₃ c → Laid m₃ c (where_words file x) m₄ d
      → Laid m₄ d (bytes_of ": ") m₅ e → Laid m₅ e (refusal_words x) m₆ f → Laid m₆ f (newline ∷ []) n r → Laid o 0 (refusal_line name file x) n r
  unfolding refusal_line
  lay-refusal h p q s t u v w =
      rw (← h)
      (laid-join o m₁ n _ _ 0 a r p
      (laid-join m₁ m₂ n _ _ a b r q
      (laid-join m₂ m₃ n _ _ b c r s
      (laid-join m₃ m₄ n _ _ c d r t
      (laid-join m₄ m₅ n _ _ d e r u
      (laid-join m₅ m₆ n _ _ e f r v w))))))
