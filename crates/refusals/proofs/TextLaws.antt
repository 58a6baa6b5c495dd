-- The lines of a refused text: name, numbers and words, laid one behind the other.
-- Assumes nothing.
use Rattle.std.specs.Prelude.{Err, Option, None}
use mathlib.Core.Path.{◌≡◌}
use mathlib.Core.List.{List, [], ◌∷◌, ◌++◌}
use Prim.Native.Nat.{ℕ}
use borrow.Author.Rules.{rules}
use Rattle.ascii.specs.Words.{newline}
use Rattle.ascii.specs.Decimals.{decimal}
use Rattle.ascii.specs.Text.{bytes_of}
use Rattle.ascii.specs.Laying.{Laid}
use Rattle.ascii.proofs.LayLaws.{laid-join}
use Rattle.contents.specs.declared.Counts.{Counts}
use Rattle.contents.specs.declared.Reply.{Reply}
use Rattle.session.specs.declared.Refusal.{Refusal}
use Rattle.session.specs.Replies.{refusal_row}
use Rattle.text.specs.declared.TextError.{TextError}
use Rattle.text.specs.declared.TextError.TheVariants.{NoRoom, BadText}
use Rattle.tokens.specs.declared.Place.{Place}
use Rattle.hints.specs.declared.Hint.{Hint}
use Rattle.hints.specs.Hints.{hint_words}
use Rattle.wording.specs.declared.Row.{Row}
use Rattle.wording.specs.declared.Row.TheVariants.{Call, Text}
use Rattle.wording.specs.Words.{row_number, row_words}
use Rattle.contents.specs.declared.entries.Entry.{Entry}
use Rattle.contents.specs.Entries.{entry_at}
use Rattle.refusals.specs.Entries.{colon, named_words}
use Rattle.refusals.specs.Line.{place_words}
use Rattle.refusals.specs.Texts.{spot_words, row_refused, row_end, told_end, told_words, misread_line, room_line, refused_number, unmade_words, refused_end, refused_file, unmade_line, misfit_line}

module _ (o m₁ m₂ n : List ℕ) (at a b r : ℕ) where
  -- three pieces
  three : (x y z : List ℕ) → Laid o at x m₁ a → Laid m₁ a y m₂ b → Laid m₂ b z n r → Laid o at (x ++ (y ++ z)) n r
  three x y z p q s = laid-join o m₁ n _ _ at a r p (laid-join m₁ m₂ n _ _ a b r q s)

  pub lay-unmade : (c : Counts) (x : Refusal) (row : Reply) (entry : Entry) → row ≡ refusal_row x → entry ≡ entry_at c row.place → Laid o at (place_words x) m₁ a
      → Laid m₁ a (bytes_of " of the file it would make") m₂ b → Laid m₂ b (named_words colon entry x) n r → Laid o at (unmade_words c x) n r
  unfolding unmade_words
  lay-unmade c x row entry h e p q s = rw (← h, ← e) (three _ _ _ p q s)

  pub lay-refused-file : (c : Counts) (x : Refusal) (h : Option Hint) → Laid o at (row_refused (Call x)) m₁ a → Laid m₁ a (unmade_words c x) m₂ b → Laid m₂ b (row_end (Call x) h) n r → Laid o at (refused_file c x h) n r
  unfolding refused_file refused_number refused_end row_refused row_end row_number row_words
  lay-refused-file c x h p q s = three _ _ _ p q s

module _ (o m₁ m₂ m₃ n : List ℕ) (at a b d r : ℕ) where
  -- four pieces
  four : (w x y z : List ℕ) → Laid o at w m₁ a → Laid m₁ a x m₂ b → Laid m₂ b y m₃ d → Laid m₃ d z n r → Laid o at (w ++ (x ++ (y ++ z))) n r
  four w x y z p q s u = laid-join o m₁ n _ _ at a r p (three m₁ m₂ m₃ n a b d r x y z q s u)

  pub lay-end : (x : Row) (h : Option Hint) → Laid o at (bytes_of ": ") m₁ a → Laid m₁ a (row_words x) m₂ b → Laid m₂ b (hint_words h) m₃ d → Laid m₃ d (newline ∷ []) n r → Laid o at (row_end x h) n r
  unfolding row_end
  lay-end x h p q s u = four _ _ _ _ p q s u

pub lay-spot : (o m₁ m₂ n name : List ℕ) (a b r l c : ℕ) → Laid o 0 name m₁ a → Laid m₁ a (bytes_of ":" ++ decimal l) m₂ b → Laid m₂ b (bytes_of ":" ++ decimal c) n r → Laid o 0 (spot_words name l c) n r
unfolding spot_words
lay-spot o m₁ m₂ n name a b r l c p q s = three o m₁ m₂ n 0 a b r _ _ _ p q s

pub lay-told : (o m n : List ℕ) (at a r : ℕ) (e : TextError) (h : Option Hint) → Laid o at (row_refused (Text (Err e))) m a → Laid m a (row_end (Text (Err e)) h) n r
    → Laid o at (told_words (Err e) h) n r
unfolding told_words told_end row_refused row_end row_number row_words
lay-told o m n at a r e h p q = laid-join o m n _ _ at a r p q

pub lay-number : (o n : List ℕ) (at r : ℕ) (x : Row) (k : ℕ) → k ≡ row_number x → Laid o at (bytes_of ": refused " ++ decimal k) n r → Laid o at (row_refused x) n r
unfolding row_refused
lay-number o n at r x k e p = rw (← e) p

module _ (o m n name : List ℕ) (a r : ℕ) where
  pub lay-misread : (l c : ℕ) (h : Option Hint) → Laid o 0 (spot_words name l c) m a → Laid m a (told_words (Err (BadText l c)) h) n r → Laid o 0 (misread_line name l c h) n r
  unfolding misread_line
  lay-misread l c h p q = laid-join o m n _ _ 0 a r p q

  pub lay-room : Laid o 0 name m a → Laid m a (told_words (Err NoRoom) None) n r → Laid o 0 (room_line name) n r
  unfolding room_line
  lay-room p q = laid-join o m n _ _ 0 a r p q

  pub lay-unmade-line : (c : Counts) (x : Refusal) → Laid o 0 name m a → Laid m a (refused_file c x None) n r → Laid o 0 (unmade_line name c x) n r
  unfolding unmade_line
  lay-unmade-line c x p q = laid-join o m n _ _ 0 a r p q

  pub lay-misfit : (p : Place) (c : Counts) (x : Refusal) (h : Option Hint) → Laid o 0 (spot_words name p.line p.column) m a → Laid m a (refused_file c x h) n r → Laid o 0 (misfit_line name p c x h) n r
  unfolding misfit_line
  lay-misfit p c x h q s = laid-join o m n _ _ 0 a r q s

pub ruleset telling = (lay-spot, lay-told, lay-misread, lay-room, lay-number, lay-unmade, lay-end, lay-refused-file, lay-unmade-line, lay-misfit, rules)
