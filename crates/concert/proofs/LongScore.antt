-- A file that is longer than any score is refused, cut or whole, with the same number: so it is enough to read its first bytes.
-- Its check is the same (`LongFile` of `score`); no session is ever open, and no label is asked for. Assumes nothing.
use mathlib.Core.Path.{◌≡◌, refl, ap, sym, ◌∙◌}
use mathlib.Core.Bool.{Bool, true, false}
use mathlib.Core.List.{List, [], ◌∷◌}
use Prim.Native.Nat.{ℕ, ◌<◌, ◌≤◌}
use native.Mathlib.Omega.{arith}
use lib.ListN.{length, take}
use lib.Seq.{take_all}
use lib.Dec.{leb}
use borrow.Author.Tests.{leb-true, leb-false}
use Rattle.base.specs.Checks.{Check, fine, refused}
use Rattle.contents.specs.Limits.{longest_score}
use Rattle.score.proofs.LongFile.{file_room, long-refused, checked-cut}
use Rattle.rules.specs.Terms.{Terms}
use Rattle.session.specs.declared.Refusal.{Refusal}
use Rattle.session.specs.Layout.{memory_size}
use Rattle.opening.specs.Opening.{zeros, opening_check}
use Rattle.opening.proofs.Opened.{opened-accepted}
use Rattle.std.specs.Prelude.{Option, Some, None}
use Rattle.lines.specs.declared.Command.{Command}
use Rattle.lines.specs.declared.Command.TheVariants.{Open, Hear, Pass}
use Rattle.lines.specs.Lines.{lines_of}
use Rattle.lines.specs.Commands.{command_of}
use Rattle.playing.specs.Printed.{printed}
use Rattle.concert.specs.Told.{opening_told, first_told, lines_told, told}
use Rattle.concert.proofs.Told.{printed-told}

module _ (f : List ℕ) (n : ℕ) (long : longest_score < n) (cut : n ≤ length f) where
  check-cut : (m : List ℕ) (o : Terms) → opening_check m (take n f) o ≡ opening_check m f o
  unfolding opening_check
  check-cut m o = rw (checked-cut f n long cut)

-- ---- no opening is granted on it

never-granted : (f : List ℕ) → longest_score < length f → (m : List ℕ) (o : Terms) → opening_check m f o ≡ fine → ⊥
never-granted f p m o e = long-refused f p (opened-accepted m f o e).fine

module _ (f g : List ℕ) (alike : (m : List ℕ) (o : Terms) → opening_check m g o ≡ opening_check m f o) (never : (m : List ℕ) (o : Terms) → opening_check m f o ≡ fine → ⊥) where
  opening-alike : (o : Terms) (v : Check Refusal) → opening_check (zeros memory_size) f o ≡ v → (ls : List (List ℕ)) → opening_told g o v ls ≡ opening_told f o v ls
  unfolding opening_told
  opening-alike o fine e ls = absurd (never (zeros memory_size) o e)
  opening-alike o (refused x) e ls = refl

  first-alike-told : (grace : ℕ) (c : Option Command) (l : List ℕ) (ls : List (List ℕ)) → first_told g grace c l ls ≡ first_told f grace c l ls
  unfolding first_told
  first-alike-told grace (Some (Open parts tempo)) l ls =
      let o : Terms = record { parts = parts; tempo = tempo; grace = grace } in
      rw (alike (zeros memory_size) o) (opening-alike o _ refl ls)
  first-alike-told grace (Some (Hear event tempo)) l ls = refl
  first-alike-told grace (Some (Pass ms)) l ls = refl
  first-alike-told grace None l ls = refl

  lines-alike : (grace : ℕ) (ls : List (List ℕ)) → lines_told g grace ls ≡ lines_told f grace ls
  unfolding lines_told
  lines-alike grace [] = refl
  lines-alike grace (l ∷ ls) = first-alike-told grace (command_of l) l ls

-- ---- what is printed

pub long-file : (f : List ℕ) (grace : ℕ) (input : List ℕ) (n : ℕ) → longest_score < n → n ≤ length f → printed (take n f) grace input ≡ printed f grace input
unfolding told
long-file f grace input n p q =
    printed-told (take n f) grace input
    ∙ (lines-alike f (take n f) (check-cut f n p q) (never-granted f (omega arith)) grace (lines_of input) ∙ sym (printed-told f grace input))

pub long-score : (f : List ℕ) (grace : ℕ) (input : List ℕ) → file_room ≤ length f → printed (take file_room f) grace input ≡ printed f grace input
long-score f grace input p = long-file f grace input file_room (omega arith) p

-- The same of any file: a shorter one is read whole.
pub score-read : (f : List ℕ) (grace : ℕ) (input : List ℕ) → printed (take file_room f) grace input ≡ printed f grace input
score-read f grace input = go (leb file_room (length f)) refl where
  go : (t : Bool) → leb file_room (length f) ≡ t → printed (take file_room f) grace input ≡ printed f grace input
  go true e = long-score f grace input (leb-true file_room (length f) e)
  go false e =
      let p : length f < file_room = leb-false file_room (length f) e in
      ap (λ (l : List ℕ). printed l grace input) (take_all file_room f (omega arith))
