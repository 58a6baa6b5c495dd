-- As much of a name as is told, and the lines that begin with it.
-- Assumes nothing.
use mathlib.Core.Path.{◌≡◌, refl, sym}
use mathlib.Core.List.{List}
use Prim.Native.Nat.{ℕ, ◌+◌, ◌<◌, ◌≤◌}
use native.Mathlib.Omega.{arith}
use lib.ListN.{length, take, length-take}
use lib.Seq.{take_all, length-take-le}
use lib.IntN.{ℤ}
use mir.Syntax.{w32}
use mir.Val.{SFits, of_z, to_z}
use mir.Facts.{to_z-of_z}
use borrow.Author.Rules.{rules}
use Rattle.ascii.specs.Laying.{Laid}
use Rattle.ascii.specs.Text.{bytes_of}
use Rattle.ascii.proofs.LayLaws.{laid-join}
use Rattle.session.specs.declared.Refusal.{Refusal}
use Rattle.refusals.specs.Line.{refusal_line, refusal_room}
use Rattle.telling.specs.declared.said.Blame.{Blame}
use Rattle.reasons.specs.Reasons.{unread_line, unwritten_line, reason_line_room}
use Rattle.telling.specs.Said.{most_name, said_room, told_name, blamed, refused_name, refused_line, unopened_line}

-- ---- names

pub told-cut : (name : List ℕ) → (take most_name name ≡ told_name name) × (length (take most_name name) ≤ most_name)
unfolding told_name
told-cut name = (refl, omega (arith, length-take most_name name))

pub told-length : (name : List ℕ) → most_name < length name → most_name ≡ length (take most_name name)
told-length name p = sym (length-take-le most_name name (omega arith))

pub told-whole : (name : List ℕ) → length name ≤ most_name → name ≡ told_name name
unfolding told_name
told-whole name p = rw (take_all most_name name p)

pub ruleset names = (told-cut, told-whole, rules)

-- ---- lines that begin with a name

-- There is room for the name, and for a line behind it.
module _ (o t : List ℕ) (p : length t ≤ most_name) (q : said_room ≤ length o) where
  pub name-fits : 0 + length t ≤ length o
  name-fits = omega arith

  pub unread-fits : reason_line_room + length t ≤ length o
  unread-fits = omega arith

  pub line-fits : refusal_room + length t ≤ length o
  line-fits = omega arith

module _ (o m name t : List ℕ) (a : ℕ) (e : t ≡ told_name name) where
  pub lay-unread : (z : ℤ) → SFits w32 z → Laid o 0 (unread_line t (to_z w32 (of_z w32 z))) m a → Laid o 0 (unread_line (told_name name) z) m a
  lay-unread z f p = rw (to_z-of_z f, e) at p

  pub lay-unwritten : (z : ℤ) → SFits w32 z → Laid o 0 (unwritten_line t (to_z w32 (of_z w32 z))) m a → Laid o 0 (unwritten_line (told_name name) z) m a
  lay-unwritten z f p = rw (to_z-of_z f, e) at p

  pub lay-refused : (file : List ℕ) (x : Refusal) → Laid o 0 (refusal_line t file x) m a → Laid o 0 (refused_line name file x) m a
  unfolding refused_line
  lay-refused file x p = rw e at p

  pub lay-unopened : (l : List ℕ) (r : ℕ) → Laid o 0 t m a
      → Laid m a (bytes_of ": opens no score, so nothing is played. The first line of the commands has to be O PARTS TEMPO and no more, as O 65535 5040 (docs/PLAY.md)\n") l r → Laid o 0 (unopened_line name) l r
  unfolding unopened_line
  lay-unopened l r p q = laid-join o m l _ _ 0 a r (rw e at p) q

pub ruleset saying = (unread-fits, line-fits, lay-unread, lay-unwritten, lay-refused, rules)

-- There is room for the words behind the name.
pub words-fit : (o m t : List ℕ) (a : ℕ) → length t ≤ most_name → said_room ≤ length o → Laid o 0 t m a
    → a + length (bytes_of ": opens no score, so nothing is played. The first line of the commands has to be O PARTS TEMPO and no more, as O 65535 5040 (docs/PLAY.md)\n") ≤ length m
words-fit o m t a p q l =
    let s : a ≡ 0 + length t = l.stop in
    let z : length m ≡ length o = l.size in
    omega arith

pub ruleset unopened = (name-fits, words-fit, lay-unopened, rules)

pub refused-by : (o m score first file : List ℕ) (r : ℕ) (x : Refusal) (b y : Blame) → b ≡ blamed x → b ≡ y
    → Laid o 0 (refused_line (refused_name score first y) file x) m r → Laid o 0 (refused_line (refused_name score first (blamed x)) file x) m r
refused-by o m score first file r x b y e p l = rw (← e, p) l

pub ruleset refusing = (refused-by, rules)
