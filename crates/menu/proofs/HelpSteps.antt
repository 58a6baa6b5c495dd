-- What `help` prints is laid line by line, in the code's own terms.
-- Assumes nothing.
use mathlib.Core.Path.{◌≡◌, refl, sym, ap, ◌∙◌}
use mathlib.Core.List.{List, [], ◌∷◌, ◌++◌, append_assoc, append-nil}
use Prim.Native.Nat.{ℕ, ◌+◌, ◌-◌, ◌≤◌}
use native.Mathlib.Omega.{arith}
use lib.ListN.{length, take, drop, replicate, length-replicate}
use lib.Seq.{take_all, take-add}
use borrow.Author.Rules.{rules}
use Rattle.ascii.specs.Text.{bytes_of}
use Rattle.ascii.specs.Words.{space, newline}
use Rattle.ascii.specs.Laying.{Laid}
use Rattle.ascii.proofs.LayLaws.{laid-join, laid-nothing}
use Rattle.menu.specs.declared.Command.{Command}
use Rattle.menu.specs.Table.{Row, row_of, commands, count, usage_width, help_width}
use Rattle.menu.specs.Help.{padded, command_line, line_room, command_lines, help_head, help_end, help_text}

-- ---- a command's line

pub lay-padded : (o m n usage : List ℕ) (at a r : ℕ) → Laid o at usage m a → Laid m a (replicate (usage_width - length usage) space) n r → Laid o at (padded usage) n r
unfolding padded
lay-padded o m n usage at a r p q = laid-join o m n _ _ at a r p q

pub padded-ends : (o m n usage : List ℕ) (at a r : ℕ) → length usage ≤ usage_width → Laid o at usage m a → Laid m a (replicate (usage_width - length usage) space) n r → r ≤ at + usage_width
padded-ends o m n usage at a r l p q =
    let s : a ≡ at + length usage = p.stop in
    let t : r ≡ a + length (replicate (usage_width - length usage) space) = q.stop in
    omega (arith, length-replicate (usage_width - length usage) space)

pub ruleset padding = (lay-padded, padded-ends, rules)

module _ (row : Row) {o m₁ m₂ m₃ n : List ℕ} {at a b d r : ℕ} (p : Laid o at (bytes_of "  ") m₁ a) (q : Laid m₁ a (padded row.usage) m₂ b) (s : Laid m₂ b row.help m₃ d)
    (u : Laid m₃ d (newline ∷ []) n r) where
  pub lay-line : Laid o at (command_line row) n r
  unfolding command_line
  lay-line = laid-join o m₁ n _ _ at a r p (laid-join m₁ m₂ n _ _ a b r q (laid-join m₂ m₃ n _ _ b d r s u))

  pub line-ends : b ≤ a + usage_width → length row.help ≤ help_width → r ≤ at + line_room
  line-ends l k =
      let f : a ≡ at + length (bytes_of "  ") = p.stop in
      let g : d ≡ b + length row.help = s.stop in
      let e : r ≡ d + length (newline ∷ []) = u.stop in
      omega arith

-- ---- all lines

lines-both : (xs ys : List Command) → command_lines (xs ++ ys) ≡ command_lines xs ++ command_lines ys
unfolding command_lines
lines-both [] ys = refl
lines-both (c ∷ xs) ys = ap (λ (l : List ℕ). command_line (row_of c) ++ l) (lines-both xs ys) ∙ sym (append_assoc (command_line (row_of c)) (command_lines xs) (command_lines ys))

pub list-start : (o m : List ℕ) (a : ℕ) → Laid o 0 help_head m a → Laid m a (command_lines (take 0 commands)) m a
unfolding command_lines
list-start o m a p = laid-nothing m a p.within

take_next : (l : List Command) (c : Command) (i : ℕ) → drop i l ≡ c ∷ drop (i + 1) l → take (i + 1) l ≡ take i l ++ (c ∷ [])
take_next l c i e = take-add i 1 l ∙ ap (λ (k : List Command). take i l ++ take 1 k) e

module _ {o m n : List ℕ} {at a r : ℕ} {c : Command} (i : ℕ) where
  pub list_on : drop i commands ≡ c ∷ drop (i + 1) commands → Laid o at (command_lines (take i commands)) m a → Laid m a (command_line (row_of c)) n r
      → Laid o at (command_lines (take (i + 1) commands)) n r
  unfolding command_lines
  list_on e p q =
      let f : command_lines (take (i + 1) commands) ≡ command_lines (take i commands) ++ command_line (row_of c) =
      ap command_lines (take_next commands c i e)
      ∙ lines-both (take i commands) (c ∷ [])
      ∙ ap (λ (l : List ℕ). command_lines (take i commands) ++ l) (append-nil (command_line (row_of c)))
      in
      rw f (laid-join o m n _ _ at a r p q)

pub list-end : (o m₁ m₂ n : List ℕ) (i a b r : ℕ) → Laid o 0 help_head m₁ a → count ≤ i → Laid m₁ a (command_lines (take i commands)) m₂ b → Laid m₂ b help_end n r → Laid o 0 help_text n r
unfolding help_text commands
list-end o m₁ m₂ n i a b r h l p q =
    let e : take i commands ≡ commands = take_all i commands l in
    laid-join o m₁ n _ _ 0 a r h (laid-join m₁ m₂ n _ _ a b r (rw e at p) q)

pub ruleset listing = (list-start, list-end, rules)
