-- In a text laid out as Poolmirror writes it, the j-th of its lines stands on line j of the text: so an origin's line is that of the line which made it.
-- Line by line, each having one newline, behind its token. Assumes nothing.
use mathlib.Core.Path.{◌≡◌, refl, ap, ◌∙◌}
use mathlib.Core.Bool.{Bool, true, false}
use mathlib.Core.List.{List, [], ◌∷◌, ◌++◌, append_assoc}
use Prim.Native.Nat.{ℕ, suc, ◌+◌, ◌-◌, ◌<◌, ◌≤◌}
use native.Mathlib.Omega.{arith}
use lib.Dec.{ltb}
use lib.ListN.{length, take}
use borrow.Author.Tests.{ltb-true, ltb-false}
use Rattle.base.specs.Tests.{pick}
use Rattle.ascii.specs.Words.{newline}
use Rattle.tokens.specs.Tokens.{got, blanks}
use Rattle.text.specs.declared.Stage.{Stage}
use Rattle.text.specs.declared.Stage.TheVariants.{Start}
use Rattle.text.specs.Grammar.{Line, line}
use Rattle.text.specs.Written.{Spot, line_text, behind_line, text_of, outset}
use Rattle.text.proofs.LineLaws.{line_left, line_read, left_passed}
use Rattle.text.proofs.TextLaws.{script_of, Nested, ends, goes, script-written}
use Rattle.origins.specs.declared.aims.Table.{Table}
use Rattle.origins.specs.Origins.{Placed, placed, placed_lines, adds, count_of, token_in, Origin, unmade, from, passing, place_of}
use Rattle.origins.proofs.PlaceLaws.{newlines, newlines-append, line-newlines, place_rest}
use Rattle.origins.proofs.OriginLaws.{placed_in}
use Rattle.origins.proofs.WrittenTokens.{Laid, may-laid}

-- ---- which of some lines has number n of a kind

-- How many of a kind they make.
unfoldable pub made_by : Table → List Line → ℕ
made_by k [] = 0
made_by k (l ∷ hs) = count_of k (adds l) + made_by k hs

-- How many stand before the first with which there are more than n.
unfoldable pub lines_to : Table → ℕ → List Line → ℕ
lines_to k n [] = 0
lines_to k n (l ∷ hs) = pick (ltb n (count_of k (adds l))) 0 (suc (lines_to k (n - count_of k (adds l)) hs))

-- The lines before line j make at most n, and with it there are more.
pub record Brings (k : Table) (n : ℕ) (hs : List Line) (j : ℕ) : Type 0 where
  pub below : j < length hs
  pub before : made_by k (take j hs) ≤ n
  pub past : n < made_by k (take (suc j) hs)

pub lines-bring : (k : Table) (n : ℕ) (hs : List Line) → n < made_by k hs → Brings k n hs (lines_to k n hs)
unfolding lines_to made_by pick
lines-bring k n [] b = absurd (omega arith)
lines-bring k n (l ∷ hs) b = go (ltb n (count_of k (adds l))) refl (λ c. lines-bring k (n - count_of k (adds l)) hs (omega arith)) where
  go : (u : Bool) → ltb n (count_of k (adds l)) ≡ u → (count_of k (adds l) ≤ n → Brings k (n - count_of k (adds l)) hs (lines_to k (n - count_of k (adds l)) hs))
      → Brings k n (l ∷ hs) (pick u 0 (suc (lines_to k (n - count_of k (adds l)) hs)))
  go true e h = record { below = omega arith; before = omega arith; past = omega (arith, ltb-true n (count_of k (adds l)) e) }
  go false e h =
      let small : count_of k (adds l) ≤ n = ltb-false n (count_of k (adds l)) e in
      let there = h small in
      record { below = omega (arith, there.below); before = omega (arith, there.before); past = omega (arith, there.past) }

-- ---- lines of a text, one to a line

-- Something made it.
pub data Made : Origin → Type 0 where
  made : {left : List ℕ} → Made (from left)

never-made : {o : Origin} → Made o → o ≡ unmade → ⊥
never-made made e = let z : ◌≡◌ {A = ℕ} 0 1 = cc in omega arith

-- The tokens of these lines stand on the lines of the text from line n on, one on each.
data Rows (t : List ℕ) : ℕ → List Placed → List Line → Type 0 where
  no_row : {n : ℕ} → Rows t n [] []
  next_row : {n : ℕ} {l : Line} {bs left : List ℕ} {ps : List Placed} {hs : List Line} → (place_of t (from (token_in l bs))).line ≡ n → Rows t (suc n) ps hs
      → Rows t n (record { line = l; from = bs; left = left } ∷ ps) (l ∷ hs)

module _ (t : List ℕ) (k : Table) where
  row-there : {m : ℕ} {ps : List Placed} {hs : List Line} → Rows t m ps hs → (n : ℕ) → Made (passing k n ps) → (place_of t (passing k n ps)).line ≡ m + lines_to k n hs
  unfolding passing lines_to pick
  row-there no_row n h = absurd (never-made h refl)
  row-there (next_row {n = m} {l = l} {bs = bs} {ps = ps} {hs = hs} e r) n h =
      go (ltb n (count_of k (adds l))) h (λ g. row-there r (n - count_of k (adds l)) g) where
        go : (u : Bool) → Made (pick u (from (token_in l bs)) (passing k (n - count_of k (adds l)) ps))
            → (Made (passing k (n - count_of k (adds l)) ps) → (place_of t (passing k (n - count_of k (adds l)) ps)).line ≡ suc m + lines_to k (n - count_of k (adds l)) hs)
            → (place_of t (pick u (from (token_in l bs)) (passing k (n - count_of k (adds l)) ps))).line ≡ m + pick u 0 (suc (lines_to k (n - count_of k (adds l)) hs))
        go true g f = omega arith
        go false g f = omega (arith, f g)

  row_made : {m : ℕ} {ps : List Placed} {hs : List Line} → Rows t m ps hs → (n : ℕ) → Made (passing k n ps) → n < made_by k hs
  unfolding passing made_by pick
  row_made no_row n h = absurd (never-made h refl)
  row_made (next_row {l = l} {bs = bs} {ps = ps} {hs = hs} e r) n h =
      go (ltb n (count_of k (adds l))) refl h (λ g. row_made r (n - count_of k (adds l)) g) where
        go : (u : Bool) → ltb n (count_of k (adds l)) ≡ u → Made (pick u (from (token_in l bs)) (passing k (n - count_of k (adds l)) ps))
            → (Made (passing k (n - count_of k (adds l)) ps) → n - count_of k (adds l) < made_by k hs) → n < count_of k (adds l) + made_by k hs
        go true q g f = omega (arith, ltb-true n (count_of k (adds l)) q)
        go false q g f = omega (arith, f g)

-- ---- a text in the written form

module _ (ls : List (List ℕ)) where
  laid_on : {s : Spot} {l : Line} (k : Laid ls s l) (later : List ℕ) → line_text ls s l ++ later ≡ k.before ++ (k.token ++ (newline ∷ later))
  laid_on k later =
      ap (λ (x : List ℕ). x ++ later) k.whole
      ∙ append_assoc k.before (k.token ++ (newline ∷ [])) later
      ∙ ap (λ (x : List ℕ). k.before ++ x) (append_assoc k.token (newline ∷ []) later)

  laid-newline : {s : Spot} {l : Line} → Laid ls s l → newlines (line_text ls s l) ≡ 1
  unfolding newlines pick
  laid-newline k =
      ap (λ (x : List ℕ). newlines x) k.whole
      ∙ omega (arith, newlines-append k.before (k.token ++ (newline ∷ [])), newlines-append k.token (newline ∷ []), k.flat_before, k.flat)

  -- It has as many newlines as lines.
  pub written-newlines : {stage : Stage} {s : Spot} {hs : List Line} → Nested ls stage s hs → newlines (text_of ls s hs) ≡ length hs
  unfolding text_of newlines
  written-newlines (ends o) = refl
  written-newlines (goes {s = s} {l = l} {rest = rest} m w) =
      omega (arith, newlines-append (line_text ls s l) (text_of ls (behind_line l s) rest), laid-newline (may-laid ls m), written-newlines w)

  module _ (t : List ℕ) where
    -- A line's token stands on the line behind those before it.
    token-line : {s : Spot} {l : Line} (before later : List ℕ) (k : Laid ls s l) → before ++ (line_text ls s l ++ later) ≡ t
        → (place_of t (from (token_in l (blanks (line_text ls s l ++ later))))).line ≡ suc (newlines before)
    token-line {s} {l} before later k e =
        let whole : (before ++ k.before) ++ (k.token ++ (newline ∷ later)) ≡ t =
        append_assoc (before) k.before _ ∙ rw (← laid_on k later) e
        in
        rw (laid_on k later, k.there later, place_rest t (before ++ k.before) _ whole, line-newlines (before ++ k.before))
        (omega (arith, newlines-append before k.before, k.flat_before))

    rows : {stage : Stage} {s : Spot} {hs : List Line} (before bs : List ℕ) → Nested ls stage s hs → before ++ text_of ls s hs ≡ t → blanks bs ≡ blanks (text_of ls s hs)
        → Rows t (suc (newlines before)) (placed_lines stage bs (script_of hs)) hs
    unfolding placed_lines placed script_of text_of
    rows before bs (ends o) e q = no_row
    rows before bs (goes {stage = stage} {s = s} {l = l} {rest = rest} m w) e q =
        let later = text_of ls (behind_line l s) rest in
        let k = may-laid ls m in
        let there : line stage (blanks bs) ≡ got l (line_left ls s l later) = rw q (line_read ls later m) in
        let here : (place_of t (from (token_in l (blanks bs)))).line ≡ suc (newlines before) = rw q (token-line before later k e) in
        let count : newlines (before ++ line_text ls s l) ≡ suc (newlines before) = omega (arith, newlines-append before (line_text ls s l), laid-newline k) in
        let behind = rows (before ++ line_text ls s l) (line_left ls s l later) w (append_assoc before (line_text ls s l) later ∙ e) (left_passed ls later m) in
        rw there (next_row here (rw count at behind))

module _ (ls : List (List ℕ)) (hs : List Line) (nested : Nested ls Start outset hs) where
  text-rows : Rows (text_of ls outset hs) 1 (placed_in (text_of ls outset hs)) hs
  unfolding newlines
  text-rows = rw (script-written ls nested) (rows ls (text_of ls outset hs) [] (text_of ls outset hs) nested refl refl)

  -- What was made was made by a line of these, and its line in the text has that number.
  pub line-there : (k : Table) (n : ℕ) → Made (passing k n (placed_in (text_of ls outset hs)))
      → ((place_of (text_of ls outset hs) (passing k n (placed_in (text_of ls outset hs)))).line ≡ suc (lines_to k n hs)) × Brings k n hs (lines_to k n hs)
  line-there k n m =
      let t = text_of ls outset hs in
      (row-there t k text-rows n m ∙ omega arith, lines-bring k n hs (row_made t k text-rows n m))
