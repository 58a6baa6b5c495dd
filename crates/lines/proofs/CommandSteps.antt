-- Each way in which two numbers, a command and its turn are read, in the code's own terms: what the calls told decides the tests of the definition.
-- Assumes nothing.
use mathlib.Core.Path.{◌≡◌, refl, sym, ap, ◌∙◌}
use mathlib.Core.Bool.{Bool, true, false}
use mathlib.Core.List.{List, [], ◌∷◌}
use Prim.Native.Nat.{ℕ, suc, ◌+◌, ◌-◌, ◌<◌, ◌≤◌}
use native.Mathlib.Numerals.{add-one}
use native.Mathlib.Omega.{arith}
use lib.ListN.{length, take, drop, length-drop, drop_of_length-le}
use lib.Seq.{take_all, length-take-le}
use lib.Dec.{leb, eqb}
use borrow.Author.Tests.{le-leb, lt-leb}
use borrow.Author.Rules.{rules}
use Rattle.std.specs.Prelude.{Option, Some, None}
use Rattle.std.specs.Bool.{then_some}
use Rattle.base.specs.Tests.{pick, every, between}
use Rattle.base.proofs.TestLaws.{every-pass, every-stop, every-end, pick_true, pick-false}
use Rattle.ascii.specs.Words.{space, begins, bytes_before}
use Rattle.ascii.specs.Numbers.{is_number, value, number_of}
use Rattle.ascii.proofs.NumberSteps.{not-two, told-number, told-value, told_none}
use Rattle.lines.specs.declared.Command.{Command}
use Rattle.lines.specs.declared.Command.TheVariants.{Open, Hear, Pass}
use Rattle.lines.specs.Words.{open_command, hear_command, pass_command}
use Rattle.lines.specs.Commands.{most_parts, first_word, other_words, two_numbers, pair_of, open_of, hear_of, pass_of, command_of, in_turn}

-- ---- two numbers

no_bytes : is_number [] ≡ false
unfolding is_number every between
no_bytes = refl

module _ (bs : List ℕ) (stop : ℕ) (at : stop ≡ bytes_before space bs) where
  first-word : first_word bs ≡ take stop bs
  unfolding first_word
  first-word = rw at

  other-words : other_words bs ≡ take (length bs - (stop + 1)) (drop (stop + 1) bs)
  unfolding other_words
  other-words = rw (← at, ← add-one stop, take_all (length bs - (stop + 1)) (drop (stop + 1) bs) (simp length-drop (omega arith)))

  pub pair-alone : length bs ≤ stop → None ≡ pair_of bs
  unfolding pair_of two_numbers other_words
  pair-alone p =
      let l : length bs ≤ suc (bytes_before space bs) = omega arith in
      let n : drop (suc (bytes_before space bs)) bs ≡ [] = drop_of_length-le bs l in
      let f : is_number (drop (suc (bytes_before space bs)) bs) ≡ false = rw n no_bytes in
      pick-false _ _ _ _ (not-two _ _ f) refl

  module _ (v : Option ℕ) (ev : v ≡ number_of (take stop bs)) where
    pub pair-no-first : v ≡ None → None ≡ pair_of bs
    unfolding pair_of two_numbers
    pair-no-first p = pick-false _ _ _ _ (sym (every-stop _ _ (rw first-word (told_none (take stop bs) v ev p)))) refl

    module _ (w : Option ℕ) (ew : w ≡ number_of (take (length bs - (stop + 1)) (drop (stop + 1) bs))) where
      pub pair-no-other : w ≡ None → None ≡ pair_of bs
      unfolding pair_of two_numbers
      pair-no-other p = pick-false _ _ _ _ (not-two _ _ (rw other-words (told_none _ w ew p))) refl

      pub pair_read : (a b : ℕ) → v ≡ Some a → w ≡ Some b → Some (a, b) ≡ pair_of bs
      unfolding pair_of two_numbers
      pair_read a b p q =
          let f : is_number (first_word bs) ≡ true = rw first-word (told-number _ v ev a p) in
          let o : is_number (other_words bs) ≡ true = rw other-words (told-number _ w ew b q) in
          let ea : a ≡ value (first_word bs) = rw first-word (told-value _ v ev a p) in
          let eb : b ≡ value (other_words bs) = rw other-words (told-value _ w ew b q) in
          pick_true _ _ _ _ (sym (every-pass _ true _ f (every-pass _ true _ o every-end))) (cc)

pub ruleset pairs = (pair-alone, pair-no-first, pair-no-other, pair_read, length-take-le, rules)

-- ---- what reading two numbers told

two-told : (a b x y : ℕ) (t : Bool) → pick {A = Option (ℕ × ℕ)} t (Some (x, y)) None ≡ Some (a, b) → (t ≡ true) × (a ≡ x) × (b ≡ y)
unfolding pick
two-told a b x y true e =
    let q : ◌≡◌ {A = ℕ × ℕ} (x, y) (a, b) = cc in
    (refl, ap (λ (p : ℕ × ℕ). p.0) (sym q), ap (λ (p : ℕ × ℕ). p.1) (sym q))
two-told a b x y false e = let z : ◌≡◌ {A = ℕ} 0 1 = cc in absurd (omega arith)

two-not : (x y : ℕ) (t : Bool) → pick {A = Option (ℕ × ℕ)} t (Some (x, y)) None ≡ None → t ≡ false
unfolding pick
two-not x y true e = let z : ◌≡◌ {A = ℕ} 0 1 = cc in absurd (omega arith)
two-not x y false e = refl

-- ---- what follows the letter

module _ (bs : List ℕ) (v : Option (ℕ × ℕ)) (e : v ≡ pair_of bs) where
  told-pair : (a b : ℕ) → v ≡ Some (a, b) → (two_numbers bs ≡ true) × (a ≡ value (first_word bs)) × (b ≡ value (other_words bs))
  unfolding pair_of
  told-pair a b p = two-told a b _ _ (two_numbers bs) (sym e ∙ p)

  told-no-pair : v ≡ None → two_numbers bs ≡ false
  unfolding pair_of
  told-no-pair p = two-not _ _ (two_numbers bs) (sym e ∙ p)

  pub open_none : v ≡ None → None ≡ open_of bs
  unfolding open_of
  open_none p = pick-false _ _ _ _ (sym (every-stop _ _ (told-no-pair p))) refl

  pub hear-none : v ≡ None → None ≡ hear_of bs
  unfolding hear_of
  hear-none p = pick-false _ _ _ _ (told-no-pair p) refl

  module _ (a b : ℕ) (p : v ≡ Some (a, b)) where
    pub open-over : most_parts < a → None ≡ open_of bs
    unfolding open_of
    open-over l =
        let t = told-pair a b p in
        pick-false _ _ _ _ (not-two _ _ (rw (← t.1) (lt-leb a most_parts l))) refl

    pub open-read : a ≤ most_parts → Some (Open a b) ≡ open_of bs
    unfolding open_of
    open-read l =
        let t = told-pair a b p in
        let h : leb (value (first_word bs)) most_parts ≡ true = rw (← t.1) (le-leb a most_parts l) in
        pick_true _ _ _ _ (sym (every-pass _ true _ t.0 (every-pass _ true _ h every-end))) (cc)

    pub hear-read : Some (Hear a b) ≡ hear_of bs
    unfolding hear_of
    hear-read = let t = told-pair a b p in pick_true _ _ _ _ t.0 (cc)

module _ (bs : List ℕ) (v : Option ℕ) (e : v ≡ number_of bs) where
  pub pass-none : v ≡ None → None ≡ pass_of bs
  unfolding pass_of
  pass-none p = pick-false _ _ _ _ (told_none bs v e p) refl

  pub pass-read : (a : ℕ) → v ≡ Some a → Some (Pass a) ≡ pass_of bs
  unfolding pass_of
  pass-read a p = pick_true _ _ _ _ (told-number bs v e a p) (ap (λ (n : ℕ). Some (Pass n)) (told-value bs v e a p))

pub ruleset figures = (open_none, open-over, open-read, hear-none, hear-read, pass-none, pass-read, rules)

-- ---- the letter

pub letter-fits : (a b : ℕ) (line : List ℕ) (t : Bool) → t ≡ begins (a ∷ b ∷ []) line → t ≡ true → 2 ≤ length line
unfolding begins pick
letter-fits a b [] t e p = let z : ◌≡◌ {A = ℕ} 0 1 = cc in absurd (omega arith)
letter-fits a b (x ∷ []) t e p = go (eqb a x) e where
  go : (u : Bool) → t ≡ pick u false false → 2 ≤ 1
  go true q = let z : ◌≡◌ {A = ℕ} 0 1 = cc in absurd (omega arith)
  go false q = let z : ◌≡◌ {A = ℕ} 0 1 = cc in absurd (omega arith)
letter-fits a b (x ∷ y ∷ ls) t e p = omega arith

module _ (line : List ℕ) where
  after-letter : take (length line - 2) (drop 2 line) ≡ drop 2 line
  after-letter = take_all (length line - 2) (drop 2 line) (simp length-drop (omega arith))

  module _ (o : Bool) (eo : o ≡ begins open_command line) where
    pub command-open : (r : Option Command) → o ≡ true → r ≡ open_of (take (length line - 2) (drop 2 line)) → r ≡ command_of line
    unfolding command_of
    command-open r p e = pick_true _ _ _ _ (sym eo ∙ p) (rw after-letter at e)

    module _ (no : o ≡ false) (h : Bool) (eh : h ≡ begins hear_command line) where
      pub command-hear : (r : Option Command) → h ≡ true → r ≡ hear_of (take (length line - 2) (drop 2 line)) → r ≡ command_of line
      unfolding command_of
      command-hear r p e = pick-false _ _ _ _ (sym eo ∙ no) (pick_true _ _ _ _ (sym eh ∙ p) (rw after-letter at e))

      module _ (nh : h ≡ false) (t : Bool) (et : t ≡ begins pass_command line) where
        pub command-pass : (r : Option Command) → t ≡ true → r ≡ pass_of (take (length line - 2) (drop 2 line)) → r ≡ command_of line
        unfolding command_of
        command-pass r p e = pick-false _ _ _ _ (sym eo ∙ no) (pick-false _ _ _ _ (sym eh ∙ nh) (pick_true _ _ _ _ (sym et ∙ p) (rw after-letter at e)))

        pub command-none : t ≡ false → None ≡ command_of line
        unfolding command_of
        command-none p = pick-false _ _ _ _ (sym eo ∙ no) (pick-false _ _ _ _ (sym eh ∙ nh) (pick-false _ _ _ _ (sym et ∙ p) refl))

pub ruleset letters = (letter-fits, command-open, command-hear, command-pass, command-none, rules)

-- ---- the turn

picked : (t : Bool) (c : Command) → then_some t c ≡ pick t (Some c) None
unfolding pick
picked true c = refl
picked false c = refl

pub turn-none : (first opened : Bool) → None ≡ in_turn first opened None
unfolding in_turn
turn-none first opened = refl

module _ (first opened : Bool) (c : Command) (t : Bool) where
  pub turn-open : (a b : ℕ) → c ≡ Open a b → t ≡ first → then_some t c ≡ in_turn first opened (Some c)
  unfolding in_turn
  turn-open a b e p = rw (e, p) (picked first _)

  pub turn-hear : (a b : ℕ) → c ≡ Hear a b → t ≡ opened → then_some t c ≡ in_turn first opened (Some c)
  unfolding in_turn
  turn-hear a b e p = rw (e, p) (picked opened _)

  pub turn-pass : (a : ℕ) → c ≡ Pass a → t ≡ opened → then_some t c ≡ in_turn first opened (Some c)
  unfolding in_turn
  turn-pass a e p = rw (e, p) (picked opened _)
