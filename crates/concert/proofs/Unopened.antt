-- Without a session every line is bad, and clock and total are 0 at the end. Assumes nothing.
use mathlib.Core.Path.{◌≡◌, refl, ap, ◌∙◌}
use Prim.Native.Nat.{ℕ, ◌+◌, ◌≤◌}
use mathlib.Core.Bool.{false}
use mathlib.Core.List.{List, [], ◌∷◌, ◌++◌}
use native.Mathlib.Omega.{arith}
use lib.Dec.{eqb}
use lib.ListN.{length}
use borrow.Author.Tests.{le-leb, ne_eqb}
use Rattle.base.specs.Tests.{pick}
use Rattle.base.specs.Checks.{refused, need, first_fault}
use Rattle.session.specs.declared.Refusal.{Refusal}
use Rattle.session.specs.declared.Refusal.TheVariants.{NoSession}
use Rattle.session.specs.Layout.{memory_size}
use Rattle.session.specs.Session.{is_session}
use Rattle.session.specs.Replies.{refusal_row}
use Rattle.rules.specs.Terms.{Terms}
use Rattle.opening.specs.Opening.{zeros, opening_check}
use Rattle.opening.specs.Replies.{opening_reply}
use Rattle.opening.proofs.ClearedLaws.{zeros-length}
use Rattle.opening.proofs.Opened.{refused-kept, zeros-no-session}
use Rattle.sequencer.specs.Replies.{report_reply}
use Rattle.sequencer.specs.Calls.{report_check, if_known, reported}
use Rattle.std.specs.Prelude.{Option, Some, None}
use Rattle.lines.specs.declared.Command.{Command}
use Rattle.lines.specs.declared.Command.TheVariants.{Open, Hear, Pass}
use Rattle.lines.specs.Commands.{command_of, in_turn}
use Rattle.lines.specs.Output.{open_line, bad_line, end_line}
use Rattle.playing.specs.Printed.{Stand, Carried, figures_of, carried_opening, carried_by, carried, ending, printed_from, outset}
use Rattle.playing.proofs.OpenSteps.{refusal-numbered}
use Rattle.concert.specs.Told.{unopened_from}

-- A line, and those after it.
module _ (f : List ℕ) (g n : ℕ) (st : Stand) (l : List ℕ) (ls : List (List ℕ)) where
  pub printed-line : (c : Carried) → carried f g n st l ≡ c → printed_from f g n st (l ∷ ls) ≡ c.output ++ printed_from f g (n + 1) c.stand ls
  unfolding printed_from
  printed-line c e = rw e

-- ---- the end

none-known : (m : List ℕ) → memory_size ≤ length m → is_session m ≡ false → report_check m ≡ refused NoSession
unfolding report_check first_fault need
none-known m long none = rw (le-leb memory_size (length m) long, none)

no-figures : (m : List ℕ) → report_check m ≡ refused NoSession → figures_of m ≡ record { clock = 0; tempo = 0; last = 0; total = 0 }
unfolding figures_of reported if_known report_reply
no-figures m e = rw (e, figures_of, reported, if_known)

no_end : ending outset.memory ≡ end_line 0 0
unfolding ending outset
no_end = rw (no-figures (zeros memory_size) (none-known (zeros memory_size) (omega (arith, zeros-length memory_size)) zeros-no-session))

-- ---- the lines

abbrev badly : ℕ → Carried
badly n = record { stand = outset; output = bad_line n }

module _ (f : List ℕ) (g n : ℕ) where
  -- What is out of turn where line n is not the first, and where it is.
  late-bad : (c : Option Command) → carried_by f g n outset (in_turn false false c) ≡ badly n
  unfolding carried_by in_turn pick
  late-bad (Some (Open parts tempo)) = refl
  late-bad (Some (Hear event tempo)) = refl
  late-bad (Some (Pass ms)) = refl
  late-bad None = refl

  late-line : (l : List ℕ) → 2 ≤ n → carried f g n outset l ≡ badly n
  unfolding carried outset
  late-line l two = let other : eqb n 1 ≡ false = ne_eqb n 1 (λ z. omega arith) in rw other (late-bad (command_of l))

pub unopened-lines : (f : List ℕ) (g n : ℕ) → 2 ≤ n → (ls : List (List ℕ)) → printed_from f g n outset ls ≡ unopened_from n ls
unfolding unopened_from printed_from
unopened-lines f g n two [] = no_end
unopened-lines f g n two (l ∷ ls) =
    printed-line f g n outset l ls _ (late-line f g n l two) ∙ ap (λ (t : List ℕ). bad_line n ++ t) (unopened-lines f g (n + 1) (omega arith) ls)

-- From the first line on, where it is no opening.
module _ (f : List ℕ) (g : ℕ) where
  pub unopened-all : printed_from f g 1 outset [] ≡ unopened_from 1 []
  unfolding unopened_from printed_from
  unopened-all = no_end

  module _ (l : List ℕ) (ls : List (List ℕ)) where
    pub unopened-first : carried f g 1 outset l ≡ badly 1 → printed_from f g 1 outset (l ∷ ls) ≡ unopened_from 1 (l ∷ ls)
    unfolding unopened_from
    unopened-first e = printed-line f g 1 outset l ls _ e ∙ ap (λ (t : List ℕ). bad_line 1 ++ t) (unopened-lines f g 2 (omega arith) ls)

    pub heard-first : (event tempo : ℕ) → command_of l ≡ Some (Hear event tempo) → printed_from f g 1 outset (l ∷ ls) ≡ unopened_from 1 (l ∷ ls)
    unfolding carried carried_by in_turn pick outset
    heard-first event tempo e = unopened-first (rw e)

    pub passed_first : (ms : ℕ) → command_of l ≡ Some (Pass ms) → printed_from f g 1 outset (l ∷ ls) ≡ unopened_from 1 (l ∷ ls)
    unfolding carried carried_by in_turn pick outset
    passed_first ms e = unopened-first (rw e)

    pub bad-first : command_of l ≡ None → printed_from f g 1 outset (l ∷ ls) ≡ unopened_from 1 (l ∷ ls)
    unfolding carried carried_by in_turn pick outset
    bad-first e = unopened-first (rw e)

    -- A refused opening leaves no session.
    pub refused-first : (o : Terms) (x : Refusal) → o.grace ≡ g → command_of l ≡ Some (Open o.parts o.tempo) → opening_check (zeros memory_size) f o ≡ refused x
        → printed_from f g 1 outset (l ∷ ls) ≡ open_line (refusal_row x).number 0 ++ unopened_from 2 ls
    unfolding carried carried_by in_turn pick outset carried_opening opening_reply
    refused-first o x same e r =
        let line : carried f g 1 outset l ≡ record { stand = outset; output = open_line (refusal_row x).number 0 } =
        rw (e, ← same, refused-kept (zeros memory_size) f o x r, refusal-numbered x) in
        printed-line f g 1 outset l ls _ line ∙ ap (λ (t : List ℕ). open_line (refusal_row x).number 0 ++ t) (unopened-lines f g 2 (omega arith) ls)
