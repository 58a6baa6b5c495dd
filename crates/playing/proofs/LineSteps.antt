-- A line carried out by what it asks for, in its turn.
-- Assumes nothing.
use mathlib.Core.Path.{◌≡◌, refl, sym, ◌∙◌}
use mathlib.Core.Bool.{Bool, true, false}
use mathlib.Core.List.{List}
use Prim.Native.Nat.{ℕ, ◌≤◌}
use lib.Dec.{eqb}
use borrow.Author.Rules.{rules}
use Rattle.std.specs.Prelude.{Option, Some, None}
use Rattle.base.specs.Tests.{pick}
use Rattle.ascii.specs.Laying.{Laid}
use Rattle.score.specs.File.{Accepted}
use Rattle.opening.specs.Opening.{opened}
use Rattle.sequencer.specs.Calls.{heard_note, passing_time}
use Rattle.lines.specs.declared.Command.{Command}
use Rattle.lines.specs.declared.Command.TheVariants.{Open, Hear, Pass}
use Rattle.lines.specs.Commands.{most_parts, command_of, in_turn}
use Rattle.lines.specs.Output.{bad_line}
use Rattle.lines.proofs.PartsLaws.{command-parts}
use Rattle.playing.specs.Printed.{carried_opening, carried_sending, carried_by, carried}
use Rattle.playing.specs.Inner.{Asked, Carries}

-- ---- which lines are in turn

hear-turn : (first opened : Bool) (d : Option Command) (a b : ℕ) → in_turn first opened d ≡ Some (Hear a b) → opened ≡ true
unfolding in_turn pick
hear-turn first true d a b e = refl
hear-turn true false (Some (Open p t)) a b e = cc
hear-turn false false (Some (Open p t)) a b e = cc
hear-turn first false (Some (Hear h t)) a b e = cc
hear-turn first false (Some (Pass ms)) a b e = cc
hear-turn first false None a b e = cc

pass-turn : (first opened : Bool) (d : Option Command) (a : ℕ) → in_turn first opened d ≡ Some (Pass a) → opened ≡ true
unfolding in_turn pick
pass-turn first true d a e = refl
pass-turn true false (Some (Open p t)) a e = cc
pass-turn false false (Some (Open p t)) a e = cc
pass-turn first false (Some (Hear h t)) a e = cc
pass-turn first false (Some (Pass ms)) a e = cc
pass-turn first false None a e = cc

open_turn : (first opened : Bool) (d : Option Command) (a b : ℕ) → in_turn first opened d ≡ Some (Open a b) → d ≡ Some (Open a b)
unfolding in_turn pick
open_turn true opened (Some (Open p t)) a b e = e
open_turn false opened (Some (Open p t)) a b e = cc
open_turn first true (Some (Hear h t)) a b e = e
open_turn first false (Some (Hear h t)) a b e = cc
open_turn first true (Some (Pass ms)) a b e = e
open_turn first false (Some (Pass ms)) a b e = cc
open_turn first opened None a b e = e

-- ---- the line in the code's terms

module _ (f m room l out : List ℕ) (g n : ℕ) (o : Bool) (c : Option Command) (told : c ≡ in_turn (eqb n 1) o (command_of l)) where
  pub open-few : (a b : ℕ) → c ≡ Some (Open a b) → a ≤ most_parts
  open-few a b e = command-parts a b l (open_turn (eqb n 1) o (command_of l) a b (sym told ∙ e))

  pub hear-accepted : (a b : ℕ) → c ≡ Some (Hear a b) → Asked f o out → Accepted f
  hear-accepted a b e asked = asked.accepted (hear-turn (eqb n 1) o (command_of l) a b (sym told ∙ e))

  pub pass-accepted : (a : ℕ) → c ≡ Some (Pass a) → Asked f o out → Accepted f
  pass-accepted a e asked = asked.accepted (pass-turn (eqb n 1) o (command_of l) a (sym told ∙ e))

  module _ (m' room' new : List ℕ) (o' : Bool) (count : ℕ) where
    pub open-carried : (a b : ℕ) → c ≡ Some (Open a b) → Carries (carried_opening room (opened m f (record { parts = a; tempo = b; grace = g }))) out m' room' new o' count
        → Carries (carried f g n (record { memory = m; room = room; opened = o }) l) out m' room' new o' count
    unfolding carried carried_by
    open-carried a b e p = rw (← told, e) p

    pub hear-carried : (a b : ℕ) → c ≡ Some (Hear a b) → Carries (carried_sending f true (heard_note m room a b)) out m' room' new o' count
        → Carries (carried f g n (record { memory = m; room = room; opened = o }) l) out m' room' new o' count
    unfolding carried carried_by
    hear-carried a b e p = rw (← told, e, hear-turn (eqb n 1) o (command_of l) a b (sym told ∙ e)) p

    pub pass-carried : (a : ℕ) → c ≡ Some (Pass a) → Carries (carried_sending f true (passing_time m room a)) out m' room' new o' count
        → Carries (carried f g n (record { memory = m; room = room; opened = o }) l) out m' room' new o' count
    unfolding carried carried_by
    pass-carried a e p = rw (← told, e, pass-turn (eqb n 1) o (command_of l) a (sym told ∙ e)) p

  pub bad-carried : (new : List ℕ) (o' : Bool) (count : ℕ) → c ≡ None → Laid out 0 (bad_line n) new count → o' ≡ o
      → Carries (carried f g n (record { memory = m; room = room; opened = o }) l) out m room new o' count
  unfolding carried carried_by
  bad-carried new o' count e laid s = rw (← told, e) (record { memory = refl; room = refl; opened = s; output = laid })

-- a bad line changes nothing, and a session that is open stays so
pub still-accepted : (f out : List ℕ) (o o' : Bool) → Asked f o out → o' ≡ o → o' ≡ true → Accepted f
still-accepted f out o o' asked s t = asked.accepted (sym s ∙ t)

pub ruleset turns = (open-few, hear-accepted, pass-accepted, rules)

pub ruleset opens = (open-carried, rules)

pub ruleset hears = (hear-carried, hear-accepted, rules)

pub ruleset passes = (pass-carried, pass-accepted, rules)

pub ruleset bads = (bad-carried, still-accepted, rules)
