-- What may stand behind a line, in the code's own terms: each case of the line and of the stage.
-- Assumes nothing.
use mathlib.Core.Path.{◌≡◌, sym}
use mathlib.Core.List.{List}
use Prim.Native.Nat.{ℕ, ◌+◌, ◌-◌, ◌<◌, ◌≤◌, ◌^◌}
use native.Mathlib.Numerals.{add-one}
use native.Mathlib.Omega.{arith}
use lib.ListN.{drop}
use borrow.Author.Rules.{rules}
use Rattle.tokens.specs.Tokens.{got, label, bytes_in}
use Rattle.text.specs.declared.Stage.{Stage}
use Rattle.text.specs.declared.Stage.TheVariants.{Start, Listing, Timed, Playing}
use Rattle.text.specs.Grammar.{Line, heading, message, event, part, send, group, close, after, further, deeper, shallower}
use Rattle.script.specs.declared.Found.{Found}
use Rattle.script.specs.declared.Found.TheVariants.{Heading, Message, Event, Part, Send, Group, Close}
use Rattle.script.specs.Steps.{line_of}
use Rattle.script.specs.Stages.{after_read, stage_after, held}

-- ---- the stage's cases

module _ (stage : Stage) where
  module _ (e : stage ≡ Start) where
    pub further-start : stage ≡ further stage
    unfolding further
    further-start = rw e

    pub deeper-start : stage ≡ deeper stage
    unfolding deeper
    deeper-start = rw e

    pub shallower-start : stage ≡ shallower stage
    unfolding shallower
    shallower-start = rw e

  module _ (e : stage ≡ Timed) where
    pub further-timed : stage ≡ further stage
    unfolding further
    further-timed = rw e

    pub deeper-timed : stage ≡ deeper stage
    unfolding deeper
    deeper-timed = rw e

    pub shallower-timed : stage ≡ shallower stage
    unfolding shallower
    shallower-timed = rw e

  module _ (next : ℕ) (e : stage ≡ Listing next) where
    pub listed-room : held stage + 1 < 2 ^ 64 → next + 1 < 2 ^ 64
    unfolding held
    listed-room p = rw e at p

    pub further-list : Listing (next + 1) ≡ further stage
    unfolding further
    further-list = rw (e, add-one next)

    pub deeper-list : stage ≡ deeper stage
    unfolding deeper
    deeper-list = rw e

    pub shallower-list : stage ≡ shallower stage
    unfolding shallower
    shallower-list = rw e

  module _ (depth : ℕ) (e : stage ≡ Playing depth) where
    pub open-room : held stage + 1 < 2 ^ 64 → depth + 1 < 2 ^ 64
    unfolding held
    open-room p = rw e at p

    pub further-playing : stage ≡ further stage
    unfolding further
    further-playing = rw e

    pub deeper-playing : Playing (depth + 1) ≡ deeper stage
    unfolding deeper
    deeper-playing = rw (e, add-one depth)

    pub shallower-top : depth < 1 → Playing depth ≡ shallower stage
    unfolding shallower
    shallower-top p = let z : depth - 1 ≡ depth = omega arith in rw (e, z)

    pub shallower-playing : Playing (depth - 1) ≡ shallower stage
    unfolding shallower
    shallower-playing = rw e

pub ruleset furthering = (further-start, further-timed, listed-room, further-list, further-playing, rules)

pub ruleset deepening = (deeper-start, deeper-timed, deeper-list, open-room, deeper-playing, rules)

pub ruleset shallowing = (shallower-start, shallower-timed, shallower-list, shallower-top, shallower-playing, rules)

-- ---- what it says of the line

-- The stage behind what was found is the stage behind the line that it says.
pub after_line : (t : List ℕ) (found : Found) (l : Line) (left rest : List ℕ) (stage : Stage) → line_of t found left ≡ got l rest → stage_after found stage ≡ after l stage
unfolding stage_after line_of after_read after
after_line t Heading l left rest stage e = let z : heading ≡ l = cc in rw (sym z)
after_line t (Message start size) l left rest stage e = let z : message (bytes_in (label (drop start t))) ≡ l = cc in rw (sym z)
after_line t (Event g) l left rest stage e = let z : event g ≡ l = cc in rw (sym z)
after_line t (Part n) l left rest stage e = let z : part n ≡ l = cc in rw (sym z)
after_line t (Send d n) l left rest stage e = let z : send d n ≡ l = cc in rw (sym z)
after_line t (Group d w v) l left rest stage e = let z : group d w v ≡ l = cc in rw (sym z)
after_line t Close l left rest stage e = let z : close ≡ l = cc in rw (sym z)

-- It holds at most one more than the stage before.
pub held_after : (found : Found) (stage : Stage) → held (stage_after found stage) ≤ held stage + 1
unfolding stage_after line_of after_read after further deeper shallower held
held_after Heading stage = omega arith
held_after (Message start size) Start = omega arith
held_after (Message start size) (Listing next) = omega arith
held_after (Message start size) Timed = omega arith
held_after (Message start size) (Playing depth) = omega arith
held_after (Event g) stage = omega arith
held_after (Part n) stage = omega arith
held_after (Send d n) stage = omega arith
held_after (Group d w v) Start = omega arith
held_after (Group d w v) (Listing next) = omega arith
held_after (Group d w v) Timed = omega arith
held_after (Group d w v) (Playing depth) = omega arith
held_after Close Start = omega arith
held_after Close (Listing next) = omega arith
held_after Close Timed = omega arith
held_after Close (Playing depth) = omega arith
