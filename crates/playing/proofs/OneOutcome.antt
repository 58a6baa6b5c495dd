-- No second outcome meets the contract of carrying out a line: replies, memory, room and output are all given.
-- Assumes nothing.
use mathlib.Core.Path.{◌≡◌, sym, ◌∙◌}
use mathlib.Core.Bool.{Bool}
use mathlib.Core.List.{List}
use Prim.Native.Nat.{ℕ}
use Rattle.ascii.proofs.OneOutcome.{one-stop, one-laid}
use Rattle.playing.specs.Printed.{Carried}
use Rattle.playing.specs.Inner.{Carries}

-- What a call that prints leaves: memory, room, output, and how many bytes were printed.
pub record Same (m m' r r' out out' : List ℕ) (n n' : ℕ) : Type 0 where
  pub memory : m ≡ m'
  pub room : r ≡ r'
  pub output : out ≡ out'
  pub count : n ≡ n'

module _ (c : Carried) (out m m' room room' new new' : List ℕ) (o o' : Bool) (n n' : ℕ) (p : Carries c out m room new o n) (q : Carries c out m' room' new' o' n') where
  pub one_line : Same m m' room room' new new' n n'
  one_line =
      record {
        memory = p.memory ∙ sym q.memory;
        room = p.room ∙ sym q.room;
        output = one-laid out _ new new' 0 n n' p.output q.output;
        count = one-stop out _ new new' 0 n n' p.output q.output;
      }

  pub one-line-opened : o ≡ o'
  one-line-opened = p.opened ∙ sym q.opened
