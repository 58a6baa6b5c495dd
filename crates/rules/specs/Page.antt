-- The page: the item table read as sequences, and a performance of it. "Each part has its own sequence at each event."
use Rattle.std.specs.Prelude.{ℕ, zero, suc, ◌+◌, Bool, true, false, List, [], ◌∷◌, ◌++◌, eqb, length, take, drop}
use Rattle.page.specs.declared.Item.{Item}
use Rattle.base.specs.Tests.{pick}
use Rattle.rules.specs.Words.{synchrony_of, error_of}
use Rattle.rules.specs.Score.{Seq, end, action, group}
use Rattle.rules.specs.Rules.{Reading, Outcome, Line, line, perform}

-- "depth 8": groups are entered so many times, one within the other.
abbrev pub levels : ℕ
levels = 7

-- The items as a sequence, the first of them at page place p. "For a group last is how many following items lie within it": what lies deeper than the levels
-- left yields nothing. The first number only bounds the recursion, and is at least how many items there are.
unfoldable pub sequence_of : (bound levels p : ℕ) → List Item → Seq
sequence_of zero v p is = end
sequence_of (suc n) v p [] = end
sequence_of (suc n) v p (i ∷ is) =
    elim (eqb i.kind 0) [
      | true ↦ action i.delay.0 i.last p (sequence_of n v (p + 1) is)
      | false ↦
          group i.delay.0 (synchrony_of i.synchrony) (error_of i.error)
          (elim v [ zero ↦ end | suc u ↦ sequence_of n u (p + 1) (take i.last is) ])
          (sequence_of n v (p + 1 + i.last) (drop i.last is))
    ]

-- A part's sequence at an event.
pub record Entry : Type 0 where
  pub event : ℕ
  pub part : ℕ
  pub body : Seq

-- Whether an item goes on with the sequence of part p at event i: it lies within a group of it, or is a top item of the same event and part.
unfoldable pub goes_on : (i p : ℕ) → Item → Bool
goes_on i p x = pick (eqb x.event 0) true (pick (eqb x.event i) (eqb x.part p) false)

-- How many items do, one after the other.
unfoldable pub run_length : (i p : ℕ) → List Item → ℕ
run_length i p [] = 0
run_length i p (x ∷ is) = pick (goes_on i p x) (suc (run_length i p is)) 0

unfoldable pub entries_of : (bound p : ℕ) → List Item → List Entry
entries_of zero p is = []
entries_of (suc n) p [] = []
entries_of (suc n) p (x ∷ is) =
    let k = run_length x.event x.part is in
    record { event = x.event; part = x.part; body = sequence_of (suc k) levels p (x ∷ take k is) } ∷ entries_of n (p + 1 + k) (drop k is)

-- The whole table.
unfoldable pub entries : List Item → List Entry
entries is = entries_of (length is) 0 is

-- A written action with its page place, its part and its message, and what becomes of it.
pub record Cue : Type 0 where
  pub place : ℕ
  pub part : ℕ
  pub message : ℕ
  pub outcome : Outcome

unfoldable pub cast : ℕ → List Line → List Cue
cast p [] = []
cast p (line a m o ∷ l) = record { place = a; part = p; message = m; outcome = o } ∷ cast p l

-- The actions of these sequences, in page order.
unfoldable pub cues : Reading → List Entry → List Cue
cues R [] = []
cues R (e ∷ es) = cast e.part (perform R e.event e.body) ++ cues R es
