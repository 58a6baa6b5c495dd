-- The written actions of a page, in page order: "one for each written action it plays, kept apart even where two are alike".
use Rattle.std.specs.Prelude.{ℕ, suc, ◌+◌, ◌≤◌, ◌<◌, List, [], ◌∷◌, ◌++◌}
use Rattle.rules.specs.Score.{Seq, end, action, group}
use Rattle.rules.specs.Rules.{played, dropped, undecided, Line, line}
use Rattle.rules.specs.Page.{Entry, Cue}

pub data Written : Type 0 where
  written : (place part message : ℕ) → Written

-- Of a sequence of part q, of a page, and of what the rules make of one.
unfoldable pub actions_of : ℕ → Seq → List Written
actions_of q end = []
actions_of q (action d m p rest) = written p q m ∷ actions_of q rest
actions_of q (group d y e body rest) = actions_of q body ++ actions_of q rest

unfoldable pub actions_on : List Entry → List Written
actions_on [] = []
actions_on (e ∷ es) = actions_of e.part e.body ++ actions_on es

unfoldable pub actions_in : List Cue → List Written
actions_in [] = []
actions_in (c ∷ cs) = written c.place c.part c.message ∷ actions_in cs

-- Their page places rise, from a on and below b: so no two are the same.
pub data Placed : (a b : ℕ) → List Written → Type 0 where
  no_actions : {a b : ℕ} → Placed a b []
  placed : {a b p q m : ℕ} {l : List Written} → a ≤ p → p < b → Placed (suc p) b l → Placed a b (written p q m ∷ l)

-- The sum of all delays of a sequence, those within groups too.
unfoldable pub delays_of : Seq → ℕ
delays_of end = 0
delays_of (action d m p rest) = d + delays_of rest
delays_of (group d y e body rest) = d + (delays_of body + delays_of rest)

-- No action that is played waits longer than L.
pub data WaitsUpTo (L : ℕ) : List Line → Type 0 where
  no_waits : WaitsUpTo L []
  waits_played : {p m i d : ℕ} {l : List Line} → d ≤ L → WaitsUpTo L l → WaitsUpTo L (line p m (played i d) ∷ l)
  waits_dropped : {p m : ℕ} {l : List Line} → WaitsUpTo L l → WaitsUpTo L (line p m dropped ∷ l)
  waits_undecided : {p m : ℕ} {l : List Line} → WaitsUpTo L l → WaitsUpTo L (line p m undecided ∷ l)
