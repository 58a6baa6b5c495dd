-- What document 01 has otherwise than document 02. It splits a missed group with no grace: the rules on terms with a grace of 0 split it so (GraceLaws). And it throws
-- away the own delay of a missed global group: what the rules were before is what they are now, but for that one delay (GlobalLaws).
use Rattle.std.specs.Prelude.{◌≡◌, ℕ, suc, ◌+◌, ◌≤◌, ◌<◌, max, Bool, false, not, List, [], ◌∷◌, ◌++◌, ltb}
use Rattle.rules.specs.Words.{Synchrony, ErrorWord, local, global, partial, causal}
use Rattle.rules.specs.Score.{Seq, end, action, group, E}
use Rattle.rules.specs.Heard.{Taken, heard, missed, unsettled}
use Rattle.rules.specs.Rules.{Reading, Outcome, Line, line, perform}
use Rattle.rules.specs.Page.{Entry, Cue, cast}
use Rattle.rules.specs.Groups.{select, own_date, Split}

-- ---- no grace

-- "the items starting before E(j) are past, the others future"
unfoldable pub past01 : Reading → (j t : ℕ) → Bool
past01 R j t = ltb t (R.start j)

unfoldable pub future01 : Reading → (j t : ℕ) → Bool
future01 R j t = not (past01 R j t)

-- "Past items run as missed, at their own delays"; "past actions are dropped"; "their dates less E(j)".
unfoldable pub split01 : Reading → Split
split01 R =
    record {
      items = λ j b c x. select own_date (past01 R j) (past01 R j) b 0 c x;
      groups = λ j b c x. select own_date (λ t. false) (past01 R j) b 0 c x;
      future = λ j b x. select own_date (future01 R j) (future01 R j) b 0 (R.start j) x;
    }

-- ---- missed global groups, as they were before document 02 (v)

-- "Missed, global: the whole group is heard at j with delay 0."
unfoldable pub at_once : (i j d : ℕ) → ℕ
at_once i j d = 0

-- "Document 01's rule throws away the group's own delay": of a group at event i with the summed delay d, by what has become of i and by its error word.
unfoldable pub delay_before : Taken → ErrorWord → ℕ → ℕ
delay_before (missed j) global d = 0
delay_before (missed j) local d = d
delay_before (missed j) partial d = d
delay_before (missed j) causal d = d
delay_before heard e d = d
delay_before unsettled e d = d

-- What the rules were: a part's sequence from (i, s), item by item as it is performed now, but a missed global group with its delay thrown away.
unfoldable pub performed_before : Reading → (i s : ℕ) → Seq → List Line
performed_before R i s end = []
performed_before R i s (action d m p rest) = perform R i (action (s + d) m p end) ++ performed_before R i (s + d) rest
performed_before R i s (group d y e body rest) = perform R i (group (delay_before (R.became i) e (s + d)) y e body end) ++ performed_before R i (s + d) rest

-- A page as it was: each part's sequence at each event.
unfoldable pub cues_before : Reading → List Entry → List Cue
cues_before R [] = []
cues_before R (e ∷ es) = cast e.part (performed_before R e.event 0 e.body) ++ cues_before R es

-- ---- what can sound otherwise

-- A sequence has an action at page place p, at any depth.
pub data Holds (p : ℕ) : Seq → Type 0 where
  here : {d m : ℕ} {rest : Seq} → Holds p (action d m p rest)
  inside : {d : ℕ} {y : Synchrony} {e : ErrorWord} {body rest : Seq} → Holds p body → Holds p (group d y e body rest)
  behind_action : {d m q : ℕ} {rest : Seq} → Holds p rest → Holds p (action d m q rest)
  behind_group : {d : ℕ} {y : Synchrony} {e : ErrorWord} {body rest : Seq} → Holds p rest → Holds p (group d y e body rest)

-- Of a part's sequence from (i, s), a global group holds it that was missed and has its own date after E(j).
pub data HeldLater (R : Reading) (i : ℕ) : (s : ℕ) → Seq → (place : ℕ) → Type 0 where
  in_this : {s d j p : ℕ} {y : Synchrony} {body rest : Seq} → R.became i ≡ missed j → R.start j < R.start i + (s + d) → Holds p body →
      HeldLater R i s (group d y global body rest) p
  past_action : {s d m q p : ℕ} {rest : Seq} → HeldLater R i (s + d) rest p → HeldLater R i s (action d m q rest) p
  past_group : {s d p : ℕ} {y : Synchrony} {e : ErrorWord} {body rest : Seq} → HeldLater R i (s + d) rest p → HeldLater R i s (group d y e body rest) p

-- The same actions in the same order, and each comes to the same, but for those at places of which H holds.
pub data SameBut (H : ℕ → Type 0) : (before now : List Line) → Type 0 where
  no_lines : SameBut H [] []
  same_line : {p m : ℕ} {o : Outcome} {l k : List Line} → SameBut H l k → SameBut H (line p m o ∷ l) (line p m o ∷ k)
  held_line : {p m : ℕ} {o u : Outcome} {l k : List Line} → H p → SameBut H l k → SameBut H (line p m o ∷ l) (line p m u ∷ k)

-- ---- what sounds as before

-- The date of the last global group of a sequence that starts at the date t, not of those within its groups; 0 where it has none.
unfoldable pub last_global : ℕ → Seq → ℕ
last_global t end = 0
last_global t (action d m p rest) = last_global (t + d) rest
last_global t (group d y global body rest) = max (t + d) (last_global (t + d) rest)
last_global t (group d y local body rest) = last_global (t + d) rest
last_global t (group d y partial body rest) = last_global (t + d) rest
last_global t (group d y causal body rest) = last_global (t + d) rest

-- Where a part's sequence is missed, none of its own global groups was to start after E(j).
abbrev pub NoneLater : Reading → Entry → Type 0
NoneLater R e = (j : ℕ) → R.became e.event ≡ missed j → last_global (R.start e.event) e.body ≤ R.start j

-- No global group of a part's sequence is written to start after its event's end, where the next event begins.
abbrev pub InTime : List ℕ → Entry → Type 0
InTime ds e = last_global (E ds e.event) e.body ≤ E ds (suc e.event)

-- It holds of each part's sequence at each event.
pub data AllEntries (P : Entry → Type 0) : List Entry → Type 0 where
  no_entries : AllEntries P []
  with_entry : {e : Entry} {es : List Entry} → P e → AllEntries P es → AllEntries P (e ∷ es)
