-- What one more heard event may change: nothing that is played or dropped, and what it newly plays it plays at itself.
use Rattle.std.specs.Prelude.{◌≡◌, ℕ, ◌<◌, List, [], ◌∷◌}
use Rattle.rules.specs.Rules.{Outcome, played, dropped, undecided, Line, line}
use Rattle.rules.specs.Page.{Cue}

-- h comes after each event of D.
pub data Below (h : ℕ) : List ℕ → Type 0 where
  nothing_heard : Below h []
  heard_before : {d : ℕ} {D : List ℕ} → d < h → Below h D → Below h (d ∷ D)

-- Each event of D comes after the one before it, and the first after i.
pub data Rising : ℕ → List ℕ → Type 0 where
  no_more : {i : ℕ} → Rising i []
  then : {i d : ℕ} {D : List ℕ} → i < d → Rising d D → Rising i (d ∷ D)

-- From one outcome to the next when h is heard: it stays, or was undecided and is decided, by being dropped or played at h.
pub data Settles (h : ℕ) : Outcome → Outcome → Type 0 where
  stays : {o : Outcome} → Settles h o o
  drops : Settles h undecided dropped
  plays : {i d : ℕ} → i ≡ h → Settles h undecided (played i d)

-- Line by line: place and message stay.
pub data Settled (h : ℕ) : List Line → List Line → Type 0 where
  no_lines : Settled h [] []
  settled_line : {p m : ℕ} {o u : Outcome} {l k : List Line} → Settles h o u → Settled h l k → Settled h (line p m o ∷ l) (line p m u ∷ k)

-- Action by action of the page: place, part and message stay.
pub data SettledCues (h : ℕ) : List Cue → List Cue → Type 0 where
  no_cues : SettledCues h [] []
  settled_cue : {a p m : ℕ} {o u : Outcome} {l k : List Cue} → Settles h o u → SettledCues h l k →
      SettledCues h (record { place = a; part = p; message = m; outcome = o } ∷ l) (record { place = a; part = p; message = m; outcome = u } ∷ k)
