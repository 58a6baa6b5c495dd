-- A piece in which no global group that stands under an event itself is written to start after that event's end sends at each call what it sent before document 02 (v).
-- Assumes nothing.
use mathlib.Core.Path.{◌≡◌, ap}
use Prim.Native.Nat.{ℕ, ◌≤◌}
use mathlib.Core.List.{List}
use lib.ListN.{length}
use Rattle.rules.specs.Page.{Entry, Cue}
use Rattle.rules.specs.Document01.{InTime, AllEntries}
use Rattle.rules.proofs.GlobalLaws.{never-moved}
use Rattle.demands.specs.History.{Now, heard_events}
use Rattle.demands.specs.Messages.{firsts, order, sent_between}
use Rattle.demands.specs.Before.{sent_before}

pub sent-as-before : (ds : List ℕ) (es : List Entry) → 1 ≤ length ds → AllEntries (InTime ds) es → (s n : Now) → sent_before ds es s n ≡ sent_between ds es s n
unfolding sent_before sent_between
sent-as-before ds es some w s n = ap (λ (l : List Cue). order (firsts s n l)) (never-moved n.terms ds (heard_events n.hearings) some w)
