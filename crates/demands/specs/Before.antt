-- What a call sent before document 02 (v): as now, of the cues as they were then.
use Rattle.std.specs.Prelude.{ℕ, List}
use Rattle.rules.specs.Rules.{reading_of}
use Rattle.rules.specs.Page.{Entry}
use Rattle.rules.specs.Document01.{cues_before}
use Rattle.demands.specs.History.{Now, heard_events}
use Rattle.demands.specs.Messages.{Sent, firsts, order}

unfoldable pub sent_before : (durations : List ℕ) → List Entry → (before now : Now) → List Sent
sent_before ds es s n = order (firsts s n (cues_before (reading_of n.terms ds (heard_events n.hearings)) es))
