-- The end of every granted call: it sends what the rows have due, and the words then say the score, the events and the rows fired.
-- Assumes nothing.
use mathlib.Core.Path.{◌≡◌, ◌∙◌}
use Prim.Native.Nat.{ℕ, ◌+◌, ◌≤◌}
use mathlib.Core.List.{List, map}
use native.Mathlib.Omega.{arith}
use lib.ListN.{length}
use Rattle.page.specs.declared.Item.{Item}
use Rattle.rules.specs.Terms.{Terms}
use Rattle.session.specs.Layout.{memory_size, most_sent, item_count_at, clock_at, taken_at, slots_at, outcomes_at, word_at}
use Rattle.session.specs.Parts.{sounds}
use Rattle.sending.specs.Sending.{sent_at, fired_at}
use Rattle.sequencer.specs.Calls.{headed}
use Rattle.session.proofs.Kept.{Kept, kept_word, kept-wider}
use Rattle.sending.proofs.KeptLaws.{fired-kept}
use Rattle.sequencer.proofs.HeadedLaws.{headed-kept}
use Rattle.demands.specs.Messages.{order}
use Rattle.demands.specs.Answers.{message_of}
use Rattle.demands.proofs.Slots.{SlotRow, fire_all, collect}
use Rattle.demands.proofs.Sorts.{ordered-is}
use Rattle.demands.proofs.MemoryAndHistory.Shows.{Shows, shows_kept}
use Rattle.demands.proofs.MemoryAndHistory.Due.{due-rows, fired-rows}
use Rattle.demands.proofs.MemoryAndHistory.Taken.{EventsSettled}
use Rattle.demands.proofs.MemoryAndHistory.Fair.{Fair}
use Rattle.demands.proofs.MemoryAndHistory.Holds.{Score, kept-after, score-kept, events-kept}

module _ {ds : List ℕ} {is : List Item} (fair : Fair ds is) (o : Terms) (clock : ℕ) (m : List ℕ) (score : Score ds is o m) where
  fired-words : Kept slots_at outcomes_at m (fired_at clock m)
  unfolding fired_at
  fired-words = fired-kept clock most_sent (word_at m item_count_at) 0 m (omega (arith, score.items, fair.items))

  pub fired-long : memory_size ≤ length (fired_at clock m)
  fired-long = rw fired-words.long score.long

  module _ {rows : List SlotRow} (fit : length rows ≤ most_sent) (slots : Shows (sounds o.parts) m 0 is rows) where
    pub sent-rows : sent_at clock m ≡ map message_of (order (collect clock rows))
    unfolding sent_at
    sent-rows = rw (score.items, due-rows clock most_sent slots fit) (ordered-is (collect clock rows))

    fired-slots : Shows (sounds o.parts) (fired_at clock m) 0 is (fire_all clock rows)
    unfolding fired_at
    fired-slots = rw score.items (fired-rows clock m most_sent score.long (omega (arith, fair.items)) slots fit)

  -- The header is written last.
  module _ (tempo last total : ℕ) where
    abbrev after : List ℕ
    after = headed clock tempo last total (fired_at clock m)

    head-words : Kept clock_at taken_at (fired_at clock m) after
    head-words = headed-kept clock tempo last total (fired_at clock m)

    pub after-score : Score ds is o after
    after-score =
        let w : Kept clock_at outcomes_at m (fired_at clock m) = kept-wider (omega arith) (omega arith) fired-words in
        score-kept o fair.events fair.items head-words (score-kept o fair.events fair.items w score)

    pub after-settled : {e : ℕ} {D : List ℕ} → EventsSettled (length ds) e D m → EventsSettled (length ds) e D after
    after-settled s =
        events-kept fair.events (λ k p. kept-after head-words (taken_at + k) (omega arith) ∙ kept_word fired-words (taken_at + k) (omega arith)) s

    pub after-slots : {rows : List SlotRow} → length rows ≤ most_sent → Shows (sounds o.parts) m 0 is rows → Shows (sounds o.parts) after 0 is (fire_all clock rows)
    after-slots fit slots =
        shows_kept after (λ i h. kept_word head-words i h) (λ q h g. kept-after head-words (slots_at + q) (omega arith)) (omega (arith, fair.items)) (fired-slots fit slots)
