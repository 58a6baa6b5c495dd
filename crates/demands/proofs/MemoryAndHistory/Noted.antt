-- A heard note over words: the events are settled, the rules say what that decides, and the slot words show the rows settled by it.
-- Assumes nothing.
use mathlib.Core.Path.{◌≡◌, ◌∙◌}
use Prim.Native.Nat.{ℕ, suc, ◌+◌, ◌-◌, ◌≤◌, ◌<◌}
use mathlib.Core.List.{List, [], ◌∷◌, ◌++◌}
use native.Mathlib.Omega.{arith}
use lib.ListN.{length}
use Rattle.page.specs.declared.Item.{Item}
use Rattle.rules.specs.Rules.{reading_of}
use Rattle.rules.specs.Page.{entries, Cue, cues}
use Rattle.rules.specs.Parts.{sounding_entries}
use Rattle.rules.proofs.HeardLaws.{below_up}
use Rattle.rules.proofs.Sound.{each-action-once}
use Rattle.fates.specs.Places.{PlacesFit}
use Rattle.evaluators.specs.Performed.{performed}
use Rattle.rules.specs.Terms.{Terms}
use Rattle.session.specs.Layout.{memory_size, clock_at, last_at, taken_at, slots_at, outcomes_at, word_at, places_of}
use Rattle.session.specs.Parts.{sounds}
use Rattle.sending.specs.Sending.{settled}
use Rattle.sequencer.specs.Calls.{took_note, noted}
use Rattle.session.proofs.Kept.{Kept, kept_word, kept-wider}
use Rattle.sequencer.proofs.NoteLaws.{took-kept, performed-kept}
use Rattle.sending.proofs.KeptLaws.{settled-kept as Slots-kept}
use Rattle.demands.proofs.Slots.{SlotRow, settle_all}
use Rattle.demands.proofs.MemoryAndHistory.Shows.{Shows, shows_kept}
use Rattle.demands.proofs.MemoryAndHistory.Settled.{Told, settled-rows}
use Rattle.demands.proofs.MemoryAndHistory.Outcomes.{Left, performed-left, left-sounding, left-told}
use Rattle.demands.proofs.MemoryAndHistory.Delays.{page-short}
use Rattle.demands.proofs.MemoryAndHistory.Taken.{EventsSettled, note-settled}
use Rattle.demands.proofs.MemoryAndHistory.Holds.{Score, kept-after, score-kept, events-kept}
use Rattle.demands.proofs.MemoryAndHistory.Reading.{session-cues}
use Rattle.demands.proofs.MemoryAndHistory.Fair.{Fair}

-- What the words say after that, of the events D before the note and the rows before it.
pub record Noted (ds : List ℕ) (is : List Item) (o : Terms) (h clock : ℕ) (D : List ℕ) (rows : List SlotRow) (m : List ℕ) : Type 0 where
  pub score : Score ds is o m
  pub settled : EventsSettled (length ds) h (D ++ (h ∷ [])) m
  pub slots : Shows (sounds o.parts) m 0 is (settle_all clock rows (cues (reading_of o ds (D ++ (h ∷ []))) (sounding_entries (sounds o.parts) (entries is))))

module _ {ds : List ℕ} {is : List Item} (fair : Fair ds is) (o : Terms) (h last : ℕ) {D : List ℕ} (m : List ℕ) (score : Score ds is o m) (heard : EventsSettled (length ds) last D m)
    (next : last < h) (fits : h ≤ length ds) where
  -- The words when the events are settled, when the rules have said what that decides, and when the slots are settled by it.
  abbrev m₁ : List ℕ
  m₁ = took_note h (h - last) (last + 1) m

  abbrev m₂ : List ℕ
  m₂ = performed (places_of m₁) m₁

  took-words : Kept taken_at slots_at m m₁
  took-words = took-kept h (h - last) (last + 1) m (omega (arith, fair.events))

  score₁ : Score ds is o m₁
  score₁ = let w : Kept clock_at slots_at m m₁ = kept-wider (omega arith) (omega arith) took-words in score-kept o fair.events fair.items w score

  heard₁ : EventsSettled (length ds) h (D ++ (h ∷ [])) m₁
  heard₁ = note-settled (length ds) last h D m heard next fits fair.events score.long

  laid₁ : PlacesFit (places_of m₁) (length m₁)
  laid₁ =
      let e = score₁.events in
      let i = score₁.items in
      let l = score₁.long in
      let g = score₁.grace in
      record {
        starts = omega arith;
        taken = omega arith;
        items = omega (arith, fair.items);
        outcomes = omega (arith, fair.items);
        some = omega (arith, fair.some);
        few = omega (arith, fair.events);
        page = omega (arith, fair.items);
        grace = omega (arith, score₁.graced);
      }

  performed-words : Kept outcomes_at memory_size m₁ m₂
  performed-words = kept-wider (omega arith) (omega (arith, score₁.items, fair.items)) (performed-kept (places_of m₁) m₁ laid₁)

  score₂ : Score ds is o m₂
  score₂ = let w : Kept clock_at memory_size m₁ m₂ = kept-wider (omega arith) (omega arith) performed-words in score-kept o fair.events fair.items w score₁

  -- ---- what the rules decide

  abbrev new_cues : List Cue
  new_cues = cues (reading_of o ds (D ++ (h ∷ []))) (sounding_entries (sounds o.parts) (entries is))

  left : Left m₂ (cues (reading_of o ds (D ++ (h ∷ []))) (entries is))
  left =
      performed-left m₁ laid₁ _ (session-cues fair.some fair.events score₁ heard₁ fits fair.within)
      (page-short o ds (D ++ (h ∷ [])) (below_up (suc h) (suc (length ds)) (omega arith) heard₁.below) fair.ranges fair.items fair.within)

  told : (clock : ℕ) → Told (sounds o.parts) clock m₂ 0 is new_cues
  told clock =
      left-told (sounds o.parts) clock 0 is new_cues (each-action-once (reading_of o ds (D ++ (h ∷ []))) (sounding_entries (sounds o.parts) (entries is)) ∙ fair.actions (sounds o.parts))
      (left-sounding (sounds o.parts) (reading_of o ds (D ++ (h ∷ []))) (entries is) left)

  -- ---- the slots

  module _ (clock : ℕ) where
    abbrev m₃ : List ℕ
    m₃ = settled clock (length is) 0 m₂

    slot-words : Kept slots_at outcomes_at m₂ m₃
    slot-words = Slots-kept clock (length is) 0 m₂ (omega (arith, fair.items))

    score₃ : Score ds is o m₃
    score₃ = let w : Kept clock_at outcomes_at m₂ m₃ = kept-wider (omega arith) (omega arith) slot-words in score-kept o fair.events fair.items w score₂

    heard₃ : EventsSettled (length ds) h (D ++ (h ∷ [])) m₃
    heard₃ =
        events-kept fair.events (λ k p. kept_word slot-words (taken_at + k) (omega arith) ∙ kept_word performed-words (taken_at + k) (omega arith)) heard₁

    slots₃ : {rows : List SlotRow} → Shows (sounds o.parts) m 0 is rows → Shows (sounds o.parts) m₃ 0 is (settle_all clock rows new_cues)
    slots₃ slots =
        let few : 0 + length is ≤ 2048 = omega (arith, fair.items) in
        let slots₂ =
        shows_kept m₂ (λ i q. kept_word performed-words i (omega arith) ∙ kept_word took-words i (omega arith))
        (λ q a b. kept_word performed-words (slots_at + q) (omega arith) ∙ kept-after took-words (slots_at + q) (omega arith)) few slots in
        settled-rows o clock m₂ score₂.parts score₂.long fair.items slots₂ (told clock)

    -- They are the words that the definition of a heard note has.
    noted-is : word_at m last_at ≡ last → word_at m clock_at ≡ clock → noted h m ≡ m₃
    unfolding noted
    noted-is a b = rw (a, b, score.items)

    pub noted-says : {rows : List SlotRow} → word_at m last_at ≡ last → word_at m clock_at ≡ clock → Shows (sounds o.parts) m 0 is rows → Noted ds is o h clock D rows (noted h m)
    noted-says a b slots = rw (noted-is a b) (record { score = score₃; settled = heard₃; slots = slots₃ slots })
