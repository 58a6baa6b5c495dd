-- What the words of a session say: the score, and what the calls so far come to. Words that a step leaves alone go on saying it.
-- Assumes nothing.
use mathlib.Core.Path.{◌≡◌, ap, sym, ◌∙◌}
use Prim.Native.Nat.{ℕ, ◌+◌, ◌-◌, ◌≤◌}
use mathlib.Core.Bool.{true}
use mathlib.Core.List.{List, map}
use native.Mathlib.Omega.{arith}
use lib.ListN.{length, get_or, take, drop}
use lib.Seq.{get_or-take, get_or-drop}
use Rattle.page.specs.declared.Item.{Item}
use Rattle.score.specs.Piece.{decode}
use Rattle.rules.specs.Score.{E}
use Rattle.fates.specs.Fields.{item_in, start_in, taken_in}
use Rattle.fates.specs.Places.{start_at, items_in}
use Rattle.rules.specs.Terms.{Terms}
use Rattle.session.specs.Layout.{memory_size, most_grace, event_count_at, item_count_at, parts_at, grace_at, starts_at, page_at, clock_at, tempo_at, last_at, total_at, taken_at, outcomes_at, word_at, places_of}
use Rattle.session.specs.Session.{is_session}
use Rattle.session.specs.Parts.{sounds}
use Rattle.opening.proofs.ListLaws.{take-drop-take}
use Rattle.session.proofs.Kept.{Kept, kept_word}
use Rattle.demands.specs.History.{Now, heard_events}
use Rattle.demands.specs.Answers.{sounding_in}
use Rattle.demands.proofs.Slots.{slots_of}
use Rattle.demands.proofs.MemoryAndHistory.Shows.{Shows}
use Rattle.demands.proofs.MemoryAndHistory.Taken.{EventsSettled}

-- The constants of a session: durations ds, items is, and the terms of its opening.
pub record Score (ds : List ℕ) (is : List Item) (o : Terms) (m : List ℕ) : Type 0 where
  pub long : memory_size ≤ length m
  pub events : word_at m event_count_at ≡ length ds
  pub items : word_at m item_count_at ≡ length is
  pub parts : word_at m parts_at ≡ o.parts
  pub grace : word_at m grace_at ≡ o.grace
  pub graced : o.grace ≤ most_grace
  pub starts : (k : ℕ) → 1 ≤ k → k ≤ length ds → start_at (places_of m) m k ≡ E ds k
  pub page : items_in (places_of m) m ≡ is

-- All that a session says: total messages were sent, and s is what the calls so far come to.
pub record Holds (f : List ℕ) (o : Terms) (total : ℕ) (s : Now) (m : List ℕ) : Type 0 where
  pub score : Score (decode f).durations (decode f).items o m
  pub terms : s.terms ≡ o
  pub session : is_session m ≡ true
  pub clock : word_at m clock_at ≡ s.clock
  pub tempo : word_at m tempo_at ≡ s.tempo
  pub last : word_at m last_at ≡ s.last
  pub sent : word_at m total_at ≡ total
  pub settled : EventsSettled (length (decode f).durations) s.last (heard_events s.hearings) m
  pub slots : Shows (sounds o.parts) m 0 (decode f).items (slots_of (decode f).durations (sounding_in f (sounds o.parts)) s)

-- ---- what a step leaves alone

pub kept-after : {lo hi : ℕ} {m m' : List ℕ} → Kept lo hi m m' → (i : ℕ) → hi ≤ i → word_at m' i ≡ word_at m i
kept-after {lo} {hi} {m} {m'} k i h =
    let e : hi + (i - hi) ≡ i = omega arith in
    rw e at (sym (get_or-drop hi m' (i - hi) 0) ∙ (ap (λ (l : List ℕ). get_or l (i - hi) 0) k.past ∙ get_or-drop hi m (i - hi) 0))

-- The items stand before all that changes.
page-words : (m : List ℕ) (n : ℕ) → word_at m item_count_at ≡ n → n ≤ 2048 → items_in (places_of m) m ≡ map item_in (take n (drop page_at (take clock_at m)))
unfolding items_in
page-words m n e h =
    ap (λ (k : ℕ). map item_in (take k (drop page_at (take outcomes_at m)))) e
    ∙ ap (map item_in) (take-drop-take n page_at outcomes_at m (omega arith) ∙ sym (take-drop-take n page_at clock_at m (omega arith)))

start_word : (m : List ℕ) (k : ℕ) → k ≤ 256 → start_at (places_of m) m k ≡ start_in (word_at m (starts_at + k))
unfolding start_at
start_word m k h = ap start_in (get_or-take outcomes_at m (starts_at + k) 0 (omega arith))

module _ {ds : List ℕ} {is : List Item} (o : Terms) (some : length ds ≤ 256) (few : length is ≤ 2048) where
  pub score-kept : {hi : ℕ} {m m' : List ℕ} → Kept clock_at hi m m' → Score ds is o m → Score ds is o m'
  score-kept {m} {m'} k s =
      let size : word_at m' item_count_at ≡ length is = kept_word k item_count_at (omega arith) ∙ s.items in
      record {
        long = rw k.long s.long;
        events = kept_word k event_count_at (omega arith) ∙ s.events;
        items = size;
        parts = kept_word k parts_at (omega arith) ∙ s.parts;
        grace = kept_word k grace_at (omega arith) ∙ s.grace;
        graced = s.graced;
        starts = λ i p q. start_word m' i (omega arith) ∙ (ap start_in (kept_word k (starts_at + i) (omega arith)) ∙ (sym (start_word m i (omega arith)) ∙ s.starts i p q));
        page =
            page-words m' (length is) size few
            ∙ (ap (λ (l : List ℕ). map item_in (take (length is) (drop page_at l))) k.front ∙ (sym (page-words m (length is) s.items few) ∙ s.page));
      }

module _ {n last : ℕ} {D : List ℕ} (few : n ≤ 256) where
  pub events-kept : {m m' : List ℕ} → ((k : ℕ) → k ≤ 256 → word_at m' (taken_at + k) ≡ word_at m (taken_at + k)) → EventsSettled n last D m → EventsSettled n last D m'
  events-kept w s = record { below = s.below; before = s.before; words = λ k p q. ap (taken_in k) (w k (omega arith)) ∙ s.words k p q }
