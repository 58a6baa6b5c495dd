-- An opened session says the score, and that nothing was heard or sent.
-- Assumes nothing.
use mathlib.Core.Path.{◌≡◌, refl, ap, sym, ◌∙◌}
use Prim.Native.Nat.{ℕ, suc, ◌+◌, ◌*◌, ◌≤◌, ◌<◌}
use mathlib.Core.Bool.{Bool, true, false}
use mathlib.Core.List.{List, [], ◌∷◌, map}
use native.Mathlib.Omega.{arith}
use lib.ListN.{length, take, drop}
use lib.Seq.{drop-cons}
use borrow.Author.Tests.{le-leb}
use Rattle.page.specs.declared.Item.{Item}
use Rattle.base.specs.Tests.{pick, between}
use Rattle.base.specs.Checks.{fine, need, first_fault, renamed}
use Rattle.score.specs.Piece.{decode}
use Rattle.score.specs.File.{Accepted}
use Rattle.rules.specs.Terms.{Terms}
use Rattle.rules.specs.Heard.{taken}
use Rattle.rules.specs.Settled.{nothing_heard}
use Rattle.rules.specs.Page.{Cue}
use Rattle.rules.specs.Written.{written, actions_in}
use Rattle.rules.proofs.Sound.{each-action-once}
use Rattle.fates.specs.Fields.{item_in, taken_in}
use Rattle.fates.specs.Places.{items_in}
use Rattle.session.specs.Layout.{memory_size, most_tempo, most_grace, page_at, slots_at, outcomes_at, word_at}
use Rattle.session.specs.Parts.{sounds}
use Rattle.sending.specs.Sending.{message_word}
use Rattle.opening.specs.Opening.{opening_check, opened}
use Rattle.opening.proofs.ListLaws.{take-drop-take}
use Rattle.opening.proofs.Fresh.{Fresh}
use Rattle.opening.proofs.Opened.{opened-fresh, opened-session}
use Rattle.demands.specs.History.{Now, start, heard_events}
use Rattle.demands.specs.Answers.{sounding_in}
use Rattle.demands.proofs.Slots.{Slot, idle, slot_on, rows_of, slots_of, AllIdle, one_row}
use Rattle.demands.proofs.Engine.{start-idle}
use Rattle.demands.proofs.MemoryAndHistory.Shows.{slot_word, can_sound, actions_from, Shows, page_end, no_slot, one_slot}
use Rattle.demands.proofs.MemoryAndHistory.Taken.{EventsSettled}
use Rattle.demands.proofs.MemoryAndHistory.Holds.{Holds}
use Rattle.demands.proofs.MemoryAndHistory.Fair.{Fair, accepted-fair}

-- ---- open slots

message-word : (a b : ℕ) (x : Item) → a ≡ x.part → b ≡ x.last → a * 65536 + b ≡ message_word x
unfolding message_word
message-word a b x p q = rw (p, q)

idle-word : (z : Slot) → z ≡ idle → 0 ≡ slot_word z
unfolding slot_word
idle-word z e = rw e

module _ (S : ℕ → Bool) (m : List ℕ) (s : Now) where
  open-shows : (p : ℕ) (is : List Item) (cs : List Cue) → page_at + p + length is ≤ length m → map item_in (take (length is) (drop (page_at + p) m)) ≡ is
      → ((q : ℕ) → p ≤ q → q < p + length is → word_at m (slots_at + q) ≡ 0)
      → actions_in cs ≡ actions_from S p is
      → AllIdle (rows_of s cs)
      → Shows S m p is (rows_of s cs)
  unfolding actions_in actions_from rows_of pick
  open-shows p [] [] f e z a i = page_end
  open-shows p [] (c ∷ cs) f e z a i = let y : ◌≡◌ {A = ℕ} 0 1 = cc in absurd (omega arith)
  open-shows p (x ∷ is) cs f e z a i =
      let d : drop (page_at + p) m ≡ word_at m (page_at + p) ∷ drop (suc (page_at + p)) m = drop-cons m (page_at + p) 0 (omega arith) in
      let n : suc (page_at + p) ≡ page_at + (p + 1) = omega arith in
      let e' : item_in (word_at m (page_at + p)) ∷ map item_in (take (length is) (drop (page_at + (p + 1)) m)) ≡ x ∷ is = rw (d, n) at e in
      let item : item_in (word_at m (page_at + p)) ≡ x = cc in
      let rest : map item_in (take (length is) (drop (page_at + (p + 1)) m)) ≡ is = cc in
      let open' : word_at m (slots_at + p) ≡ 0 = z p (omega arith) (omega arith) in
      go (can_sound S x) refl cs a i item open' (λ k b j. open-shows (p + 1) is k (omega arith) rest (λ q u v. z q (omega arith) (omega arith)) b j)
    where
      go : (v : Bool) → can_sound S x ≡ v → (cs : List Cue) → actions_in cs ≡ pick v (written p x.part x.last ∷ actions_from S (p + 1) is) (actions_from S (p + 1) is)
          → AllIdle (rows_of s cs) → item_in (word_at m (page_at + p)) ≡ x → word_at m (slots_at + p) ≡ 0
          → ((k : List Cue) → actions_in k ≡ actions_from S (p + 1) is → AllIdle (rows_of s k) → Shows S m (p + 1) is (rows_of s k))
          → Shows S m p (x ∷ is) (rows_of s cs)
      go true v [] a i item z ih = let y : ◌≡◌ {A = ℕ} 0 1 = cc in absurd (omega arith)
      go true v (c ∷ k) a (one_row j i) item z ih =
          let b : actions_in k ≡ actions_from S (p + 1) is = cc in
          let part : c.part ≡ x.part = cc in
          let message : c.message ≡ x.last = cc in
          one_slot item v (message-word c.part c.message x part message) (z ∙ idle-word (slot_on s c.outcome) j) (ih k b i)
      go false v k a i item z ih = no_slot item v z (ih k a i)

-- ---- the opening

module _ (f m : List ℕ) (o : Terms) (accepted : Accepted f) (long : memory_size ≤ length m) (sixteen : o.parts < 65536) (speed : between 1 most_tempo o.tempo ≡ true)
    (graced : o.grace ≤ most_grace) where
  pub granted : opening_check m f o ≡ fine
  unfolding opening_check first_fault need renamed
  granted = rw (le-leb memory_size (length m) long, accepted.fine, speed, le-leb o.grace most_grace graced)

  abbrev new : List ℕ
  new = (opened m f o).memory

  fresh : Fresh (decode f) o m new
  fresh = opened-fresh m f o granted

  fair : Fair (decode f).durations (decode f).items
  fair = accepted-fair f accepted

  -- The page's words are read as the items.
  page-words : map item_in (take (length (decode f).items) (drop (page_at + 0) new)) ≡ (decode f).items
  unfolding items_in
  page-words =
      ap (map item_in) (sym (take-drop-take (length (decode f).items) page_at outcomes_at new (omega (arith, fair.items))))
      ∙ (ap (λ (n : ℕ). map item_in (take n (drop page_at (take outcomes_at new)))) (sym fresh.items) ∙ fresh.page)

  nothing-taken : EventsSettled (length (decode f).durations) 0 [] new
  unfolding taken taken_in pick
  nothing-taken =
      record {
        below = nothing_heard;
        before = λ k p q e. absurd (omega arith);
        words = λ k p q. rw (fresh.taken k (omega (arith, fair.events)));
      }

  nothing-waits : Shows (sounds o.parts) new 0 (decode f).items (slots_of (decode f).durations (sounding_in f (sounds o.parts)) (start o))
  unfolding slots_of sounding_in
  nothing-waits =
      let few : page_at + 0 + length (decode f).items ≤ length new = omega (arith, fair.items, fresh.long) in
      open-shows (sounds o.parts) new (start o) 0 (decode f).items _ few page-words (λ q p h. fresh.slots q (omega (arith, fair.items)))
      (each-action-once _ (sounding_in f (sounds o.parts)) ∙ fair.actions (sounds o.parts)) (start-idle (decode f).durations (sounding_in f (sounds o.parts)) o)

  pub opened-holds : Holds f o 0 (start o) new
  unfolding start heard_events
  opened-holds =
      record {
        score = record { long = rw fresh.long long; events = fresh.events; items = fresh.items; parts = fresh.parts; grace = fresh.grace; graced = graced; starts = fresh.starts; page = fresh.page };
        terms = refl;
        session = opened-session m f o granted sixteen;
        clock = fresh.clock;
        tempo = fresh.tempo;
        last = fresh.last;
        sent = fresh.total;
        settled = nothing-taken;
        slots = nothing-waits;
      }
