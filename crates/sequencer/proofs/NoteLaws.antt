-- Laws of a heard note's steps: each leaves the header, so that the next finds a session.
-- Assumes nothing.
use mathlib.Core.Path.{◌≡◌, refl, ◌∙◌}
use mathlib.Core.List.{List}
use Prim.Native.Nat.{ℕ, zero, suc, ◌+◌, ◌-◌, ◌≤◌, ◌<◌}
use native.Mathlib.Omega.{arith}
use lib.ListN.{length, set}
use Rattle.fates.specs.declared.Places.{Places}
use Rattle.fates.specs.Places.{PlacesFit}
use Rattle.evaluators.specs.Performed.{performed}
use Rattle.evaluators.proofs.PlaceLaws.{performed-length, performed-before, performed-past}
use Rattle.session.specs.Layout.{memory_size, clock_end, mark_at, event_count_at, item_count_at, parts_at, grace_at, clock_at, tempo_at, last_at, total_at, taken_at, slots_at, word_at, places_of}
use Rattle.session.specs.Inner.{Header}
use Rattle.sending.specs.Sending.{settled}
use Rattle.sequencer.specs.Calls.{took_note, noted}
use Rattle.session.proofs.Kept.{Kept, kept-none, kept_then, kept_set, kept-wider, kept_word}
use Rattle.sending.proofs.KeptLaws.{settled-kept}

-- ---- the loop over the events that a note settles

pub took-step : (m W : List ℕ) (h k : ℕ) → k ≤ h → took_note h (h + 1 - k) k m ≡ W → took_note h (h + 1 - (k + 1)) (k + 1) (set m (taken_at + k) h) ≡ W
unfolding took_note
took-step m W h k p e =
    let s : h + 1 - k ≡ suc (h + 1 - (k + 1)) = omega arith in
    rw s at e

pub took-done : (m m₀ : List ℕ) (h k last : ℕ) → h < k → took_note h (h + 1 - k) k m ≡ took_note h (h + 1 - (last + 1)) (last + 1) m₀
    → m ≡ took_note h (h - last) (last + 1) m₀
unfolding took_note
took-done m m₀ h k last p e =
    let s : h + 1 - k ≡ 0 = omega arith in
    let t : h + 1 - (last + 1) ≡ h - last = omega arith in
    rw (s, t) at e

-- ---- what each step leaves alone

pub took-kept : (h n k : ℕ) (m : List ℕ) → k + n ≤ 257 → Kept taken_at slots_at m (took_note h n k m)
unfolding took_note
took-kept h zero k m f = kept-none taken_at slots_at m
took-kept h (suc n) k m f = kept_set (taken_at + k) h (omega arith) (omega arith) (took-kept h n (k + 1) (set m (taken_at + k) h) (omega arith))

pub performed-kept : (t : Places) (m : List ℕ) → PlacesFit t (length m) → Kept t.outcomes (t.outcomes + t.size) m (performed t m)
performed-kept t m laid = record { front = performed-before t m; past = performed-past t m laid; long = performed-length t m }

-- ---- the header stays

pub header-kept : {hi : ℕ} {m m' : List ℕ} → Header m → Kept taken_at hi m m' → Header m'
header-kept h k =
    record {
      marked = kept_word k mark_at (omega arith) ∙ h.marked;
      some = rw (kept_word k event_count_at (omega arith)) h.some;
      events = rw (kept_word k event_count_at (omega arith)) h.events;
      items = rw (kept_word k item_count_at (omega arith)) h.items;
      parts = rw (kept_word k parts_at (omega arith)) h.parts;
      grace = rw (kept_word k grace_at (omega arith)) h.grace;
      clock = rw (kept_word k clock_at (omega arith)) h.clock;
      moving = rw (kept_word k tempo_at (omega arith)) h.moving;
      tempo = rw (kept_word k tempo_at (omega arith)) h.tempo;
      last = rw (kept_word k last_at (omega arith), kept_word k event_count_at (omega arith)) h.last;
      total = rw (kept_word k total_at (omega arith), kept_word k clock_at (omega arith), kept_word k last_at (omega arith)) h.total;
    }

-- ---- the whole note

module _ (m : List ℕ) (h : ℕ) (long : memory_size ≤ length m) (hd : Header m) (f : h ≤ word_at m event_count_at) where
  took-whole : Kept taken_at memory_size m (took_note h (h - word_at m last_at) (word_at m last_at + 1) m)
  took-whole = kept-wider (omega arith) (omega arith) (took-kept h (h - word_at m last_at) (word_at m last_at + 1) m (omega arith))

  pub perform-ready : (m₁ : List ℕ) (t : Places) → m₁ ≡ took_note h (h - word_at m last_at) (word_at m last_at + 1) m → t ≡ places_of m₁ → PlacesFit t (length m₁)
  perform-ready m₁ t a b =
      let k : Kept taken_at memory_size m m₁ = rw a took-whole in
      let g = k.long in
      let hd₁ = header-kept hd k in
      rw b
      (record { starts = omega arith; taken = omega arith; items = omega arith; outcomes = omega arith; some = hd₁.some; few = hd₁.events; page = hd₁.items; grace = hd₁.grace })

  decided : (m₁ m₂ : List ℕ) (t : Places) → m₁ ≡ took_note h (h - word_at m last_at) (word_at m last_at + 1) m → t ≡ places_of m₁ → m₂ ≡ performed t m₁
      → Kept taken_at memory_size m m₂
  decided m₁ m₂ t a b d =
      let k : Kept taken_at memory_size m m₁ = rw a took-whole in
      let i : word_at m₁ item_count_at ≤ 2048 = (header-kept hd k).items in
      kept_then k (rw (d, b) (kept-wider (omega arith) (omega arith) (performed-kept (places_of m₁) m₁ (perform-ready m₁ (places_of m₁) a refl))))

  pub decided-items : (m₁ m₂ : List ℕ) (t : Places) → m₁ ≡ took_note h (h - word_at m last_at) (word_at m last_at + 1) m → t ≡ places_of m₁ → m₂ ≡ performed t m₁
      → word_at m₂ item_count_at ≤ 2048
  decided-items m₁ m₂ t a b d = (header-kept hd (decided m₁ m₂ t a b d)).items

  pub decided-clock : (m₁ m₂ : List ℕ) (t : Places) → m₁ ≡ took_note h (h - word_at m last_at) (word_at m last_at + 1) m → t ≡ places_of m₁ → m₂ ≡ performed t m₁
      → word_at m₂ clock_at ≤ clock_end
  decided-clock m₁ m₂ t a b d = (header-kept hd (decided m₁ m₂ t a b d)).clock

  pub noted-by : (m₁ m₂ m₃ : List ℕ) (t : Places) → m₁ ≡ took_note h (h - word_at m last_at) (word_at m last_at + 1) m → t ≡ places_of m₁ → m₂ ≡ performed t m₁
      → m₃ ≡ settled (word_at m₂ clock_at) (word_at m₂ item_count_at) 0 m₂ → m₃ ≡ noted h m
  unfolding noted
  noted-by m₁ m₂ m₃ t a b d e =
      let k = decided m₁ m₂ t a b d in
      e ∙ rw (kept_word k clock_at (omega arith), kept_word k item_count_at (omega arith), d, b, a)

  pub noted-kept : Kept taken_at memory_size m (noted h m)
  unfolding noted
  noted-kept =
      kept_then (decided _ _ _ refl refl refl)
      (kept-wider (omega arith) (omega arith) (settled-kept (word_at m clock_at) (word_at m item_count_at) 0 _ (omega arith)))

  pub noted-header : Header (noted h m)
  noted-header = header-kept hd noted-kept
