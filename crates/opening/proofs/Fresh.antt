-- A new session of a piece that fits, in one record: what each of its words is read as. It is a session by number 10's rule.
-- Assumes nothing.
use mathlib.Core.Path.{◌≡◌, ap, ◌∙◌}
use mathlib.Core.Bool.{true}
use mathlib.Core.List.{List, map}
use Prim.Native.Nat.{ℕ, ◌+◌, ◌<◌, ◌≤◌}
use native.Mathlib.Omega.{arith}
use lib.ListN.{length, take, drop}
use lib.Seq.{get_or-take}
use Rattle.score.specs.Piece.{Piece}
use Rattle.rules.specs.Terms.{Terms}
use Rattle.rules.specs.Score.{E}
use Rattle.fates.specs.Fields.{item_in, start_in}
use Rattle.fates.specs.Places.{start_at, items_in}
use Rattle.session.specs.Layout.{memory_size, most_tempo, most_grace, mark_at, event_count_at, item_count_at, parts_at, grace_at, starts_at, page_at, clock_at, tempo_at, last_at, total_at, taken_at, slots_at, outcomes_at, mark, word_at, places_of}
use Rattle.session.specs.Session.{is_session}
use Rattle.opening.specs.Opening.{new_session}
use Rattle.opening.proofs.ListLaws.{take-drop-take}
use Rattle.opening.proofs.StartLaws.{start_small}
use Rattle.session.proofs.SessionRule.{header-session}
use Rattle.opening.proofs.NewSession.{new-length, new-mark, new-events, new_items, new-parts, new-grace, new-clock, new-tempo, new-blank, new-past, new-start, new-page}
use Rattle.opening.proofs.Fitting.{Fits}

-- The words m, which were old before, are a new session of the piece p.
pub record Fresh (p : Piece) (o : Terms) (old m : List ℕ) : Type 0 where
  pub long : length m ≡ length old
  pub past : drop memory_size m ≡ drop memory_size old
  pub marked : word_at m mark_at ≡ mark
  pub events : word_at m event_count_at ≡ length p.durations
  pub items : word_at m item_count_at ≡ length p.items
  pub parts : word_at m parts_at ≡ o.parts
  pub grace : word_at m grace_at ≡ o.grace
  pub clock : word_at m clock_at ≡ 0
  pub tempo : word_at m tempo_at ≡ o.tempo
  pub last : word_at m last_at ≡ 0
  pub total : word_at m total_at ≡ 0
  pub taken : (k : ℕ) → k ≤ 256 → word_at m (taken_at + k) ≡ 0
  pub slots : (q : ℕ) → q < 2048 → word_at m (slots_at + q) ≡ 0
  pub starts : (k : ℕ) → 1 ≤ k → k ≤ length p.durations → start_at (places_of m) m k ≡ E p.durations k
  pub page : items_in (places_of m) m ≡ p.items

module _ (p : Piece) (o : Terms) (old : List ℕ) (fits : Fits p) (long : memory_size ≤ length old) where
  abbrev new : List ℕ
  new = new_session p o old

  blank : (j : ℕ) → last_at ≤ j → j < memory_size → word_at new j ≡ 0
  blank = new-blank p o old long fits.events fits.items

  starts-read : (k : ℕ) → 1 ≤ k → k ≤ length p.durations → start_at (places_of new) new k ≡ E p.durations k
  unfolding start_at start_in
  starts-read k l h =
      let word = new-start p o old long fits.events fits.items k l h in
      let small = start_small fits.dates k (omega (arith, fits.events)) in
      rw (get_or-take outcomes_at new (starts_at + k) 0 (omega (arith, fits.events)), word) (omega arith)

  page-read : items_in (places_of new) new ≡ p.items
  unfolding items_in
  page-read =
      let size = new_items p o old long fits.events fits.items in
      let run = new-page p o old long fits.events fits.items in
      ap (λ (n : ℕ). map item_in (take n (drop page_at (take outcomes_at new)))) size
      ∙ ap (λ (l : List ℕ). map item_in l) (take-drop-take (length p.items) page_at outcomes_at new (omega (arith, fits.items)) ∙ run)
      ∙ fits.read

  pub new-fresh : Fresh p o old new
  new-fresh =
      record {
        long = new-length p o old long fits.events fits.items;
        past = new-past p o old long fits.events fits.items;
        marked = new-mark p o old long fits.events fits.items;
        events = new-events p o old long fits.events fits.items;
        items = new_items p o old long fits.events fits.items;
        parts = new-parts p o old long fits.events fits.items;
        grace = new-grace p o old long fits.events fits.items;
        clock = new-clock p o old long fits.events fits.items;
        tempo = new-tempo p o old long fits.events fits.items;
        last = blank last_at (omega arith) (omega arith);
        total = blank total_at (omega arith) (omega arith);
        taken = λ k l. blank (taken_at + k) (omega arith) (omega arith);
        slots = λ q l. blank (slots_at + q) (omega arith) (omega arith);
        starts = starts-read;
        page = page-read;
      }

pub fresh-session : (p : Piece) (o : Terms) (old m : List ℕ) → Fits p → Fresh p o old m → o.parts < 65536 → 1 ≤ o.tempo → o.tempo ≤ most_tempo → o.grace ≤ most_grace → is_session m ≡ true
fresh-session p o old m fits new sixteen moving slow graced =
    let events = new.events in
    let items = new.items in
    let bits = new.parts in
    let grace = new.grace in
    let clock = new.clock in
    let speed = new.tempo in
    let last = new.last in
    let total = new.total in
    header-session m (record {
      marked = new.marked;
      some = omega (arith, fits.some);
      events = omega (arith, fits.events);
      items = omega (arith, fits.items);
      parts = omega arith;
      grace = omega arith;
      clock = omega arith;
      moving = omega arith;
      tempo = omega arith;
      last = omega arith;
      total = omega arith;
    })
