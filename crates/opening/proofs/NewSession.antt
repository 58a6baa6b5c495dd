-- What a new session's words are read as: each place of the header, the starts, the page, and 0 in all that changes.
-- Every write but the one that a place belongs to leaves it alone. Assumes nothing.
use mathlib.Core.Path.{◌≡◌, sym, ap, ◌∙◌}
use mathlib.Core.List.{List, [], ◌∷◌, map}
use Prim.Native.Nat.{ℕ, zero, suc, ◌+◌, ◌<◌, ◌≤◌}
use native.Mathlib.Omega.{arith}
use lib.ListN.{length, get_or, take, drop, length-map}
use Rattle.score.specs.Piece.{Piece}
use Rattle.rules.specs.Terms.{Terms}
use Rattle.rules.specs.Score.{total, E}
use Rattle.fates.specs.Fields.{item_word}
use Rattle.session.specs.Layout.{memory_size, mark_at, event_count_at, item_count_at, parts_at, grace_at, starts_at, page_at, clock_at, tempo_at, last_at, mark, word_at}
use Rattle.opening.specs.Opening.{with_words, starts_of, cleared, new_session}
use Rattle.opening.proofs.ClearedLaws.{cleared_at, cleared-past, cleared-length}
use Rattle.opening.proofs.WrittenLaws.{written-length, written-before, written_after, written-past, written-within, written-run}
use Rattle.opening.proofs.StartLaws.{starts-length, starts-at}

module _ (p : Piece) (o : Terms) (m : List ℕ) where
  abbrev head : List ℕ
  head = mark ∷ length p.durations ∷ length p.items ∷ o.parts ∷ o.grace ∷ []

  abbrev starts : List ℕ
  starts = starts_of 0 p.durations

  abbrev page : List ℕ
  page = map item_word p.items

  abbrev headed : List ℕ
  headed = with_words mark_at head (cleared m)

  abbrev timed : List ℕ
  timed = with_words tempo_at (o.tempo ∷ []) headed

  abbrev started : List ℕ
  started = with_words (starts_at + 1) starts timed

  abbrev new : List ℕ
  new = new_session p o m

  module _ (long : memory_size ≤ length m) (few : length p.durations ≤ 256) (small : length p.items ≤ 2048) where
    cleared-long : length (cleared m) ≡ length m
    cleared-long = cleared-length m long

    headed-long : length headed ≡ length m
    headed-long = written-length mark_at head (cleared m) ∙ cleared-long

    timed-long : length timed ≡ length m
    timed-long = written-length tempo_at (o.tempo ∷ []) headed ∙ headed-long

    started-long : length started ≡ length m
    started-long = written-length (starts_at + 1) starts timed ∙ timed-long

    pub new-length : length new ≡ length m
    unfolding new_session
    new-length = written-length page_at page started ∙ started-long

    starts-few : length starts ≤ 256
    starts-few = let n : length starts ≡ length p.durations = starts-length 0 p.durations in omega arith

    page-small : length page ≤ 2048
    page-small = let n : length page ≡ length p.items = length-map p.items item_word in omega arith

    -- ---- the header

    low : (j : ℕ) → j ≤ starts_at → word_at new j ≡ word_at headed j
    unfolding new_session
    low j l =
        written-before page_at page started j (omega arith)
        ∙ written-before (starts_at + 1) starts timed j (omega arith)
        ∙ written-before tempo_at (o.tempo ∷ []) headed j (omega arith)

    of-head : (k : ℕ) → k < 5 → word_at new k ≡ get_or head k 0
    of-head k l =
        let here : mark_at + k ≡ k = omega arith in
        low k (omega arith) ∙ rw here at (written-within mark_at head (cleared m) k (omega arith) (omega (arith, cleared-long)))

    pub new-mark : word_at new mark_at ≡ mark
    new-mark = of-head 0 (omega arith)

    pub new-events : word_at new event_count_at ≡ length p.durations
    new-events = of-head 1 (omega arith)

    pub new_items : word_at new item_count_at ≡ length p.items
    new_items = of-head 2 (omega arith)

    pub new-parts : word_at new parts_at ≡ o.parts
    new-parts = of-head 3 (omega arith)

    pub new-grace : word_at new grace_at ≡ o.grace
    new-grace = of-head 4 (omega arith)

    -- ---- from the clock on

    high : (j : ℕ) → clock_at ≤ j → word_at new j ≡ word_at timed j
    unfolding new_session
    high j l =
        written_after page_at page started j (omega (arith, page-small))
        ∙ written_after (starts_at + 1) starts timed j (omega (arith, starts-few))

    bare : (j : ℕ) → 5 ≤ j → j < memory_size → word_at headed j ≡ 0
    bare j l h = written_after mark_at head (cleared m) j (omega arith) ∙ cleared_at m j h

    -- "The clock starts at 0"
    pub new-clock : word_at new clock_at ≡ 0
    new-clock =
        high clock_at (omega arith)
        ∙ written-before tempo_at (o.tempo ∷ []) headed clock_at (omega arith)
        ∙ bare clock_at (omega arith) (omega arith)

    pub new-tempo : word_at new tempo_at ≡ o.tempo
    new-tempo = high tempo_at (omega arith) ∙ written-within tempo_at (o.tempo ∷ []) headed 0 (omega arith) (omega (arith, headed-long))

    -- nothing heard, nothing sent, nothing decided
    pub new-blank : (j : ℕ) → last_at ≤ j → j < memory_size → word_at new j ≡ 0
    new-blank j l h = high j (omega arith) ∙ written_after tempo_at (o.tempo ∷ []) headed j (omega arith) ∙ bare j (omega arith) h

    -- "Words past 8,192 are never read or changed."
    pub new-past : drop memory_size new ≡ drop memory_size m
    unfolding new_session
    new-past =
        written-past page_at page started memory_size (omega (arith, page-small))
        ∙ written-past (starts_at + 1) starts timed memory_size (omega (arith, starts-few))
        ∙ written-past tempo_at (o.tempo ∷ []) headed memory_size (omega arith)
        ∙ written-past mark_at head (cleared m) memory_size (omega arith)
        ∙ cleared-past m

    -- ---- the score

    pub new-start : (k : ℕ) → 1 ≤ k → k ≤ length p.durations → word_at new (starts_at + k) ≡ E p.durations k
    unfolding new_session E
    new-start zero l h = absurd (omega arith)
    new-start (suc k) l h =
        let there : starts_at + suc k ≡ starts_at + 1 + k = omega arith in
        let n : length starts ≡ length p.durations = starts-length 0 p.durations in
        let first : get_or starts k 0 ≡ 0 + total p.durations k = starts-at 0 p.durations k (omega arith) in
        let sum : get_or starts k 0 ≡ total p.durations k = omega arith in
        rw there
        (written-before page_at page started (starts_at + 1 + k) (omega arith)
        ∙ written-within (starts_at + 1) starts timed k (omega arith) (omega (arith, timed-long))
        ∙ sum)

    pub new-page : take (length p.items) (drop page_at new) ≡ page
    unfolding new_session
    new-page =
        let n : length page ≡ length p.items = length-map p.items item_word in
        ap (λ (k : ℕ). take k (drop page_at new)) (sym n) ∙ written-run page_at page started (omega (arith, started-long))
