-- "Number 10 comes exactly when a yes-or-no rule over the first 8,192 words, written in docs/, says no."
use Rattle.std.specs.Prelude.{ℕ, ◌+◌, ◌*◌, Bool, List, [], ◌∷◌, leb, eqb}
use Rattle.base.specs.Tests.{every, between}
use Rattle.session.specs.Layout.{most_sent, most_tempo, most_grace, clock_end, mark_at, event_count_at, item_count_at, parts_at, grace_at, clock_at, tempo_at, last_at, total_at, mark, word_at}

-- The header is a session's: the mark, counts, part bits and grace within their limits, clock and tempo likewise, the last event one of the score's or 0, and no more
-- messages sent than the calls so far have room for: each of them moved the clock or the last event on by at least 1.
unfoldable pub is_session : List ℕ → Bool
is_session m =
    every (
    eqb (word_at m mark_at) mark
    ∷ between 1 256 (word_at m event_count_at)
    ∷ leb (word_at m item_count_at) 2048
    ∷ leb (word_at m parts_at) 65535
    ∷ leb (word_at m grace_at) most_grace
    ∷ leb (word_at m clock_at) clock_end
    ∷ between 1 most_tempo (word_at m tempo_at)
    ∷ leb (word_at m last_at) (word_at m event_count_at)
    ∷ leb (word_at m total_at) (most_sent * (word_at m clock_at + word_at m last_at))
    ∷ []
    )
