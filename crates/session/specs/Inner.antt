-- What a call knows of words that have passed number 10's rule, for the functions that it calls. No promise of a call of document 01 needs it.
use Rattle.std.specs.Prelude.{◌≡◌, ℕ, ◌+◌, ◌*◌, ◌≤◌, List}
use Rattle.session.specs.Layout.{most_sent, most_tempo, most_grace, clock_end, mark_at, event_count_at, item_count_at, parts_at, grace_at, clock_at, tempo_at, last_at, total_at, mark, word_at}

-- The rule, test by test.
pub record Header (m : List ℕ) : Type 0 where
  pub marked : word_at m mark_at ≡ mark
  pub some : 1 ≤ word_at m event_count_at
  pub events : word_at m event_count_at ≤ 256
  pub items : word_at m item_count_at ≤ 2048
  pub parts : word_at m parts_at ≤ 65535
  pub grace : word_at m grace_at ≤ most_grace
  pub clock : word_at m clock_at ≤ clock_end
  pub moving : 1 ≤ word_at m tempo_at
  pub tempo : word_at m tempo_at ≤ most_tempo
  pub last : word_at m last_at ≤ word_at m event_count_at
  pub total : word_at m total_at ≤ most_sent * (word_at m clock_at + word_at m last_at)
