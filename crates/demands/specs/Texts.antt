-- What the theorems of texts and the files that they make speak of.
use Rattle.std.specs.Prelude.{◌≡◌, ℕ, ◌≤◌, ◌<◌, true, List, length, take, drop}
use Rattle.base.specs.Tests.{between}
use Rattle.rules.specs.Terms.{Terms}
use Rattle.session.specs.Layout.{memory_size, most_tempo, most_grace}

-- So many bytes at the front of the room are what was made; those past it, and their number, are as they were.
pub record Stands (made room new : List ℕ) (n : ℕ) : Type 0 where
  pub fits : n ≤ length room
  pub front : take n new ≡ made
  pub rest : drop n new ≡ drop n room
  pub long : length new ≡ length room

-- What an opening of the file is handed that is granted, beside the file.
pub record Opens (memory : List ℕ) (o : Terms) : Type 0 where
  pub long : memory_size ≤ length memory
  pub sixteen : o.parts < 65536
  pub speed : between 1 most_tempo o.tempo ≡ true
  pub graced : o.grace ≤ most_grace
