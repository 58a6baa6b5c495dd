-- The fields of a word. They are taken out by `/` and `%`, so that any word at all has fields within their ranges.
use Rattle.std.specs.Prelude.{ℕ, ◌+◌, ◌*◌, ◌/◌, ◌%◌, ◌<◌, ◌≤◌, eqb}
use Rattle.page.specs.declared.Item.{Item}
use Rattle.base.specs.Tests.{pick}
use Rattle.rules.specs.declared.Taken.{Taken}
use Rattle.rules.specs.declared.Taken.TheVariants.{Heard as heard, Missed as missed, Unsettled as unsettled}
use Rattle.rules.specs.Rules.{Outcome, played, dropped, undecided}

-- Event numbers are 0 to 256.
abbrev pub event_numbers : ℕ
event_numbers = 257

-- A delay, 0 to 5,040,000, has 23 bits.
abbrev pub delay_numbers : ℕ
delay_numbers = 8388608

-- E(k), at most 255 durations of 5,040,000, has 31 bits.
abbrev pub start_numbers : ℕ
start_numbers = 2147483648

-- An item in 51 bits: kind 1, synchrony 1, error word 2, part 4, delay 23, event 9, last 11, from the lowest on.
unfoldable pub item_in : ℕ → Item
item_in w =
    record {
      kind = w % 2;
      synchrony = w / 2 % 2;
      error = w / 4 % 4;
      part = w / 16 % 16;
      delay = record { 0 = w / 256 % delay_numbers };
      event = w / 2147483648 % 512 % event_numbers;
      last = w / 1099511627776 % 2048;
    }

unfoldable pub item_word : Item → ℕ
item_word i = i.kind + 2 * i.synchrony + 4 * i.error + 16 * i.part + 256 * i.delay.0 + 2147483648 * i.event + 1099511627776 * i.last

-- The numbers that an item's word has room for.
pub record FitsWord (i : Item) : Type 0 where
  pub kind : i.kind ≤ 1
  pub synchrony : i.synchrony ≤ 1
  pub error : i.error ≤ 3
  pub part : i.part ≤ 15
  pub delay : i.delay.0 < delay_numbers
  pub event : i.event ≤ 256
  pub last : i.last < 2048

unfoldable pub start_in : ℕ → ℕ
start_in w = w % start_numbers

-- What has become of event k: 0 not settled, k heard, any other number the first heard event after it.
unfoldable pub taken_in : (k w : ℕ) → Taken
taken_in k w = pick (eqb (w % event_numbers) 0) unsettled (pick (eqb (w % event_numbers) k) heard (missed (w % event_numbers)))

-- An outcome: 0 undecided, 1 dropped, 2 and the delay in grains played.
unfoldable pub outcome_word : Outcome → ℕ
outcome_word undecided = 0
outcome_word dropped = 1
outcome_word (played i d) = 2 + d
