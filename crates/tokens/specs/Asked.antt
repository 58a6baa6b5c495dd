-- What is asked of the functions that read: their answers in the words of the definitions.
use Rattle.std.specs.Prelude.{ℕ, ◌+◌, ◌*◌, ◌/◌, ◌<◌, ◌≤◌, ◌≡◌, true, false, List, [], ◌∷◌, ltb, leb, length, drop, Result, Ok, Err}
use Rattle.base.specs.Tests.{pick, every}
use Rattle.tokens.specs.declared.Token.{Token}
use Rattle.tokens.specs.Tokens.{Read, got, stop, past_blanks, label, is_read, bytes_in}
use Rattle.tokens.specs.Beats.{grains_of_a_beat, is_fraction}

-- ---- blanks

-- "`#` with all up to the end of its line", from within it.
pub record PassesComment (t : List ℕ) (at r : ℕ) : Type 0 where
  pub left : past_blanks true (drop at t) ≡ past_blanks false (drop r t)
  pub from : at ≤ r
  pub within : r ≤ length t

-- All from at up to r are blanks.
pub record InBlanks (t : List ℕ) (at r : ℕ) : Type 0 where
  pub left : past_blanks false (drop r t) ≡ past_blanks false (drop at t)
  pub from : at ≤ r
  pub within : r ≤ length t

-- "any number of blanks"
pub record Passes (t : List ℕ) (at r : ℕ) : Type 0 where
  pub left : past_blanks false (drop at t) ≡ drop r t
  pub from : at ≤ r
  pub within : r ≤ length t

-- ---- numbers and delays

-- A fault at this byte.
abbrev pub stopped : ℕ → Result Token ℕ
stopped at = Err at

-- A number of n digits from at on, which make up sum: "1 to 10 digits", below its limit. No more than ten were passed.
unfoldable pub ended_as : (at n sum limit : ℕ) → Result Token ℕ
ended_as at n sum limit = pick (every (leb 1 n ∷ ltb sum limit ∷ [])) (Ok (record { value = sum; next = at + n })) (stopped at)

-- The grains of n / d, which stands from at to next.
unfoldable pub valued_as : (at n d next : ℕ) → Result Token ℕ
valued_as at n d next = pick (is_fraction n d) (Ok (record { value = n * grains_of_a_beat / d; next = next })) (stopped at)

-- What is told to be read, with the bytes left behind it; of a fault those from it on.
unfoldable pub as_read : List ℕ → Result Token ℕ → Read ℕ
as_read t (Ok k) = got k.value (drop k.next t)
as_read t (Err at) = stop (drop at t)

-- The byte behind what was read, or the one at fault.
unfoldable pub met_at : Result Token ℕ → ℕ
met_at (Ok k) = k.next
met_at (Err at) = at

-- The value that was read; of a fault none.
unfoldable pub value_in : Result Token ℕ → ℕ
value_in (Ok k) = k.value
value_in (Err at) = 0

-- The answer says this, and lies within the text and its field.
pub record Reads (t : List ℕ) (limit : ℕ) (what : Read ℕ) (r : Result Token ℕ) : Type 0 where
  pub says : as_read t r ≡ what
  pub within : met_at r ≤ length t
  pub small : value_in r < limit

-- ---- labels

-- A label's size, after so many bytes of it.
unfoldable pub sized_from : ℕ → Read (List ℕ) → Read ℕ
sized_from n (got l left) = got (n + length l) left
sized_from n (stop left) = stop left

-- The answer says the label's size, and lies within the text.
pub record Sizes (t : List ℕ) (what : Read (List ℕ)) (r : Result Token ℕ) : Type 0 where
  pub says : as_read t r ≡ sized_from 0 what
  pub within : met_at r ≤ length t

-- What copying the label at this byte asks: that it is there, and room for its bytes behind the first `to`.
pub record Copyable (t : List ℕ) (at : ℕ) (out : List ℕ) (to : ℕ) : Type 0 where
  pub labelled : is_read (label (drop at t)) ≡ true
  pub room : to + length (bytes_in (label (drop at t))) ≤ length out
