-- A chunk is read line by line: what is owed for it is what is owed for its rest, at each turn.
-- Assumes nothing.
use mathlib.Core.Path.{◌≡◌, refl, sym, ap, ◌∙◌}
use mathlib.Core.Bool.{Bool, true, false}
use mathlib.Core.List.{List}
use Prim.Native.Nat.{ℕ, ◌+◌, ◌-◌, ◌*◌, ◌≤◌, ◌<◌}
use native.Mathlib.Omega.{arith}
use lib.ListN.{length, take, drop, drop_of_length-le, length-take}
use lib.Seq.{length-take-le}
use borrow.Author.Rules.{rules}
use Rattle.lines.specs.Input.{kept_bytes}
use Rattle.playing.specs.Inner.{output_room, Asked}
use Rattle.chunks.specs.declared.Progress.{Progress}
use Rattle.chunks.specs.declared.Step.{Step}
use Rattle.chunks.specs.Reading.{Reading, ReadOn, bytes_read}
use Rattle.chunks.specs.Inner.{reading_of, Going, WentOn}
use Rattle.chunks.proofs.ReadingLaws.{read-on, line-grace}

-- The chunk is read up to a place, from r₀ on, with lines₀ lines before it.
pub record Taking (f chunk : List ℕ) (r₀ : Reading) (lines₀ : ℕ) (m room line out : List ℕ) (at : ℕ) (p : Progress) : Type 0 where
  pub going : Going f chunk at line p out
  pub lines : p.lines ≤ lines₀ + at
  pub grace : p.grace ≡ r₀.grace
  pub owed : (bytes_read f r₀ chunk).reading ≡ (bytes_read f (reading_of m room line p) (drop at chunk)).reading

pub taking-start : (f chunk m room line out : List ℕ) (p : Progress) → Going f chunk 0 line p out → Taking f chunk (reading_of m room line p) p.lines m room line out 0 p
taking-start f chunk m room line out p g = record { going = g; lines = omega arith; grace = refl; owed = refl }

module _ (f chunk : List ℕ) (r₀ : Reading) (lines₀ : ℕ) (m room line out : List ℕ) (at : ℕ) (p : Progress) (t : Taking f chunk r₀ lines₀ m room line out at p) where
  pub taking-going : Going f chunk at line p out
  taking-going = t.going

  pub taking-all : length chunk ≤ at → reading_of m room line p ≡ (bytes_read f r₀ chunk).reading
  unfolding bytes_read
  taking-all l = sym (rw (drop_of_length-le chunk l) at t.owed)

  pub taking-lines : p.lines ≤ lines₀ + length chunk
  taking-lines = omega (arith, t.lines, t.going.place)

  pub taking-grace : p.grace ≡ r₀.grace
  taking-grace = t.grace

  pub taking-asked : Asked f p.opened out
  taking-asked = t.going.asked

pub taking_step : {f chunk : List ℕ} {r₀ : Reading} {lines₀ : ℕ} {m room line out : List ℕ} {at : ℕ} {p : Progress} {m' room' line' out' : List ℕ} {s : Step}
    → Taking f chunk r₀ lines₀ m room line out at p → WentOn f chunk at m room line p out m' room' line' out' s → at < length chunk → length line' ≡ length line
    → Taking f chunk r₀ lines₀ m' room' line' out' s.next s.progress
taking_step {f} {chunk} {r₀} {lines₀} {m} {room} {line} {out} {at} {p} {m'} {room'} {line'} {out'} {s} t w b l =
    let short : length (take p.have line) ≤ kept_bytes = omega (arith, t.going.kept, length-take p.have line) in
    let d = ap (λ (x : ReadOn). x.reading) (read-on f chunk at (reading_of m room line p) short) in
    let z : length out' ≡ length out = w.output.size in
    record {
      going =
          record {
            place = w.within;
            kept = w.held;
            space = omega (arith, t.going.space);
            lines = omega (arith, t.going.lines, w.counted, w.onward b, w.within);
            asked = record { accepted = w.accepted; room = omega (arith, t.going.asked.room) };
          };
      lines = omega (arith, t.lines, w.counted, w.onward b);
      grace = ap (λ (x : Reading). x.grace) w.reading ∙ line-grace f (reading_of m room line p) (drop at chunk) ∙ t.grace;
      owed = t.owed ∙ rw (w.reading, w.next) d;
    }

pub ruleset chunks = (taking-start, taking-going, taking-all, taking-lines, taking-grace, taking-asked, rules)
