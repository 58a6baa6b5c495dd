-- Reading on in a chunk, in the code's terms: what is kept of a line, and the line carried out where it has ended.
-- Assumes nothing.
use mathlib.Core.Path.{◌≡◌, refl, sym, ap, ◌∙◌}
use mathlib.Core.Bool.{Bool, true, false}
use mathlib.Core.List.{List, [], ◌∷◌, ◌++◌}
use Prim.Native.Nat.{ℕ, ◌+◌, ◌≤◌, ◌<◌}
use native.Mathlib.Omega.{arith}
use lib.Dec.{ltb}
use lib.ListN.{length, take, drop, take-append-drop, length-drop}
use borrow.Author.Tests.{ltb-true}
use lib.Seq.{length-take-le}
use borrow.Author.Rules.{rules}
use Rattle.base.specs.Tests.{pick}
use Rattle.ascii.specs.Laying.{Laid}
use Rattle.score.specs.File.{Accepted}
use Rattle.lines.specs.declared.Fed.{Fed}
use Rattle.lines.specs.Input.{kept_bytes, line_length, kept_line, fed_of, Feeds}
use Rattle.playing.specs.Printed.{carried}
use Rattle.playing.specs.Inner.{Carries}
use Rattle.chunks.specs.declared.Progress.{Progress}
use Rattle.chunks.specs.Reading.{Reading, ReadOn, line_read, line_on, last_read}
use Rattle.chunks.specs.Inner.{reading_of, Going, WentOn, Ended}

-- ---- what feeding told

module _ (fed : Fed) (b : Bool) (n m have : ℕ) where
  abbrev Told : Type 0
  Told = fed ≡ pick b (record { next = n; have = have; ended = true }) (record { next = m; have = have; ended = false })

  told-ended : Told → fed.ended ≡ true → b ≡ true
  unfolding pick
  told-ended e p = go b e where
    go : (b : Bool) → fed ≡ pick b (record { next = n; have = have; ended = true }) (record { next = m; have = have; ended = false }) → b ≡ true
    go true q = refl
    go false q = let z : fed.ended ≡ false = ap (λ (x : Fed). x.ended) q in sym z ∙ p

  told-unended : Told → fed.ended ≡ false → b ≡ false
  unfolding pick
  told-unended e p = go b e where
    go : (b : Bool) → fed ≡ pick b (record { next = n; have = have; ended = true }) (record { next = m; have = have; ended = false }) → b ≡ false
    go true q = let z : fed.ended ≡ true = ap (λ (x : Fed). x.ended) q in sym z ∙ p
    go false q = refl

module _ (f chunk line line' m room : List ℕ) (at : ℕ) (p : Progress) (fed : Fed) (told : Feeds chunk at line p.have line' fed) where
  abbrev rest : List ℕ
  rest = drop at chunk

  abbrev kept : List ℕ
  kept = kept_line (take p.have line) rest

  long : fed.have ≤ length line' → fed.have ≡ length kept
  long l = sym (length-take-le fed.have line' l) ∙ ap length told.kept

  written : fed.have ≤ length line' → line' ≡ kept ++ drop (length kept) line
  written l =
      sym (take-append-drop fed.have line') ∙ ap (λ (x : List ℕ). x ++ drop fed.have line') told.kept
      ∙ ap (λ (x : List ℕ). kept ++ x) (told.others ∙ ap (λ (k : ℕ). drop k line) (long l))

  ends : fed.ended ≡ true → ltb (line_length rest) (length rest) ≡ true
  unfolding fed_of
  ends e = told-ended fed _ _ _ _ told.answer e

  goes : fed.ended ≡ false → ltb (line_length rest) (length rest) ≡ false
  unfolding fed_of
  goes e = told-unended fed _ _ _ _ told.answer e

  held-space : kept_bytes ≤ length line → fed.have ≤ length line'
  held-space l = let z : length line' ≡ length line = told.size in omega (arith, told.held)

  module _ (out : List ℕ) (g : Going f chunk at line p out) where
    pub went-space : fed.have ≤ length line'
    went-space = held-space g.space

    pub went-ended : (m' room' out' : List ℕ) (o' : Bool) (count : ℕ) → fed.ended ≡ true
        → Carries (carried f p.grace (p.lines + 1) (record { memory = m; room = room; opened = p.opened }) (take fed.have line')) out m' room' out' o' count → (o' ≡ true → Accepted f)
        → WentOn f chunk at m room line p out m' room' line' out' (record { next = fed.next; count = count; progress = record { lines = p.lines + 1; have = 0; grace = p.grace; opened = o' } })
    unfolding line_on line_read pick
    went-ended m' room' out' o' count e c a =
        let q = rw told.kept at c in
        record {
          next = ap (λ (x : Fed). x.next) told.answer;
          reading = rw (ends e, q.memory, q.room, q.opened);
          output = rw (ends e) q.output;
          line = written went-space;
          held = omega arith;
          counted = omega arith;
          accepted = a;
          within = told.within;
          onward = told.onward;
        }

    pub went-unended : fed.ended ≡ false
        → WentOn f chunk at m room line p out m room line' out (record { next = fed.next; count = 0; progress = record { lines = p.lines; have = fed.have; grace = p.grace; opened = p.opened } })
    unfolding line_on pick
    went-unended e =
        record {
          next = ap (λ (x : Fed). x.next) told.answer;
          reading = rw (goes e, told.kept);
          output = rw (goes e) (record { front = refl; others = refl; stop = refl; within = omega arith; size = refl });
          line = written went-space;
          held = told.held;
          counted = omega arith;
          accepted = g.asked.accepted;
          within = told.within;
          onward = told.onward;
        }

    -- a line that has ended took at least one byte, so that its number can be counted
    pub went-counted : fed.ended ≡ true → p.lines + 1 < 18446744073709551616
    unfolding fed_of
    went-counted e =
        let l : line_length rest < length rest = ltb-true (line_length rest) (length rest) (ends e) in
        omega (arith, g.lines, length-drop at chunk)

pub ruleset going = (went-ended, went-unended, went-space, went-counted, length-take-le, rules)

-- ---- the input's end

some-last : (f : List ℕ) (r : Reading) → 1 ≤ length r.kept → last_read f r ≡ line_read f r
unfolding last_read
some-last f r l = go r.kept refl l where
  go : (k : List ℕ) → r.kept ≡ k → 1 ≤ length k → last_read f r ≡ line_read f r
  go [] e q = absurd (omega arith)
  go (b ∷ bs) e q = rw (e, last_read) (ap (λ (k : List ℕ). line_read f (record { stand = r.stand; lines = r.lines; kept = k; grace = r.grace })) e)

laid_as : (out out' xs ys : List ℕ) (n : ℕ) → xs ≡ ys → Laid out 0 ys out' n → Laid out 0 xs out' n
laid_as out out' xs ys n e laid = rw e laid

module _ (f m room line out : List ℕ) (p : Progress) where
  pub last_none : p.have < 1 → Ended f (reading_of m room line p) out m room out 0
  unfolding last_read
  last_none l =
      let e : p.have ≡ 0 = omega arith in
      rw e (record { memory = refl; room = refl; output = record { front = refl; others = refl; stop = refl; within = omega arith; size = refl } })

  pub last_some : (m' room' out' : List ℕ) (o' : Bool) (count : ℕ) → 1 ≤ p.have → p.have ≤ length line
      → Carries (carried f p.grace (p.lines + 1) (record { memory = m; room = room; opened = p.opened }) (take p.have line)) out m' room' out' o' count
      → Ended f (reading_of m room line p) out m' room' out' count
  unfolding line_read
  last_some m' room' out' o' count l q c =
      let e = some-last f (reading_of m room line p) (omega (arith, length-take-le p.have line q)) in
      record {
        memory = c.memory ∙ sym (ap (λ (x : ReadOn). x.reading.stand.memory) e);
        room = c.room ∙ sym (ap (λ (x : ReadOn). x.reading.stand.room) e);
        output = laid_as out out' _ _ count (ap (λ (x : ReadOn). x.output) e) c.output;
      }

pub ruleset ending = (last_none, last_some, length-take-le, rules)
