-- Whoever unfolds by these contracts tells the same and leaves the same room; which answer comes when, and which numbers never come.
-- Assumes nothing.
use mathlib.Core.Path.{◌≡◌, refl, sym, ◌∙◌}
use mathlib.Core.Bool.{Bool, true, false}
use mathlib.Core.List.{List}
use Prim.Native.Nat.{ℕ, ◌<◌, ◌≤◌}
use native.Mathlib.Omega.{arith}
use lib.Dec.{leb}
use lib.ListN.{length, drop, length-append, length-drop}
use borrow.Author.Tests.{leb-true, le-leb, lt-leb}
use Rattle.std.specs.Prelude.{Result, Ok, Err}
use Rattle.base.specs.Tests.{pick}
use Rattle.base.specs.Checks.{Check, fine, refused}
use Rattle.contents.specs.declared.Fault.{Fault}
use Rattle.contents.specs.declared.ItemRule.{ItemRule}
use Rattle.contents.specs.Limits.{longest_score}
use Rattle.contents.specs.Inner.{Counted}
use Rattle.contents.proofs.RuleRows.{rule-numbered}
use Rattle.score.specs.Piece.{decode}
use Rattle.score.specs.File.{bodies_right, checked}
use Rattle.score.proofs.EncodingPieces.{bodies-decide}
use Rattle.score.proofs.BodyFaults.{Finds, no_fault, some_fault, Told, ToldRule, any-breaks, items-of, bodies_of}
use Rattle.extended.specs.Right.{extended_right}
use Rattle.unfolding.specs.declared.UnfoldError.{UnfoldError}
use Rattle.unfolding.specs.declared.UnfoldError.TheVariants.{NoRoom, BadExtended, OverLimit, BadFile}
use Rattle.unfolding.specs.Extended.{extended_of}
use Rattle.unfolding.specs.Sizes.{Score, score_of, counts_on, within_limits, file_of}
use Rattle.unfolding.specs.Answers.{unfolded_file, judged, answered, unfold_answer, room_left}
use Rattle.unfolding.specs.Replies.{unfold_row}
use Rattle.unfolding.proofs.LimitLaws.{limits-counted}
use Rattle.unfolding.proofs.FileLaws.{file-size}

-- ---- one outcome

module _ (f m : List ℕ) where
  pub one-outcome : (new other : List ℕ) (r s : Result ℕ UnfoldError) → r ≡ unfold_answer (length m) f → new ≡ room_left r (unfolded_file f) m → s ≡ unfold_answer (length m) f
      → other ≡ room_left s (unfolded_file f) m → (r ≡ s) × (new ≡ other)
  one-outcome new other r s a b c d = (a ∙ sym c, cc)

-- A refusal leaves the room: every answer whose number is not 0.
pub refusal-leaves : (r : Result ℕ UnfoldError) (made m : List ℕ) → ((unfold_row r).number ≡ 0 → ⊥) → room_left r made m ≡ m
unfolding unfold_row room_left
refusal-leaves (Ok n) made m h = absurd (h refl)
refusal-leaves (Err NoRoom) made m h = refl
refusal-leaves (Err (BadExtended place)) made m h = refl
refusal-leaves (Err OverLimit) made m h = refl
refusal-leaves (Err (BadFile x)) made m h = refl

-- ---- which answer comes when, in the order of the checks

module _ (room : ℕ) (f : List ℕ) where
  -- 2: a room that is too short, whatever the file.
  pub room-short : room < longest_score → unfold_answer room f ≡ Err NoRoom
  unfolding unfold_answer pick
  room-short l = rw (lt-leb longest_score room l)

  module _ (l : longest_score ≤ room) where
    -- 17, with the place of what can't be unfolded.
    pub extended-bad : (place : ℕ) → extended_right f ≡ refused place → unfold_answer room f ≡ Err (BadExtended place)
    unfolding unfold_answer pick answered
    extended-bad place e = rw (le-leb longest_score room l, e)

    module _ (e : extended_right f ≡ fine) where
      -- 18, at 0.
      pub limit-broken : within_limits (score_of (extended_of f)) ≡ false → unfold_answer room f ≡ Err OverLimit
      unfolding unfold_answer pick answered
      limit-broken w = rw (le-leb longest_score room l, e, w)

      -- The unfolded file's own fault, with its place in that file.
      pub file-bad : (x : Fault) → within_limits (score_of (extended_of f)) ≡ true → checked (unfolded_file f) ≡ refused x → unfold_answer room f ≡ Err (BadFile x)
      unfolding unfold_answer pick answered judged
      file-bad x w c = rw (le-leb longest_score room l, e, w, c)

      -- All is well: so many bytes were made.
      pub file-made : within_limits (score_of (extended_of f)) ≡ true → checked (unfolded_file f) ≡ fine → unfold_answer room f ≡ Ok (length (unfolded_file f))
      unfolding unfold_answer pick answered judged
      file-made w c = rw (le-leb longest_score room l, e, w, c)

-- 17 is told with its place, 18 at 0.
pub extended-told : (place : ℕ) → unfold_row (Err (BadExtended place)) ≡ record { number = 17; place = place; size = 0 }
unfolding unfold_row
extended-told place = refl

pub limit-told : unfold_row (Err OverLimit) ≡ record { number = 18; place = 0; size = 0 }
unfolding unfold_row
limit-told = refl

-- ---- the contents of what is made are right

-- So the file check comes down to the bodies.
pub file-decided : (s : Score) → Counted (counts_on s) → checked (file_of s) ≡ bodies_right (file_of s) (counts_on s)
unfolding file_of
file-decided s k = bodies-decide (file_of s) (counts_on s) _ k refl (file-size s)

-- ---- the faults of the bodies

-- The numbers of a fault of an event, an item or a message: 6, 8, and 20 to 27.
pub data OfBody : ℕ → Type 0 where
  of_event : OfBody 6
  of_message : OfBody 8
  of_item : {n : ℕ} → 20 ≤ n → n ≤ 27 → OfBody n

rule-of-body : (r : ItemRule) → ToldRule OfBody r
rule-of-body r = let n = rule-numbered r in of_item n.0 n.1

-- The check of an unfolded file within the limits finds no fault of its contents.
pub no-contents-fault : (f : List ℕ) → within_limits (score_of (extended_of f)) ≡ true → Finds (Told OfBody) (checked (unfolded_file f))
unfolding unfolded_file
no-contents-fault f w =
    let s = score_of (extended_of f) in
    let c = counts_on s in
    rw (file-decided s (limits-counted s w)) (bodies_of OfBody of_event of_message (file_of s) c (items-of OfBody c (any-breaks OfBody rule-of-body c (decode (file_of s)).items)))

-- ---- the numbers that a call to unfold tells

-- Its own, and those of the unfolded file's faults.
pub data Number (P : ℕ → Type 0) : ℕ → Type 0 where
  granted : Number P 0
  short_room : Number P 2
  of_file : {n : ℕ} → P n → Number P n
  of_extended : Number P 17
  of_limit : Number P 18

module _ (P : ℕ → Type 0) (finds : (f : List ℕ) → within_limits (score_of (extended_of f)) ≡ true → Finds (Told P) (checked (unfolded_file f))) where
  judged-number : (made : List ℕ) (v : Check Fault) → Finds (Told P) v → Number P (unfold_row (judged made v)).number
  unfolding judged unfold_row
  judged-number made fine no_fault = granted
  judged-number made (refused x) (some_fault p) = of_file p

  limited-number : (f : List ℕ) (b : Bool) → within_limits (score_of (extended_of f)) ≡ b
      → Number P (unfold_row (pick b (judged (unfolded_file f) (checked (unfolded_file f))) (Err OverLimit))).number
  unfolding pick unfold_row
  limited-number f true e = judged-number (unfolded_file f) (checked (unfolded_file f)) (finds f e)
  limited-number f false e = of_limit

  answered-number : (f : List ℕ) (v : Check ℕ) → Number P (unfold_row (answered f v)).number
  unfolding answered unfold_row
  answered-number f fine = limited-number f (within_limits (score_of (extended_of f))) refl
  answered-number f (refused place) = of_extended

  room-number : (b : Bool) (u : Result ℕ UnfoldError) → Number P (unfold_row u).number → Number P (unfold_row (pick b u (Err NoRoom))).number
  unfolding pick unfold_row
  room-number true u h = h
  room-number false u h = short_room

  -- What holds of every number of the unfolded file's check holds of all that it tells beside its own.
  pub numbers_of : (room : ℕ) (f : List ℕ) → Number P (unfold_row (unfold_answer room f)).number
  unfolding unfold_answer
  numbers_of room f = room-number (leb longest_score room) (answered f (extended_right f)) (answered-number f (extended_right f))

-- 0, 2, 6, 8, 17, 18 and 20 to 27 are all the numbers that it tells; NeverNested takes 20, 25 and 27 from these.
pub only-numbers : (room : ℕ) (f : List ℕ) → Number OfBody (unfold_row (unfold_answer room f)).number
only-numbers room f = numbers_of OfBody no-contents-fault room f

not-contents : {n : ℕ} → Number OfBody n → 3 ≤ n → n ≤ 5 → ⊥
not-contents granted p q = absurd (omega arith)
not-contents short_room p q = absurd (omega arith)
not-contents (of_file of_event) p q = absurd (omega arith)
not-contents (of_file of_message) p q = absurd (omega arith)
not-contents (of_file (of_item h k)) p q = absurd (omega arith)
not-contents of_extended p q = absurd (omega arith)
not-contents of_limit p q = absurd (omega arith)

-- "So 3, 4, 5, .. never come from it."
pub never-contents : (room : ℕ) (f : List ℕ) → 3 ≤ (unfold_row (unfold_answer room f)).number → (unfold_row (unfold_answer room f)).number ≤ 5 → ⊥
never-contents room f p q = not-contents (only-numbers room f) p q

-- ---- what was made fits the room

pub made-short : (f : List ℕ) → within_limits (score_of (extended_of f)) ≡ true → length (unfolded_file f) ≤ longest_score
unfolding unfolded_file
made-short f w = let k = limits-counted (score_of (extended_of f)) w in omega (arith, file-size (score_of (extended_of f)))

module _ (f m : List ℕ) where
  abbrev left : Result ℕ UnfoldError → ℕ
  left r = length (room_left r (unfolded_file f) m)

  judged-left : (v : Check Fault) → length (unfolded_file f) ≤ length m → left (judged (unfolded_file f) v) ≡ length m
  unfolding judged room_left
  judged-left fine l =
      let n = length (unfolded_file f) in
      length-append (unfolded_file f) (drop n m) ∙ omega (arith, length-drop n m)
  judged-left (refused x) l = refl

  limited-left : (b : Bool) → within_limits (score_of (extended_of f)) ≡ b → longest_score ≤ length m → left (pick b (judged (unfolded_file f) (checked (unfolded_file f))) (Err OverLimit)) ≡ length m
  unfolding pick room_left
  limited-left true e l = judged-left (checked (unfolded_file f)) (omega (arith, made-short f e))
  limited-left false e l = refl

  answered-left : (v : Check ℕ) → longest_score ≤ length m → left (answered f v) ≡ length m
  unfolding answered room_left
  answered-left fine l = limited-left (within_limits (score_of (extended_of f))) refl l
  answered-left (refused place) l = refl

  -- The room keeps its length, whatever is answered.
  pub room-length : length (room_left (unfold_answer (length m) f) (unfolded_file f) m) ≡ length m
  unfolding unfold_answer pick room_left
  room-length = go (leb longest_score (length m)) refl
    where
      go : (b : Bool) → leb longest_score (length m) ≡ b → left (pick b (answered f (extended_right f)) (Err NoRoom)) ≡ length m
      go true e = answered-left (extended_right f) (leb-true longest_score (length m) e)
      go false e = refl
