-- What is laid behind the line so far is the chunk's bytes up to its first newline, as far as a line is kept.
-- Assumes nothing.
use mathlib.Core.Path.{◌≡◌, refl, sym, ap, ◌∙◌}
use mathlib.Core.Bool.{Bool, true, false}
use mathlib.Core.List.{List, ◌++◌}
use Prim.Native.Nat.{ℕ, ◌+◌, ◌-◌, ◌<◌, ◌≤◌, min}
use native.Mathlib.Omega.{arith}
use lib.ListN.{length, take, drop, length-take, length-drop}
use lib.Seq.{take_all, take-take, take-append-add, length-take-le}
use lib.Dec.{leb, ltb}
use borrow.Author.Tests.{leb-true, leb-false, lt-ltb, le-ltb}
use borrow.Author.Rules.{rules}
use Rattle.base.proofs.TestLaws.{pick_true, pick-false}
use Rattle.ascii.specs.Words.{newline, bytes_before}
use Rattle.ascii.specs.Laying.{Laid}
use Rattle.lines.specs.declared.Fed.{Fed}
use Rattle.lines.specs.Input.{kept_bytes, line_length, kept_line, fed_of, Feedable, Feeds}

take_min : (a b : ℕ) (l : List ℕ) → take a (take b l) ≡ take (min a b) l
take_min a b l = go (leb a b) refl where
  go : (t : Bool) → leb a b ≡ t → take a (take b l) ≡ take (min a b) l
  go true e =
      let p : a ≤ b = leb-true a b e in
      let m : min a b ≡ a = omega arith in
      rw m (take-take a b l p)
  go false e =
      let p : b < a = leb-false a b e in
      let m : min a b ≡ b = omega arith in
      rw m (take_all a (take b l) (omega (arith, length-take b l)))

-- what is left of a chunk from a place on, as the code cuts it
rest_all : (chunk : List ℕ) (at : ℕ) → take (length chunk - at) (drop at chunk) ≡ drop at chunk
rest_all chunk at = take_all (length chunk - at) (drop at chunk) (omega (arith, length-drop at chunk))

-- ---- the room for what is laid

pub piece-length : (R : List ℕ) (most count room : ℕ) → count ≤ length R → room ≡ min most count → length (take room R) ≡ room
piece-length R most count room p e = length-take-le room R (omega arith)

pub piece-fits : (chunk R line : List ℕ) (at have count room : ℕ) → Feedable chunk at line have → count ≤ length R → room ≡ min (kept_bytes - have) count → have + length (take room R) ≤ length line
piece-fits chunk R line at have count room asked p e =
    let h : have ≤ kept_bytes = asked.kept in
    let l : kept_bytes ≤ length line = asked.room in
    omega (arith, piece-length R (kept_bytes - have) count room p e)

-- the count ends within the chunk
pub count-within : (chunk : List ℕ) (at count : ℕ) → at ≤ length chunk → count ≤ length (take (length chunk - at) (drop at chunk)) → at + count ≤ length chunk
count-within chunk at count p q = let l : count ≤ length (drop at chunk) = rw (rest_all chunk at) at q in omega (arith, length-drop at chunk)

-- ---- what was read

module _ (chunk line new : List ℕ) (at have count room kept : ℕ) (asked : Feedable chunk at line have)
    (found : count ≡ bytes_before newline (take (length chunk - at) (drop at chunk))) (inside : count ≤ length (take (length chunk - at) (drop at chunk)))
    (least : room ≡ min (kept_bytes - have) count) (laid : Laid line have (take room (take (length chunk - at) (drop at chunk))) new kept) where
  line-length : line_length (drop at chunk) ≡ count
  unfolding line_length
  line-length = sym (rw (rest_all chunk at) at found)

  line_kept : take kept new ≡ kept_line (take have line) (drop at chunk)
  unfolding kept_line
  line_kept =
      let h : have ≤ kept_bytes = asked.kept in
      let l : kept_bytes ≤ length line = asked.room in
      let n : length (take have line) ≡ have = length-take-le have line (omega arith) in
      let s : kept_bytes ≡ length (take have line) + (kept_bytes - have) = omega arith in
      let f : take kept new ≡ take have line ++ take room (drop at chunk) = rw (rest_all chunk at) at laid.front in
      let g : take kept_bytes (take have line ++ take count (drop at chunk)) ≡ take have line ++ take (kept_bytes - have) (take count (drop at chunk)) =
      ap (λ (k : ℕ). take k (take have line ++ take count (drop at chunk))) s ∙ take-append-add (take have line) (take count (drop at chunk)) (kept_bytes - have)
      in
      rw (line-length, g, take_min (kept_bytes - have) count (drop at chunk), ← least) f

  have-kept : kept ≡ length (kept_line (take have line) (drop at chunk))
  have-kept = sym (length-take-le kept new laid.within) ∙ ap length line_kept

  have-least : kept ≤ kept_bytes
  have-least =
      let h : have ≤ kept_bytes = asked.kept in
      let s : kept ≡ have + length (take room (take (length chunk - at) (drop at chunk))) = laid.stop in
      omega (arith, piece-length (take (length chunk - at) (drop at chunk)) (kept_bytes - have) count room inside least)

  feeds : (next : ℕ) (ended : Bool) → ◌≡◌ {A = Fed} (record { next = next; have = kept; ended = ended }) (fed_of at (take have line) (drop at chunk)) → next ≤ length chunk
      → (at < length chunk → at < next) → Feeds chunk at line have new (record { next = next; have = kept; ended = ended })
  feeds next ended answer within onward =
      record { answer = answer; kept = line_kept; others = laid.others; held = have-least; within = within; onward = onward; size = laid.size }

  pub feeds-ended : at + count < length chunk → Feeds chunk at line have new (record { next = at + count + 1; have = kept; ended = true })
  unfolding fed_of
  feeds-ended p =
      let t : ltb (line_length (drop at chunk)) (length (drop at chunk)) ≡ true = lt-ltb (line_length (drop at chunk)) (length (drop at chunk)) (omega (arith, length-drop at chunk, line-length)) in
      feeds (at + count + 1) true (pick_true _ _ _ _ t (rw (line-length, ← have-kept))) (omega arith) (λ q. omega arith)

  pub feeds-on : length chunk ≤ at + count → Feeds chunk at line have new (record { next = at + count; have = kept; ended = false })
  unfolding fed_of
  feeds-on p =
      let t : ltb (line_length (drop at chunk)) (length (drop at chunk)) ≡ false = le-ltb (line_length (drop at chunk)) (length (drop at chunk)) (omega (arith, length-drop at chunk, line-length)) in
      feeds (at + count) false (pick-false _ _ _ _ t (rw (line-length, ← have-kept))) (count-within chunk at count asked.place inside) (λ q. omega arith)

pub ruleset feeding = (piece-length, piece-fits, count-within, feeds-ended, feeds-on, rules)
