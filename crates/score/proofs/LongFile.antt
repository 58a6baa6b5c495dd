-- A file that is longer than any score is refused, cut or whole, with the same fault: so it is enough to read its first bytes.
-- The contents are the same and decide. Assumes nothing.
use mathlib.Core.Path.{◌≡◌, refl}
use mathlib.Core.Bool.{true, false}
use mathlib.Core.List.{List, ◌∷◌}
use Prim.Native.Nat.{ℕ, ◌+◌, ◌<◌, ◌≤◌}
use native.Mathlib.Omega.{arith}
use lib.ListN.{length, take}
use lib.Seq.{get_or-take, length-take-le}
use lib.Dec.{leb, eqb}
use borrow.Author.Tests.{le-leb, ne_eqb}
use Rattle.base.specs.Checks.{Check, fine, refused, need, first_fault}
use Rattle.contents.specs.declared.Fault.{Fault}
use Rattle.contents.specs.declared.Fault.TheVariants.{FileShort}
use Rattle.contents.specs.declared.Counts.{Counts}
use Rattle.contents.specs.declared.Offsets.{Offsets}
use Rattle.contents.specs.Limits.{contents_size, longest_score}
use Rattle.contents.specs.Bytes.{u16_at, u32_at}
use Rattle.contents.specs.Contents.{counts_of, offsets_of, counts_right, offsets_right, size_of}
use Rattle.contents.specs.Inner.{Counted}
use Rattle.contents.proofs.ContentsLaws.{counts-held, offsets-held}
use Rattle.score.specs.File.{checked}
use Rattle.score.proofs.Accepted.{file-sized}

-- As much of a score file as is read.
abbrev pub file_room : ℕ
file_room = 65536

-- ---- a longer file is refused

counted-size : (c : Counts) → Counted c → size_of c ≤ longest_score
counted-size c h = omega arith

pub long-refused : (f : List ℕ) → longest_score < length f → checked f ≡ fine → ⊥
long-refused f p e =
    let s = file-sized f (record { fine = e }) in
    let z : size_of (counts_of f) ≤ longest_score = counted-size (counts_of f) s.counted in
    let w : length f ≡ size_of (counts_of f) = s.whole in
    omega arith

-- ---- cut, it has the same fault

-- the later checks count for nothing where this one finds a fault
first_alike : {X : Type 0} (v : Check X) (l l' : List (Check X)) → (v ≡ fine → first_fault l ≡ first_fault l') → first_fault (v ∷ l) ≡ first_fault (v ∷ l')
unfolding first_fault
first_alike fine l l' h = h refl
first_alike (refused x) l l' h = refl

other-size : (o : Offsets) (c : Counts) (a b : ℕ) → size_of c < a → size_of c < b → offsets_right o c a ≡ offsets_right o c b
unfolding offsets_right
other-size o c a b p q =
    let x : eqb a (size_of c) ≡ false = ne_eqb a (size_of c) (λ e. omega arith) in
    let y : eqb b (size_of c) ≡ false = ne_eqb b (size_of c) (λ e. omega arith) in
    rw (x, y)

module _ (f : List ℕ) (n : ℕ) (long : longest_score < n) (cut : n ≤ length f) where
  u32-cut : (at : ℕ) → at + 4 ≤ n → u32_at (take n f) at ≡ u32_at f at
  unfolding u32_at u16_at
  u32-cut at p =
      let a = get_or-take n f at 0 (omega arith) in
      let b = get_or-take n f (at + 1) 0 (omega arith) in
      let c = get_or-take n f (at + 2) 0 (omega arith) in
      let d = get_or-take n f (at + 2 + 1) 0 (omega arith) in
      rw (a, b, c, d)

  pub counts-cut : counts_of (take n f) ≡ counts_of f
  unfolding counts_of
  counts-cut = rw (u32-cut 4 (omega arith), u32-cut 12 (omega arith), u32-cut 20 (omega arith), u32-cut 28 (omega arith))

  offsets-cut : offsets_of (take n f) ≡ offsets_of f
  unfolding offsets_of
  offsets-cut = rw (u32-cut 0 (omega arith), u32-cut 8 (omega arith), u32-cut 16 (omega arith), u32-cut 24 (omega arith))

  -- the offsets or the length are at fault, in the same way
  tables-alike : (l l' : List (Check Fault)) → counts_right (counts_of f) ≡ fine
      → first_fault (offsets_right (offsets_of f) (counts_of f) n ∷ l) ≡ first_fault (offsets_right (offsets_of f) (counts_of f) (length f) ∷ l')
  tables-alike l l' e =
      let z : size_of (counts_of f) ≤ longest_score = counted-size (counts_of f) (counts-held (counts_of f) e) in
      rw (other-size (offsets_of f) (counts_of f) n (length f) (omega arith) (omega arith))
      (first_alike (offsets_right (offsets_of f) (counts_of f) (length f)) l l' (λ w. let h = (offsets-held (offsets_of f) (counts_of f) (length f) w).whole in absurd (omega arith)))

  pub checked-cut : checked (take n f) ≡ checked f
  unfolding checked
  checked-cut =
      let a : leb contents_size n ≡ true = le-leb contents_size n (omega arith) in
      let b : leb contents_size (length f) ≡ true = le-leb contents_size (length f) (omega arith) in
      rw (counts-cut, offsets-cut, length-take-le n f cut, a, b)
      (first_alike (need true FileShort) _ _ (λ _. first_alike (counts_right (counts_of f)) _ _ (λ e. tables-alike _ _ e)))
