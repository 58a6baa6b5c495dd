-- What is kept of a line decides what it asks for: a longer line than a readable one is unreadable, cut or whole. A line that comes in pieces is kept as if it came whole.
-- Assumes nothing.
use mathlib.Core.Path.{◌≡◌, refl, sym, ap, ◌∙◌}
use mathlib.Core.Bool.{Bool, true, false}
use mathlib.Core.List.{List, [], ◌∷◌, ◌++◌, append_assoc}
use Prim.Native.Nat.{ℕ, zero, suc, ◌+◌, ◌<◌, ◌≤◌}
use native.Mathlib.Omega.{arith}
use lib.ListN.{length, take, drop, length-take, length-drop}
use lib.Seq.{take_all, take-length, take-append-add, length-take-le}
use lib.Dec.{leb, eqb}
use borrow.Author.Tests.{leb-true, leb-false}
use Rattle.std.specs.Prelude.{Option, None}
use Rattle.base.specs.Tests.{pick, every}
use Rattle.base.proofs.TestLaws.{every-stop, pick-false}
use Rattle.ascii.specs.Words.{space, newline, bytes_before}
use Rattle.ascii.specs.Numbers.{most_digits, is_number}
use Rattle.ascii.proofs.NumberSteps.{not-two, long-no-number}
use Rattle.lines.specs.declared.Command.{Command}
use Rattle.lines.specs.Commands.{first_word, other_words, two_numbers, open_of, hear_of, pass_of, command_of}
use Rattle.lines.specs.Input.{kept_bytes, line_length, kept_line}

-- ---- a long line is unreadable

-- two numbers and the space between them are at most 21 bytes
long-no-pair : (bs : List ℕ) → 21 < length bs → two_numbers bs ≡ false
unfolding two_numbers first_word other_words
long-no-pair bs p = go (leb 11 stop) refl where
  stop : ℕ
  stop = bytes_before space bs

  go : (t : Bool) → leb 11 stop ≡ t → every (is_number (take stop bs) ∷ is_number (drop (suc stop) bs) ∷ []) ≡ false
  go true e =
      let l : 11 ≤ stop = leb-true 11 stop e in
      let h : most_digits < length (take stop bs) = omega (arith, length-take stop bs) in
      sym (every-stop _ _ (long-no-number (take stop bs) h))
  go false e =
      let l : stop < 11 = leb-false 11 stop e in
      let h : most_digits < length (drop (suc stop) bs) = omega (arith, length-drop (suc stop) bs) in
      not-two _ _ (long-no-number (drop (suc stop) bs) h)

bad-either : (b : Bool) → pick {A = Option Command} b None None ≡ None
unfolding pick
bad-either true = refl
bad-either false = refl

pub long-unreadable : (l : List ℕ) → kept_bytes ≤ length l → command_of l ≡ None
unfolding command_of open_of hear_of pass_of
long-unreadable l p =
    let h : 21 < length (drop 2 l) = omega (arith, length-drop 2 l) in
    let n : most_digits < length (drop 2 l) = omega arith in
    let two : two_numbers (drop 2 l) ≡ false = long-no-pair (drop 2 l) h in
    let o : open_of (drop 2 l) ≡ None = sym (pick-false _ _ _ _ (sym (every-stop _ _ two)) refl) in
    let e : hear_of (drop 2 l) ≡ None = sym (pick-false _ _ _ _ two refl) in
    let t : pass_of (drop 2 l) ≡ None = sym (pick-false _ _ _ _ (long-no-number (drop 2 l) n) refl) in
    simp (o, e, t, bad-either)

pub command-of-kept : (l : List ℕ) → command_of (take kept_bytes l) ≡ command_of l
command-of-kept l = go (leb kept_bytes (length l)) refl where
  go : (t : Bool) → leb kept_bytes (length l) ≡ t → command_of (take kept_bytes l) ≡ command_of l
  go true e =
      let p : kept_bytes ≤ length l = leb-true kept_bytes (length l) e in
      let q : kept_bytes ≤ length (take kept_bytes l) = omega (arith, length-take-le kept_bytes l p) in
      long-unreadable (take kept_bytes l) q ∙ sym (long-unreadable l p)
  go false e =
      let p : length l ≤ kept_bytes = let s : length l < kept_bytes = leb-false kept_bytes (length l) e in omega arith in
      ap command_of (take_all kept_bytes l p)

-- ---- a line in pieces

pub take_again : (n : ℕ) (xs ys : List ℕ) → take n (take n xs ++ ys) ≡ take n (xs ++ ys)
take_again zero xs ys = refl
take_again (suc n) [] ys = refl
take_again (suc n) (x ∷ xs) ys = ap (λ (l : List ℕ). x ∷ l) (take_again n xs ys)

-- a piece without a newline
before-both : (stop : ℕ) (a b : List ℕ) → bytes_before stop a ≡ length a → bytes_before stop (a ++ b) ≡ length a + bytes_before stop b
unfolding bytes_before pick
before-both stop [] b e = omega arith
before-both stop (x ∷ a) b e = go (eqb x stop) (before-both stop a b) e where
  go : (t : Bool) → (bytes_before stop a ≡ length a → bytes_before stop (a ++ b) ≡ length a + bytes_before stop b) → pick t 0 (suc (bytes_before stop a)) ≡ suc (length a)
      → pick t 0 (suc (bytes_before stop (a ++ b))) ≡ suc (length a) + bytes_before stop b
  go true r q = absurd (omega arith)
  go false r q =
      let i : bytes_before stop a ≡ length a = omega arith in
      omega (arith, r i)

pub kept-in-pieces : (kept a b : List ℕ) → line_length a ≡ length a → kept_line (kept_line kept a) b ≡ kept_line kept (a ++ b)
unfolding kept_line line_length
kept-in-pieces kept a b e =
    let f : bytes_before newline (a ++ b) ≡ length a + bytes_before newline b = before-both newline a b e in
    rw (e, take-length a, f, take-append-add a b (bytes_before newline b), take_again kept_bytes (kept ++ a) (take (bytes_before newline b) b), append_assoc kept a (take (bytes_before newline b) b))
