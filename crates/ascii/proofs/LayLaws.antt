-- Bytes laid one behind the other are laid as one.
-- Assumes nothing.
use mathlib.Core.Path.{◌≡◌, refl, sym, ap, ◌∙◌}
use mathlib.Core.List.{List, [], ◌∷◌, ◌++◌, append_assoc, append-nil}
use Prim.Native.Nat.{ℕ, ◌+◌, ◌-◌, ◌<◌, ◌≤◌}
use native.Mathlib.Numerals.{add-one}
use native.Mathlib.Omega.{arith}
use lib.ListN.{length, take, drop, set, replicate, length-append, length-set, length-take, length-drop, length-replicate}
use lib.Seq.{take-add, take-set-le, take-suc-set, drop-cons, drop-set-lt, drop-drop, get_or-set_same}
use borrow.Rule.Slice.PartMut.{put_mid, same_len_mid}
use Rattle.std.proofs.lemmas.Slice.{take-put_mid, drop-put_mid}
use Rattle.ascii.specs.Words.{space}
use Rattle.ascii.specs.Laying.{Laid}

-- where two lists agree from a place on, they agree from any later one on
drop-further : (xs ys : List ℕ) (a b : ℕ) → drop a xs ≡ drop a ys → a ≤ b → drop b xs ≡ drop b ys
drop-further xs ys a b e p =
    let s : b ≡ a + (b - a) = omega arith in
    let f : (l : List ℕ) → drop b l ≡ drop (b - a) (drop a l) = λ l. ap (λ (k : ℕ). drop k l) s ∙ sym (drop-drop (b - a) a l) in
    f xs ∙ ap (λ (l : List ℕ). drop (b - a) l) e ∙ sym (f ys)

pub laid-join : (o m n xs ys : List ℕ) (a b r : ℕ) → Laid o a xs m b → Laid m b ys n r → Laid o a (xs ++ ys) n r
laid-join o m n xs ys a b r p q =
    let s : b ≡ a + length xs = p.stop in
    let t : r ≡ b + length ys = q.stop in
    let l : b ≤ r = omega arith in
    record {
      front = q.front ∙ ap (λ (l : List ℕ). l ++ ys) p.front ∙ append_assoc (take a o) xs ys;
      others = q.others ∙ drop-further m o b r p.others l;
      stop = omega (arith, length-append xs ys);
      within = q.within;
      size = q.size ∙ p.size;
    }

pub laid-byte : (o : List ℕ) (a b : ℕ) → a + 1 ≤ length o → Laid o a (b ∷ []) (set o a b) (a + 1)
laid-byte o a b p =
    let l : a < length o = omega arith in
    record {
      front = rw (add-one) (take-suc-set o a b l);
      others = drop-set-lt (a + 1) o a b (omega arith);
      stop = refl;
      within = rw (length-set o a b) p;
      size = length-set o a b;
    }

-- the same, where the last byte was put first
pub laid-before : (o m xs : List ℕ) (a b v : ℕ) → b + 1 ≤ length o → Laid (set o b v) a xs m b → Laid o a (xs ++ (v ∷ [])) m (b + 1)
laid-before o m xs a b v p laid =
    let s : b ≡ a + length xs = laid.stop in
    let z : length m ≡ length o = laid.size ∙ length-set o b v in
    let i : b < length o = omega arith in
    let l : b < length (set o b v) = rw (length-set o b v) i in
    let f : take a (set o b v) ≡ take a o = take-set-le a o b v (omega arith) in
    let g : take 1 (drop b m) ≡ v ∷ [] = rw (laid.others, drop-cons (set o b v) b 0 l, get_or-set_same o b v 0) in
    record {
      front = rw (take-add b 1 m, g, laid.front, f) (append_assoc (take a o) xs (v ∷ []));
      others = drop-further m (set o b v) b (b + 1) laid.others (omega arith) ∙ drop-set-lt (b + 1) o b v (omega arith);
      stop = omega (arith, length-append xs (v ∷ []));
      within = omega arith;
      size = z;
    }

pub laid-nothing : (o : List ℕ) (a : ℕ) → a ≤ length o → Laid o a [] o a
laid-nothing o a p = record { front = sym (append-nil (take a o)); others = refl; stop = omega arith; within = p; size = refl }

-- ---- a part of the lent bytes overwritten

pub laid-part : (o s ys : List ℕ) (a : ℕ) → a + length s ≤ length o → ys ≡ s → Laid o a s (put_mid a (a + length s - a) o ys) (a + length s)
laid-part o s ys a p e =
    let l : length ys ≡ length s = ap (λ (l : List ℕ). length l) e in
    let k : a + length s - a ≡ length s = omega arith in
    let z : length (put_mid a (a + length s - a) o ys) ≡ length o = same_len_mid a (a + length s - a) o ys (omega (arith, length-take {A = ℕ}, length-drop {A = ℕ})) in
    record {
      front = rw (← e) (take-put_mid a (a + length ys - a) o ys (a + length ys) refl (omega arith));
      others = drop-put_mid a (a + length s - a) o ys (a + length s) (omega arith) (omega arith) (omega arith);
      stop = refl;
      within = omega arith;
      size = z;
    }

pub laid-spaces : (o ys : List ℕ) (a count : ℕ) → a + count ≤ length o → ys ≡ replicate (length (take (a + count - a) (drop a o))) space → Laid o a (replicate count space) (put_mid a (a + count - a) o ys) (a + count)
laid-spaces o ys a count p e =
    let l : length (take (a + count - a) (drop a o)) ≡ count = omega (arith, length-take {A = ℕ}, length-drop {A = ℕ}) in
    let n : length (replicate count space) ≡ count = length-replicate count space in
    rw n at (laid-part o (replicate count space) ys a (omega arith) (rw l at e))
