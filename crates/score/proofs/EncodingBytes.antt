-- Numbers and their bytes: what is written of a number is read there again, and what is read is written so. By what stands in a list from a byte on.
-- Assumes nothing.
use mathlib.Core.Path.{◌≡◌, refl, sym, ◌∙◌}
use mathlib.Core.List.{List, [], ◌∷◌, ◌++◌, append_assoc}
use Prim.Native.Nat.{ℕ, zero, suc, ◌+◌, ◌*◌, ◌/◌, ◌%◌, ◌<◌, ◌≤◌}
use native.Mathlib.Omega.{arith}
use native.Mathlib.Numerals.{add-one}
use lib.ListN.{length, get_or, drop}
use lib.Seq.{take-add, drop-drop, drop-cons, take-append_seam, drop-append_seam, get_or-drop}
use Rattle.contents.specs.Bytes.{byte_at, u16_at, u32_at, part}
use Rattle.score.specs.Encode.{le16, le32}

-- ---- parts of a list

pub part-add : (f : List ℕ) (at m n : ℕ) → part f at (m + n) ≡ part f at m ++ part f (at + m) n
unfolding part
part-add f at m n = take-add m n (drop at f) ∙ rw drop-drop

part-cons : (f : List ℕ) (at n : ℕ) → at < length f → part f at (suc n) ≡ byte_at f at ∷ part f (at + 1) n
unfolding part
part-cons f at n p = rw (drop-cons f at 0 p, add-one)

pub part_none : (f : List ℕ) (at : ℕ) → part f at 0 ≡ []
unfolding part
part_none f at = refl

pub part-two : (f : List ℕ) (at : ℕ) → at + 2 ≤ length f → part f at 2 ≡ byte_at f at ∷ byte_at f (at + 1) ∷ []
part-two f at p = rw (part-cons f at 1 (omega arith), part-cons f (at + 1) 0 (omega arith), part_none)

pub part-four : (f : List ℕ) (at : ℕ) → at + 4 ≤ length f → part f at 4 ≡ byte_at f at ∷ byte_at f (at + 1) ∷ byte_at f (at + 2) ∷ byte_at f (at + 3) ∷ []
part-four f at p =
    let a : at + 2 + 1 ≡ at + 3 = omega arith in
    rw (part-add f at 2 2, part-two f at (omega arith), part-two f (at + 2) (omega arith), a)

-- ---- what is read is written so, where each byte is below 256

module _ (f : List ℕ) (bytes : (i : ℕ) → get_or f i 0 < 256) where
  u16-below : (at : ℕ) → u16_at f at < 65536
  unfolding u16_at
  u16-below at = omega (arith, bytes at, bytes (at + 1))

  pub le16-part : (at : ℕ) → at + 2 ≤ length f → le16 (u16_at f at) ≡ part f at 2
  unfolding le16 u16_at
  le16-part at p =
      let x = bytes at in
      let lo : (byte_at f at + 256 * byte_at f (at + 1)) % 256 ≡ byte_at f at = omega arith in
      let hi : (byte_at f at + 256 * byte_at f (at + 1)) / 256 ≡ byte_at f (at + 1) = omega arith in
      rw (lo, hi, part-two f at p)

  pub le32-part : (at : ℕ) → at + 4 ≤ length f → le32 (u32_at f at) ≡ part f at 4
  unfolding le32 u32_at
  le32-part at p =
      let x : u16_at f at < 65536 = u16-below at in
      let lo : (u16_at f at + 65536 * u16_at f (at + 2)) % 65536 ≡ u16_at f at = omega arith in
      let hi : (u16_at f at + 65536 * u16_at f (at + 2)) / 65536 ≡ u16_at f (at + 2) = omega arith in
      rw (lo, hi, le16-part at (omega arith), le16-part (at + 2) (omega arith)) (sym (part-add f at 2 2))

-- ---- what is written is read there again: from the byte at on stands xs, then ys

module _ (f : List ℕ) (at : ℕ) where
  pub drop-on : (xs ys : List ℕ) → drop at f ≡ xs ++ ys → drop (at + length xs) f ≡ ys
  drop-on xs ys e = sym (drop-drop (length xs) at f) ∙ rw e (drop-append_seam xs ys)

  pub part-read : (xs ys : List ℕ) → drop at f ≡ xs ++ ys → part f at (length xs) ≡ xs
  unfolding part
  part-read xs ys e = rw e (take-append_seam xs ys)

  pub byte-read : (i : ℕ) (l : List ℕ) → drop at f ≡ l → byte_at f (at + i) ≡ get_or l i 0
  byte-read i l e = sym (get_or-drop at f i 0) ∙ rw e

  pub byte-first : (l : List ℕ) → drop at f ≡ l → byte_at f at ≡ get_or l 0 0
  byte-first l e = let a : at + 0 ≡ at = omega arith in rw a at (byte-read 0 l e)

  pub u16-on : (n : ℕ) (ys : List ℕ) → drop at f ≡ le16 n ++ ys → drop (at + 2) f ≡ ys
  unfolding le16
  u16-on n ys e = drop-on (le16 n) ys e

  pub u16-read : (n : ℕ) (ys : List ℕ) → n < 65536 → drop at f ≡ le16 n ++ ys → u16_at f at ≡ n
  unfolding u16_at le16
  u16-read n ys p e =
      let lo : byte_at f at ≡ n % 256 = byte-first _ e in
      let hi : byte_at f (at + 1) ≡ n / 256 = byte-read 1 _ e in
      omega arith

  pub u32-on : (n : ℕ) (ys : List ℕ) → drop at f ≡ le32 n ++ ys → drop (at + 4) f ≡ ys
  unfolding le32 le16
  u32-on n ys e = drop-on (le32 n) ys e

pub u32-read : (f : List ℕ) (at n : ℕ) (ys : List ℕ) → n < 4294967296 → drop at f ≡ le32 n ++ ys → u32_at f at ≡ n
unfolding u32_at le32
u32-read f at n ys p e =
    let q : drop at f ≡ le16 (n % 65536) ++ (le16 (n / 65536) ++ ys) = e ∙ append_assoc (le16 (n % 65536)) (le16 (n / 65536)) ys in
    let lo : u16_at f at ≡ n % 65536 = u16-read f at _ _ (omega arith) q in
    let hi : u16_at f (at + 2) ≡ n / 65536 = u16-read f (at + 2) _ ys (omega arith) (u16-on f at _ _ q) in
    omega arith

-- ---- lists of bytes

pub data Bytes : List ℕ → Type 0 where
  empty : Bytes []
  byte : {b : ℕ} {l : List ℕ} → b < 256 → Bytes l → Bytes (b ∷ l)

pub bytes-append : {xs ys : List ℕ} → Bytes xs → Bytes ys → Bytes (xs ++ ys)
bytes-append empty q = q
bytes-append (byte p r) q = byte p (bytes-append r q)

pub bytes-at : {l : List ℕ} → Bytes l → (i : ℕ) → get_or l i 0 < 256
bytes-at empty i = omega arith
bytes-at (byte p r) zero = p
bytes-at (byte p r) (suc i) = bytes-at r i

pub le16-bytes : (n : ℕ) → n < 65536 → Bytes (le16 n)
unfolding le16
le16-bytes n p =
    let lo : n % 256 < 256 = omega arith in
    let hi : n / 256 < 256 = omega arith in
    byte lo (byte hi empty)

pub le32-bytes : (n : ℕ) → n < 4294967296 → Bytes (le32 n)
unfolding le32
le32-bytes n p = bytes-append (le16-bytes _ (omega arith)) (le16-bytes _ (omega arith))

-- ---- how many bytes

pub le32-length : (n : ℕ) → length (le32 n) ≡ 4
unfolding le32 le16
le32-length n = refl
