-- Entries as they stand in lent bytes: one by one, from front to back, and one more laid behind them.
-- Assumes nothing.
use mathlib.Core.Path.{◌≡◌, refl, sym, ap, ◌∙◌}
use mathlib.Core.List.{List, [], ◌∷◌, ◌++◌, append_assoc}
use Prim.Native.Nat.{ℕ, zero, suc, ◌+◌, ◌-◌, ◌*◌, ◌<◌, ◌≤◌}
use native.Mathlib.Numerals.{add-one}
use native.Mathlib.Omega.{arith}
use lib.ListN.{length, take, drop, get_or, take-append-drop}
use lib.Seq.{length-take-le, take_at, drop_at, take-take, get_or-take}
use Rattle.ascii.specs.Laying.{Laid}
use Rattle.contents.specs.Limits.{message_size}
use Rattle.contents.specs.Bytes.{u16_at}
use Rattle.score.specs.Encode.{le16}
use Rattle.score.proofs.EncodingBytes.{u16-on, u16-read}
use Rattle.filing.specs.Pieces.{entry_of}
use Rattle.unfolding.specs.Messages.{Entry, entries_from, entries_bytes}
use Rattle.unfolding.proofs.MessageLaws.{entries-length}
use Rattle.naming.specs.Inner.{entry_at, messages_in}

-- ---- one by one

pub list_length : (e l : List ℕ) (n text : ℕ) → length (messages_in e l n text).entries ≡ n
unfolding messages_in
list_length e l n text = entries-length e 0 n

-- the first of those that are left, in the code's own terms
pub entries_next : (e : List ℕ) (i n : ℕ) → i < n → entries_from e (message_size * i) (n - i) ≡ entry_at e (message_size * i) ∷ entries_from e (message_size * (i + 1)) (n - (i + 1))
unfolding entries_from entry_at
entries_next e i n p =
    let s : n - i ≡ suc (n - (i + 1)) = omega arith in
    let z : message_size * (i + 1) ≡ message_size * i + message_size = omega arith in
    rw (s, z)

pub entries_none : (e : List ℕ) (at i n : ℕ) → n ≤ i → entries_from e at (n - i) ≡ []
unfolding entries_from
entries_none e at i n p = let z : n - i ≡ 0 = omega arith in rw z

entries-behind : (e : List ℕ) (at n : ℕ) → entries_from e at (suc n) ≡ entries_from e at n ++ (entry_at e (at + message_size * n) ∷ [])
unfolding entries_from entry_at
entries-behind e at zero = let z : at + message_size * 0 ≡ at = omega arith in rw z
entries-behind e at (suc n) =
    let z : at + message_size * suc n ≡ at + message_size + message_size * n = omega arith in
    rw z (ap (λ (es : List Entry). record { start = u16_at e at; size = u16_at e (at + 2) } ∷ es) (entries-behind e (at + message_size) n))

-- the last of one more
pub entries-last : (e : List ℕ) (at n : ℕ) → entries_from e at (n + 1) ≡ entries_from e at n ++ (entry_at e (at + message_size * n) ∷ [])
entries-last e at n = rw add-one (entries-behind e at n)

entries-agree : (e f : List ℕ) (at n : ℕ) → ((i : ℕ) → i < at + message_size * n → get_or e i 0 ≡ get_or f i 0) → entries_from e at n ≡ entries_from f at n
unfolding entries_from u16_at
entries-agree e f at zero s = refl
entries-agree e f at (suc n) s =
    let r : entries_from e (at + message_size) n ≡ entries_from f (at + message_size) n = entries-agree e f (at + message_size) n (λ i p. s i (omega arith)) in
    rw (r, s at (omega arith), s (at + 1) (omega arith), s (at + 2) (omega arith), s (at + 2 + 1) (omega arith))

-- the same bytes have the same entries
pub entries-same : (e f : List ℕ) (n : ℕ) → take (message_size * n) e ≡ take (message_size * n) f → entries_from e 0 n ≡ entries_from f 0 n
entries-same e f n s =
    entries-agree e f 0 n
    (λ i p.
    let q : i < message_size * n = omega arith in
    sym (get_or-take (message_size * n) e i 0 q) ∙ ap (λ (l : List ℕ). get_or l i 0) s ∙ get_or-take (message_size * n) f i 0 q)

-- ---- as bytes

pub bytes-behind : (es : List Entry) (s z : ℕ) → entries_bytes (es ++ (record { start = s; size = z } ∷ [])) ≡ entries_bytes es ++ entry_of s z
unfolding entries_bytes entry_of le16
bytes-behind [] s z = refl
bytes-behind (e ∷ es) s z = rw (bytes-behind es s z)

-- ---- one more, laid behind the others

pub laid-keeps : (o xs new : List ℕ) (at r : ℕ) → at ≤ length o → Laid o at xs new r → take at new ≡ take at o
laid-keeps o xs new at r p laid =
    let s : r ≡ at + length xs = laid.stop in
    sym (take-take at r new (omega arith)) ∙ ap (λ (l : List ℕ). take at l) laid.front ∙ take_at (take at o) xs at (length-take-le at o p)

pub laid-there : (o xs new : List ℕ) (at r : ℕ) → at ≤ length o → Laid o at xs new r → drop at new ≡ xs ++ drop r new
laid-there o xs new at r p laid =
    let w : new ≡ take at o ++ (xs ++ drop r new) = sym (take-append-drop r new) ∙ ap (λ (l : List ℕ). l ++ drop r new) laid.front ∙ append_assoc (take at o) xs (drop r new) in
    ap (λ (l : List ℕ). drop at l) w ∙ drop_at (take at o) (xs ++ drop r new) at (length-take-le at o p)

module _ (e e' : List ℕ) (n s z r : ℕ) (laid : Laid e (message_size * n) (entry_of s z) e' r) (room : message_size * n ≤ length e) (ss : s < 65536) (sz : z < 65536) where
  entry-laid : entry_at e' (message_size * n) ≡ record { start = s; size = z }
  unfolding entry_at entry_of
  entry-laid =
      let d : drop (message_size * n) e' ≡ le16 s ++ (le16 z ++ drop r e') = laid-there e (entry_of s z) e' (message_size * n) r room laid ∙ append_assoc (le16 s) (le16 z) (drop r e') in
      let a : u16_at e' (message_size * n) ≡ s = u16-read e' (message_size * n) s _ ss d in
      let b : u16_at e' (message_size * n + 2) ≡ z = u16-read e' (message_size * n + 2) z _ sz (u16-on e' (message_size * n) s _ d) in
      rw (a, b)

  pub entries-joined : entries_from e' 0 (n + 1) ≡ entries_from e 0 n ++ (record { start = s; size = z } ∷ [])
  entries-joined =
      let k : entries_from e' 0 n ≡ entries_from e 0 n = entries-same e' e n (laid-keeps e _ e' _ r room laid) in
      let w : 0 + message_size * n ≡ message_size * n = omega arith in
      rw (entries-last e' 0 n, k, w, entry-laid)

  pub bytes-joined : take (message_size * n) e ≡ entries_bytes (entries_from e 0 n) → r ≡ message_size * n + message_size → take (message_size * (n + 1)) e' ≡ entries_bytes (entries_from e' 0 (n + 1))
  bytes-joined b q =
      let w : message_size * (n + 1) ≡ r = omega arith in
      rw (entries-joined, w, laid.front, b) (sym (bytes-behind (entries_from e 0 n) s z))
