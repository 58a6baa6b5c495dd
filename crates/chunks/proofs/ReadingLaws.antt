-- Laws of the input as it is read: bytes in pieces are read as if they came at once, and the rest of a chunk is its first line and what follows that.
-- Assumes nothing.
use mathlib.Core.Path.{◌≡◌, refl, sym, ap, ◌∙◌}
use mathlib.Core.Bool.{Bool, true, false}
use mathlib.Core.List.{List, [], ◌∷◌, ◌++◌, append_assoc, append-nil}
use Prim.Native.Nat.{ℕ, suc, ◌+◌, ◌<◌, ◌≤◌}
use native.Mathlib.Numerals.{add-one}
use native.Mathlib.Omega.{arith}
use lib.ListN.{length, take, drop, length-take, drop_of_length-le}
use lib.Seq.{take_all, drop-drop}
use lib.Dec.{eqb, ltb}
use borrow.Author.Tests.{ltb-true, ltb-false}
use Rattle.base.specs.Tests.{pick}
use Rattle.base.proofs.TestLaws.{pick_true, pick-false}
use Rattle.ascii.specs.Words.{newline, bytes_before}
use Rattle.lines.specs.Input.{kept_bytes, line_length, kept_line, fed_of}
use Rattle.lines.proofs.KeptLaws.{take_again}
use Rattle.playing.specs.Printed.{Stand}
use Rattle.chunks.specs.Reading.{Reading, ReadOn, line_read, byte_kept, bytes_read, line_on}

-- Bytes that come after what was read.
abbrev pub read_after : (file : List ℕ) → ReadOn → List ℕ → ReadOn
read_after f x bs = record { reading = (bytes_read f x.reading bs).reading; output = x.output ++ (bytes_read f x.reading bs).output }

-- ---- bytes in pieces

pub reading-in-pieces : (f : List ℕ) (r : Reading) (a b : List ℕ) → (bytes_read f r (a ++ b)).reading ≡ (bytes_read f (bytes_read f r a).reading b).reading
unfolding bytes_read
reading-in-pieces f r [] b = refl
reading-in-pieces f r (x ∷ a) b = reading-in-pieces f (pick (eqb x newline) (line_read f r) (byte_kept r x)).reading a b

pub output-in-pieces : (f : List ℕ) (r : Reading) (a b : List ℕ) → (bytes_read f r (a ++ b)).output ≡ (bytes_read f r a).output ++ (bytes_read f (bytes_read f r a).reading b).output
unfolding bytes_read
output-in-pieces f r [] b = refl
output-in-pieces f r (x ∷ a) b =
    let n : ReadOn = pick (eqb x newline) (line_read f r) (byte_kept r x) in
    let y : ReadOn = bytes_read f n.reading a in
    ap (λ (l : List ℕ). n.output ++ l) (output-in-pieces f n.reading a b) ∙ sym (append_assoc n.output y.output (bytes_read f y.reading b).output)

pub in_pieces : (f : List ℕ) (r : Reading) (a b : List ℕ) → bytes_read f r (a ++ b) ≡ read_after f (bytes_read f r a) b
in_pieces f r a b = rw (← reading-in-pieces f r a b, ← output-in-pieces f r a b)

-- ---- a byte, and what follows it

module _ (f : List ℕ) (r : Reading) (b : ℕ) (bs : List ℕ) where
  pub newline-read : eqb b newline ≡ true → bytes_read f r (b ∷ bs) ≡ read_after f (line_read f r) bs
  unfolding bytes_read
  newline-read e = ap (λ (x : ReadOn). read_after f x bs) (sym (pick_true (eqb b newline) (line_read f r) (line_read f r) (byte_kept r b) e refl))

  pub other-read : eqb b newline ≡ false → bytes_read f r (b ∷ bs) ≡ bytes_read f (byte_kept r b).reading bs
  unfolding bytes_read byte_kept
  other-read e = ap (λ (x : ReadOn). read_after f x bs) (sym (pick-false (eqb b newline) (byte_kept r b) (line_read f r) (byte_kept r b) e refl))

-- ---- the first line of the rest of a chunk

at-newline : (b : ℕ) (bs : List ℕ) → eqb b newline ≡ true → line_length (b ∷ bs) ≡ 0
unfolding line_length bytes_before
at-newline b bs e = sym (pick_true _ _ _ _ e refl)

at_other : (b : ℕ) (bs : List ℕ) → eqb b newline ≡ false → line_length (b ∷ bs) ≡ suc (line_length bs)
unfolding line_length bytes_before
at_other b bs e = sym (pick-false _ _ _ _ e refl)

-- nothing more of the line
kept-line-end : (k rest : List ℕ) → length k ≤ kept_bytes → line_length rest ≡ 0 → kept_line k rest ≡ k
unfolding kept_line
kept-line-end k rest p e = rw (e, append-nil k) (take_all kept_bytes k p)

-- one byte more of the line
kept-line-more : (k : List ℕ) (b : ℕ) (bs : List ℕ) → eqb b newline ≡ false → kept_line (take kept_bytes (k ++ (b ∷ []))) bs ≡ kept_line k (b ∷ bs)
unfolding kept_line
kept-line-more k b bs e =
    rw (at_other b bs e, take_again kept_bytes (k ++ (b ∷ [])) (take (line_length bs) bs), append_assoc k (b ∷ []) (take (line_length bs) bs))

kept-least : (l : List ℕ) → length (take kept_bytes l) ≤ kept_bytes
kept-least l = omega (arith, length-take kept_bytes l)

module _ (f : List ℕ) (s : Stand) (n g : ℕ) where
  -- Reading with these bytes kept of the next line.
  abbrev keeping : List ℕ → Reading
  keeping k = record { stand = s; lines = n; kept = k; grace = g }

  -- The rest of a chunk that has no newline.
  abbrev Unended : (k rest : List ℕ) → Type 0
  Unended k rest = bytes_read f (keeping k) rest ≡ record { reading = keeping (kept_line k rest); output = [] }

  unended-more : (k : List ℕ) (b : ℕ) (bs : List ℕ) → eqb b newline ≡ false → Unended (take kept_bytes (k ++ (b ∷ []))) bs → Unended k (b ∷ bs)
  unfolding byte_kept
  unended-more k b bs q r = other-read f (keeping k) b bs q ∙ rw (← kept-line-more k b bs q) r

  unended : (k rest : List ℕ) → length k ≤ kept_bytes → line_length rest ≡ length rest → Unended k rest
  unfolding bytes_read
  unended k [] p e = rw (kept-line-end k [] p e)
  unended k (b ∷ bs) p e = go (eqb b newline) refl (unended (take kept_bytes (k ++ (b ∷ []))) bs (kept-least (k ++ (b ∷ [])))) where
    go : (t : Bool) → eqb b newline ≡ t → (line_length bs ≡ length bs → Unended (take kept_bytes (k ++ (b ∷ []))) bs) → Unended k (b ∷ bs)
    go true q r = absurd (omega (arith, at-newline b bs q))
    go false q r = unended-more k b bs q (r (omega (arith, at_other b bs q)))

  -- The rest of a chunk that has one.
  abbrev Ended : (k rest : List ℕ) → Type 0
  Ended k rest = bytes_read f (keeping k) rest ≡ read_after f (line_read f (keeping (kept_line k rest))) (drop (suc (line_length rest)) rest)

  ended_here : (k : List ℕ) (b : ℕ) (bs : List ℕ) → length k ≤ kept_bytes → eqb b newline ≡ true → Ended k (b ∷ bs)
  ended_here k b bs p q =
      let z : line_length (b ∷ bs) ≡ 0 = at-newline b bs q in
      rw (kept-line-end k (b ∷ bs) p z, z) (newline-read f (keeping k) b bs q)

  ended-later : (k : List ℕ) (b : ℕ) (bs : List ℕ) → eqb b newline ≡ false → Ended (take kept_bytes (k ++ (b ∷ []))) bs → Ended k (b ∷ bs)
  unfolding byte_kept
  ended-later k b bs q r = other-read f (keeping k) b bs q ∙ rw (← kept-line-more k b bs q, at_other b bs q) r

  ended : (k rest : List ℕ) → length k ≤ kept_bytes → line_length rest < length rest → Ended k rest
  ended k [] p e = absurd (omega arith)
  ended k (b ∷ bs) p e = go (eqb b newline) refl (ended (take kept_bytes (k ++ (b ∷ []))) bs (kept-least (k ++ (b ∷ [])))) where
    go : (t : Bool) → eqb b newline ≡ t → (line_length bs < length bs → Ended (take kept_bytes (k ++ (b ∷ []))) bs) → Ended k (b ∷ bs)
    go true q r = ended_here k b bs p q
    go false q r = ended-later k b bs q (r (omega (arith, at_other b bs q)))

  module _ (k rest : List ℕ) (short : length k ≤ kept_bytes) where
    pub read-unended : line_length rest ≡ length rest
        → bytes_read f (keeping k) rest ≡ record { reading = keeping (kept_line k rest); output = [] }
    read-unended e = unended k rest short e

    pub read-ended : line_length rest < length rest
        → bytes_read f (keeping k) rest ≡ read_after f (line_read f (keeping (kept_line k rest))) (drop (line_length rest + 1) rest)
    read-ended e = rw add-one (ended k rest short e)

    pub read-ended-reading : line_length rest < length rest
        → (bytes_read f (keeping k) rest).reading
        ≡ (bytes_read f (line_read f (keeping (kept_line k rest))).reading (drop (line_length rest + 1) rest)).reading
    read-ended-reading e = ap (λ (x : ReadOn). x.reading) (read-ended e)

    pub read-ended-output : line_length rest < length rest
        → (bytes_read f (keeping k) rest).output
        ≡ (line_read f (keeping (kept_line k rest))).output
        ++ (bytes_read f (line_read f (keeping (kept_line k rest))).reading (drop (line_length rest + 1) rest)).output
    read-ended-output e = ap (λ (x : ReadOn). x.output) (read-ended e)

-- The grace stays what it was.
pub line-grace : (f : List ℕ) (r : Reading) (rest : List ℕ) → (line_on f r rest).reading.grace ≡ r.grace
unfolding line_on line_read pick
line-grace f r rest = go (ltb (line_length rest) (length rest)) where
  k : Reading
  k = record { stand = r.stand; lines = r.lines; kept = kept_line r.kept rest; grace = r.grace }

  go : (t : Bool) → (pick t (line_read f k) (record { reading = k; output = [] })).reading.grace ≡ r.grace
  go true = refl
  go false = refl

-- ---- from one line of a chunk to the next

before-within : (stop : ℕ) (bs : List ℕ) → bytes_before stop bs ≤ length bs
unfolding bytes_before pick
before-within stop [] = omega arith
before-within stop (b ∷ bs) = go (eqb b stop) (before-within stop bs) where
  go : (t : Bool) → bytes_before stop bs ≤ length bs → pick t 0 (suc (bytes_before stop bs)) ≤ suc (length bs)
  go true i = omega arith
  go false i = omega arith

line-within : (rest : List ℕ) → line_length rest ≤ length rest
unfolding line_length
line-within rest = before-within newline rest

further : (chunk : List ℕ) (at n k : ℕ) → n ≡ at + k → drop n chunk ≡ drop k (drop at chunk)
further chunk at n k e = ap (λ (i : ℕ). drop i chunk) e ∙ sym (drop-drop k at chunk)

-- what is owed for the rest of a chunk is what its first line prints, and then what is owed from the next line on
module _ (f chunk : List ℕ) (at : ℕ) (r : Reading) (short : length r.kept ≤ kept_bytes) where
  pub read-on : bytes_read f r (drop at chunk) ≡ read_after f (line_on f r (drop at chunk)) (drop (fed_of at r.kept (drop at chunk)).next chunk)
  unfolding line_on fed_of pick bytes_read
  read-on = go (ltb (line_length (drop at chunk)) (length (drop at chunk))) refl where
    go : (t : Bool) → ltb (line_length (drop at chunk)) (length (drop at chunk)) ≡ t
        → bytes_read f r (drop at chunk) ≡ read_after f (line_on f r (drop at chunk)) (drop (fed_of at r.kept (drop at chunk)).next chunk)
    go true e =
        let l : line_length (drop at chunk) < length (drop at chunk) = ltb-true _ _ e in
        let d = further chunk at (at + line_length (drop at chunk) + 1) (line_length (drop at chunk) + 1) (omega arith) in
        rw (e, d) (read-ended f r.stand r.lines r.grace r.kept (drop at chunk) short l)
    go false e =
        let l : length (drop at chunk) ≤ line_length (drop at chunk) = ltb-false _ _ e in
        let u : line_length (drop at chunk) ≡ length (drop at chunk) = omega (arith, line-within (drop at chunk)) in
        let d : drop (at + line_length (drop at chunk)) chunk ≡ [] = further chunk at _ _ refl ∙ drop_of_length-le (drop at chunk) l in
        rw (e, d) (read-unended f r.stand r.lines r.grace r.kept (drop at chunk) short u)
