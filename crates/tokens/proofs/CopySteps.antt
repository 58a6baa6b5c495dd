-- Each step of copying a label, in the code's own terms. The invariant: the bytes laid and those that are left are the label's.
-- Assumes nothing.
use mathlib.Core.Path.{◌≡◌, refl, sym, ap, ◌∙◌}
use mathlib.Core.Bool.{Bool, true, false}
use mathlib.Core.List.{List, [], ◌∷◌, ◌++◌, append_assoc, append-nil}
use Prim.Native.Nat.{ℕ, ◌+◌, ◌-◌, ◌<◌, ◌≤◌}
use native.Mathlib.Omega.{arith}
use lib.ListN.{length, take, drop, get_or, set, length-append, drop_of_length-le}
use lib.Dec.{leb, eqb}
use borrow.Author.Tests.{eq-eqb, ne_eqb, leb-true, leb-false}
use borrow.Author.Rules.{rules}
use Rattle.std.proofs.lemmas.List.{take_rest}
use Rattle.base.specs.Tests.{pick}
use Rattle.ascii.specs.Words.{newline}
use Rattle.ascii.specs.Laying.{Laid}
use Rattle.ascii.proofs.WordSteps.{drop-next}
use Rattle.ascii.proofs.LayLaws.{laid-nothing, laid-byte, laid-join}
use Rattle.tokens.specs.Bytes.{quote, backslash, is_escaped}
use Rattle.tokens.specs.Tokens.{Read, got, stop, with_byte, label_from, label, is_read, bytes_in}
use Rattle.tokens.specs.Asked.{Copyable}

-- ---- a label that is there, byte by byte

not_there : {X : Type 0} → false ≡ true → X
not_there e = let z : ◌≡◌ {A = ℕ} 0 1 = cc in absurd (omega arith)

-- Behind this byte the label is there too, and its bytes are this one and those.
record Behind (b : ℕ) (what rest : Read (List ℕ)) : Type 0 where
  pub there : is_read rest ≡ true
  pub bytes : bytes_in what ≡ b ∷ bytes_in rest

behind-byte : (b : ℕ) (r : Read (List ℕ)) → is_read (with_byte b r) ≡ true → Behind b (with_byte b r) r
unfolding with_byte is_read bytes_in
behind-byte b (got l left) e = record { there = refl; bytes = refl }
behind-byte b (stop left) e = not_there e

behind-plain : (b : ℕ) (bs : List ℕ) → (b ≡ quote → ⊥) → (b ≡ backslash → ⊥) → is_read (label_from false (b ∷ bs)) ≡ true → Behind b (label_from false (b ∷ bs)) (label_from false bs)
unfolding label_from pick is_read
behind-plain b bs m n e = rw (ne_eqb b quote m, ne_eqb b backslash n) (go (eqb b newline) (rw (ne_eqb b quote m, ne_eqb b backslash n) at e)) where
  go : (t : Bool) → is_read (pick t (stop (b ∷ bs)) (with_byte b (label_from false bs))) ≡ true → Behind b (pick t (stop (b ∷ bs)) (with_byte b (label_from false bs))) (label_from false bs)
  go true h = not_there h
  go false h = behind-byte b (label_from false bs) h

behind-escaped : (b : ℕ) (bs : List ℕ) → is_read (label_from true (b ∷ bs)) ≡ true → Behind b (label_from true (b ∷ bs)) (label_from false bs)
unfolding label_from pick is_read
behind-escaped b bs e = go (is_escaped b) e where
  go : (t : Bool) → is_read (pick t (with_byte b (label_from false bs)) (stop (b ∷ bs))) ≡ true → Behind b (pick t (with_byte b (label_from false bs)) (stop (b ∷ bs))) (label_from false bs)
  go true h = behind-byte b (label_from false bs) h
  go false h = not_there h

-- Where a label goes on there is a byte.
goes_on : (e : Bool) (r : List ℕ) → is_read (label_from e r) ≡ true → 1 ≤ length r
unfolding label_from is_read
goes_on e [] p = not_there p
goes_on e (b ∷ bs) p = omega arith

-- ---- the first quote

module _ (t : List ℕ) (at : ℕ) (p : is_read (label (drop at t)) ≡ true) where
  quote-there : (at < length t) × (label (drop at t) ≡ label_from false (drop (at + 1) t))
  unfolding label is_read pick
  quote-there = go (leb (length t) at) refl where
    first : (more : at < length t) (v : Bool) → eqb (get_or t at 0) quote ≡ v → label (drop at t) ≡ label_from false (drop (at + 1) t)
    first more true e = rw (drop-next t at more, e)
    first more false e = not_there (rw (drop-next t at more, e) at p)

    go : (v : Bool) → leb (length t) at ≡ v → (at < length t) × (label (drop at t) ≡ label_from false (drop (at + 1) t))
    go true l = let z : drop at t ≡ [] = drop_of_length-le t (leb-true _ _ l) in not_there (rw z at p)
    go false l = let more : at < length t = leb-false _ _ l in (more, first more (eqb (get_or t at 0) quote) refl)

-- ---- from there on

-- r: the bytes that are left. e: a backslash stands before them.
pub record Copying (t : List ℕ) (at : ℕ) (o : List ℕ) (to : ℕ) (out : List ℕ) (e : Bool) (r : List ℕ) (next : ℕ) : Type 0 where
  pub bytes : List ℕ
  pub laid : Laid o to bytes out next
  pub rest : bytes ++ bytes_in (label_from e r) ≡ bytes_in (label (drop at t))
  pub there : is_read (label_from e r) ≡ true

pub copy_at : (t : List ℕ) (at : ℕ) (o : List ℕ) (to : ℕ) → Copyable t at o to → at < length t
copy_at t at o to c = (quote-there t at c.labelled).0

pub copy_start : (t : List ℕ) (at : ℕ) (o : List ℕ) (to : ℕ) → Copyable t at o to → Copying t at o to o false (take (length t - (at + 1)) (drop (at + 1) t)) to
copy_start t at o to c =
    let q = quote-there t at c.labelled in
    let e : label (drop at t) ≡ label_from false (drop (at + 1) t) = q.1 in
    let l : to ≤ length o = omega (arith, c.room) in
    rw (take_rest t (at + 1)) (record { bytes = []; laid = laid-nothing o to l; rest = rw e; there = rw e at c.labelled })

module _ (t : List ℕ) (at : ℕ) (o : List ℕ) (to : ℕ) (out : List ℕ) (e : Bool) (r : List ℕ) (next : ℕ) (c : Copyable t at o to) (inv : Copying t at o to out e r next) where
  -- The label ends within the text.
  pub copy_over : length r < 1 → Laid o to (bytes_in (label (drop at t))) out next
  copy_over p = let more = goes_on e r inv.there in absurd (omega arith)

  -- One byte more.
  module _ (b : ℕ) (n : Behind b (label_from e r) (label_from false (drop 1 r))) where
    byte_fits : next + 1 ≤ length out
    byte_fits =
        let z = ap (λ (l : List ℕ). length l) inv.rest in
        let s = ap (λ (l : List ℕ). length l) n.bytes in
        omega (arith, c.room, inv.laid.stop, inv.laid.size, length-append inv.bytes (bytes_in (label_from e r)))

    byte-copied : Copying t at o to (set out next b) false (take (length r - 1) (drop 1 r)) (next + 1)
    byte-copied =
        let a = append_assoc inv.bytes (b ∷ []) (bytes_in (label_from false (drop 1 r))) in
        rw (take_rest r 1) (record {
          bytes = inv.bytes ++ (b ∷ []);
          laid = laid-join o out (set out next b) _ _ to next _ inv.laid (laid-byte out next b byte_fits);
          rest = a ∙ (rw n.bytes at inv.rest);
          there = n.there;
        })

  module _ (more : 1 ≤ length r) where
    front : r ≡ get_or r 0 0 ∷ drop 1 r
    front = drop-next r 0 more

    module _ (k : e ≡ true) where
      escaped : Behind (get_or r 0 0) (label_from e r) (label_from false (drop 1 r))
      escaped = rw (k, front) (behind-escaped (get_or r 0 0) (drop 1 r) (rw (k, front) at inv.there))

      pub escape-fits : next < length out
      escape-fits = omega (arith, byte_fits (get_or r 0 0) escaped)

      pub copy-escape : Copying t at o to (set out next (get_or r 0 0)) false (take (length r - 1) (drop 1 r)) (next + 1)
      copy-escape = byte-copied (get_or r 0 0) escaped

    module _ (k : e ≡ false) where
      pub copy_done : get_or r 0 0 ≡ quote → Laid o to (bytes_in (label (drop at t))) out next
      unfolding label_from bytes_in pick
      copy_done q =
          let z : inv.bytes ++ [] ≡ bytes_in (label (drop at t)) = rw (k, front, eq-eqb (get_or r 0 0) quote q) at inv.rest in
          let s : inv.bytes ≡ bytes_in (label (drop at t)) = sym (append-nil inv.bytes) ∙ z in
          rw s at inv.laid

      pub copy-slash : get_or r 0 0 ≡ backslash → Copying t at o to out true (take (length r - 1) (drop 1 r)) next
      unfolding label_from pick
      copy-slash b =
          let inside : get_or r 0 0 ≡ quote → ⊥ = (λ h. omega arith) in
          let q = ne_eqb (get_or r 0 0) quote inside in
          let s = eq-eqb (get_or r 0 0) backslash b in
          rw (take_rest r 1) (record { bytes = inv.bytes; laid = inv.laid; rest = rw (k, front, q, s) at inv.rest; there = rw (k, front, q, s) at inv.there })

      module _ (inside : get_or r 0 0 ≡ quote → ⊥) (other : get_or r 0 0 ≡ backslash → ⊥) where
        plain : Behind (get_or r 0 0) (label_from e r) (label_from false (drop 1 r))
        plain = rw (k, front) (behind-plain (get_or r 0 0) (drop 1 r) inside other (rw (k, front) at inv.there))

        pub copy-fits : next < length out
        copy-fits = omega (arith, byte_fits (get_or r 0 0) plain)

        pub copy-byte : Copying t at o to (set out next (get_or r 0 0)) false (take (length r - 1) (drop 1 r)) (next + 1)
        copy-byte = byte-copied (get_or r 0 0) plain

pub ruleset copying = (copy_at, copy_start, copy_over, copy_done, copy-slash, escape-fits, copy-escape, copy-fits, copy-byte, rules)
