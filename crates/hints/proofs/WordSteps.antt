-- Which word stands, as it is and in small letters, in the code's own terms.
-- Assumes nothing.
use Rattle.std.specs.Char.{LowercasesTo}
use mathlib.Core.Logic.{inl, inr}
use mathlib.Core.Path.{◌≡◌, refl, sym, ◌∙◌}
use mathlib.Core.Bool.{Bool, true, false}
use mathlib.Core.List.{List, [], ◌∷◌, ◌++◌}
use Prim.Native.Nat.{ℕ, ◌+◌, ◌-◌, ◌<◌, ◌≤◌}
use native.Mathlib.Numerals.{add-one}
use native.Mathlib.Omega.{arith}
use lib.ListN.{length, take, drop, get_or, set, length-drop}
use lib.Seq.{length-take-le, take_all, take-suc, get_or-drop}
use borrow.Author.Rules.{rules}
use Rattle.base.specs.Tests.{pick, every}
use Rattle.base.proofs.TestLaws.{between_in, between-under, between-over, every-last}
use Rattle.ascii.specs.Laying.{Laid}
use Rattle.ascii.proofs.LayLaws.{laid-nothing, laid-byte, laid-join}
use Rattle.tokens.specs.Tokens.{is_word}
use Rattle.hints.specs.Hints.{is_one_of, all_words, lowered, all_lowered, word_room, is_capital}

-- ---- one of several words

module _ (w : List ℕ) (bs : List ℕ) (t : Bool) (told : t ≡ is_word w bs) where
  pub word-here : (ws : List (List ℕ)) → t ≡ true → true ≡ is_one_of (w ∷ ws) bs
  unfolding is_one_of pick
  word-here ws p = rw (sym told ∙ p)

  pub word_next : (ws : List (List ℕ)) (r : Bool) → t ≡ false → r ≡ is_one_of ws bs → r ≡ is_one_of (w ∷ ws) bs
  unfolding is_one_of pick
  word_next ws r p e = rw (sym told ∙ p) e

  pub word-last : t ≡ is_one_of (w ∷ []) bs
  unfolding is_one_of pick
  word-last = go (is_word w bs) told where
    go : (b : Bool) → t ≡ b → t ≡ pick b true false
    go true e = e
    go false e = e

pub ruleset words = (word-here, word_next, word-last, rules)

-- ---- small letters

module _ (b : ℕ) where
  pub lowered-capital : 65 ≤ b → b ≤ 90 → b + 32 ≡ lowered b
  unfolding lowered pick
  lowered-capital p q = rw (between_in 65 90 b p q)

  pub lowered-under : b < 65 → b ≡ lowered b
  unfolding lowered pick
  lowered-under p = rw (between-under 65 90 b p)

  pub lowered-over : 90 < b → b ≡ lowered b
  unfolding lowered pick
  lowered-over p = rw (between-over 65 90 b p)

pub lowers-told : (b r : ℕ) → LowercasesTo b r → r ≡ lowered b
lowers-told b r (inl p) = p.1 ∙ lowered-capital b (omega (arith, p.0)) (omega (arith, p.0))
lowers-told b r (inr (inl under, e)) = e ∙ lowered-under b under
lowers-told b r (inr (inr over, e)) = e ∙ lowered-over b over

all-lowered : (xs : List ℕ) (b : ℕ) → all_lowered (xs ++ (b ∷ [])) ≡ all_lowered xs ++ (lowered b ∷ [])
unfolding all_lowered
all-lowered [] b = refl
all-lowered (x ∷ xs) b = rw (all-lowered xs b)

-- The invariant: so many bytes are laid in small letters.
pub record Lowers (o t : List ℕ) (at : ℕ) (m : List ℕ) (i : ℕ) : Type 0 where
  pub laid : Laid o 0 (all_lowered (take i (drop at t))) m i
  pub few : i ≤ word_room
  pub sized : length m ≡ length o

pub lowers-start : (o t : List ℕ) (at : ℕ) → Lowers o t at o 0
unfolding all_lowered
lowers-start o t at = record { laid = laid-nothing o 0 (omega arith); few = omega arith; sized = refl }

module _ (o t : List ℕ) (at : ℕ) (m : List ℕ) (i : ℕ) (inv : Lowers o t at m i) where
  pub lowers-step : (b : ℕ) → word_room ≤ length o → i < word_room → i < length t - at → b ≡ lowered (get_or t (at + i) 0) → Lowers o t at (set m i b) (i + 1)
  lowers-step b room p q e =
      let l : i < length (drop at t) = rw (length-drop at t) q in
      let g : take (i + 1) (drop at t) ≡ take i (drop at t) ++ (get_or t (at + i) 0 ∷ []) = rw (add-one, ← (get_or-drop at t i 0)) (take-suc (drop at t) i 0 l) in
      let z : length m ≡ length o = inv.sized in
      let y : Laid m i (b ∷ []) (set m i b) (i + 1) = laid-byte m i b (omega arith) in
      record { laid = rw (g, all-lowered (take i (drop at t)) (get_or t (at + i) 0), ← e) (laid-join o m (set m i b) _ _ 0 i (i + 1) inv.laid y); few = omega arith; sized = y.size ∙ inv.sized }

  pub lowers-short : length t - at ≤ i → Laid o 0 (all_lowered (take word_room (drop at t))) m i
  lowers-short q =
      let l : length (drop at t) ≤ i = rw (length-drop at t) q in
      let f : i ≤ word_room = inv.few in
      let a : take i (drop at t) ≡ drop at t = take_all i (drop at t) l in
      let b : take word_room (drop at t) ≡ drop at t = take_all word_room (drop at t) (omega arith) in
      rw (b, ← a) inv.laid

  pub lowers-done : word_room ≤ i → Laid o 0 (all_lowered (take word_room (drop at t))) m word_room
  lowers-done q =
      let e : word_room ≡ i = omega (arith, inv.few) in
      rw e inv.laid

pub ruleset lowering = (lowers-told, lowers-start, lowers-step, lowers-short, lowers-done, rules)

-- ---- a word with a capital

module _ (bs : List ℕ) (a : Bool) (told : a ≡ is_one_of all_words bs) where
  pub capital-word : a ≡ true → false ≡ is_capital bs
  unfolding is_capital every
  capital-word p = rw (sym told ∙ p)

  pub capital-small : (o m : List ℕ) (n : ℕ) (r : Bool) → a ≡ false → Laid o 0 (all_lowered (take word_room bs)) m n → r ≡ is_one_of all_words (take n m) → r ≡ is_capital bs
  unfolding is_capital every
  capital-small o m n r p laid e = rw (sym told ∙ p) (every-last _ r (rw laid.front at e))

-- The bytes up to where they are laid are as many as that.
pub laid-count : (o : List ℕ) (at : ℕ) (bs m : List ℕ) (n : ℕ) → Laid o at bs m n → n ≡ length (take n m)
laid-count o at bs m n laid = sym (length-take-le n m laid.within)

pub ruleset capitals = (capital-word, capital-small, rules)
