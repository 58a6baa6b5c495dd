-- How long a line is at most: one of each kind, and the parts of it.
-- By the digits of a number that keeps to its limit. Assumes nothing.
use mathlib.Core.Path.{◌≡◌, refl}
use mathlib.Core.Bool.{Bool, true, false}
use mathlib.Core.List.{List, [], ◌∷◌}
use Prim.Native.Nat.{ℕ, zero, suc, ◌+◌, ◌-◌, ◌*◌, ◌<◌, ◌≤◌}
use native.Mathlib.Omega.{arith}
use lib.Dec.{eqb}
use lib.ListN.{length, get_or, length-append, length-replicate}
use Rattle.base.specs.Tests.{pick}
use Rattle.ascii.specs.Words.{space}
use Rattle.ascii.specs.Decimals.{decimal}
use Rattle.ascii.proofs.DecimalLaws.{decimal-short}
use Rattle.tokens.specs.Bytes.{slash, backslash, is_escaped}
use Rattle.tokens.specs.Beats.{grains_of_a_beat}
use Rattle.tokens.specs.Quoted.{escaped, quoted}
use Rattle.contents.specs.Limits.{longest, most_events, last_part, most_messages, longest_label, deepest}
use Rattle.text.specs.Grammar.{message, event, part, send, group, close}
use Rattle.text.specs.Beats.{denominator, numerator, over, beats_text}
use Rattle.text.specs.Written.{synchrony_word, error_word, Spot, indent, remark, line_text}
use Rattle.text.proofs.BeatsLaws.{denominator-most, numerator-most}

-- ---- the parts of a line

over-short : (d : ℕ) → d ≤ grains_of_a_beat → length (over d) ≤ 5
unfolding over pick
over-short d p = go (eqb d 1) where
  go : (t : Bool) → length (pick t [] (slash ∷ decimal d)) ≤ 5
  go true = omega arith
  go false = omega (arith, decimal-short 4 d (omega arith) (omega arith))

beats-short : (g : ℕ) → g ≤ longest → length (beats_text g) ≤ 12
unfolding beats_text
beats-short g p =
    let n : numerator g ≤ g = numerator-most g in
    omega (arith, length-append (decimal (numerator g)) (over (denominator g)), decimal-short 7 (numerator g) (omega arith) (omega arith), over-short (denominator g) (denominator-most g))

indent-size : (depth : ℕ) → length (indent depth) ≡ 4 + 2 * depth
unfolding indent
indent-size depth = length-replicate (4 + 2 * depth) space

remark-size : (bs : List ℕ) → length (remark bs) ≡ 4 + length bs
unfolding remark
remark-size bs = simp length-append (omega arith)

escaped-short : (l : List ℕ) → length (escaped l) ≤ 1 + 2 * length l
unfolding escaped pick
escaped-short [] = omega arith
escaped-short (b ∷ bs) = go (is_escaped b) (escaped-short bs) where
  go : (t : Bool) → length (escaped bs) ≤ 1 + 2 * length bs → length (pick t (backslash ∷ b ∷ escaped bs) (b ∷ escaped bs)) ≤ 1 + 2 * length (b ∷ bs)
  go true r = omega arith
  go false r = omega arith

quoted-short : (l : List ℕ) → length (quoted l) ≤ 2 + 2 * length l
unfolding quoted
quoted-short l = omega (arith, escaped-short l)

synchrony-size : (w : ℕ) → length (synchrony_word w) ≡ 5
unfolding synchrony_word
synchrony-size zero = refl
synchrony-size (suc n) = refl

error-short : (v : ℕ) → length (error_word v) ≤ 7
unfolding error_word
error-short zero = omega arith
error-short (suc zero) = omega arith
error-short (suc (suc zero)) = omega arith
error-short (suc (suc (suc n))) = omega arith

-- ---- a line of each kind, where it stands within the limits

module _ (ls : List (List ℕ)) (s : Spot) where
  pub message-short : (l : List ℕ) → s.messages < most_messages → length (line_text ls s (message l)) ≤ 9 + 2 * length l
  unfolding line_text
  message-short l p = simp length-append (omega (arith, decimal-short 3 s.messages (omega arith) (omega arith), quoted-short l))

  pub event-short : (g : ℕ) → g ≤ longest → s.events < most_events → length (line_text ls s (event g)) ≤ 25
  unfolding line_text
  event-short g p q =
      simp length-append (omega (arith, beats-short g p, remark-size (decimal (suc s.events)), decimal-short 3 (suc s.events) (omega arith) (omega arith)))

  pub part-short : (p : ℕ) → p ≤ last_part → length (line_text ls s (part p)) ≤ 10
  unfolding line_text
  part-short p q = simp length-append (omega (arith, decimal-short 2 p (omega arith) (omega arith)))

  pub send-short : (g n : ℕ) → s.depth < deepest → g ≤ longest → n < most_messages → length (get_or ls n []) ≤ longest_label → length (line_text ls s (send g n)) ≤ 91
  unfolding line_text
  send-short g n d p q r =
      simp length-append (omega (arith, indent-size s.depth, beats-short g p, decimal-short 3 n (omega arith) (omega arith), remark-size (get_or ls n [])))

  pub group-short : (g w v : ℕ) → s.depth < deepest → g ≤ longest → length (line_text ls s (group g w v)) ≤ 53
  unfolding line_text
  group-short g w v d p = simp length-append (omega (arith, indent-size s.depth, beats-short g p, synchrony-size w, error-short v))

  pub close-short : s.depth ≤ deepest → length (line_text ls s close) ≤ 20
  unfolding line_text
  close-short d = simp length-append (omega (arith, indent-size (s.depth - 1)))
