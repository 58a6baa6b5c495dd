-- "The opening takes sixteen part bits (part p is worth 2^p; all zero is accepted)".
use Rattle.std.specs.Prelude.{ℕ, zero, suc, ◌+◌, ◌/◌, ◌%◌, Bool, eqb}
use Rattle.base.specs.Tests.{pick}

-- Part p sounds: "part p is worth 2^p".
unfoldable pub halvings : ℕ → ℕ → ℕ
halvings zero x = x
halvings (suc p) x = halvings p (x / 2)

unfoldable pub sounds : (bits p : ℕ) → Bool
sounds bits p = eqb (halvings p bits % 2) 1

-- "the number of sounding parts", among the parts below n. The reply counts it as the ones of the part bits: for sixteen bits the two are the same (proofs/SoundingParts).
unfoldable pub sounding_below : (bits n : ℕ) → ℕ
sounding_below bits zero = 0
sounding_below bits (suc p) = sounding_below bits p + pick (sounds bits p) 1 0
