-- The ones of sixteen part bits are as many as the parts that sound: by halving, a bit at a time.
-- Assumes nothing.
use mathlib.Core.Path.{◌≡◌, refl, ap, ◌∙◌}
use Prim.Native.Nat.{ℕ, zero, suc, ◌+◌, ◌/◌, ◌%◌, ◌<◌}
use native.Mathlib.Omega.{arith}
use lib.Count.{ones, ones_step}
use lib.Dec.{eqb}
use Rattle.base.specs.Tests.{pick}
use Rattle.session.specs.Parts.{halvings, sounds}
use Rattle.session.specs.Parts.{sounding_below}

halvings-half : (p x : ℕ) → halvings (suc p) x ≡ halvings p x / 2
unfolding halvings
halvings-half zero x = refl
halvings-half (suc p) x = halvings-half p (x / 2)

bit-picked : (b : ℕ) → b < 2 → pick (eqb b 1) 1 0 ≡ b
unfolding pick
bit-picked zero l = refl
bit-picked (suc zero) l = refl
bit-picked (suc (suc b)) l = absurd (omega arith)

sounds-bit : (bits p : ℕ) → pick (sounds bits p) 1 0 ≡ halvings p bits % 2
unfolding sounds
sounds-bit bits p = bit-picked (halvings p bits % 2) (omega arith)

ones-halved : (bits n : ℕ) → ones bits ≡ sounding_below bits n + ones (halvings n bits)
unfolding sounding_below halvings
ones-halved bits zero = omega arith
ones-halved bits (suc n) =
    let more : ones (halvings n bits) ≡ halvings n bits % 2 + ones (halvings n bits / 2) = ones_step (halvings n bits) in
    let rest : ones (halvings (suc n) bits) ≡ ones (halvings n bits / 2) = ap ones (halvings-half n bits) in
    omega (arith, ones-halved bits n, sounds-bit bits n)

ones_none : ones 0 ≡ 0
unfolding ones
ones_none = refl

none_above : (bits : ℕ) → bits < 65536 → halvings 16 bits ≡ 0
unfolding halvings
none_above bits l = omega arith

-- "replies with the number of sounding parts"
pub ones-sounding : (bits : ℕ) → bits < 65536 → ones bits ≡ sounding_below bits 16
ones-sounding bits l =
    let none : ones (halvings 16 bits) ≡ 0 = ap ones (none_above bits l) ∙ ones_none in
    omega (arith, ones-halved bits 16)
