-- The fields of any word are within their ranges, and an item within them is kept by its word.
-- Assumes nothing.
use mathlib.Core.Path.{◌≡◌}
use Prim.Native.Nat.{ℕ, ◌+◌, ◌*◌, ◌/◌, ◌%◌, ◌<◌}
use native.Mathlib.Omega.{arith}
use lib.Arith.{digits_div, digits_mod}
use Rattle.page.specs.declared.Item.{Item}
use Rattle.fates.specs.Fields.{item_in, item_word, FitsWord}

pub item-fits-word : (w : ℕ) → FitsWord (item_in w)
unfolding item_in
item-fits-word w =
    record {
      kind = omega arith;
      synchrony = omega arith;
      error = omega arith;
      part = omega arith;
      delay = omega arith;
      event = omega arith;
      last = omega arith;
    }

-- a field of m values that stands at c
field_at : (w low c x m high : ℕ) → low < c → x < m → w ≡ (high * m + x) * c + low → w / c % m ≡ x
field_at w low c x m high p q e = rw (e, digits_div (high * m + x) p) (digits_mod high q)

pub item-kept : (i : Item) → FitsWord i → item_in (item_word i) ≡ i
unfolding item_in item_word
item-kept i r =
    let w = item_word i in
    let v = i.event in
    let l = i.last in
    let to_part = i.kind + 2 * i.synchrony + 4 * i.error + 16 * i.part in
    let to-delay = to_part + 256 * i.delay.0 in
    let kind : w % 2 ≡ i.kind = omega arith in
    let synchrony : w / 2 % 2 ≡ i.synchrony =
    field_at w i.kind 2 i.synchrony 2 (i.error + 4 * i.part + 64 * i.delay.0 + 536870912 * v + 274877906944 * l) (omega arith) (omega arith) (omega arith) in
    let error : w / 4 % 4 ≡ i.error =
    field_at w (i.kind + 2 * i.synchrony) 4 i.error 4 (i.part + 16 * i.delay.0 + 134217728 * v + 68719476736 * l) (omega arith) (omega arith) (omega arith) in
    let part : w / 16 % 16 ≡ i.part =
    field_at w (i.kind + 2 * i.synchrony + 4 * i.error) 16 i.part 16 (i.delay.0 + 8388608 * v + 4294967296 * l) (omega arith) (omega arith) (omega arith) in
    let delay : w / 256 % 8388608 ≡ i.delay.0 = field_at w to_part 256 i.delay.0 8388608 (v + 512 * l) (omega arith) (omega arith) (omega arith) in
    let slot : w / 2147483648 % 512 ≡ v = field_at w to-delay 2147483648 v 512 l (omega arith) (omega arith) (omega arith) in
    let last : w / 1099511627776 % 2048 ≡ l = field_at w (to-delay + 2147483648 * v) 1099511627776 l 2048 0 (omega arith) (omega arith) (omega arith) in
    let event : v % 257 ≡ v = omega arith in
    rw (kind, synchrony, error, part, delay, slot, event, last)
