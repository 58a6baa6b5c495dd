-- The last field of an item among an item table's bytes: what is read there is the item's, and what is put there leaves the table with it replaced.
-- Assumes nothing.
use mathlib.Core.Path.{◌≡◌, refl, sym, ap, ◌∙◌}
use mathlib.Core.List.{List, [], ◌∷◌, ◌++◌, append_assoc}
use Prim.Native.Nat.{ℕ, zero, suc, ◌+◌, ◌*◌, ◌/◌, ◌%◌, ◌<◌, ◌≤◌}
use native.Mathlib.Omega.{arith}
use lib.ListN.{length, take, drop, get_or, length-append}
use lib.Seq.{length-take-le, take-add, take-take, take_at, drop_at, get_or-take, get_or-append-add}
use Rattle.ascii.specs.Laying.{Laid}
use Rattle.page.specs.declared.Item.{Item}
use Rattle.contents.specs.Limits.{item_size}
use Rattle.contents.specs.Bytes.{u16_at}
use Rattle.score.specs.Encode.{le16, le32, item_bytes}
use Rattle.filing.specs.Lasts.{with_last, last_of, set_last, last_at, Replaced}

-- ---- the bytes around an item's last field

-- Those before it and those behind it, whatever stands there.
record Around (w : List Item) (g : ℕ) : Type 0 where
  front : List ℕ
  back : List ℕ
  size : length front ≡ item_size * g + last_at
  whole : item_bytes w ≡ front ++ (le16 (last_of w g) ++ back)
  other : (v : ℕ) → item_bytes (set_last w g v) ≡ front ++ (le16 v ++ back)

first-bytes : Item → List ℕ
unfolding le32 le16
first-bytes i = (i.kind ∷ i.synchrony ∷ i.error ∷ i.part ∷ []) ++ (le32 i.delay.0 ++ le16 i.event)

around-first : (i : Item) (w : List Item) → Around (i ∷ w) 0
unfolding item_bytes last_of set_last with_last first-bytes le32 le16
around-first i w = record { front = first-bytes i; back = item_bytes w; size = refl; whole = refl; other = λ v. refl }

around-next : (i : Item) (w : List Item) (g : ℕ) → Around w g → Around (i ∷ w) (suc g)
unfolding item_bytes last_of set_last le32 le16
around-next i w g a =
    record {
      front = item_bytes (i ∷ []) ++ a.front;
      back = a.back;
      size = omega (arith, a.size);
      whole = ap (λ (l : List ℕ). item_bytes (i ∷ []) ++ l) a.whole;
      other = λ v. ap (λ (l : List ℕ). item_bytes (i ∷ []) ++ l) (a.other v);
    }

around : (w : List Item) (g : ℕ) → g < length w → Around w g
around [] g p = absurd (omega arith)
around (i ∷ w) zero p = around-first i w
around (i ∷ w) (suc g) p = around-next i w g (around w g (omega arith))

-- ---- read

u16-front : (l front back : List ℕ) (n k : ℕ) → l ≡ front ++ (le16 n ++ back) → length front ≡ k → u16_at l k ≡ n
unfolding u16_at le16
u16-front l front back n k e s =
    let lo : get_or l (length front + 0) 0 ≡ n % 256 = rw e (get_or-append-add front (le16 n ++ back) 0 0) in
    let hi : get_or l (length front + 1) 0 ≡ n / 256 = rw e (get_or-append-add front (le16 n ++ back) 1 0) in
    let a : length front + 0 ≡ k = omega arith in
    let lo' : get_or l k 0 ≡ n % 256 = rw a at lo in
    let hi' : get_or l (k + 1) 0 ≡ n / 256 = rw s at hi in
    omega arith

u16-take : (n : ℕ) (m : List ℕ) (k : ℕ) → k + 2 ≤ n → u16_at (take n m) k ≡ u16_at m k
unfolding u16_at
u16-take n m k p = rw (get_or-take n m k 0 (omega arith), get_or-take n m (k + 1) 0 (omega arith))

module _ (w : List Item) (g : ℕ) (inside : g < length w) (m : List ℕ) (held : take (item_size * length w) m ≡ item_bytes w) where
  pub last-read : u16_at m (item_size * g + last_at) ≡ last_of w g
  last-read =
      let a = around w g inside in
      sym (u16-take (item_size * length w) m (item_size * g + last_at) (omega arith)) ∙ u16-front _ a.front a.back _ _ (held ∙ a.whole) a.size

-- ---- put in its place

-- Where y is laid in the place of x, what stands around it stays.
splice : (m new front x y back : List ℕ) (n at r : ℕ) → n ≤ length m → take n m ≡ front ++ (x ++ back) → length front ≡ at → length x ≡ length y → Laid m at y new r
    → take n new ≡ front ++ (y ++ back)
splice m new front x y back n at r p e s t laid =
    let k = length back in
    let q : r ≡ at + length y = laid.stop in
    let z : length (take n m) ≡ n = length-take-le n m p in
    let u : length (front ++ (x ++ back)) ≡ n = rw e at z in
    let size : n ≡ r + k = omega (arith, length-append front (x ++ back), length-append x back) in
    let before : take at m ≡ front = sym (take-take at n m (omega arith)) ∙ ap (λ (l : List ℕ). take at l) e ∙ take_at front (x ++ back) at s in
    let e' : take (r + k) m ≡ (front ++ x) ++ back = rw size at e ∙ sym (append_assoc front x back) in
    let f : take r m ++ take k (drop r m) ≡ (front ++ x) ++ back = sym (take-add r k m) ∙ e' in
    let i : length (take r m) ≡ r = length-take-le r m (omega arith) in
    let j : length (front ++ x) ≡ r = omega (arith, length-append front x) in
    let behind : take k (drop r m) ≡ back = sym (drop_at (take r m) (take k (drop r m)) r i) ∙ ap (λ (l : List ℕ). drop r l) f ∙ drop_at (front ++ x) back r j in
    rw (size, take-add r k new, laid.front, laid.others, before, behind) (append_assoc front y back)

module _ (w : List Item) (g : ℕ) (inside : g < length w) (m new : List ℕ) (v r : ℕ) (put : Replaced m g v new r) (room : item_size * length w ≤ length m)
    (held : take (item_size * length w) m ≡ item_bytes w) where
  pub last-replaced : take (item_size * length w) new ≡ item_bytes (set_last w g v)
  unfolding le16
  last-replaced =
      let a = around w g inside in
      splice m new a.front (le16 (last_of w g)) (le16 v) a.back (item_size * length w) (item_size * g + last_at) _ room (held ∙ a.whole) a.size refl put.laid
      ∙ sym (a.other v)

  pub last-stood : r ≡ last_of w g
  last-stood = put.stood ∙ last-read w g inside m held

-- ---- one item more

pub items-append : (w : List Item) (x : Item) → item_bytes (w ++ (x ∷ [])) ≡ item_bytes w ++ item_bytes (x ∷ [])
unfolding item_bytes le32 le16
items-append [] x = refl
items-append (i ∷ w) x = ap (λ (l : List ℕ). item_bytes (i ∷ []) ++ l) (items-append w x)

-- An item laid behind those of a table is the table's next.
pub item-added : (w : List Item) (x : Item) (m new : List ℕ) (n r : ℕ) → length w ≡ n → take (item_size * n) m ≡ item_bytes w → Laid m (item_size * n) (item_bytes (x ∷ [])) new r
    → r ≡ item_size * n + item_size → take (item_size * (n + 1)) new ≡ item_bytes (w ++ (x ∷ []))
item-added w x m new n r s held laid e =
    let z : item_size * (n + 1) ≡ r = omega arith in
    rw z (laid.front ∙ ap (λ (l : List ℕ). l ++ item_bytes (x ∷ [])) held ∙ sym (items-append w x))
