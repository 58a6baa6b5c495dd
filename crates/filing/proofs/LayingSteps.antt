-- Each number, item, entry and file is laid as its parts are, one behind the other.
-- Assumes nothing.
use mathlib.Core.Path.{◌≡◌, refl}
use mathlib.Core.List.{List, [], ◌∷◌, ◌++◌, append_assoc}
use Prim.Native.Nat.{ℕ, ◌+◌, ◌*◌, ◌/◌, ◌%◌, ◌<◌}
use native.Mathlib.Omega.{arith}
use borrow.Author.Rules.{rules}
use Rattle.std.proofs.Common.{w16, w32}
use Rattle.std.specs.Int.{to_le_bytes}
use Rattle.ascii.specs.Laying.{Laid}
use Rattle.ascii.proofs.LayLaws.{laid-join}
use Rattle.page.specs.declared.Item.{Item}
use Rattle.contents.specs.declared.Counts.{Counts}
use Rattle.contents.specs.Limits.{item_size}
use Rattle.contents.specs.Bytes.{u16_at}
use Rattle.contents.specs.Contents.{events_at, items_at, messages_at, text_at}
use Rattle.score.specs.Encode.{le16, le32, contents_bytes, item_bytes}
use Rattle.filing.specs.Lasts.{last_at, Replaced}
use Rattle.filing.specs.Pieces.{entry_of, body_of, filed}

-- ---- a number's bytes

pub bytes16 : (x : ℕ) → x < 65536 → to_le_bytes w16 x ≡ le16 x
unfolding le16
bytes16 x p =
    let h : x / 256 % 256 ≡ x / 256 = omega arith in
    rw h

pub bytes32 : (x : ℕ) → x < 4294967296 → to_le_bytes w32 x ≡ le32 x
unfolding le16 le32
bytes32 x p =
    let a : x % 65536 % 256 ≡ x % 256 = omega arith in
    let b : x % 65536 / 256 ≡ x / 256 % 256 = omega arith in
    let c : x / 65536 % 256 ≡ x / 65536 % 256 = refl in
    let d : x / 65536 / 256 ≡ x / 16777216 % 256 = omega arith in
    rw (a, b, d)

-- ---- two behind one another

module _ {o m n : List ℕ} {at a r : ℕ} where
  pub lay-entry : (from size : ℕ) → Laid o at (le16 from) m a → Laid m a (le16 size) n r → Laid o at (entry_of from size) n r
  unfolding entry_of
  lay-entry from size p q = laid-join o m n _ _ at a r p q

  pub lay-body : (offset count : ℕ) → Laid o at (le32 offset) m a → Laid m a (le32 count) n r → Laid o at (body_of offset count) n r
  unfolding body_of
  lay-body offset count p q = laid-join o m n _ _ at a r p q

pub ruleset pairs = (lay-entry, lay-body, rules)

-- ---- an item

module _ {o m₁ m₂ m₃ n : List ℕ} {at a b c r : ℕ} where
  pub lay-item : (i : Item) → Laid o at (i.kind ∷ i.synchrony ∷ i.error ∷ i.part ∷ []) m₁ a → Laid m₁ a (le32 i.delay.0) m₂ b → Laid m₂ b (le16 i.event) m₃ c
      → Laid m₃ c (le16 i.last) n r → Laid o at (item_bytes (i ∷ [])) n r
  unfolding item_bytes le32 le16
  lay-item i p q s t = laid-join o m₁ n _ _ at a r p (laid-join m₁ m₂ n _ _ a b r q (laid-join m₂ m₃ n _ _ b c r s t))

pub ruleset items = (lay-item, rules)

-- ---- a file

module _ {o m n : List ℕ} {at a r : ℕ} where
  pub lay-bodies-two : (x y x' y' k l : ℕ) → Laid o at (body_of x k) m a → Laid m a (body_of y l) n r → x ≡ x' → y ≡ y' → Laid o at (body_of x' k ++ body_of y' l) n r
  lay-bodies-two x y x' y' k l p q e f = rw (e, f) at (laid-join o m n _ _ at a r p q)

pub lay-contents : {o m n : List ℕ} {a r : ℕ} (k : Counts) → Laid o 0 (body_of events_at k.events ++ body_of (items_at k) k.items) m a
    → Laid m a (body_of (messages_at k) k.messages ++ body_of (text_at k) k.text) n r → Laid o 0 (contents_bytes k) n r
unfolding contents_bytes body_of
lay-contents {o} {m} {n} {a} {r} k p q = simp append_assoc at (laid-join o m n _ _ 0 a r p q)

pub ruleset contents = (lay-bodies-two, lay-contents, rules)

module _ {o m₁ m₂ m₃ n : List ℕ} {at a b c r : ℕ} where
  pub lay-bodies : (ds is es ts : List ℕ) → Laid o at ds m₁ a → Laid m₁ a is m₂ b → Laid m₂ b es m₃ c → Laid m₃ c ts n r → Laid o at (ds ++ (is ++ (es ++ ts))) n r
  lay-bodies ds is es ts p q s t = laid-join o m₁ n _ _ at a r p (laid-join m₁ m₂ n _ _ a b r q (laid-join m₂ m₃ n _ _ b c r s t))

pub lay-file : {o m n : List ℕ} {a r : ℕ} (k : Counts) (ds is es ts : List ℕ) → Laid o 0 (contents_bytes k) m a → Laid m a (ds ++ (is ++ (es ++ ts))) n r → Laid o 0 (filed k ds is es ts) n r
unfolding filed
lay-file {o} {m} {n} {a} {r} k ds is es ts p q = laid-join o m n _ _ 0 a r p q

pub ruleset files = (lay-bodies, lay-file, rules)

-- ---- the last field of an item

pub replaced : (m n : List ℕ) (g v r e : ℕ) → r ≡ u16_at m (item_size * g + last_at) → r < 65536 → Laid m (item_size * g + last_at) (le16 v) n e → e ≡ item_size * g + last_at + 2 → Replaced m g v n r
replaced m n g v r e s b l q =
    let z : e ≡ item_size * g + item_size = omega arith in
    record { stood = s; small = b; laid = rw z at l }

pub ruleset lasts = (replaced, rules)
