-- Laws of the decoded piece: how many durations it has, and which, and that it has as many entries as the contents count.
-- By recursion on the count. Assumes nothing.
use mathlib.Core.Path.{◌≡◌, refl, ap}
use mathlib.Core.List.{List, [], ◌∷◌}
use Prim.Native.Nat.{ℕ, zero, suc, ◌+◌, ◌-◌, ◌*◌, ◌<◌, ◌≤◌}
use native.Mathlib.Omega.{arith}
use lib.ListN.{length, get_or}
use Rattle.contents.specs.Limits.{event_size}
use Rattle.contents.specs.Bytes.{u32_at}
use Rattle.contents.specs.Contents.{counts_of, events_at, items_at, messages_at}
use Rattle.score.specs.Events.{durations_at}
use Rattle.score.specs.Piece.{decode}
use Rattle.items.proofs.Decoded.{items-length}
use Rattle.messages.proofs.Decoded.{labels_length}

module _ (f : List ℕ) where
  -- ---- events

  pub durations-length : (at n : ℕ) → length (durations_at f at n) ≡ n
  unfolding durations_at
  durations-length at zero = refl
  durations-length at (suc n) = ap suc (durations-length (at + event_size) n)

  pub durations-none : (at n : ℕ) → n ≤ 0 → durations_at f at n ≡ []
  unfolding durations_at
  durations-none at zero p = refl
  durations-none at (suc n) p = absurd (omega arith)

  pub durations-more : (at n : ℕ) → 0 < n → durations_at f at n ≡ u32_at f at ∷ durations_at f (at + event_size) (n - 1)
  unfolding durations_at
  durations-more at zero p = absurd (omega arith)
  durations-more at (suc n) p = let s : suc n - 1 ≡ n = omega arith in rw s

  pub durations-at : (at n k d : ℕ) → k < n → get_or (durations_at f at n) k d ≡ u32_at f (at + event_size * k)
  unfolding durations_at
  durations-at at zero k d p = absurd (omega arith)
  durations-at at (suc n) zero d p = let z : at + event_size * 0 ≡ at = omega arith in rw z
  durations-at at (suc n) (suc k) d p =
      let z : at + event_size * suc k ≡ at + event_size + event_size * k = omega arith in
      rw z (durations-at (at + event_size) n k d (omega arith))

  -- ---- the piece that a file says has as many of each as its contents count

  pub events-decoded : length (decode f).durations ≡ (counts_of f).events
  unfolding decode
  events-decoded = durations-length events_at (counts_of f).events

  pub items-decoded : length (decode f).items ≡ (counts_of f).items
  unfolding decode
  items-decoded = items-length f (items_at (counts_of f)) (counts_of f).items

  pub labels-decoded : length (decode f).labels ≡ (counts_of f).messages
  unfolding decode
  labels-decoded = labels_length f (counts_of f) (messages_at (counts_of f)) (counts_of f).messages
