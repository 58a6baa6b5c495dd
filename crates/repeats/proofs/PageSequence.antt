-- The rules read the page of an unfolded score as its sequence: what a group holds on the page is what it holds in the unfolded score.
-- Assumes nothing.
use mathlib.Core.Path.{◌≡◌, refl, ap}
use mathlib.Core.List.{List, ◌++◌}
use Prim.Native.Nat.{ℕ, zero, suc, ◌+◌, ◌≤◌}
use native.Mathlib.Omega.{arith}
use lib.ListN.{take, drop}
use lib.Seq.{take_at, drop_at}
use Rattle.rules.specs.Score.{end, action}
use Rattle.rules.specs.Page.{levels, sequence_of}
use Rattle.unfolding.specs.Unfolded.{Unfolded, end as nothing-more, action as send, group as held, items, depth, group_item, page, unfolded}
use Rattle.unfolding.specs.Extended.{Numbered}
use Rattle.unfolding.proofs.Shapes.{Kinds, at_end, at_action, at_group, unfolded-kinds}
use Rattle.unfolding.proofs.CountLaws.{page-length}
use Rattle.repeats.specs.Sequences.{sequence}

-- What has no depth is nothing.
no-depth : (u : Unfolded) (p : ℕ) → depth u ≤ 0 → sequence p u ≡ end
unfolding depth sequence
no-depth nothing-more p l = refl
no-depth (send i rest) p l = absurd (omega arith)
no-depth (held i body rest) p l = absurd (omega arith)

-- At any bound that is at least the items' count, and levels for its depth: so many groups stand one within the other, and actions in the last.
pub page-sequence : (bound v p : ℕ) {u : Unfolded} → Kinds u → items u ≤ bound → depth u ≤ v + 1 → sequence_of bound v p (page u) ≡ sequence p u
unfolding sequence_of page sequence items depth group_item
page-sequence zero v p at_end b d = refl
page-sequence zero v p (at_action k r) b d = absurd (omega arith)
page-sequence zero v p (at_group x r) b d = absurd (omega arith)
page-sequence (suc n) v p at_end b d = refl
page-sequence (suc n) v p (at_action {i = i} {rest = rest} k r) b d =
    rw k (ap (action i.delay.0 i.last p) (page-sequence n v (p + 1) r (omega arith) (omega arith)))
page-sequence (suc n) zero p (at_group {i = i} {body = body} {rest = rest} x r) b d =
    let t : drop (items body) (page body ++ page rest) ≡ page rest = drop_at (page body) (page rest) (items body) (page-length body) in
    rw (t, no-depth body (p + 1) (omega arith), page-sequence n zero (p + 1 + items body) r (omega arith) (omega arith))
page-sequence (suc n) (suc v) p (at_group {i = i} {body = body} {rest = rest} x r) b d =
    let s : take (items body) (page body ++ page rest) ≡ page body = take_at (page body) (page rest) (items body) (page-length body) in
    let t : drop (items body) (page body ++ page rest) ≡ page rest = drop_at (page body) (page rest) (items body) (page-length body) in
    rw (s, t, page-sequence n v (p + 1) x (omega arith) (omega arith), page-sequence n (suc v) (p + 1 + items body) r (omega arith) (omega arith))

-- An unfolded score of depth 8 at most is read as its sequence.
pub unfolded-sequence : (bound p : ℕ) (is : List Numbered) → items (unfolded is) ≤ bound → depth (unfolded is) ≤ 8 → sequence_of bound levels p (page (unfolded is)) ≡ sequence p (unfolded is)
unfolded-sequence bound p is b d = page-sequence bound levels p (unfolded-kinds is) b d
