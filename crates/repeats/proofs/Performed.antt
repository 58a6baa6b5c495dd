-- What the rules perform of an unfolded file that is accepted: the sequences of its unfolded score, loops and curves included.
-- Assumes nothing.
use mathlib.Core.Path.{◌≡◌, refl, ap, ◌∙◌}
use mathlib.Core.Bool.{true}
use mathlib.Core.List.{List, ◌∷◌, ◌++◌}
use Prim.Native.Nat.{ℕ, ◌+◌, ◌<◌, ◌≤◌}
use native.Mathlib.Omega.{arith}
use lib.ListN.{length, get_or, take, drop}
use lib.Seq.{take_at, drop_at}
use Rattle.page.specs.declared.Item.{Item}
use Rattle.base.specs.Tests.{pick}
use Rattle.contents.specs.declared.Counts.{Counts}
use Rattle.contents.specs.Contents.{counts_of}
use Rattle.items.specs.declared.Setting.{Setting}
use Rattle.items.specs.Items.{within_of, own_of, inside, next, outset}
use Rattle.items.proofs.Walked.{Right, Walked, walked_item}
use Rattle.items.proofs.WalkLaws.{within-action}
use Rattle.score.specs.Piece.{decode}
use Rattle.score.specs.File.{Accepted}
use Rattle.score.proofs.Accepted.{accepted-walked}
use Rattle.rules.specs.Rules.{Reading}
use Rattle.rules.specs.Page.{entries_of, entries, cues}
use Rattle.unfolding.specs.Extended.{Extended, extended_of}
use Rattle.unfolding.specs.Unfolded.{Unfolded, items, depth, group_item, page}
use Rattle.unfolding.specs.Sizes.{score_of, within_limits}
use Rattle.unfolding.specs.Answers.{unfolded_file}
use Rattle.unfolding.proofs.Shapes.{Kinds, at_end, at_action, at_group, unfolded-kinds}
use Rattle.unfolding.proofs.CountLaws.{page-length}
use Rattle.unfolding.proofs.FileLaws.{unfolded-items}
use Rattle.unfolding.proofs.LimitLaws.{limits-held}
use Rattle.repeats.specs.Tops.{tops}
use Rattle.repeats.proofs.TopSequences.{Inner, inner_end, inner_action, inner_group, EventsNamed, named_end, named_action, named_group, page-tops}

-- ---- a right table, item by item

record Parts (c : Counts) (h : Setting) (n : ℕ) (i : Item) (is : List Item) (m : ℕ) : Type 0 where
  right : Right i c h (length is) n
  after : ℕ
  within : Walked c (inside i h) (n + own_of i) (take (within_of i) is) after
  rest : Walked c (next i h) after (drop (within_of i) is) m

parts : {c : Counts} {h : Setting} {n : ℕ} {i : Item} {is : List Item} {m : ℕ} → Walked c h n (i ∷ is) m → Parts c h n i is m
parts (walked_item {k = k} {i = i} {b = b} {l = l} r e x y) =
    record {
      right = r;
      after = k;
      within = rw (take_at b l (within_of i) e) x;
      rest = rw (drop_at b l (within_of i) e) y;
    }

-- ---- "A top item names its event", "An item within a group has event 0"

group-within : (i : Item) (n : ℕ) → within_of (group_item i n) ≡ n
unfolding within_of group_item pick
group-within i n = refl

module _ (c : Counts) where
  after-action : (h : Setting) (i : Item) (n m : ℕ) (rest : Unfolded) → i.kind ≡ 0 → Walked c (next i h) n (drop (within_of i) (page rest)) m → Walked c (next i h) n (page rest) m
  after-action h i n m rest k w = rw (within-action i k) at w

  within_group : (h : Setting) (i : Item) (n m : ℕ) (body rest : Unfolded) →
      Walked c h n (take (within_of (group_item i (items body))) (page body ++ page rest)) m → Walked c h n (page body) m
  within_group h i n m body rest w = rw (group-within i (items body), take_at (page body) (page rest) (items body) (page-length body)) at w

  after-group : (h : Setting) (i : Item) (n m : ℕ) (body rest : Unfolded) →
      Walked c h n (drop (within_of (group_item i (items body))) (page body ++ page rest)) m → Walked c h n (page rest) m
  after-group h i n m body rest w = rw (group-within i (items body), drop_at (page body) (page rest) (items body) (page-length body)) at w

  inner_of : {u : Unfolded} → Kinds u → (h : Setting) (n m : ℕ) → Walked c h n (page u) m → 1 < h.depth → Inner u
  unfolding page next inside group_item
  inner_of at_end h n m w l = inner_end
  inner_of (at_action {i = i} {rest = rest} k r) h n m w l =
      let p = parts w in
      inner_action (p.right.inner_event l) (inner_of r (next i h) p.after m (after-action h i p.after m rest k p.rest) l)
  inner_of (at_group {i = i} {body = body} {rest = rest} b r) h n m w l =
      let p = parts w in
      let g = group_item i (items body) in
      inner_group (p.right.inner_event l)
      (inner_of b (inside g h) _ _ (within_group (inside g h) i _ _ body rest p.within) (omega arith))
      (inner_of r (next g h) _ _ (after-group (next g h) i _ _ body rest p.rest) l)

  named-of : {u : Unfolded} → Kinds u → (h : Setting) (n m : ℕ) → Walked c h n (page u) m → h.depth ≡ 1 → EventsNamed u
  unfolding page next inside group_item
  named-of at_end h n m w l = named_end
  named-of (at_action {i = i} {rest = rest} k r) h n m w l =
      let p = parts w in
      named_action (p.right.top_event l) (named-of r (next i h) p.after m (after-action h i p.after m rest k p.rest) l)
  named-of (at_group {i = i} {body = body} {rest = rest} b r) h n m w l =
      let p = parts w in
      let g = group_item i (items body) in
      named_group (p.right.top_event l)
      (inner_of b (inside g h) _ _ (within_group (inside g h) i _ _ body rest p.within) (omega arith))
      (named-of r (next g h) _ _ (after-group (next g h) i _ _ body rest p.rest) l)

-- ---- an unfolded file that is accepted

score-kinds : (x : Extended) → Kinds (score_of x).items
unfolding score_of
score-kinds x = unfolded-kinds _

whole-tops : (u : Unfolded) → Kinds u → EventsNamed u → depth u ≤ 8 → entries (page u) ≡ tops u
unfolding entries tops
whole-tops u k h d = ap (λ (n : ℕ). entries_of n 0 (page u)) (page-length u) ∙ page-tops (items u) 0 k h (omega arith) d

module _ (f : List ℕ) (bytes : (i : ℕ) → get_or f i 0 < 256) (within : within_limits (score_of (extended_of f)) ≡ true) (accepted : Accepted (unfolded_file f)) where
  -- Top items name their events, and the items within groups have event 0: passes and values too.
  unfolded-named : EventsNamed (score_of (extended_of f)).items
  unfolded-named =
      let w = accepted-walked (unfolded_file f) accepted in
      named-of (counts_of (unfolded_file f)) (score-kinds (extended_of f)) outset 0 w.0 (rw (unfolded-items f bytes within) at w.1) refl

  -- Its sequences, as the rules read the file, are those of the unfolded score.
  pub unfolded-tops : entries (decode (unfolded_file f)).items ≡ tops (score_of (extended_of f)).items
  unfolded-tops =
      ap entries (unfolded-items f bytes within)
      ∙ whole-tops (score_of (extended_of f)).items (score-kinds (extended_of f)) unfolded-named (limits-held (score_of (extended_of f)) within).shallow

  -- So what is performed of it is what those sequences give.
  pub unfolded-cues : (R : Reading) → cues R (entries (decode (unfolded_file f)).items) ≡ cues R (tops (score_of (extended_of f)).items)
  unfolded-cues R = ap (cues R) unfolded-tops
