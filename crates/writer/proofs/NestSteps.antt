-- Each step of the walk of the items, in the code's own terms. The invariant: what is owed of the items left completes what was to be laid.
-- Assumes nothing.
use mathlib.Core.Path.{◌≡◌, refl, sym}
use mathlib.Core.Bool.{Bool, true, false}
use mathlib.Core.List.{List, [], ◌++◌}
use Prim.Native.Nat.{ℕ, ◌+◌, ◌-◌, ◌<◌, ◌≤◌}
use native.Mathlib.Omega.{arith}
use lib.ListN.{length, take, drop, get_or, get_or-eq_default}
use lib.Dec.{ltb}
use borrow.Author.Tests.{ltb-true, ltb-false}
use borrow.Author.Rules.{rules}
use denote.Ref.{Bor}
use Rattle.page.specs.declared.Item.{Item}
use Rattle.ascii.specs.Laying.{Laid}
use Rattle.contents.specs.Limits.{most_items}
use Rattle.contents.specs.Contents.{counts_of}
use Rattle.score.specs.Piece.{decode}
use Rattle.score.specs.File.{Accepted}
use Rattle.score.specs.LookUp.{label_span, Part}
use Rattle.score.specs.Readers.{ItemIn, ItemRead}
use Rattle.score.proofs.Accepted.{file-sized}
use Rattle.score.proofs.Decoded.{items-decoded, labels-decoded}
use Rattle.score.proofs.LookUps.{handed-label, accepted-granted, accepted-none}
use Rattle.writer.specs.Phrases.{send_line, group_line, close_line, message_line}
use Rattle.writer.specs.Layouts.{items_text, Nests, Layable}
use Rattle.writer.proofs.Owed.{Owed, owed_start, owed-done, owed-room, owed-laid}
use Rattle.writer.proofs.NestLaws.{items-none, items-action, items-group, nests-action, last_fits, nests-body, nests-after}

pub items_few : (f : List ℕ) → Accepted f → length (decode f).items ≤ most_items
items_few f a = rw (items-decoded f) (file-sized f a).counted.items

-- ---- the walk

pub record Laying (f o : List ℕ) (at : ℕ) (all m : List ℕ) (next i left depth : ℕ) : Type 0 where
  pub owed : Owed o at all m next (items_text (decode f) i left depth)
  pub accepted : Accepted f
  pub nests : Nests (take left (drop i (decode f).items))
  pub table : i + left ≤ length (decode f).items
  pub few : i + left ≤ most_items
  pub deep : depth + left ≤ most_items

-- An item's line, the text of a group's body and of what follows the group.
abbrev sent : List ℕ → (depth : ℕ) → Item → List ℕ
sent f depth item = send_line depth item.delay.0 item.last (get_or (decode f).labels item.last [])

abbrev opened : (depth : ℕ) → Item → List ℕ
opened depth item = group_line depth item.delay.0 item.synchrony item.error

abbrev body_text : List ℕ → (i depth : ℕ) → Item → List ℕ
body_text f i depth item = items_text (decode f) (i + 1) item.last (depth + 1)

abbrev after_text : List ℕ → (i left depth : ℕ) → Item → List ℕ
after_text f i left depth item = items_text (decode f) (i + 1 + item.last) (left - 1 - item.last) depth

pub lay-start : (f o : List ℕ) (at from count depth : ℕ) → Layable f from count depth o at → Laying f o at (items_text (decode f) from count depth) o at from count depth
lay-start f o at from count depth p =
    record {
      owed = owed_start o at _ p.room;
      accepted = p.accepted;
      nests = p.nests;
      table = p.table;
      few = omega (arith, p.table, items_few f p.accepted);
      deep = p.deep;
    }

module _ (f o : List ℕ) (at : ℕ) (all m : List ℕ) (next i left depth : ℕ) (inv : Laying f o at all m next i left depth) where
  pub lay_done : left ≤ 0 → Laid o at all m next
  lay_done p = owed-done o at all m next _ inv.owed (items-none (decode f) i left depth p)

  module _ (more : 0 < left) where
    pub item-there : ItemIn f i
    item-there = record { accepted = inv.accepted; below = rw (← (items-decoded f)) (omega (arith, inv.table)) }

    module _ (item : Item) (read : ItemRead f i item) where
      module _ (e : item.kind ≡ 0) where
        owed-action : Owed o at all m next (sent f depth item ++ items_text (decode f) (i + 1) (left - 1) depth)
        owed-action = rw (items-action (decode f) i left depth more inv.table item read.read e) at inv.owed

        pub action-room : next + length (sent f depth item) ≤ length m
        action-room = owed-room o at all m next (sent f depth item) (items_text (decode f) (i + 1) (left - 1) depth) owed-action

        pub lay-action : (m' : List ℕ) (r : ℕ) → Laid m next (sent f depth item) m' r → Laying f o at all m' r (i + 1) (left - 1) depth
        lay-action m' r l =
            record {
              owed = owed-laid o at all m next (sent f depth item) (items_text (decode f) (i + 1) (left - 1) depth) owed-action m' r l;
              accepted = inv.accepted;
              nests = nests-action (decode f).items i left more inv.table item read.read inv.nests e;
              table = omega (arith, inv.table);
              few = omega (arith, inv.few);
              deep = omega (arith, inv.deep);
            }

      module _ (e : item.kind ≡ 0 → ⊥) where
        pub group_fits : item.last ≤ left - 1
        group_fits = last_fits (decode f).items i left more inv.table item read.read inv.nests e

        owed-group : Owed o at all m next (opened depth item ++ (body_text f i depth item ++ (close_line depth ++ after_text f i left depth item)))
        owed-group = rw (items-group (decode f) i left depth more inv.table item read.read e group_fits) at inv.owed

        pub group-room : next + length (opened depth item) ≤ length m
        group-room = owed-room o at all m next (opened depth item) (body_text f i depth item ++ (close_line depth ++ after_text f i left depth item)) owed-group

        module _ (m₁ : List ℕ) (b : ℕ) (l₁ : Laid m next (opened depth item) m₁ b) where
          owed-body : Owed o at all m₁ b (body_text f i depth item ++ (close_line depth ++ after_text f i left depth item))
          owed-body = owed-laid o at all m next (opened depth item) (body_text f i depth item ++ (close_line depth ++ after_text f i left depth item)) owed-group m₁ b l₁

          pub body-asked : Layable f (i + 1) item.last (depth + 1) m₁ b
          body-asked =
              record {
                accepted = inv.accepted;
                nests = nests-body (decode f).items i left more inv.table item read.read inv.nests e;
                table = omega (arith, inv.table, group_fits);
                deep = omega (arith, inv.deep, group_fits);
                room = owed-room o at all m₁ b (body_text f i depth item) (close_line depth ++ after_text f i left depth item) owed-body;
              }

          module _ (m₂ : List ℕ) (c : ℕ) (l₂ : Laid m₁ b (body_text f i depth item) m₂ c) where
            owed-close : Owed o at all m₂ c (close_line depth ++ after_text f i left depth item)
            owed-close = owed-laid o at all m₁ b (body_text f i depth item) (close_line depth ++ after_text f i left depth item) owed-body m₂ c l₂

            pub close-room : c + length (close_line depth) ≤ length m₂
            close-room = owed-room o at all m₂ c (close_line depth) (after_text f i left depth item) owed-close

            pub lay-group : (m₃ : List ℕ) (r : ℕ) → Laid m₂ c (close_line depth) m₃ r
                → Laying f o at all m₃ r (i + 1 + item.last) (left - 1 - item.last) depth
            lay-group m₃ r l₃ =
                record {
                  owed = owed-laid o at all m₂ c (close_line depth) (after_text f i left depth item) owed-close m₃ r l₃;
                  accepted = inv.accepted;
                  nests = nests-after (decode f).items i left more inv.table item read.read inv.nests e;
                  table = omega (arith, inv.table, group_fits);
                  few = omega (arith, inv.few, group_fits);
                  deep = omega (arith, inv.deep, group_fits);
                }

pub ruleset laying = (lay-start, lay_done, item-there, action-room, lay-action, group_fits, group-room, body-asked, close-room, lay-group, rules)

-- ---- an action's label

-- the bytes handed out for any number are the label's, none where there is no such message
pub label_is : (whole handed : Bor (List ℕ)) (n : ℕ) → Accepted whole.now → Part whole handed (label_span whole.now n) → handed.now ≡ get_or (decode whole.now).labels n []
label_is whole handed n a p = go (ltb n (counts_of whole.now).messages) refl where
  go : (t : Bool) → ltb n (counts_of whole.now).messages ≡ t → handed.now ≡ get_or (decode whole.now).labels n []
  go true e = handed-label whole handed n p (accepted-granted whole.now (counts_of whole.now) n a refl (ltb-true _ _ e)).reply
  go false e =
      let l : (counts_of whole.now).messages ≤ n = ltb-false _ _ e in
      let z : label_span whole.now n ≡ record { start = 0; size = 0 } = sym (accepted-none whole.now (counts_of whole.now) n a refl l) in
      let d : get_or (decode whole.now).labels n [] ≡ [] = get_or-eq_default (decode whole.now).labels [] (rw (labels-decoded whole.now) l) in
      rw (d, p.bytes, z)

pub send-room : (whole handed : Bor (List ℕ)) (n at depth d : ℕ) (o : List ℕ) → Accepted whole.now → Part whole handed (label_span whole.now n)
    → at + length (send_line depth d n (get_or (decode whole.now).labels n [])) ≤ length o → at + length (send_line depth d n handed.now) ≤ length o
send-room whole handed n at depth d o a p l = rw (label_is whole handed n a p) l

pub send-laid : (whole handed : Bor (List ℕ)) (n at depth d : ℕ) (o m : List ℕ) (r : ℕ) → Accepted whole.now → Part whole handed (label_span whole.now n)
    → Laid o at (send_line depth d n handed.now) m r → Laid o at (send_line depth d n (get_or (decode whole.now).labels n [])) m r
send-laid whole handed n at depth d o m r a p l = rw (← (label_is whole handed n a p)) l

pub message-room : (whole handed : Bor (List ℕ)) (n at : ℕ) (o : List ℕ) → Accepted whole.now → Part whole handed (label_span whole.now n)
    → at + length (message_line n (get_or (decode whole.now).labels n [])) ≤ length o → at + length (message_line n handed.now) ≤ length o
message-room whole handed n at o a p l = rw (label_is whole handed n a p) l

pub message-laid : (whole handed : Bor (List ℕ)) (n at : ℕ) (o m : List ℕ) (r : ℕ) → Accepted whole.now → Part whole handed (label_span whole.now n)
    → Laid o at (message_line n handed.now) m r → Laid o at (message_line n (get_or (decode whole.now).labels n [])) m r
message-laid whole handed n at o m r a p l = rw (← (label_is whole handed n a p)) l

pub ruleset labelled = (send-room, send-laid, message-room, message-laid, rules)
