-- "a score with no loop or curve unfolds to itself", from the ordinary score: written as an extended one, every lawful piece can be unfolded, and its own file comes
-- out, byte for byte. Assumes nothing.
use mathlib.Core.Path.{◌≡◌, refl, sym, ap, ◌∙◌}
use mathlib.Core.Bool.{Bool, true, false}
use mathlib.Core.List.{List, [], ◌∷◌, ◌++◌, map, map-append}
use Prim.Native.Nat.{ℕ, zero, suc, ◌+◌, ◌*◌, ◌<◌, ◌≤◌}
use native.Mathlib.Omega.{arith}
use lib.Dec.{eqb}
use lib.ListN.{length, length-map, get_or, take, drop, length-append, get_or-map}
use lib.Seq.{take_at, drop_at}
use borrow.Author.Tests.{eqb-true, eqb-false}
use Rattle.std.specs.Prelude.{Ok}
use Rattle.page.specs.declared.Item.{Item}
use Rattle.base.specs.Tests.{pick}
use Rattle.base.specs.Only.{only}
use Rattle.base.proofs.OnlyLaws.{only-in, only_out}
use Rattle.base.specs.Checks.{fine, need, first_fault}
use Rattle.contents.specs.declared.Counts.{Counts}
use Rattle.contents.specs.Limits.{longest_score, most_actions, deepest}
use Rattle.contents.specs.Inner.{Counted}
use Rattle.contents.proofs.ContentsLaws.{counts-held}
use Rattle.items.specs.declared.Setting.{Setting}
use Rattle.items.specs.Items.{is_action, within_of, own_of, inside, next}
use Rattle.items.specs.Ranged.{blank}
use Rattle.items.proofs.Ranges.{items-ranged}
use Rattle.items.proofs.Walked.{Walked, walked_none, walked_item, table-walked, walked-few}
use Rattle.score.specs.Piece.{Piece, decode}
use Rattle.score.specs.File.{checked, Accepted}
use Rattle.score.specs.Encode.{entry_bytes, text_bytes, counts_in, encode, Lawful}
use Rattle.score.proofs.Fielded.{lawful-fielded}
use Rattle.score.proofs.EncodingFiles.{decode-lawful, encode-decode}
use Rattle.score.proofs.EncodingPieces.{encode-accepted}
use Rattle.extended.specs.declared.Extent.{Extent}
use Rattle.extended.specs.declared.Folded.{Folded}
use Rattle.extended.specs.Layout.{folded_size, extent_of, items_start, points_start}
use Rattle.extended.specs.Folds.{folded_at, folded_from}
use Rattle.extended.specs.Points.{points_from}
use Rattle.extended.specs.Right.{item_of, folds_right, extended_right}
use Rattle.extended.proofs.RightLaws.{right-nests}
use Rattle.unfolding.specs.Messages.{entries_bytes}
use Rattle.unfolding.specs.Extended.{extended_of, Numbered, numbered_by}
use Rattle.unfolding.specs.Unfolded.{Unfolded, becomes, within_of as within, unfolded, items, actions, depth, page}
use Rattle.unfolding.specs.Sizes.{Score, score_of, counts_on, within_limits}
use Rattle.unfolding.specs.Answers.{unfolded_file, unfold_answer}
use Rattle.unfolding.proofs.LimitLaws.{limits-hold}
use Rattle.unfolding.proofs.Nesting.{Ends}
use Rattle.unfolding.proofs.SelfLaws.{bare, item_in, held-is, same-numbered, same-items, own_counts, same-counts, unfolds-to-itself}
use Rattle.unfolding.proofs.Shapes.{unfolded-none, unfolded-more}
use Rattle.unfolding.proofs.CountLaws.{only-append, page-actions, action-depth, group-depth}
use Rattle.unfolding.proofs.OneOutcome.{file-made}
use Rattle.unfolding.specs.Plain.{plain_item, plain_extent, plain_file}
use Rattle.unfolding.proofs.PlainFiles.{plain-extent, plain-contents, plain-durations, plain-items, plain-entries, plain-text}
use Rattle.unfolding.proofs.PlainNesting.{At, plain-holds, lawful-ends, all-within, table_at, folds-fine}

-- ---- its actions and its depth are within the limits

own-actions : (i : Item) (l : List Item) → length (only is_action (i ∷ l)) ≡ own_of i + length (only is_action l)
unfolding own_of pick
own-actions i l = go (is_action i) refl
  where
    go : (b : Bool) → is_action i ≡ b → length (only is_action (i ∷ l)) ≡ pick b 1 0 + length (only is_action l)
    go true e = ap length (only-in is_action i l e) ∙ omega arith
    go false e = ap length (only_out is_action i l e) ∙ omega arith

walked-actions : {c : Counts} {h : Setting} {n m : ℕ} {is : List Item} → Walked c h n is m → m ≡ n + length (only is_action is)
unfolding only
walked-actions walked_none = omega arith
walked-actions (walked_item {i = i} {b = b} {l = l} r e inner rest) =
    omega (
      arith,
      walked-actions inner,
      walked-actions rest,
      own-actions i (b ++ l),
      ap length (only-append b l),
      length-append (only is_action b) (only is_action l),
    )

-- The items, with no passes or values.
abbrev plainly : List Item → List Numbered
plainly is = map bare (map plain_item is)

plainly-length : (is : List Item) → length (plainly is) ≡ length is
plainly-length is = length-map (map plain_item is) bare ∙ length-map is plain_item

plainly-both : (b l : List Item) → plainly (b ++ l) ≡ plainly b ++ plainly l
plainly-both b l = ap (map bare) (map-append plain_item b l) ∙ map-append bare (map plain_item b) (map plain_item l)

plainly-more : (i : Item) (b l : List Item) → i.kind ≤ 1 → length b ≡ within_of i →
    unfolded (plainly (i ∷ (b ++ l))) ≡ becomes (bare (plain_item i)) (unfolded (plainly b)) (unfolded (plainly l))
unfolding numbered_by plain_item
plainly-more i b l k e =
    let x = bare (plain_item i) in
    let w : within x ≡ length b = held-is (plain_item i) ∙ plain-holds i k ∙ sym e in
    let n : length (plainly b) ≡ length b = plainly-length b in
    let t : take (within x) (plainly (b ++ l)) ≡ plainly b = rw (w, plainly-both b l) (take_at (plainly b) (plainly l) (length b) n) in
    let d : drop (within x) (plainly (b ++ l)) ≡ plainly l = rw (w, plainly-both b l) (drop_at (plainly b) (plainly l) (length b) n) in
    unfolded-more x (plainly (b ++ l)) ∙ rw (t, d)

item-depth : (i : Item) (body rest : Unfolded) (d : ℕ) → i.kind ≤ 1 → d ≤ deepest → d + 1 + depth body ≤ deepest + 1 → d + depth rest ≤ deepest + 1 →
    d + depth (becomes (bare (plain_item i)) body rest) ≤ deepest + 1
unfolding numbered_by plain_item
item-depth i body rest d k l b r = go (eqb i.kind 0) refl
  where
    go : (t : Bool) → eqb i.kind 0 ≡ t → d + depth (becomes (bare (plain_item i)) body rest) ≤ deepest + 1
    go true e = omega (arith, action-depth (bare (plain_item i)) body rest (eqb-true i.kind 0 e))
    go false e =
        let n = eqb-false i.kind 0 e in
        let one : i.kind ≡ 1 = omega arith in
        omega (arith, group-depth (bare (plain_item i)) body rest one)

walked-depth : {c : Counts} {h : Setting} {n m : ℕ} {is : List Item} → Walked c h n is m → h.depth ≤ deepest + 1 → h.depth + depth (unfolded (plainly is)) ≤ deepest + 1
unfolding depth inside next
walked-depth walked_none l = omega (arith, ap depth unfolded-none)
walked-depth (walked_item {h = h} {i = i} {b = b} {l = l} r e inner rest) p =
    rw (plainly-more i b l r.kind e)
    (item-depth i (unfolded (plainly b)) (unfolded (plainly l)) h.depth r.kind r.depth (walked-depth inner (omega (arith, r.depth))) (walked-depth rest p))

-- ---- an ordinary score written as an extended one

folded-at : (f : List ℕ) (at n j : ℕ) (d : Folded) → j < n → get_or (folded_from f at n) j d ≡ folded_at f (at + folded_size * j)
unfolding folded_from
folded-at f at zero j d l = absurd (omega arith)
folded-at f at (suc n) zero d l = let z : at + folded_size * 0 ≡ at = omega arith in rw z
folded-at f at (suc n) (suc j) d l =
    let z : at + folded_size * suc j ≡ at + folded_size + folded_size * j = omega arith in
    rw z (folded-at f (at + folded_size) n j d (omega arith))

items_back : (is : List Item) → map item_in (map plain_item is) ≡ is
unfolding plain_item
items_back [] = refl
items_back (i ∷ is) = ap (◌∷◌ i) (items_back is)

module _ (p : Piece) (l : Lawful p) where
  held-counts : Counted (counts_in p)
  held-counts = counts-held (counts_in p) l.counts

  extent : extent_of (plain_file p) ≡ plain_extent p
  extent = let n = lawful-fielded p l in plain-extent p held-counts n.durations n.items

  many : (extent_of (plain_file p)).items ≡ length p.items
  unfolding plain_extent counts_in
  many = ap (λ (c : Extent). c.items) extent

  table-read : folded_from (plain_file p) (items_start (extent_of (plain_file p))) (extent_of (plain_file p)).items ≡ map plain_item p.items
  table-read = let n = lawful-fielded p l in rw extent (plain-items p held-counts n.durations n.items)

  table : At (plain_file p) 0 p.items
  unfolding item_of
  table j q =
      let f = plain_file p in
      let z : 0 + j ≡ j = omega arith in
      rw z (
      sym (folded-at f (items_start (extent_of f)) (extent_of f).items j (plain_item blank) (omega (arith, many)))
      ∙ ap (λ (x : List Folded). get_or x j (plain_item blank)) table-read
      ∙ get_or-map plain_item p.items j blank
      )

  own-kinds : (j : ℕ) → j < length p.items → (get_or p.items j blank).kind ≤ 1
  unfolding counts_in
  own-kinds j q = (items-ranged (counts_in p) p.items j held-counts l.items held-counts.items q).kind

  plain-ends : Ends (plain_file p) 0 (extent_of (plain_file p)).items
  plain-ends =
      let z : 0 + length p.items ≡ (extent_of (plain_file p)).items = omega (arith, many) in
      rw z at (lawful-ends (plain_file p) 0 (table-walked (counts_in p) p.items l.items).1 table)

  no-points : points_from (plain_file p) (points_start (extent_of (plain_file p))) (extent_of (plain_file p)).points ≡ []
  unfolding points_from plain_extent
  no-points = rw extent

  plain-folds : folds_right (plain_file p) 0 [] (extent_of (plain_file p)).items ≡ fine
  plain-folds =
      let f = plain_file p in
      folds-fine f p.items table own-kinds (λ k q. all-within f plain-ends k (omega (arith, many))) 0 (extent_of f).items (omega (arith, many))

  -- Every lawful piece, so written, can be unfolded.
  pub plain-right : extended_right (plain_file p) ≡ fine
  unfolding extended_right first_fault need
  plain-right =
      let n = lawful-fielded p l in
      rw (plain-contents p held-counts n.durations n.items, no-points, plain-folds)

  kinds : (k : ℕ) → k < (extent_of (plain_file p)).items → (item_of (plain_file p) k).item.kind ≤ 1
  unfolding plain_item
  kinds k q =
      let m : k < length p.items = omega (arith, many) in
      rw (table_at (plain_file p) p.items table own-kinds (λ j r. all-within (plain_file p) plain-ends j (omega (arith, many))) k m) (own-kinds k m)

  plain-counts : own_counts (plain_file p) ≡ counts_in p
  unfolding plain_extent
  plain-counts = rw extent

  read-durations : (extended_of (plain_file p)).durations ≡ p.durations
  unfolding extended_of
  read-durations = let n = lawful-fielded p l in rw extent (plain-durations p held-counts n.durations n.items)

  read-items : (extended_of (plain_file p)).items ≡ map plain_item p.items
  unfolding extended_of
  read-items = table-read

  read-entries : entries_bytes (extended_of (plain_file p)).messages.entries ≡ entry_bytes 0 p.labels
  unfolding extended_of
  read-entries = let n = lawful-fielded p l in rw extent (plain-entries p held-counts n.durations n.items)

  read-text : (extended_of (plain_file p)).messages.text ≡ text_bytes p.labels
  unfolding extended_of
  read-text = let n = lawful-fielded p l in rw extent (plain-text p held-counts n.durations n.items)

  -- It unfolds to its own file, byte for byte.
  pub plain-unfolds : unfolded_file (plain_file p) ≡ encode p
  unfolding encode
  plain-unfolds =
      unfolds-to-itself (plain_file p) plain-right kinds ∙ rw (plain-counts, read-durations, read-items, items_back p.items, read-entries, read-text)

  abbrev score : Score
  score = score_of (extended_of (plain_file p))

  score-counts : counts_on (score_of (extended_of (plain_file p))) ≡ counts_in p
  score-counts = same-counts (plain_file p) plain-right kinds ∙ plain-counts

  score-actions : actions (score_of (extended_of (plain_file p))).items ≤ most_actions
  unfolding score_of
  score-actions =
      let f = plain_file p in
      let w = table-walked (counts_in p) p.items l.items in
      let a : length (only is_action (page (score_of (extended_of f)).items)) ≡ actions (score_of (extended_of f)).items = page-actions _ in
      let b : page (score_of (extended_of f)).items ≡ p.items = same-items f (right-nests f plain-right) kinds ∙ ap (map item_in) read-items ∙ items_back p.items in
      omega (arith, a, ap (λ (is : List Item). length (only is_action is)) b, walked-actions w.1, walked-few w.1 (omega arith))

  score-depth : depth (score_of (extended_of (plain_file p))).items ≤ deepest
  score-depth =
      let f = plain_file p in
      let w = table-walked (counts_in p) p.items l.items in
      let d : (score_of (extended_of f)).items ≡ unfolded (plainly p.items) = same-numbered f (right-nests f plain-right) kinds ∙ ap (λ (is : List Folded). unfolded (map bare is)) read-items in
      omega (arith, ap depth d, walked-depth w.1 (omega arith))

  plain-within : within_limits (score_of (extended_of (plain_file p))) ≡ true
  unfolding counts_on
  plain-within =
      let k = held-counts in
      let e : length score.durations ≡ (counts_in p).events = ap (λ (c : Counts). c.events) score-counts in
      let i : items score.items ≡ (counts_in p).items = ap (λ (c : Counts). c.items) score-counts in
      let m : length score.messages.entries ≡ (counts_in p).messages = ap (λ (c : Counts). c.messages) score-counts in
      let t : length score.messages.text ≡ (counts_in p).text = ap (λ (c : Counts). c.text) score-counts in
      limits-hold score (record {
        some = omega (arith, k.some);
        events_few = omega (arith, k.events);
        items_few = omega (arith, k.items);
        actions_few = score-actions;
        messages_few = omega (arith, k.messages);
        text_short = omega (arith, k.text);
        shallow = score-depth;
      })

  -- The call grants it: the file's own bytes are made.
  pub plain-made : (room : ℕ) → longest_score ≤ room → unfold_answer room (plain_file p) ≡ Ok (length (encode p))
  plain-made room h =
      let c : checked (unfolded_file (plain_file p)) ≡ fine = rw plain-unfolds (encode-accepted p l).fine in
      file-made room (plain_file p) h plain-right plain-within c ∙ ap (λ (f : List ℕ). Ok (length f)) plain-unfolds

-- Every accepted file, written as an extended score with no loop or curve, unfolds to itself, byte for byte.
pub accepted-unfolds : (g : List ℕ) → ((i : ℕ) → get_or g i 0 < 256) → Accepted g → unfolded_file (plain_file (decode g)) ≡ g
accepted-unfolds g bytes a = plain-unfolds (decode g) (decode-lawful g a) ∙ encode-decode g bytes a
