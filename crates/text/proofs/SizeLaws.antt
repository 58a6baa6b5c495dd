-- "A text room of 262,144 bytes always holds it": how long the text of a lawful piece is at most.
-- Sums of the lines' bounds along the walk of the items, along the page and along the message list. Assumes nothing.
use mathlib.Core.Path.{◌≡◌, refl}
use mathlib.Core.Bool.{Bool, true, false}
use mathlib.Core.List.{List, [], ◌∷◌, ◌++◌, append_assoc, append-nil}
use Prim.Native.Nat.{ℕ, zero, suc, ◌+◌, ◌-◌, ◌*◌, ◌<◌, ◌≤◌}
use native.Mathlib.Omega.{arith}
use lib.Dec.{eqb}
use lib.ListN.{length, take, drop, get_or, length-append}
use lib.Seq.{take-append_seam, drop-append_seam}
use Rattle.base.specs.Tests.{pick}
use Rattle.base.specs.Checks.{fine}
use Rattle.base.proofs.TestLaws.{every-head, every_rest, between-high}
use Rattle.base.proofs.CheckLaws.{first_head, first_rest, first_holds}
use Rattle.page.specs.declared.Item.{Item}
use Rattle.contents.specs.declared.Counts.{Counts}
use Rattle.contents.specs.declared.Fault.TheVariants.{BadEvent}
use Rattle.contents.specs.Limits.{event_size, longest, most_events, most_actions, last_part, deepest, most_messages, longest_label}
use Rattle.contents.specs.Contents.{events_at}
use Rattle.contents.specs.Inner.{Counted}
use Rattle.contents.proofs.ContentsLaws.{counts-held}
use Rattle.items.specs.declared.Setting.{Setting}
use Rattle.items.specs.Items.{is_action, within_of, own_of, next, inside}
use Rattle.items.proofs.Walked.{Right, Walked, walked_none, walked_item, walked_more, walked-few, table-walked}
use Rattle.score.specs.Events.{events_right}
use Rattle.score.specs.Piece.{Piece}
use Rattle.score.specs.Encode.{text_bytes, counts_in, labels_right, Lawful}
use Rattle.text.specs.Grammar.{Line, heading, message, event, part, send, group, close}
use Rattle.text.specs.Written.{Spot, line_text, behind_line, text_of, item_lines, top_lines, part_line, later_events, page_lines, message_lines, lines, written}
use Rattle.text.specs.Transcripts.{text_room}
use Rattle.text.proofs.LineSizes.{message-short, event-short, part-short, send-short, group-short, close-short}

-- ---- the items: 73 bytes for a group's line and its closing brace, and 18 more for an action's line

no_lines : (x : ℕ) → item_lines x [] ≡ []
unfolding item_lines
no_lines zero = refl
no_lines (suc x) = refl

-- Where a line stands, so many messages and events being before it.
module _ (ls : List (List ℕ)) (k e : ℕ) where
  abbrev spot : ℕ → Spot
  spot depth = record { messages = k; events = e; depth = depth }

  abbrev long : ℕ → List Line → ℕ
  long depth xs = length (text_of ls (spot depth) xs)

  nothing-short : (depth : ℕ) → long depth [] ≡ 0
  unfolding text_of
  nothing-short depth = refl

  either-short : (depth : ℕ) (t : Bool) (xs ys : List Line) (a bound : ℕ) → long depth xs + a ≤ bound → long depth ys + a ≤ bound → long depth (pick t xs ys) + a ≤ bound
  unfolding pick
  either-short depth true xs ys a bound p q = p
  either-short depth false xs ys a bound p q = q

  closing-short : (depth : ℕ) (rest : List Line) → depth < deepest → long (suc depth) (close ∷ rest) ≤ 20 + long depth rest
  unfolding text_of behind_line
  closing-short depth rest d =
      let back : suc depth - 1 ≡ depth = omega arith in
      let line = close-short ls (spot (suc depth)) (omega arith) in
      rw back (omega (arith, length-append (line_text ls (spot (suc depth)) close) (text_of ls (spot depth) rest)))

  part-line-short : (standing p : ℕ) (rest : List Line) → p ≤ last_part → long 0 (part_line standing p ++ rest) ≤ 10 + long 0 rest
  unfolding part_line pick text_of behind_line
  part-line-short standing p rest q = go (eqb standing (suc p)) where
    go : (t : Bool) → long 0 (pick t [] (part p ∷ []) ++ rest) ≤ 10 + long 0 rest
    go true = omega arith
    go false = omega (arith, part-short ls (spot 0) p q, length-append (line_text ls (spot 0) (part p)) (text_of ls (spot 0) rest))

  module _ (c : Counts) (few : c.messages ≤ most_messages) (labels : (n : ℕ) → length (get_or ls n []) ≤ longest_label) where
    action-short : (i : Item) (h : Setting) (left n depth : ℕ) (rest : List Line) → Right i c h left n → suc depth ≡ h.depth → is_action i ≡ true
        → long depth (send i.delay.0 i.last ∷ rest) ≤ 91 + long depth rest
    unfolding text_of behind_line
    action-short i h left n depth rest r d e =
        let low : h.depth ≤ deepest = r.depth in
        let line = send-short ls (spot depth) i.delay.0 i.last (omega arith) r.delay (omega (arith, r.number e)) (labels i.last) in
        omega (arith, length-append (line_text ls (spot depth) (send i.delay.0 i.last)) (text_of ls (spot depth) rest))

    opening-short : (i : Item) (h : Setting) (left n depth : ℕ) (rest : List Line) → Right i c h left n → suc depth ≡ h.depth
        → long depth (group i.delay.0 i.synchrony i.error ∷ rest) ≤ 53 + long (suc depth) rest
    unfolding text_of behind_line
    opening-short i h left n depth rest r d =
        let low : h.depth ≤ deepest = r.depth in
        let line = group-short ls (spot depth) i.delay.0 i.synchrony i.error (omega arith) r.delay in
        omega (arith, length-append (line_text ls (spot depth) (group i.delay.0 i.synchrony i.error)) (text_of ls (spot (suc depth)) rest))

    -- One item, and the lines behind it.
    item-short : (x : ℕ) (i : Item) (h : Setting) (left n m depth : ℕ) (b l : List Item) (rest : List Line) → Right i c h left n → suc depth ≡ h.depth
        → length b ≡ within_of i → n + own_of i ≤ m
        → ((rest : List Line) → long (suc depth) (item_lines x b ++ rest) + 18 * (n + own_of i) ≤ 73 * length b + 18 * m + long (suc depth) rest)
        → long depth (item_lines (suc x) (i ∷ (b ++ l)) ++ rest) + 18 * n ≤ 73 * suc (length b) + 18 * m + long depth (item_lines x l ++ rest)
    unfolding item_lines within_of own_of pick
    item-short x i h left n m depth b l rest r d w o inner = go (is_action i) refl w o inner where
      go : (t : Bool) → is_action i ≡ t → length b ≡ pick t 0 i.last → n + pick t 1 0 ≤ m
          → ((rest : List Line) → long (suc depth) (item_lines x b ++ rest) + 18 * (n + pick t 1 0) ≤ 73 * length b + 18 * m + long (suc depth) rest)
          → long depth (pick t
          (send i.delay.0 i.last ∷ item_lines x (b ++ l))
          (group i.delay.0 i.synchrony i.error ∷ (item_lines x (take i.last (b ++ l)) ++ (close ∷ item_lines x (drop i.last (b ++ l)))))
          ++ rest) + 18 * n ≤ 73 * suc (length b) + 18 * m + long depth (item_lines x l ++ rest)
      go true a z q f =
          let none : b ++ l ≡ l = rw z at (drop-append_seam b l) in
          let line = action-short i h left n depth (item_lines x l ++ rest) r d a in
          rw none (omega arith)
      go false a z q f =
          let back = item_lines x l ++ rest in
          let low : h.depth ≤ deepest = r.depth in
          let line = opening-short i h left n depth (item_lines x b ++ (close ∷ back)) r d in
          let body = f (close ∷ back) in
          let brace = closing-short depth back (omega arith) in
          let front : take i.last (b ++ l) ≡ b = rw z at (take-append_seam b l) in
          let behind : drop i.last (b ++ l) ≡ l = rw z at (drop-append_seam b l) in
          rw (front, behind, append_assoc (item_lines x b) (close ∷ item_lines x l) rest) (omega arith)

    items-short : (x : ℕ) {h : Setting} {n m : ℕ} {is : List Item} (depth : ℕ) (rest : List Line) → Walked c h n is m → suc depth ≡ h.depth
        → long depth (item_lines x is ++ rest) + 18 * n ≤ 73 * length is + 18 * m + long depth rest
    unfolding item_lines inside next
    items-short zero depth rest w d = omega (arith, walked_more w)
    items-short (suc x) depth rest walked_none d = omega arith
    items-short (suc x) depth rest (walked_item {h = h} {n = n} {k = k} {i = i} {b = b} {l = l} r w inner after) d =
        let one = item-short x i h (length (b ++ l)) n k depth b l rest r d w (walked_more inner) (λ rest. items-short x (suc depth) rest inner (omega arith)) in
        let others = items-short x depth rest after d in
        omega (arith, length-append b l)

    -- A top item, and the lines behind it.
    top-short : (i : Item) {h : Setting} {n m : ℕ} (left : ℕ) (b l : List Item) (rest : List Line) → Right i c h left n → h.depth ≡ 1 → length b ≡ within_of i
        → Walked c (inside i h) (n + own_of i) b m → long 0 (top_lines i (b ++ l) ++ rest) + 18 * n ≤ 73 * suc (length b) + 18 * m + long 0 rest
    unfolding top_lines inside
    top-short i {h} {n} {m} left b l rest r d w inner =
        let front : take (within_of i) (b ++ l) ≡ b = rw w at (take-append_seam b l) in
        let one = item-short (within_of i) i h left n m 0 b [] rest r (omega arith) w (walked_more inner) (λ rest. items-short (within_of i) 1 rest inner (omega arith)) in
        let none : item_lines (within_of i) [] ≡ [] = no_lines (within_of i) in
        rw front (rw (append-nil b, none) at one)

-- ---- the page: 25 bytes for an event's line, and 10 for the part's line that may stand before a top item

module _ (ls : List (List ℕ)) (k : ℕ) where
  event-line-short : (e d : ℕ) (rest : List Line) → d ≤ longest → e < most_events → long ls k e 0 (event d ∷ rest) ≤ 25 + long ls k (suc e) 0 rest
  unfolding text_of behind_line
  event-line-short e d rest p q =
      omega (arith, event-short ls (spot ls k e 0) d p q, length-append (line_text ls (spot ls k e 0) (event d)) (text_of ls (spot ls k (suc e) 0) rest))

  -- The next event and the lines behind it, which have a bound wherever the durations that are left are right.
  later-short : (x e at : ℕ) (ds : List ℕ) (is : List Item) (n m : ℕ) → n ≤ m → events_right at ds ≡ fine → e + length ds ≤ most_events
      → ((at : ℕ) (ds : List ℕ) → events_right at ds ≡ fine → suc e + length ds ≤ most_events
      → long ls k (suc e) 0 (page_lines x (suc e) 0 ds is) + 18 * n ≤ 83 * length is + 18 * m + 25 * length ds)
      → long ls k e 0 (later_events ds (λ d later. event d ∷ page_lines x (suc e) 0 later is)) + 18 * n ≤ 83 * length is + 18 * m + 25 * length ds
  unfolding later_events events_right
  later-short x e at [] is n m p right room others = omega (arith, nothing-short ls k e 0)
  later-short x e at (d ∷ ds) is n m p right room others =
      let short : d ≤ longest = between-high _ _ _ (first_holds _ (BadEvent at) _ right) in
      let line = event-line-short e d (page_lines x (suc e) 0 ds is) short (omega arith) in
      let rest = others (at + event_size) ds (first_head _ _ (first_rest _ _ right)) (omega arith) in
      omega arith

  module _ (c : Counts) (few : c.messages ≤ most_messages) (labels : (n : ℕ) → length (get_or ls n []) ≤ longest_label) where
    -- A top item of the event that stands, and the lines behind it.
    standing-short : (x e standing : ℕ) (ds : List ℕ) (i : Item) (h : Setting) (n q m : ℕ) (b l : List Item) → Right i c h (length (b ++ l)) n → h.depth ≡ 1 → length b ≡ within_of i
        → Walked c (inside i h) (n + own_of i) b q
        → long ls k e 0 (page_lines x e (suc i.part) ds l) + 18 * q ≤ 83 * length l + 18 * m + 25 * length ds
        → long ls k e 0 (part_line standing i.part ++ (top_lines i (b ++ l) ++ page_lines x e (suc i.part) ds (drop (within_of i) (b ++ l)))) + 18 * n
        ≤ 83 * suc (length (b ++ l)) + 18 * m + 25 * length ds
    standing-short x e standing ds i h n q m b l r d w inner others =
        let behind : drop (within_of i) (b ++ l) ≡ l = rw w at (drop-append_seam b l) in
        let rest = page_lines x e (suc i.part) ds l in
        let part = part-line-short ls k e standing i.part (top_lines i (b ++ l) ++ rest) r.part in
        let top = top-short ls k e c few labels i (length (b ++ l)) b l rest r d w inner in
        rw behind (omega (arith, length-append b l))

    page-short : (x e standing at : ℕ) (ds : List ℕ) {h : Setting} {n m : ℕ} {is : List Item} → Walked c h n is m → h.depth ≡ 1
        → events_right at ds ≡ fine → e + length ds ≤ most_events
        → long ls k e 0 (page_lines x e standing ds is) + 18 * n ≤ 83 * length is + 18 * m + 25 * length ds
    unfolding page_lines next pick
    page-short zero e standing at ds w d right room = omega (arith, walked_more w, nothing-short ls k e 0)
    page-short (suc x) e standing at ds (walked_none {h = h} {n = n}) d right room =
        later-short x e at ds [] n n (omega arith) right room (λ at ds right room. page-short x (suc e) 0 at ds (walked_none {h = h} {n = n}) d right room)
    page-short (suc x) e standing at ds (walked_item {h = h} {n = n} {k = q} {m = m} {i = i} {b = b} {l = l} r w inner after) d right room =
        either-short ls k e 0 (eqb i.event e) _ _ (18 * n) _
        (standing-short x e standing ds i h n q m b l r d w inner (page-short x e (suc i.part) at ds after d right room))
        (later-short x e at ds (i ∷ (b ++ l)) n m (omega (arith, walked_more inner, walked_more after)) right room
        (λ at ds right room. page-short x (suc e) 0 at ds (walked_item r w inner after) d right room))

-- ---- the message list: 9 bytes for a line and 2 for each of its label's

label-short : (ls : List (List ℕ)) → labels_right ls ≡ true → (n : ℕ) → length (get_or ls n []) ≤ longest_label
unfolding labels_right
label-short [] e n = omega arith
label-short (l ∷ ls) e zero = between-high 1 longest_label (length l) (every-head _ _ e)
label-short (l ∷ ls) e (suc n) = label-short ls (every-head _ _ (every_rest _ _ (every_rest _ _ e))) n

module _ (ls : List (List ℕ)) where
  message-line-short : (k : ℕ) (l : List ℕ) (rest : List Line) → k < most_messages → long ls k 0 0 (message l ∷ rest) ≤ 9 + 2 * length l + long ls (suc k) 0 0 rest
  unfolding text_of behind_line
  message-line-short k l rest p =
      omega (arith, message-short ls (spot ls k 0 0) l p, length-append (line_text ls (spot ls k 0 0) (message l)) (text_of ls (spot ls (suc k) 0 0) rest))

  -- The messages from number k on, and lines that have a bound behind any number of them.
  messages-short : (k : ℕ) (ms : List (List ℕ)) (rest : List Line) (bound : ℕ) → k + length ms ≤ most_messages → ((k : ℕ) → long ls k 0 0 rest ≤ bound)
      → long ls k 0 0 (message_lines ms ++ rest) ≤ 9 * length ms + 2 * length (text_bytes ms) + bound
  unfolding message_lines text_bytes
  messages-short k [] rest bound p q = omega (arith, q k)
  messages-short k (m ∷ ms) rest bound p q =
      omega (arith, message-line-short k m (message_lines ms ++ rest) (omega arith), messages-short (suc k) ms rest bound (omega arith) q, length-append m (text_bytes ms))

-- ---- the whole text

heading-short : (ls : List (List ℕ)) (rest : List Line) → long ls 0 0 0 (heading ∷ rest) ≡ 9 + long ls 0 0 0 rest
unfolding text_of line_text behind_line
heading-short ls rest = omega arith

-- "A text room of 262,144 bytes always holds it".
pub text_short : (p : Piece) → Lawful p → length (written p) ≤ text_room
unfolding written lines counts_in
text_short p lawful =
    let counted : Counted (counts_in p) = counts-held (counts_in p) lawful.counts in
    let walk = table-walked (counts_in p) p.items lawful.items in
    let actions : walk.0 ≤ most_actions = walked-few walk.1 (omega arith) in
    let labels = label-short p.labels lawful.labels in
    let x = suc (length p.durations + length p.items) in
    let page = page_lines x 0 0 p.durations p.items in
    let rest : (k : ℕ) → long p.labels k 0 0 page ≤ 83 * length p.items + 18 * walk.0 + 25 * length p.durations =
    λ k. omega (arith, page-short p.labels k (counts_in p) counted.messages labels x 0 0 events_at p.durations walk.1 refl lawful.durations (omega (arith, counted.events))) in
    omega (
      arith,
      heading-short p.labels (message_lines p.labels ++ page),
      messages-short p.labels 0 p.labels page _ (omega (arith, counted.messages)) rest,
      counted.events,
      counted.items,
      counted.messages,
      counted.text,
    )
