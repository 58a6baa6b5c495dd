-- How much a script's piece has of each kind, counted line by line.
-- By recursion along the script, from any counts before it. Assumes nothing.
use mathlib.Core.Path.{◌≡◌, ◌∙◌}
use mathlib.Core.List.{List, [], ◌∷◌, ◌++◌}
use Prim.Native.Nat.{ℕ, suc, ◌+◌, ◌-◌}
use native.Mathlib.Nat.{zero-add}
use native.Mathlib.Omega.{arith}
use lib.ListN.{length, length-append}
use Rattle.page.specs.declared.Item.{Item}
use Rattle.contents.specs.declared.Counts.{Counts}
use Rattle.score.specs.Encode.{text_bytes, counts_in}
use Rattle.text.specs.Grammar.{Line, heading, message, event, part, send, group, close, Script, done, more, fault}
use Rattle.text.specs.Said.{labels_of, durations_of, items_of, piece_of}

-- ---- the counts behind a line, and behind a script

unfoldable pub counted_line : Line → Counts → Counts
counted_line heading c = c
counted_line (message l) c = record { events = c.events; items = c.items; messages = c.messages + 1; text = c.text + length l }
counted_line (event g) c = record { events = c.events + 1; items = c.items; messages = c.messages; text = c.text }
counted_line (part p) c = c
counted_line (send d n) c = record { events = c.events; items = c.items + 1; messages = c.messages; text = c.text }
counted_line (group d w v) c = record { events = c.events; items = c.items + 1; messages = c.messages; text = c.text }
counted_line close c = c

unfoldable pub counted_from : Counts → Script → Counts
counted_from c done = c
counted_from c (fault left) = c
counted_from c (more l s) = counted_from (counted_line l c) s

-- Before the first line.
abbrev pub uncounted : Counts
uncounted = record { events = 0; items = 0; messages = 0; text = 0 }

-- ---- the piece that is counted

-- So many of each kind, and those of these lists.
unfoldable summed : Counts → List ℕ → List Item → List (List ℕ) → Counts
summed c ds is ls =
    record {
      events = c.events + length ds;
      items = c.items + length is;
      messages = c.messages + length ls;
      text = c.text + length (text_bytes ls);
    }

module _ (c : Counts) where
  summed-none : c ≡ summed c [] [] []
  unfolding summed text_bytes
  summed-none =
      let events : c.events + 0 ≡ c.events = omega arith in
      let items : c.items + 0 ≡ c.items = omega arith in
      let messages : c.messages + 0 ≡ c.messages = omega arith in
      let text : c.text + 0 ≡ c.text = omega arith in
      rw (events, items, messages, text)

  module _ (ds : List ℕ) (is : List Item) (ls : List (List ℕ)) where
    summed-event : (d : ℕ) → summed (counted_line (event d) c) ds is ls ≡ summed c (d ∷ ds) is ls
    unfolding summed counted_line
    summed-event d = let e : c.events + 1 + length ds ≡ c.events + suc (length ds) = omega arith in rw e

    summed-send : (d n : ℕ) (i : Item) → summed (counted_line (send d n) c) ds is ls ≡ summed c ds (i ∷ is) ls
    unfolding summed counted_line
    summed-send d n i = let e : c.items + 1 + length is ≡ c.items + suc (length is) = omega arith in rw e

    summed-group : (d w v : ℕ) (i : Item) → summed (counted_line (group d w v) c) ds is ls ≡ summed c ds (i ∷ is) ls
    unfolding summed counted_line
    summed-group d w v i = let e : c.items + 1 + length is ≡ c.items + suc (length is) = omega arith in rw e

    summed-message : (l : List ℕ) → summed (counted_line (message l) c) ds is ls ≡ summed c ds is (l ∷ ls)
    unfolding summed counted_line text_bytes
    summed-message l =
        let e : c.messages + 1 + length ls ≡ c.messages + suc (length ls) = omega arith in
        let t : c.text + length l + length (text_bytes ls) ≡ c.text + length (l ++ text_bytes ls) = omega (arith, length-append l (text_bytes ls)) in
        rw (e, t)

counted-summed : (c : Counts) (e p depth : ℕ) (s : Script) → counted_from c s ≡ summed c (durations_of s) (items_of e p depth s) (labels_of s)
unfolding counted_line counted_from durations_of items_of labels_of
counted-summed c e p depth done = summed-none c
counted-summed c e p depth (fault left) = summed-none c
counted-summed c e p depth (more heading s) = counted-summed c e p depth s
counted-summed c e p depth (more (message l) s) = counted-summed (counted_line (message l) c) e p depth s ∙ summed-message c _ _ _ l
counted-summed c e p depth (more (event g) s) = counted-summed (counted_line (event g) c) (suc e) p depth s ∙ summed-event c _ _ _ g
counted-summed c e p depth (more (part q) s) = counted-summed c e q depth s
counted-summed c e p depth (more (send d n) s) = counted-summed (counted_line (send d n) c) e p depth s ∙ summed-send c _ _ _ d n _
counted-summed c e p depth (more (group d w v) s) = counted-summed (counted_line (group d w v) c) e p (suc depth) s ∙ summed-group c _ _ _ d w v _
counted-summed c e p depth (more close s) = counted-summed c e p (depth - 1) s

-- The lines of a script, counted from nothing, are the counts of its piece.
pub counted-piece : (s : Script) → counted_from uncounted s ≡ counts_in (piece_of s)
unfolding counts_in piece_of summed
counted-piece s = simp zero-add at (counted-summed uncounted 0 0 0 s)
