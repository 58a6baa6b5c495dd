-- What a text says: a piece, or the place of its first fault.
use Rattle.std.specs.Prelude.{ℕ, zero, suc, ◌-◌, List, [], ◌∷◌, length}
use Rattle.page.specs.declared.Item.{Item}
use Rattle.score.specs.Piece.{Piece}
use Rattle.text.specs.declared.Stage.TheVariants.{Start}
use Rattle.text.specs.Grammar.{heading, message, event, part, send, group, close, Script, done, more, fault, script}

-- "The message list comes first, labels in quotes".
unfoldable pub labels_of : Script → List (List ℕ)
labels_of done = []
labels_of (fault left) = []
labels_of (more (message l) s) = l ∷ labels_of s
labels_of (more heading s) = labels_of s
labels_of (more (event g) s) = labels_of s
labels_of (more (part p) s) = labels_of s
labels_of (more (send d n) s) = labels_of s
labels_of (more (group d w v) s) = labels_of s
labels_of (more close s) = labels_of s

unfoldable pub durations_of : Script → List ℕ
durations_of done = []
durations_of (fault left) = []
durations_of (more (event g) s) = g ∷ durations_of s
durations_of (more heading s) = durations_of s
durations_of (more (message l) s) = durations_of s
durations_of (more (part p) s) = durations_of s
durations_of (more (send d n) s) = durations_of s
durations_of (more (group d w v) s) = durations_of s
durations_of (more close s) = durations_of s

-- How many items stand before the brace that closes the group around them, so many groups being open within it.
unfoldable pub within : (depth : ℕ) → Script → ℕ
within depth done = 0
within depth (fault left) = 0
within depth (more (send d n) s) = suc (within depth s)
within depth (more (group d w v) s) = suc (within (suc depth) s)
within zero (more close s) = 0
within (suc depth) (more close s) = within depth s
within depth (more heading s) = within depth s
within depth (more (message l) s) = within depth s
within depth (more (event g) s) = within depth s
within depth (more (part p) s) = within depth s

-- "A top item names its event. An item within a group has event 0".
unfoldable pub event_of : (depth event : ℕ) → ℕ
event_of zero e = e
event_of (suc depth) e = 0

-- "`part` says the part of the top items after it, up to the next `part` or `event`."
unfoldable pub items_of : (event part depth : ℕ) → Script → List Item
items_of e p depth done = []
items_of e p depth (fault left) = []
items_of e p depth (more heading s) = items_of e p depth s
items_of e p depth (more (message l) s) = items_of e p depth s
items_of e p depth (more (event g) s) = items_of (suc e) p depth s
items_of e p depth (more (part q) s) = items_of e q depth s
items_of e p depth (more (send d n) s) =
    record { kind = 0; synchrony = 0; error = 0; part = p; delay = record { 0 = d }; event = event_of depth e; last = n } ∷ items_of e p depth s
items_of e p depth (more (group d w v) s) =
    record { kind = 1; synchrony = w; error = v; part = p; delay = record { 0 = d }; event = event_of depth e; last = within 0 s } ∷ items_of e p (suc depth) s
items_of e p depth (more close s) = items_of e p (depth - 1) s

unfoldable pub piece_of : Script → Piece
piece_of s = record { durations = durations_of s; items = items_of 0 0 0 s; labels = labels_of s }

pub data Reading : Type 0 where
  piece : Piece → Reading
  unread : (at : ℕ) → Reading

-- A fault is where the bytes left begin: so many stand before it.
unfoldable pub told : (size : ℕ) → Piece → Script → Reading
told size p done = piece p
told size p (more l s) = told size p s
told size p (fault left) = unread (size - length left)

unfoldable pub said : List ℕ → Reading
said text = told (length text) (piece_of (script Start text)) (script Start text)
