-- The file of a piece, and which pieces have one: "So every score has one file."
use Rattle.std.specs.Prelude.{ℕ, ◌+◌, ◌/◌, ◌%◌, ◌≡◌, Bool, true, List, [], ◌∷◌, ◌++◌, length}
use Rattle.page.specs.declared.Item.{Item}
use Rattle.base.specs.Tests.{every, between}
use Rattle.base.specs.Checks.{fine}
use Rattle.contents.specs.declared.Counts.{Counts}
use Rattle.contents.specs.Limits.{longest_label}
use Rattle.contents.specs.Contents.{counts_right, events_at, items_at, messages_at, text_at}
use Rattle.items.specs.Items.{items_right}
use Rattle.messages.specs.Messages.{readable}
use Rattle.score.specs.Events.{events_right}
use Rattle.score.specs.Piece.{Piece}

-- "Little-endian"
unfoldable pub le16 : ℕ → List ℕ
le16 n = n % 256 ∷ n / 256 ∷ []

unfoldable pub le32 : ℕ → List ℕ
le32 n = le16 (n % 65536) ++ le16 (n / 65536)

unfoldable pub contents_bytes : Counts → List ℕ
contents_bytes c =
    le32 events_at ++ (le32 c.events ++ (le32 (items_at c) ++ (le32 c.items ++ (le32 (messages_at c) ++ (le32 c.messages ++ (le32 (text_at c) ++ le32 c.text))))))

unfoldable pub duration_bytes : List ℕ → List ℕ
duration_bytes [] = []
duration_bytes (d ∷ ds) = le32 d ++ duration_bytes ds

unfoldable pub item_bytes : List Item → List ℕ
item_bytes [] = []
item_bytes (i ∷ is) = (i.kind ∷ i.synchrony ∷ i.error ∷ i.part ∷ []) ++ (le32 i.delay.0 ++ (le16 i.event ++ (le16 i.last ++ item_bytes is)))

-- "The first starts at 0, each next where the one before ends"
unfoldable pub entry_bytes : ℕ → List (List ℕ) → List ℕ
entry_bytes from [] = []
entry_bytes from (l ∷ ls) = le16 from ++ (le16 (length l) ++ entry_bytes (from + length l) ls)

unfoldable pub text_bytes : List (List ℕ) → List ℕ
text_bytes [] = []
text_bytes (l ∷ ls) = l ++ text_bytes ls

unfoldable pub counts_in : Piece → Counts
counts_in p = record { events = length p.durations; items = length p.items; messages = length p.labels; text = length (text_bytes p.labels) }

unfoldable pub encode : Piece → List ℕ
encode p = contents_bytes (counts_in p) ++ (duration_bytes p.durations ++ (item_bytes p.items ++ (entry_bytes 0 p.labels ++ text_bytes p.labels)))

-- "Length 1 to 48. Label bytes are 32 to 255 but not 127"
unfoldable pub labels_right : List (List ℕ) → Bool
labels_right [] = true
labels_right (l ∷ ls) = every (between 1 longest_label (length l) ∷ readable l ∷ labels_right ls ∷ [])

-- A piece within document 01's limits and rules, nesting and order included.
pub record Lawful (p : Piece) : Type 0 where
  pub counts : counts_right (counts_in p) ≡ fine
  pub durations : events_right events_at p.durations ≡ fine
  pub items : items_right (counts_in p) p.items ≡ fine
  pub labels : labels_right p.labels ≡ true
