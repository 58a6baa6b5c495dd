-- The text of a piece, "the one form".
use Rattle.std.specs.Prelude.{ℕ, zero, suc, ◌+◌, ◌-◌, ◌*◌, List, [], ◌∷◌, ◌++◌, eqb, length, take, drop, replicate, get_or}
use Rattle.base.specs.Tests.{pick}
use Rattle.ascii.specs.Words.{space, newline}
use Rattle.ascii.specs.Text.{bytes_of}
use Rattle.ascii.specs.Decimals.{decimal}
use Rattle.tokens.specs.Quoted.{quoted}
use Rattle.page.specs.declared.Item.{Item}
use Rattle.items.specs.Items.{is_action, within_of}
use Rattle.score.specs.Piece.{Piece}
use Rattle.text.specs.Words.{loose_word, tight_word, local_word, global_word, partial_word, causal_word}
use Rattle.text.specs.Grammar.{Line, heading, message, event, part, send, group, close}
use Rattle.text.specs.Beats.{beats_text}

-- ---- words: "Both words are always written, loose and local too"

unfoldable pub synchrony_word : ℕ → List ℕ
synchrony_word zero = loose_word
synchrony_word (suc n) = tight_word

unfoldable pub error_word : ℕ → List ℕ
error_word zero = local_word
error_word (suc zero) = global_word
error_word (suc (suc zero)) = partial_word
error_word (suc (suc (suc n))) = causal_word

-- ---- a line's text

-- Where a line stands: behind so many messages and so many events, within so many groups.
pub record Spot : Type 0 where
  pub messages : ℕ
  pub events : ℕ
  pub depth : ℕ

-- "items with two blanks more for each depth, from four"
unfoldable pub indent : (depth : ℕ) → List ℕ
indent depth = replicate (4 + 2 * depth) space

-- ` # ` and what the line is about, "so that the page can be read without counting"; "Every line ends in a newline."
unfoldable pub remark : List ℕ → List ℕ
remark bs = bytes_of " # " ++ (bs ++ (newline ∷ []))

unfoldable pub line_text : (labels : List (List ℕ)) → Spot → Line → List ℕ
line_text ls s heading = bytes_of "messages\n"
line_text ls s (message l) = bytes_of "  " ++ (decimal s.messages ++ (bytes_of " " ++ (quoted l ++ bytes_of "\n")))
line_text ls s (event g) = bytes_of "event " ++ (beats_text g ++ remark (decimal (suc s.events)))
line_text ls s (part p) = bytes_of "  part " ++ (decimal p ++ bytes_of "\n")
line_text ls s (send d n) = indent s.depth ++ (beats_text d ++ (bytes_of " send " ++ (decimal n ++ remark (get_or ls n []))))
line_text ls s (group d w v) =
    indent s.depth ++ (beats_text d ++ (bytes_of " group " ++ (synchrony_word w ++ (bytes_of " " ++ (error_word v ++ bytes_of " {\n")))))
line_text ls s close = indent (s.depth - 1) ++ bytes_of "}\n"

unfoldable pub behind_line : Line → Spot → Spot
behind_line heading s = s
behind_line (message l) s = record { messages = suc s.messages; events = s.events; depth = s.depth }
behind_line (event g) s = record { messages = s.messages; events = suc s.events; depth = s.depth }
behind_line (part p) s = s
behind_line (send d n) s = s
behind_line (group d w v) s = record { messages = s.messages; events = s.events; depth = suc s.depth }
behind_line close s = record { messages = s.messages; events = s.events; depth = s.depth - 1 }

unfoldable pub text_of : (labels : List (List ℕ)) → Spot → List Line → List ℕ
text_of ls s [] = []
text_of ls s (l ∷ rest) = line_text ls s l ++ text_of ls (behind_line l s) rest

-- ---- the lines of a piece

-- Each item, then those within it and their closing brace, then those after it. The first number only bounds the recursion, and is at least their count.
unfoldable pub item_lines : ℕ → List Item → List Line
item_lines zero is = []
item_lines (suc n) [] = []
item_lines (suc n) (i ∷ is) =
    pick (is_action i)
    (send i.delay.0 i.last ∷ item_lines n is)
    (group i.delay.0 i.synchrony i.error ∷ (item_lines n (take i.last is) ++ (close ∷ item_lines n (drop i.last is))))

-- A top item and those within it.
unfoldable pub top_lines : Item → List Item → List Line
top_lines i is = item_lines (suc (within_of i)) (i ∷ take (within_of i) is)

-- "`part P` where an event's first top item stands or the part changes": standing is 1 more than the part of the top item before, 0 at an event's first.
unfoldable pub part_line : (standing part : ℕ) → List Line
part_line standing p = pick (eqb standing (suc p)) [] (part p ∷ [])

-- The next event, if there is one.
unfoldable pub later_events : (durations : List ℕ) → (ℕ → List ℕ → List Line) → List Line
later_events [] next = []
later_events (d ∷ ds) next = next d ds

-- The lines behind event e: its top items, then the events after it, whose durations these are. The first number only bounds the recursion, and is above the
-- count of both.
unfoldable pub page_lines : ℕ → (e standing : ℕ) → (durations : List ℕ) → List Item → List Line
page_lines zero e standing ds is = []
page_lines (suc n) e standing ds [] = later_events ds (λ d later. event d ∷ page_lines n (suc e) 0 later [])
page_lines (suc n) e standing ds (i ∷ is) =
    pick (eqb i.event e)
    (part_line standing i.part ++ (top_lines i is ++ page_lines n e (suc i.part) ds (drop (within_of i) is)))
    (later_events ds (λ d later. event d ∷ page_lines n (suc e) 0 later (i ∷ is)))

unfoldable pub message_lines : List (List ℕ) → List Line
message_lines [] = []
message_lines (l ∷ ls) = message l ∷ message_lines ls

unfoldable pub lines : Piece → List Line
lines p = heading ∷ (message_lines p.labels ++ page_lines (suc (length p.durations + length p.items)) 0 0 p.durations p.items)

-- Before the first line.
abbrev pub outset : Spot
outset = record { messages = 0; events = 0; depth = 0 }

unfoldable pub written : Piece → List ℕ
written p = text_of p.labels outset (lines p)
