-- A line's pieces, in the order in which they are laid.
use Rattle.std.specs.Prelude.{ℕ, List, [], ◌∷◌, ◌++◌}
use Rattle.base.specs.Tests.{pick}
use Rattle.ascii.specs.Text.{bytes_of}
use Rattle.ascii.specs.Decimals.{decimal}
use Rattle.tokens.specs.Bytes.{backslash, is_escaped}
use Rattle.tokens.specs.Quoted.{quoted}
use Rattle.text.specs.Beats.{beats_text}
use Rattle.text.specs.Written.{synchrony_word, error_word, indent}

unfoldable pub joined : List (List ℕ) → List ℕ
joined [] = []
joined (x ∷ xs) = x ++ joined xs

-- ---- pieces

abbrev pub numbered : (word : List ℕ) → ℕ → List ℕ
numbered word n = joined (word ∷ decimal n ∷ [])

abbrev pub delayed : (depth delay : ℕ) → List ℕ
delayed depth d = joined (indent depth ∷ beats_text d ∷ [])

abbrev pub noted : List ℕ → List ℕ
noted bs = joined (bytes_of " # " ∷ bs ∷ bytes_of "\n" ∷ [])

-- A label's byte, behind a backslash where it needs one.
unfoldable pub marked : ℕ → List ℕ
marked b = pick (is_escaped b) (backslash ∷ b ∷ []) (b ∷ [])

-- ---- lines

abbrev pub heading_line : List ℕ
heading_line = bytes_of "messages\n"

abbrev pub message_line : ℕ → (label : List ℕ) → List ℕ
message_line n l = joined (numbered (bytes_of "  ") n ∷ bytes_of " " ∷ quoted l ∷ bytes_of "\n" ∷ [])

abbrev pub event_line : (grains number : ℕ) → List ℕ
event_line g n = joined (bytes_of "event " ∷ beats_text g ∷ numbered (bytes_of " # ") n ∷ bytes_of "\n" ∷ [])

abbrev pub part_text : ℕ → List ℕ
part_text p = joined (numbered (bytes_of "  part ") p ∷ bytes_of "\n" ∷ [])

abbrev pub send_line : (depth delay number : ℕ) → (label : List ℕ) → List ℕ
send_line depth d n l = joined (delayed depth d ∷ numbered (bytes_of " send ") n ∷ noted l ∷ [])

abbrev pub group_words : (synchrony error : ℕ) → List ℕ
group_words w v = joined (bytes_of " group " ∷ synchrony_word w ∷ bytes_of " " ∷ error_word v ∷ bytes_of " {\n" ∷ [])

abbrev pub group_line : (depth delay synchrony error : ℕ) → List ℕ
group_line depth d w v = joined (delayed depth d ∷ group_words w v ∷ [])

abbrev pub close_line : (depth : ℕ) → List ℕ
close_line depth = joined (indent depth ∷ bytes_of "}\n" ∷ [])
