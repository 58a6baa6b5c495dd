-- What the inner functions answer. No promise of a line needs it.
use Rattle.std.specs.Prelude.{ℕ, zero, suc, ◌+◌, ◌*◌, List, [], ◌∷◌, ◌++◌, set, get_or}
use Rattle.page.specs.declared.Item.{Item}
use Rattle.ascii.specs.Words.{space}
use Rattle.ascii.specs.Decimals.{most_places, decimal}

-- A mark at the part of each item.
unfoldable pub marked : List ℕ → List Item → List ℕ
marked marks [] = marks
marked marks (i ∷ is) = marked (set marks i.part 1) is

-- A part as it is told, where it has a mark.
unfoldable pub part_words : (mark part : ℕ) → List ℕ
part_words zero part = []
part_words (suc m) part = space ∷ decimal part

-- The first so many parts, each by its mark.
unfoldable pub marks_told : (marks : List ℕ) → ℕ → List ℕ
marks_told marks zero = []
marks_told marks (suc k) = marks_told marks k ++ part_words (get_or marks k 0) k

-- There are 16 parts, and each takes a space and two digits at most.
abbrev pub part_count : ℕ
part_count = 16

abbrev pub part_room : ℕ
part_room = 3

-- Room for all of them, with that for laying the last one's number.
abbrev pub parts_room : ℕ
parts_room = part_room * part_count + most_places

-- Room for the four counts: their words, and four numbers of 20 digits.
abbrev pub counts_room : ℕ
counts_room = 43 + 4 * most_places
