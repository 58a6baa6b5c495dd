-- Links followed up to what they lead to in the end: which are followed, and how many.
use Rattle.std.specs.Prelude.{ℕ, ◌≤◌, Bool, true, false, cond, ltb, ℤ, pos, Option, Some, None, Result, IfOk}
use Rattle.links.specs.Looking.{way_of}
use Rattle.links.specs.declared.looking.Kind.{Kind}
use Rattle.links.specs.declared.looking.Kind.TheVariants as kind
use Rattle.links.specs.declared.looking.Way.{Way}
use Rattle.links.specs.declared.looking.Way.TheVariants as way

abbrev pub is_link : Kind → Bool
is_link kind.Missing = false
is_link (kind.Regular bits) = false
is_link kind.Folder = false
is_link kind.Link = true
is_link kind.Other = false
is_link (kind.Unseen error) = false

-- As many links are followed as the system follows, and the error number of one more.
abbrev pub most_links : ℕ
most_links = 40

abbrev pub too_many_links : ℕ
too_many_links = 40

-- A link is followed unless it is the system's own. All else is where the file is saved.
unfoldable pub turn_of : Kind → (own : Bool) (followed : ℕ) → Option Way
turn_of kind own followed =
    cond (is_link kind) (cond own (Some (way_of kind)) (cond (ltb followed most_links) None (Some (way.Barred (pos too_many_links))))) (Some (way_of kind))

-- How many bytes there are to go on with, where there are any.
abbrev pub AtMost : ℕ → Result ℕ ℤ → Type 0
AtMost most next = IfOk next (λ n. n ≤ most)
