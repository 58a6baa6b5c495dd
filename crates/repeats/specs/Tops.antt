-- The sequences of an unfolded score: "Each part has its own sequence at each event."
use Rattle.std.specs.Prelude.{ℕ, zero, suc, ◌+◌, Bool, List, [], ◌∷◌, eqb}
use Rattle.page.specs.declared.Item.{Item}
use Rattle.base.specs.Tests.{pick, every}
use Rattle.rules.specs.Page.{Entry}
use Rattle.unfolding.specs.Unfolded.{Unfolded, end, action, group, items}
use Rattle.repeats.specs.Sequences.{sequence}

-- A top item of event i and part p.
unfoldable pub belongs : (i p : ℕ) → Item → Bool
belongs i p x = every (eqb x.event i ∷ eqb x.part p ∷ [])

-- The top items, from the first on, that belong to event i and part p, each with what lies within it.
unfoldable pub front : (i p : ℕ) → Unfolded → Unfolded
front i p end = end
front i p (action x rest) = pick (belongs i p x) (action x (front i p rest)) end
front i p (group x body rest) = pick (belongs i p x) (group x body (front i p rest)) end

-- Those after them.
unfoldable pub back : (i p : ℕ) → Unfolded → Unfolded
back i p end = end
back i p (action x rest) = pick (belongs i p x) (back i p rest) (action x rest)
back i p (group x body rest) = pick (belongs i p x) (back i p rest) (group x body rest)

-- One sequence after the other, the first from page place p on. The first number only bounds the recursion, and is at least how many items there are.
unfoldable pub tops_of : (bound p : ℕ) → Unfolded → List Entry
tops_of zero p u = []
tops_of (suc n) p end = []
tops_of (suc n) p (action x rest) =
    let own = front x.event x.part rest in
    record { event = x.event; part = x.part; body = sequence p (action x own) } ∷ tops_of n (p + 1 + items own) (back x.event x.part rest)
tops_of (suc n) p (group x body rest) =
    let own = front x.event x.part rest in
    record { event = x.event; part = x.part; body = sequence p (group x body own) } ∷ tops_of n (p + 1 + (items body + items own)) (back x.event x.part rest)

unfoldable pub tops : Unfolded → List Entry
tops u = tops_of (items u) 0 u
