-- "D is the set of events heard. For a missed i, M(i) is the first heard event after i; without one, i yields nothing yet."
use Rattle.std.specs.Prelude.{ℕ, true, false, List, [], ◌∷◌, ltb, eqb}
pub use Rattle.rules.specs.declared.Taken.{Taken}
pub use Rattle.rules.specs.declared.Taken.TheVariants.{Heard as heard, Missed as missed, Unsettled as unsettled}

-- D is the list of the events heard, which rises: the first of them that is not before i decides.
unfoldable pub taken : List ℕ → ℕ → Taken
taken [] i = unsettled
taken (d ∷ D) i = let r = taken D i in elim (ltb i d) [ true ↦ missed d | false ↦ elim (eqb i d) [ true ↦ heard | false ↦ r ] ]
