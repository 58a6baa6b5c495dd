-- "Beats in lowest terms, without `/1`."
use Rattle.std.specs.Prelude.{ℕ, zero, suc, ◌-◌, ◌*◌, ◌/◌, ◌%◌, List, [], ◌∷◌, ◌++◌, eqb}
use Rattle.base.specs.Tests.{pick}
use Rattle.ascii.specs.Decimals.{decimal}
use Rattle.tokens.specs.Bytes.{slash}
use Rattle.tokens.specs.Beats.{grains_of_a_beat}

-- The first of the count numbers from d on of which so many grains are a whole number of beats; the number behind them where none is.
unfoldable pub least_from : (count d grains : ℕ) → ℕ
least_from zero d g = d
least_from (suc n) d g = pick (eqb (g * d % grains_of_a_beat) 0) d (least_from n (suc d) g)

-- The least denominator. A beat's grains are one, so no more are tried.
unfoldable pub denominator : ℕ → ℕ
denominator g = least_from (grains_of_a_beat - 1) 1 g

unfoldable pub numerator : ℕ → ℕ
numerator g = g * denominator g / grains_of_a_beat

unfoldable pub over : ℕ → List ℕ
over d = pick (eqb d 1) [] (slash ∷ decimal d)

unfoldable pub beats_text : ℕ → List ℕ
beats_text g = decimal (numerator g) ++ over (denominator g)
