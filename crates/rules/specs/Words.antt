-- The words of a group: "synchrony (0 loose, 1 tight), error word (0 local, 1 global, 2 partial, 3 causal)".
use Rattle.std.specs.Prelude.{ℕ, zero, suc}
pub use Rattle.rules.specs.declared.Synchrony.{Synchrony}
pub use Rattle.rules.specs.declared.Synchrony.TheVariants.{Loose as loose, Tight as tight}
pub use Rattle.rules.specs.declared.ErrorWord.{ErrorWord}
pub use Rattle.rules.specs.declared.ErrorWord.TheVariants.{Local as local, Global as global, Partial as partial, Causal as causal}

unfoldable pub synchrony_of : ℕ → Synchrony
synchrony_of zero = loose
synchrony_of (suc n) = tight

unfoldable pub error_of : ℕ → ErrorWord
error_of zero = local
error_of (suc zero) = global
error_of (suc (suc zero)) = partial
error_of (suc (suc (suc n))) = causal
