-- Whoever reads a text by these contracts tells the same and leaves the same room.
-- Assumes nothing.
use Rattle.std.specs.Prelude.{Result}
use mathlib.Core.Path.{◌≡◌, sym, ◌∙◌}
use mathlib.Core.List.{List}
use Prim.Native.Nat.{ℕ}
use lib.ListN.{length}
use Rattle.text.specs.declared.TextError.{TextError}
use Rattle.text.specs.Said.{said}
use Rattle.text.specs.Transcripts.{room_left, file_of, read_answer}

module _ (t m : List ℕ) where
  pub one-outcome : (new other : List ℕ) (r s : Result ℕ TextError) → r ≡ read_answer (length m) t → new ≡ room_left r (file_of (said t)) m → s ≡ read_answer (length m) t
      → other ≡ room_left s (file_of (said t)) m → (r ≡ s) × (new ≡ other)
  one-outcome new other r s a b c d = (a ∙ sym c, cc)
