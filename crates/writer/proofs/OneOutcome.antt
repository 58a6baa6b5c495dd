-- No second outcome meets the contract of write_text.
-- Assumes nothing.
use Rattle.std.specs.Prelude.{Result}
use mathlib.Core.Path.{◌≡◌, sym, ◌∙◌}
use mathlib.Core.List.{List}
use Prim.Native.Nat.{ℕ}
use lib.ListN.{length}
use Rattle.score.specs.Piece.{decode}
use Rattle.text.specs.declared.TextError.{TextError}
use Rattle.text.specs.Written.{written}
use Rattle.text.specs.Transcripts.{room_left, write_answer}

module _ (f room : List ℕ) (r r' : Result ℕ TextError) (p : r ≡ write_answer (length room) f) (q : r' ≡ write_answer (length room) f) where
  pub one_answer : r ≡ r'
  one_answer = p ∙ sym q

  pub one-room : (n n' : List ℕ) → n ≡ room_left r (written (decode f)) room → n' ≡ room_left r' (written (decode f)) room → n ≡ n'
  one-room n n' e e' = e ∙ sym (rw (← one_answer) at e')
