-- What a caller knows of a label that was read: its size is what was told, it takes more bytes of the text than that, and it can be copied.
-- Assumes nothing.
use Rattle.std.specs.Prelude.{Result, Ok}
use mathlib.Core.Path.{◌≡◌, sym, ◌∙◌}
use mathlib.Core.List.{List}
use Prim.Native.Nat.{ℕ, ◌+◌, ◌<◌, ◌≤◌}
use native.Mathlib.Omega.{arith}
use lib.ListN.{length, drop, length-drop}
use Rattle.tokens.specs.declared.Token.{Token}
use Rattle.tokens.specs.Tokens.{Read, got, stop, label, is_read, bytes_in}
use Rattle.tokens.specs.Asked.{sized_from, Sizes, Copyable}
use Rattle.tokens.proofs.ShorterLaws.{read-got, sizes-within, label-fewer, fewer-left}

sized-got : (r : Read (List ℕ)) (n : ℕ) (left : List ℕ) → sized_from 0 r ≡ got n left → r ≡ got (bytes_in r) left
unfolding sized_from bytes_in
sized-got (got l rest) n left e = let z : rest ≡ left = cc in rw z
sized-got (stop rest) n left e = let z : ◌≡◌ {A = ℕ} 0 1 = cc in absurd (omega arith)

sized-size : (r : Read (List ℕ)) (n : ℕ) (left : List ℕ) → sized_from 0 r ≡ got n left → n ≡ length (bytes_in r)
unfolding sized_from bytes_in
sized-size (got l rest) n left e = let z : 0 + length l ≡ n = cc in omega arith
sized-size (stop rest) n left e = let z : ◌≡◌ {A = ℕ} 0 1 = cc in absurd (omega arith)

module _ (t : List ℕ) (at : ℕ) (v : Result Token ℕ) (s : Sizes t (label (drop at t)) v) (k : Token) (p : v ≡ Ok k) where
  told : sized_from 0 (label (drop at t)) ≡ got k.value (drop k.next t)
  told = sym s.says ∙ read-got t v k p

  pub label-got : label (drop at t) ≡ got (bytes_in (label (drop at t))) (drop k.next t)
  label-got = sized-got _ _ _ told

  pub label-size : k.value ≡ length (bytes_in (label (drop at t)))
  label-size = sized-size _ _ _ told

  -- The label has more bytes in the text than it stands for: its quotes, and the backslashes of its escapes.
  pub label-onward : at + k.value < k.next
  label-onward =
      let l = fewer-left _ _ (label-fewer (drop at t)) label-got in
      omega (arith, label-size, sizes-within t v _ s k p, length-drop at t, length-drop k.next t)

module _ (t : List ℕ) (at : ℕ) (o : List ℕ) (to : ℕ) where
  pub copyable : (l left : List ℕ) → label (drop at t) ≡ got l left → to + length l ≤ length o → Copyable t at o to
  unfolding is_read bytes_in
  copyable l left e p = record { labelled = rw e; room = rw e p }

  pub copyable-sized : (v : Result Token ℕ) → Sizes t (label (drop at t)) v → (k : Token) → v ≡ Ok k → to + k.value ≤ length o → Copyable t at o to
  copyable-sized v s k r p = copyable _ _ (label-got t at v s k r) (omega (arith, label-size t at v s k r))
