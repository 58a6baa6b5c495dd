-- What an answer says of the list after the values, for the crates above.
-- Assumes nothing.
use mathlib.Core.Path.{◌≡◌, refl, sym, ap, ◌∙◌}
use mathlib.Core.Bool.{Bool, true, false}
use mathlib.Core.List.{List}
use Prim.Native.Nat.{ℕ, ◌*◌, ◌≤◌}
use native.Mathlib.Omega.{arith}
use lib.IntN.{ℤ}
use lib.ListN.{length, take}
use Rattle.std.specs.Prelude.{Option, Some, None}
use Rattle.base.specs.Tests.{pick}
use Rattle.contents.specs.Limits.{message_size, most_messages, most_text}
use Rattle.unfolding.specs.Messages.{Messages, entries_bytes, with_values, numbers_of}
use Rattle.naming.specs.declared.Named.{Named}
use Rattle.naming.specs.Named.{fits, naming_of, Names}
use Rattle.naming.proofs.GrowthLaws.{fits-messages, fits-text}

-- The counts and bytes that a call leaves that answers so many messages and bytes of text, for the list that the values make.
pub record NamedAs (k : Messages) (e l : List ℕ) (a b : ℕ) : Type 0 where
  pub fitting : fits k ≡ true
  pub count : a ≡ length k.entries
  pub size : b ≡ length k.text
  pub few : a ≤ most_messages
  pub short : b ≤ most_text
  pub entries : take (message_size * a) e ≡ entries_bytes k.entries
  pub text : take b l ≡ k.text

answer-named : (k : Messages) (a : Named) → Some a ≡ naming_of k → (fits k ≡ true) × (a.messages ≡ length k.entries) × (a.text ≡ length k.text)
unfolding naming_of pick
answer-named k a p = go (fits k) refl p where
  go : (t : Bool) → fits k ≡ t → ◌≡◌ {A = Option Named} (Some a) (pick t (Some (record { messages = length k.entries; text = length k.text })) None)
      → (fits k ≡ true) × (a.messages ≡ length k.entries) × (a.text ≡ length k.text)
  go true e q =
      let s : ◌≡◌ {A = Named} a (record { messages = length k.entries; text = length k.text }) = cc in
      (e, ap (λ (x : Named). x.messages) s, ap (λ (x : Named). x.text) s)
  go false e q = let z : ◌≡◌ {A = ℕ} 0 1 = cc in absurd (omega arith)

answer-over : (k : Messages) → None ≡ naming_of k → fits k ≡ false
unfolding naming_of pick
answer-over k p = go (fits k) refl p where
  go : (t : Bool) → fits k ≡ t → ◌≡◌ {A = Option Named} None (pick t (Some (record { messages = length k.entries; text = length k.text })) None) → fits k ≡ false
  go true e q = let z : ◌≡◌ {A = ℕ} 0 1 = cc in absurd (omega arith)
  go false e q = e

module _ (m : Messages) (vs : List ℤ) (count : ℕ) (e l ns : List ℕ) (r : Option Named) (names : Names m vs count e l ns r) where
  pub told_over : r ≡ None → fits (with_values m vs) ≡ false
  told_over p = answer-over (with_values m vs) (sym p ∙ names.answer)

  module _ (a : Named) (p : r ≡ Some a) where
    pub told_named : NamedAs (with_values m vs) e l a.messages a.text
    told_named =
        let t = answer-named (with_values m vs) a (sym p ∙ names.answer) in
        let f = fits-messages (with_values m vs) t.0 in
        let g = fits-text (with_values m vs) t.0 in
        let c : a.messages ≡ length (with_values m vs).entries = t.1 in
        let s : a.text ≡ length (with_values m vs).text = t.2 in
        record {
          fitting = t.0;
          count = c;
          size = s;
          few = omega arith;
          short = omega arith;
          entries = rw c (names.entries_stand t.0);
          text = rw s (names.text_stands t.0);
        }

    pub told-numbers : take count ns ≡ numbers_of m vs
    told-numbers = names.numbers_stand told_named.fitting
