-- Laws of the table of contents: a test against a computed place, and what right contents say of the counts and of the file's size.
-- Assumes nothing.
use mathlib.Core.Path.{◌≡◌, sym, ◌∙◌}
use mathlib.Core.Bool.{true, false}
use Prim.Native.Nat.{ℕ}
use lib.Dec.{eqb}
use borrow.Author.Tests.{eq-eqb, ne_eqb, leb-true, eqb-true}
use Rattle.std.specs.Prelude.{Result, Ok}
use Rattle.base.specs.Checks.{fine}
use Rattle.base.proofs.TestLaws.{between-low, between-high}
use Rattle.base.proofs.CheckLaws.{first_rest, first_holds}
use Rattle.contents.specs.declared.Fault.{Fault}
use Rattle.contents.specs.declared.Counts.{Counts}
use Rattle.contents.specs.declared.Offsets.{Offsets}
use Rattle.contents.specs.Replies.{verdict_of}
use Rattle.contents.specs.Contents.{counts_right, offsets_right, events_at, items_at, messages_at, text_at, size_of}
use Rattle.contents.specs.Inner.{Counted, Sized}
use Rattle.contents.proofs.Verdicts.{verdict-fine, verdict-end, verdict-pass, verdict-stop}

-- ---- from the tests to the answer, where a call computed what a number is held against

pub told_same : (a b r : ℕ) → r ≡ b → a ≡ r → eqb a b ≡ true
told_same a b r e p = eq-eqb a b (p ∙ e)

pub told-other : (a b r : ℕ) → r ≡ b → (a ≡ r → ⊥) → eqb a b ≡ false
told-other a b r e p = ne_eqb a b (λ q. p (q ∙ sym e))

pub ruleset places = (verdict-end, verdict-pass, verdict-stop, told_same, told-other, eq-eqb, ne_eqb)

-- ---- from the answer to the counts and the offsets

pub counts-held : (c : Counts) → counts_right c ≡ fine → Counted c
unfolding counts_right
counts-held c e =
    let events = first_holds _ _ _ e in
    let e₁ = first_rest _ _ e in
    let e₂ = first_rest _ _ e₁ in
    let e₃ = first_rest _ _ e₂ in
    record {
      some = between-low _ _ _ events;
      events = between-high _ _ _ events;
      items = leb-true _ _ (first_holds _ _ _ e₁);
      messages = leb-true _ _ (first_holds _ _ _ e₂);
      text = leb-true _ _ (first_holds _ _ _ e₃);
    }

-- The offsets that a table of contents with these counts has, and the file's size.
pub record RightOffsets (o : Offsets) (c : Counts) (size : ℕ) : Type 0 where
  pub events : o.events ≡ events_at
  pub items : o.items ≡ items_at c
  pub messages : o.messages ≡ messages_at c
  pub text : o.text ≡ text_at c
  pub whole : size ≡ size_of c

pub offsets-held : (o : Offsets) (c : Counts) (size : ℕ) → offsets_right o c size ≡ fine → RightOffsets o c size
unfolding offsets_right
offsets-held o c size e =
    let e₁ = first_rest _ _ e in
    let e₂ = first_rest _ _ e₁ in
    let e₃ = first_rest _ _ e₂ in
    let e₄ = first_rest _ _ e₃ in
    record {
      events = eqb-true _ _ (first_holds _ _ _ e);
      items = eqb-true _ _ (first_holds _ _ _ e₁);
      messages = eqb-true _ _ (first_holds _ _ _ e₂);
      text = eqb-true _ _ (first_holds _ _ _ e₃);
      whole = eqb-true _ _ (first_holds _ _ _ e₄);
    }

pub counts-told : (v : Result (Unit {0}) Fault) (c : Counts) → v ≡ verdict_of (counts_right c) → v ≡ Ok tt → Counted c
counts-told v c e p = counts-held c (verdict-fine (counts_right c) v e p)

pub sized-told : (v w : Result (Unit {0}) Fault) (o : Offsets) (c : Counts) (size : ℕ) → v ≡ verdict_of (counts_right c) → v ≡ Ok tt → w ≡ verdict_of (offsets_right o c size) → w ≡ Ok tt → Sized c size
sized-told v w o c size e p f q = record { counted = counts-told v c e p; whole = (offsets-held o c size (verdict-fine (offsets_right o c size) w f q)).whole }
