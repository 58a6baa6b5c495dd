-- Number 10's rule says yes of just the words whose header keeps each of its limits: from the rule to the limits, and back.
-- Assumes nothing.
use mathlib.Core.Path.{◌≡◌, sym}
use mathlib.Core.Bool.{true}
use mathlib.Core.List.{List}
use Prim.Native.Nat.{ℕ}
use borrow.Author.Tests.{leb-true, le-leb, eqb-true, eq-eqb}
use Rattle.base.proofs.TestLaws.{every-end, every-pass, every-head, every_rest, between_in, between-low, between-high}
use Rattle.session.specs.Layout.{most_tempo}
use Rattle.session.specs.Session.{is_session}
use Rattle.session.specs.Inner.{Header}

ruleset passed = (every-end, every-pass, between_in, eq-eqb, le-leb)

module _ (m : List ℕ) where
  pub header-session : Header m → is_session m ≡ true
  unfolding is_session
  header-session h =
      let s : true ≡ is_session m = search passed depth 13 in sym s

  pub session-header : is_session m ≡ true → Header m
  unfolding is_session
  session-header e =
      let e₁ = every_rest _ _ e in
      let e₂ = every_rest _ _ e₁ in
      let e₃ = every_rest _ _ e₂ in
      let e₄ = every_rest _ _ e₃ in
      let e₅ = every_rest _ _ e₄ in
      let e₆ = every_rest _ _ e₅ in
      let e₇ = every_rest _ _ e₆ in
      let e₈ = every_rest _ _ e₇ in
      record {
        marked = eqb-true _ _ (every-head _ _ e);
        some = between-low 1 256 _ (every-head _ _ e₁);
        events = between-high 1 256 _ (every-head _ _ e₁);
        items = leb-true _ _ (every-head _ _ e₂);
        parts = leb-true _ _ (every-head _ _ e₃);
        grace = leb-true _ _ (every-head _ _ e₄);
        clock = leb-true _ _ (every-head _ _ e₅);
        moving = between-low 1 most_tempo _ (every-head _ _ e₆);
        tempo = between-high 1 most_tempo _ (every-head _ _ e₆);
        last = leb-true _ _ (every-head _ _ e₇);
        total = leb-true _ _ (every-head _ _ e₈);
      }
