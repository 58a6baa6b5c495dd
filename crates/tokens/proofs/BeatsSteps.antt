-- Each way in which a delay is read, in the code's own terms: what the calls told decides.
-- Assumes nothing.
use Rattle.std.specs.Prelude.{Result, Ok, Err}
use mathlib.Core.Path.{◌≡◌, refl, sym, ◌∙◌}
use mathlib.Core.Bool.{Bool, true, false}
use mathlib.Core.List.{List, [], ◌∷◌}
use Prim.Native.Nat.{ℕ, ◌+◌, ◌*◌, ◌/◌, ◌%◌, ◌<◌, ◌≤◌}
use native.Mathlib.Omega.{arith}
use lib.ListN.{length, drop, get_or, drop_of_length-le}
use lib.Dec.{eqb, ltb}
use borrow.Author.Tests.{lt-ltb, le-ltb, eq-eqb, ne_eqb, ltb-true}
use borrow.Author.Rules.{rules}
use Rattle.base.specs.Tests.{pick, every}
use Rattle.base.proofs.TestLaws.{pick-false}
use Rattle.ascii.proofs.WordSteps.{drop-next}
use Rattle.ascii.proofs.NumberSteps.{not-two}
use Rattle.tokens.specs.declared.Token.{Token}
use Rattle.tokens.specs.Bytes.{slash}
use Rattle.tokens.specs.Tokens.{Read, got, stop, onward, number}
use Rattle.tokens.specs.Beats.{grains_of_a_beat, field, is_fraction, valued, fraction, beats}
use Rattle.tokens.specs.Asked.{stopped, valued_as, as_read, met_at, value_in, Reads}
use Rattle.tokens.proofs.ShorterLaws.{read-got, read-stop, reads-within, reads-small, fault-within}

-- ---- the fraction's tests

module _ (at n d next : ℕ) where
  pub valued-zero : d ≡ 0 → Err at ≡ valued_as at n d next
  unfolding valued_as is_fraction every pick
  valued-zero p = rw p

  module _ (some : d ≡ 0 → ⊥) where
    p : 0 < d
    p = omega arith

    -- whatever is left over
    pub valued-part : (k : ℕ) → k < n * grains_of_a_beat % d → Err at ≡ valued_as at n d next
    unfolding valued_as is_fraction every pick
    valued-part k q = rw (lt-ltb 0 d p, ne_eqb (n * grains_of_a_beat % d) 0 (λ z. omega arith))

    pub valued-big : field ≤ n * grains_of_a_beat / d → Err at ≡ valued_as at n d next
    unfolding valued_as is_fraction every
    valued-big l =
        let b = not-two (eqb (n * grains_of_a_beat % d) 0) (ltb (n * grains_of_a_beat / d) field) (le-ltb _ _ l) in
        let f : is_fraction n d ≡ false = rw (lt-ltb 0 d p) b in
        pick-false _ _ _ _ f refl

    pub valued_read : n * grains_of_a_beat % d ≤ 0 → n * grains_of_a_beat / d < field → Ok (record { value = n * grains_of_a_beat / d; next = next }) ≡ valued_as at n d next
    unfolding valued_as is_fraction every pick
    valued_read q l = rw (lt-ltb 0 d p, eq-eqb (n * grains_of_a_beat % d) 0 (omega arith), lt-ltb (n * grains_of_a_beat / d) field l)

pub ruleset valuing = (valued-zero, valued-part, valued-big, valued_read, rules)

-- ---- what it tells

module _ (t : List ℕ) (at n d next : ℕ) where
  valued-says : as_read t (valued_as at n d next) ≡ valued (drop at t) n d (drop next t)
  unfolding as_read valued_as valued pick
  valued-says = go (is_fraction n d) where
    go : (a : Bool) → as_read t (pick a (Ok (record { value = n * grains_of_a_beat / d; next = next })) (stopped at))
        ≡ pick a (got (n * grains_of_a_beat / d) (drop next t)) (stop (drop at t))
    go true = refl
    go false = refl

  valued-within : at ≤ length t → next ≤ length t → met_at (valued_as at n d next) ≤ length t
  unfolding met_at valued_as pick
  valued-within p q = go (is_fraction n d) where
    go : (a : Bool) → met_at (pick a (Ok (record { value = n * grains_of_a_beat / d; next = next })) (stopped at)) ≤ length t
    go true = q
    go false = p

  valued-small : value_in (valued_as at n d next) < field
  unfolding value_in valued_as pick is_fraction every
  valued-small = go (ltb 0 d) (eqb (n * grains_of_a_beat % d) 0) (ltb (n * grains_of_a_beat / d) field) refl where
    go : (a b c : Bool) → ltb (n * grains_of_a_beat / d) field ≡ c
        → value_in (pick (every (a ∷ b ∷ c ∷ [])) (Ok (record { value = n * grains_of_a_beat / d; next = next })) (stopped at)) < field
    go true true true e = ltb-true _ _ e
    go true true false e = omega arith
    go true false c e = omega arith
    go false b c e = omega arith

  valued-reads : at ≤ length t → next ≤ length t → (what : Read ℕ) → valued (drop at t) n d (drop next t) ≡ what → Reads t field what (valued_as at n d next)
  valued-reads p q what e = record { says = valued-says ∙ e; within = valued-within p q; small = valued-small }

-- ---- a delay

module _ (t : List ℕ) (at : ℕ) (start : at ≤ length t) (v : Result Token ℕ) (first : Reads t field (number field (drop at t)) v) where
  pub beats-none : (w : Result Token ℕ) (i : ℕ) → v ≡ Err i → w ≡ Err i → Reads t field (beats (drop at t)) w
  unfolding beats onward as_read met_at value_in
  beats-none w i p e =
      let n : number field (drop at t) ≡ stop (drop i t) = sym first.says ∙ read-stop t v i p in
      rw e (record { says = rw n; within = fault-within t v field _ first i p; small = omega arith })

  module _ (m : Token) (p : v ≡ Ok m) where
    number-got : number field (drop at t) ≡ got m.value (drop m.next t)
    number-got = sym first.says ∙ read-got t v m p

    pub number-within : m.next ≤ length t
    number-within = reads-within t v field _ first m p

    pub beats-end : (w : Result Token ℕ) → length t ≤ m.next → w ≡ valued_as at m.value 1 m.next → Reads t field (beats (drop at t)) w
    unfolding beats onward fraction
    beats-end w q e =
        let z : drop m.next t ≡ [] = drop_of_length-le t q in
        rw e (valued-reads t at m.value 1 m.next start number-within _ (rw (number-got, z)))

    module _ (q : m.next < length t) where
      pub beats-whole : (w : Result Token ℕ) → (get_or t m.next 0 ≡ slash → ⊥) → w ≡ valued_as at m.value 1 m.next → Reads t field (beats (drop at t)) w
      unfolding beats onward fraction pick
      beats-whole w s e =
          rw e (valued-reads t at m.value 1 m.next start number-within _ (rw (number-got, drop-next t m.next q, ne_eqb (get_or t m.next 0) slash s)))

      module _ (s : get_or t m.next 0 ≡ slash) (d : Result Token ℕ) (second : Reads t field (number field (drop (m.next + 1) t)) d) where
        pub beats-no-over : (w : Result Token ℕ) (i : ℕ) → d ≡ Err i → w ≡ Err i → Reads t field (beats (drop at t)) w
        unfolding beats onward fraction pick as_read met_at value_in
        beats-no-over w i h e =
            let n : number field (drop (m.next + 1) t) ≡ stop (drop i t) = sym second.says ∙ read-stop t d i h in
            rw e (record { says = rw (number-got, drop-next t m.next q, eq-eqb (get_or t m.next 0) slash s, n); within = fault-within t d field _ second i h; small = omega arith })

        pub beats-over : (w : Result Token ℕ) (k : Token) → d ≡ Ok k → w ≡ valued_as at m.value k.value k.next → Reads t field (beats (drop at t)) w
        unfolding beats onward fraction pick
        beats-over w k h e =
            let n : number field (drop (m.next + 1) t) ≡ got k.value (drop k.next t) = sym second.says ∙ read-got t d k h in
            rw e (valued-reads t at m.value k.value k.next start (reads-within t d field _ second k h) _
            (rw (number-got, drop-next t m.next q, eq-eqb (get_or t m.next 0) slash s, n)))

pub ruleset delays = (beats-none, reads-within, reads-small, beats-end, beats-whole, beats-no-over, beats-over, rules)
