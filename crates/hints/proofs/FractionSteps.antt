-- Each test of a fraction, in the code's own terms: what the calls told decides.
-- Assumes nothing.
use Rattle.std.specs.Prelude.{Result, Ok, Err, is_ok}
use mathlib.Core.Path.{◌≡◌, refl, sym, ◌∙◌}
use mathlib.Core.Bool.{Bool, true, false, not}
use mathlib.Core.List.{List, [], ◌∷◌}
use Prim.Native.Nat.{ℕ, ◌+◌, ◌-◌, ◌<◌, ◌≤◌}
use lib.ListN.{length, drop, get_or, drop_of_length-le}
use lib.Dec.{leb}
use lib.Seq.{drop-drop}
use borrow.Author.Tests.{eq-eqb, ne_eqb, le-leb, lt-leb}
use borrow.Author.Rules.{rules}
use Rattle.base.specs.Tests.{pick, every}
use Rattle.base.proofs.TestLaws.{every-pass, every-stop, every-last}
use Rattle.ascii.specs.Words.{space, begins}
use Rattle.ascii.specs.Numbers.{is_digit}
use Rattle.ascii.proofs.WordSteps.{drop-next}
use Rattle.tokens.specs.declared.Token.{Token}
use Rattle.tokens.specs.Bytes.{slash}
use Rattle.tokens.specs.Tokens.{left_by, Read, got, number}
use Rattle.tokens.specs.Beats.{field, beats}
use Rattle.tokens.specs.Asked.{as_read, Reads}
use Rattle.tokens.proofs.ShorterLaws.{read-got, reads-within}
use Rattle.hints.specs.Hints.{is_got, is_fractional, is_mixed, is_uneven}

-- Whether a token was read.
reads-got : (t : List ℕ) (limit : ℕ) (what : Read ℕ) (v : Result Token ℕ) → Reads t limit what v → is_ok v ≡ is_got what
unfolding is_got as_read
reads-got t limit what v s = go v s.says where
  go : (w : Result Token ℕ) → as_read t w ≡ what → is_ok w ≡ is_got what
  go (Ok k) e = rw (← e)
  go (Err i) e = rw (← e)

pub beats-told : (t bs : List ℕ) (v : Result Token ℕ) (r : Bool) → Reads t field (beats bs) v → r ≡ is_ok v → r ≡ is_got (beats bs)
beats-told t bs v r s e = e ∙ reads-got t field (beats bs) v s

-- ---- number "/" number

module _ (t : List ℕ) (at : ℕ) (v : Result Token ℕ) (first : Reads t field (number field (drop at t)) v) where
  pub fractional-none : (i : ℕ) → v ≡ Err i → false ≡ is_fractional (drop at t)
  unfolding is_fractional
  fractional-none i e =
      let n : is_ok v ≡ false = rw e in
      every-stop _ _ (sym (reads-got t field _ v first) ∙ n)

  module _ (m : Token) (some : v ≡ Ok m) where
    numbered : number field (drop at t) ≡ got m.value (drop m.next t)
    numbered = sym first.says ∙ read-got t v m some

    behind : (r : Bool) → r ≡ every (begins (slash ∷ []) (drop m.next t) ∷ is_got (number field (drop 1 (drop m.next t))) ∷ []) → r ≡ is_fractional (drop at t)
    unfolding is_fractional is_got left_by every
    behind r e = rw numbered e

    pub fractional-end : length t ≤ m.next → false ≡ is_fractional (drop at t)
    unfolding begins
    fractional-end p = behind false (every-stop _ _ (rw (drop_of_length-le t p)))

    module _ (more : m.next < length t) where
      pub fractional-whole : (get_or t m.next 0 ≡ slash → ⊥) → false ≡ is_fractional (drop at t)
      unfolding begins pick
      fractional-whole n = behind false (every-stop _ _ (rw (drop-next t m.next more, ne_eqb slash (get_or t m.next 0) (λ e. n (sym e)))))

      pub fractional-over : get_or t m.next 0 ≡ slash → (d : Result Token ℕ) (r : Bool) → Reads t field (number field (drop (m.next + 1) t)) d → r ≡ is_ok d → r ≡ is_fractional (drop at t)
      unfolding begins pick
      fractional-over e d r second f =
          let h : begins (slash ∷ []) (drop m.next t) ≡ true = rw (drop-next t m.next more, eq-eqb slash (get_or t m.next 0) (sym e)) in
          let l : drop 1 (drop m.next t) ≡ drop (m.next + 1) t = drop-drop 1 m.next t in
          behind r (every-pass _ _ _ h (every-last _ _ (rw l (f ∙ reads-got t field _ d second))))

pub ruleset fractions = (beats-told, reads-within, fractional-none, fractional-end, fractional-whole, fractional-over, rules)

-- ---- a digit, a space and a fraction

module _ (t : List ℕ) (at : ℕ) where
  pub mixed-front : at < 2 → false ≡ is_mixed t at
  unfolding is_mixed
  mixed-front p = every-stop _ _ (lt-leb 2 at p)

  module _ (p : 2 ≤ at) where
    pub mixed-joined : (get_or t (at - 1) 0 ≡ space → ⊥) → false ≡ is_mixed t at
    unfolding is_mixed every
    mixed-joined n = rw (ne_eqb (get_or t (at - 1) 0) space n) (go (leb 2 at) (is_digit (get_or t (at - 2) 0)) (is_fractional (drop at t)) (is_got (beats (drop at t)))) where
      go : (a b c d : Bool) → false ≡ every (a ∷ b ∷ false ∷ c ∷ d ∷ [])
      go true true c d = refl
      go true false c d = refl
      go false b c d = refl

    module _ (apart : get_or t (at - 1) 0 ≡ space) (a : Bool) (told : a ≡ is_digit (get_or t (at - 2) 0)) where
      pub mixed-first : a ≡ false → false ≡ is_mixed t at
      unfolding is_mixed
      mixed-first n = every-pass _ _ _ (le-leb 2 at p) (every-stop _ _ (sym told ∙ n))

      module _ (digit : a ≡ true) (c : Bool) (over : c ≡ is_fractional (drop at t)) where
        spaced : (r : Bool) → r ≡ every (is_fractional (drop at t) ∷ is_got (beats (drop at t)) ∷ []) → r ≡ is_mixed t at
        unfolding is_mixed
        spaced r e = every-pass _ _ _ (le-leb 2 at p) (every-pass _ _ _ (sym told ∙ digit) (every-pass _ _ _ (eq-eqb _ _ apart) e))

        pub mixed-whole : c ≡ false → false ≡ is_mixed t at
        mixed-whole n = spaced false (every-stop _ _ (sym over ∙ n))

        pub mixed-last : c ≡ true → (r : Bool) → r ≡ is_got (beats (drop at t)) → r ≡ is_mixed t at
        mixed-last y r e = spaced r (every-pass _ _ _ (sym over ∙ y) (every-last _ _ e))

pub ruleset mixing = (mixed-front, mixed-first, mixed-joined, mixed-whole, mixed-last, rules)

-- ---- a fraction that is no beats

module _ (bs : List ℕ) (a : Bool) (told : a ≡ is_fractional bs) where
  pub uneven-whole : a ≡ false → false ≡ is_uneven bs
  unfolding is_uneven
  uneven-whole n = every-stop _ _ (sym told ∙ n)

  pub uneven-last : a ≡ true → (b : Bool) → b ≡ is_got (beats bs) → not b ≡ is_uneven bs
  unfolding is_uneven
  uneven-last y b e = every-pass _ _ _ (sym told ∙ y) (every-last _ _ (rw e))

pub ruleset unevens = (uneven-whole, uneven-last, rules)
