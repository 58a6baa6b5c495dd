-- Which word stands, and what stands behind it, in the code's own terms.
-- Assumes nothing.
use Rattle.std.specs.Prelude.{Option, Some, None}
use mathlib.Core.Path.{◌≡◌, refl, sym, ◌∙◌}
use mathlib.Core.Bool.{Bool, true, false}
use mathlib.Core.List.{List}
use Prim.Native.Nat.{ℕ, ◌+◌, ◌<◌, ◌≤◌}
use native.Mathlib.Omega.{arith}
use lib.ListN.{length, drop, length-drop}
use lib.Seq.{drop-drop}
use lib.Dec.{ltb}
use borrow.Author.Tests.{ltb-true}
use borrow.Author.Rules.{rules}
use Rattle.base.specs.Tests.{pick}
use Rattle.tokens.specs.Tokens.{is_word}
use Rattle.tokens.specs.Asked.{Passes}
use Rattle.tokens.proofs.ShorterLaws.{word-behind}
use Rattle.text.specs.Words.{event_word, part_word, send_word, group_word, loose_word, tight_word, local_word, global_word, partial_word, causal_word}
use Rattle.text.specs.Grammar.{past_word, synchrony_at, error_at}
use Rattle.text.specs.Written.{error_word}
use Rattle.text.proofs.WordLaws.{local-is, global-is, partial-is, causal-is}
use Rattle.script.specs.Steps.{Stands, error_size, known, PassesWord}

-- ---- past a word

pub word-passed : (t : List ℕ) (at size k : ℕ) → Stands t at size → Passes t (at + size) k → PassesWord t at k
unfolding past_word
word-passed t at size k w b = record { left = rw w.left b.left; from = omega (arith, b.from); within = b.within }

pub ruleset wording = (word-passed, rules)

-- ---- the words of a group

module _ (bs : List ℕ) where
  module _ (a : Bool) (loose : a ≡ is_word loose_word bs) where
    pub synchrony-loose : a ≡ true → Some 0 ≡ known 2 (synchrony_at bs)
    unfolding known synchrony_at pick
    synchrony-loose p = rw (sym loose ∙ p)

    module _ (n : a ≡ false) (b : Bool) (tight : b ≡ is_word tight_word bs) where
      pub synchrony-tight : b ≡ true → Some 1 ≡ known 2 (synchrony_at bs)
      unfolding known synchrony_at pick
      synchrony-tight p = rw (sym loose ∙ n, sym tight ∙ p)

      pub synchrony-none : b ≡ false → None ≡ known 2 (synchrony_at bs)
      unfolding known synchrony_at pick
      synchrony-none p = rw (sym loose ∙ n, sym tight ∙ p)

  module _ (a : Bool) (local : a ≡ is_word local_word bs) where
    pub error-local : a ≡ true → Some 0 ≡ known 4 (error_at bs)
    unfolding known error_at pick
    error-local p = rw (sym local ∙ p)

    module _ (n : a ≡ false) (b : Bool) (global : b ≡ is_word global_word bs) where
      pub error-global : b ≡ true → Some 1 ≡ known 4 (error_at bs)
      unfolding known error_at pick
      error-global p = rw (sym local ∙ n, sym global ∙ p)

      module _ (o : b ≡ false) (c : Bool) (partial : c ≡ is_word partial_word bs) where
        pub error-partial : c ≡ true → Some 2 ≡ known 4 (error_at bs)
        unfolding known error_at pick
        error-partial p = rw (sym local ∙ n, sym global ∙ o, sym partial ∙ p)

        module _ (q : c ≡ false) (d : Bool) (causal : d ≡ is_word causal_word bs) where
          pub error-causal : d ≡ true → Some 3 ≡ known 4 (error_at bs)
          unfolding known error_at pick
          error-causal p = rw (sym local ∙ n, sym global ∙ o, sym partial ∙ q, sym causal ∙ p)

          pub error-none : d ≡ false → None ≡ known 4 (error_at bs)
          unfolding known error_at pick
          error-none p = rw (sym local ∙ n, sym global ∙ o, sym partial ∙ q, sym causal ∙ p)

pub ruleset synchronies = (synchrony-loose, synchrony-tight, synchrony-none, rules)

pub ruleset errors = (error-local, error-global, error-partial, error-causal, error-none, rules)

module _ (v : ℕ) where
  pub size-local : v ≡ 0 → 5 ≡ error_size v
  unfolding error_size
  size-local e = rw (local-is v e)

  pub size-global : v ≡ 1 → 6 ≡ error_size v
  unfolding error_size
  size-global e = rw (global-is v e)

  pub size-partial : v ≡ 2 → 7 ≡ error_size v
  unfolding error_size
  size-partial e = rw (partial-is v e)

  pub size-causal : (v ≡ 0 → ⊥) → (v ≡ 1 → ⊥) → (v ≡ 2 → ⊥) → 6 ≡ error_size v
  unfolding error_size
  size-causal a b c = rw (causal-is v a b c)

pub ruleset sizes = (size-local, size-global, size-partial, size-causal, rules)

-- ---- the number of a word that was looked for

pub known-some : (none n w : ℕ) → known none n ≡ Some w → (w ≡ n) × (w < none)
unfolding known pick
known-some none n w = go (ltb n none) refl where
  go : (b : Bool) → ltb n none ≡ b → pick b (Some n) None ≡ Some w → (w ≡ n) × (w < none)
  go true e p = let z : n ≡ w = cc in (sym z, rw z at (ltb-true n none e))
  go false e p = let z : ◌≡◌ {A = ℕ} 0 1 = cc in absurd (omega arith)

pub known-none : (none n : ℕ) → known none n ≡ None → ltb n none ≡ false
unfolding known pick
known-none none n = go (ltb n none) refl where
  go : (b : Bool) → ltb n none ≡ b → pick b (Some n) None ≡ None → ltb n none ≡ false
  go true e p = let z : ◌≡◌ {A = ℕ} 0 1 = cc in absurd (omega arith)
  go false e p = e

-- ---- a word that was found stands there with all its letters

module _ (t : List ℕ) (at : ℕ) (start : at ≤ length t) where
  word_stands : (word : List ℕ) → is_word word (drop at t) ≡ true → Stands t at (length word)
  word_stands word e =
      let w = word-behind word (drop at t) e in
      record { left = w.0 ∙ drop-drop (length word) at t; within = omega (arith, w.1, length-drop at t) }

  module _ (s : Bool) (there : s ≡ true) where
    pub event-stands : s ≡ is_word event_word (drop at t) → Stands t at 5
    event-stands told = word_stands event_word (sym told ∙ there)

    pub part-stands : s ≡ is_word part_word (drop at t) → Stands t at 4
    part-stands told = word_stands part_word (sym told ∙ there)

    pub send-stands : s ≡ is_word send_word (drop at t) → Stands t at 4
    send-stands told = word_stands send_word (sym told ∙ there)

    pub group-stands : s ≡ is_word group_word (drop at t) → Stands t at 5
    group-stands told = word_stands group_word (sym told ∙ there)

  synchrony-there : (w : ℕ) → w ≡ synchrony_at (drop at t) → w < 2 → Stands t at 5
  unfolding synchrony_at pick
  synchrony-there w told p = go (is_word loose_word (drop at t)) refl (is_word tight_word (drop at t)) refl told where
    go : (a : Bool) → is_word loose_word (drop at t) ≡ a → (b : Bool) → is_word tight_word (drop at t) ≡ b → w ≡ pick a 0 (pick b 1 2) → Stands t at 5
    go true e b f h = word_stands loose_word e
    go false e true f h = word_stands tight_word f
    go false e false f h = absurd (omega arith)

  error-there : (v size : ℕ) → v ≡ error_at (drop at t) → v < 4 → size ≡ error_size v → Stands t at size
  unfolding error_at error_size error_word pick
  error-there v size told p sized =
      go (is_word local_word (drop at t)) refl (is_word global_word (drop at t)) refl (is_word partial_word (drop at t)) refl (is_word causal_word (drop at t)) refl told where
        go : (a : Bool) → is_word local_word (drop at t) ≡ a → (b : Bool) → is_word global_word (drop at t) ≡ b → (c : Bool) → is_word partial_word (drop at t) ≡ c
            → (d : Bool) → is_word causal_word (drop at t) ≡ d → v ≡ pick a 0 (pick b 1 (pick c 2 (pick d 3 4))) → Stands t at size
        go true e b f c g d h z = let k : size ≡ 5 = rw z at sized in rw k (word_stands local_word e)
        go false e true f c g d h z = let k : size ≡ 6 = rw z at sized in rw k (word_stands global_word f)
        go false e false f true g d h z = let k : size ≡ 7 = rw z at sized in rw k (word_stands partial_word g)
        go false e false f false g true h z = let k : size ≡ 6 = rw z at sized in rw k (word_stands causal_word h)
        go false e false f false g false h z = absurd (omega arith)

  module _ (v : Option ℕ) (w : ℕ) (is : v ≡ Some w) where
    module _ (told : v ≡ known 2 (synchrony_at (drop at t))) where
      pub synchrony-low : w ≤ 1
      synchrony-low = omega (arith, (known-some 2 (synchrony_at (drop at t)) w (sym told ∙ is)).1)

      pub synchrony-stands : Stands t at 5
      synchrony-stands = let k = known-some 2 (synchrony_at (drop at t)) w (sym told ∙ is) in synchrony-there w k.0 k.1

    module _ (told : v ≡ known 4 (error_at (drop at t))) where
      pub error-low : w ≤ 3
      error-low = omega (arith, (known-some 4 (error_at (drop at t)) w (sym told ∙ is)).1)

      pub error-stands : (size : ℕ) → size ≡ error_size w → Stands t at size
      error-stands size sized = let k = known-some 4 (error_at (drop at t)) w (sym told ∙ is) in error-there w size k.0 k.1 sized
