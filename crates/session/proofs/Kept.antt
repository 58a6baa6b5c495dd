-- What a call leaves alone: the words before a place, the words from a place on, and their number.
-- Assumes nothing.
use mathlib.Core.Path.{◌≡◌, refl, sym, ap, ◌∙◌}
use mathlib.Core.List.{List}
use Prim.Native.Nat.{ℕ, ◌+◌, ◌-◌, ◌≤◌, ◌<◌}
use native.Mathlib.Omega.{arith}
use lib.ListN.{length, get_or, set, take, drop, length-set}
use lib.Seq.{take-set-le, drop-set-lt, take-take, drop-drop, get_or-take}
use Rattle.session.specs.Layout.{word_at}

-- m' differs from m at places from lo up to hi at most.
pub record Kept (lo hi : ℕ) (m m' : List ℕ) : Type 0 where
  pub front : take lo m' ≡ take lo m
  pub past : drop hi m' ≡ drop hi m
  pub long : length m' ≡ length m

pub kept-none : (lo hi : ℕ) (m : List ℕ) → Kept lo hi m m
kept-none lo hi m = record { front = refl; past = refl; long = refl }

pub kept_then : {lo hi : ℕ} {m m₁ m₂ : List ℕ} → Kept lo hi m m₁ → Kept lo hi m₁ m₂ → Kept lo hi m m₂
kept_then a b = record { front = b.front ∙ a.front; past = b.past ∙ a.past; long = b.long ∙ a.long }

pub kept_set : {lo hi : ℕ} {m m₁ : List ℕ} (i v : ℕ) → lo ≤ i → i < hi → Kept lo hi (set m i v) m₁ → Kept lo hi m m₁
kept_set {lo} {hi} {m} i v p q k =
    record { front = k.front ∙ take-set-le lo m i v p; past = k.past ∙ drop-set-lt hi m i v q; long = k.long ∙ length-set m i v }

pub kept-wider : {lo hi lo₁ hi₁ : ℕ} {m m' : List ℕ} → lo₁ ≤ lo → hi ≤ hi₁ → Kept lo hi m m' → Kept lo₁ hi₁ m m'
kept-wider {lo} {hi} {lo₁} {hi₁} {m} {m'} p q k =
    let e : hi + (hi₁ - hi) ≡ hi₁ = omega arith in
    record {
      front = sym (take-take lo₁ lo m' p) ∙ ap (take lo₁) k.front ∙ take-take lo₁ lo m p;
      past = rw e at (sym (drop-drop (hi₁ - hi) hi m') ∙ ap (drop (hi₁ - hi)) k.past ∙ drop-drop (hi₁ - hi) hi m);
      long = k.long;
    }

pub kept_word : {lo hi : ℕ} {m m' : List ℕ} → Kept lo hi m m' → (i : ℕ) → i < lo → word_at m' i ≡ word_at m i
kept_word {lo} {hi} {m} {m'} k i h = sym (get_or-take lo m' i 0 h) ∙ ap (λ (l : List ℕ). get_or l i 0) k.front ∙ get_or-take lo m i 0 h
