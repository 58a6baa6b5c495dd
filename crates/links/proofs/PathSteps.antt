-- A path's folder, and where a link leads, in the code's own terms.
-- Assumes nothing.
use mathlib.Core.Path.{◌≡◌, refl, sym, ap, ◌∙◌}
use mathlib.Core.Bool.{Bool, true, false}
use mathlib.Core.List.{List, [], ◌∷◌, ◌++◌}
use Prim.Native.Nat.{ℕ, zero, suc, ◌+◌, ◌-◌, ◌<◌, ◌≤◌}
use native.Mathlib.Omega.{arith}
use lib.IntN.{ℤ, pos}
use lib.ListN.{length, take, get_or, length-append}
use lib.Seq.{length-take-le, take-take}
use borrow.Author.Tests.{lt-ltb, le-ltb, eq-eqb, ne_eqb}
use borrow.Author.Rules.{rules}
use Rattle.std.specs.Prelude.{Result, Ok, Err}
use Rattle.ascii.specs.Laying.{Laid}
use Rattle.ascii.specs.Text.{bytes_of}
use Rattle.ascii.specs.Words.{begins}
use Rattle.links.specs.Paths.{up_to_slash, folder_size, or_here, folder_of, kept_size, next_path, gone_to, Gone, is_systems}

-- ---- the last slash

pub slash-last : (path : List ℕ) (n all : ℕ) → up_to_slash n path ≡ all → 0 < n → get_or path (n - 1) 0 ≡ 47 → n - 1 + 1 ≡ all
unfolding up_to_slash
slash-last path zero all e p q = absurd (omega arith)
slash-last path (suc n) all e p q =
    let z : suc n - 1 ≡ n = omega arith in
    let h : get_or path n 0 ≡ 47 = rw z at q in
    let k : suc n ≡ all = sym (rw (eq-eqb (get_or path n 0) 47 h)) ∙ e in
    omega (arith, k)

pub slash-before : (path : List ℕ) (n all : ℕ) → up_to_slash n path ≡ all → 0 < n → (get_or path (n - 1) 0 ≡ 47 → ⊥) → up_to_slash (n - 1) path ≡ all
unfolding up_to_slash
slash-before path zero all e p q = absurd (omega arith)
slash-before path (suc n) all e p q =
    let z : suc n - 1 ≡ n = omega arith in
    let h : get_or path n 0 ≡ 47 → ⊥ = rw z at q in
    rw z (sym (rw (ne_eqb (get_or path n 0) 47 h)) ∙ e)

pub slash-none : (path : List ℕ) (n all : ℕ) → up_to_slash n path ≡ all → n ≤ 0 → 0 ≡ all
unfolding up_to_slash
slash-none path zero all e p = e
slash-none path (suc n) all e p = absurd (omega arith)

pub ruleset slashes = (slash-last, slash-before, slash-none, rules)

-- ---- the folder

pub folder-here : (path : List ℕ) (n : ℕ) → n ≡ folder_size path → n ≡ 0 → bytes_of "." ≡ folder_of path
unfolding folder_of or_here
folder-here path n e p = let z : folder_size path ≡ 0 = omega arith in rw z

here-some : (bs : List ℕ) → 0 < length bs → bs ≡ or_here bs
unfolding or_here
here-some [] p = absurd (omega arith)
here-some (b ∷ bs) p = refl

pub folder-named : (path : List ℕ) (n : ℕ) → n ≡ folder_size path → n ≤ length path → (n ≡ 0 → ⊥) → take n path ≡ folder_of path
unfolding folder_of
folder-named path n e l p =
    let s : length (take n path) ≡ n = length-take-le n path l in
    rw (← e) (here-some (take n path) (omega arith))

pub ruleset folders = (folder-here, folder-named, rules)

-- ---- where a link leads

module _ (link target : List ℕ) (b : Bool) (is : b ≡ begins (bytes_of "/") target) where
  pub kept-none : b ≡ true → 0 ≡ kept_size link target
  unfolding kept_size
  kept-none p = rw (sym is ∙ p)

  pub kept-folder : (n : ℕ) → b ≡ false → n ≡ folder_size link → n ≡ kept_size link target
  unfolding kept_size
  kept-folder n p e = rw (sym is ∙ p) e

pub ruleset keeping = (kept-none, kept-folder, rules)

module _ (place target : List ℕ) (size kept : ℕ) (f : size ≤ 4095) (w : length place ≡ 4096) (e : kept ≡ kept_size (take size place) target) (l : kept ≤ length (take size place)) where
  pub kept-size : kept ≤ size
  kept-size = omega (arith, l, length-take-le size place (omega arith))

  next-is : next_path (take size place) target ≡ take kept place ++ target
  unfolding next_path
  next-is = rw (← e, take-take kept size place kept-size)

  next-size : length (next_path (take size place) target) ≡ kept + length target
  next-size = ap length next-is ∙ length-append (take kept place) target ∙ ap (λ (n : ℕ). n + length target) (length-take-le kept place (omega (arith, kept-size)))

  pub gone_long : 4095 - kept < length target → Gone place size target place (Err (pos 36))
  unfolding gone_to
  gone_long p =
      let m = next-size in
      let k = kept-size in
      record {
        told = rw (lt-ltb 4095 (length (next_path (take size place) target)) (omega arith));
        laid = λ h. absurd (omega arith);
        size_stays = refl;
      }

  pub gone-laid : (new : List ℕ) (r : ℕ) → length target ≤ 4095 - kept → Laid place kept target new r → Gone place size target new (Ok r)
  unfolding gone_to
  gone-laid new r p laid =
      let m = next-size in
      let k = kept-size in
      let s : r ≡ length (next_path (take size place) target) = omega (arith, laid.stop) in
      record {
        told = rw (le-ltb 4095 (length (next_path (take size place) target)) (omega arith)) (ap {B = Result ℕ ℤ} Ok s);
        laid = λ h. rw (← s) (laid.front ∙ sym next-is);
        size_stays = laid.size;
      }

pub ruleset going = (kept-size, gone_long, gone-laid, rules)

-- ---- the system's own

module _ (path : List ℕ) (a : Bool) (is : a ≡ begins (bytes_of "/dev/") path) where
  pub systems-dev : a ≡ true → true ≡ is_systems path
  unfolding is_systems
  systems-dev p = rw (sym is ∙ p)

  pub systems-proc : (b : Bool) → a ≡ false → b ≡ begins (bytes_of "/proc/") path → b ≡ is_systems path
  unfolding is_systems
  systems-proc b p e = rw (sym is ∙ p) e

pub ruleset systems = (systems-dev, systems-proc, rules)
