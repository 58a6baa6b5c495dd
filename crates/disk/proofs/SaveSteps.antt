-- A file read or saved whole, in the code's own terms.
-- Assumes nothing.
use mathlib.Core.Path.{◌≡◌, refl, sym, ap, ◌∙◌}
use mathlib.Core.Bool.{Bool, true, false}
use mathlib.Core.List.{List, [], ◌∷◌}
use Prim.Native.Nat.{ℕ, ◌+◌, ◌-◌, ◌<◌, ◌≤◌}
use native.Mathlib.Omega.{arith}
use lib.Dec.{eqb}
use lib.IntN.{ℤ, pos, negsuc}
use lib.ListN.{length, take, length-append}
use mir.Syntax.{w32}
use mir.Val.{SFits, of_z, to_z}
use mir.Facts.{to_z-of_z}
use borrow.Author.Tests.{ne_eqb}
use borrow.Author.Rules.{rules}
use Rattle.std.specs.Prelude.{Result, Ok, Err, ⊤}
use Rattle.ascii.specs.Laying.{Laid}
use Rattle.ascii.specs.Text.{bytes_of}
use Rattle.ascii.specs.Words.{bytes_before, zero_digit}
use Rattle.ascii.proofs.LayLaws.{laid-join}
use Rattle.streams.proofs.CallSteps.{bits-say}
use Rattle.std.specs.declared.fs.File.{File}
use Rattle.disk.specs.declared.failures.SaveError.{SaveError}
use Rattle.disk.specs.declared.failures.SaveError.TheVariants.{NotSafe}
use Rattle.links.specs.Paths.{longest_path}
use Rattle.disk.specs.Saving.{part_name, IsPart, is_taken_by, settled_for, not_made_long, not_made_zero}

-- ---- the folder

pub settled-never : (e : ℤ) → SFits w32 e → of_z w32 e ≡ 22 → Ok tt ≡ settled_for e
unfolding settled_for
settled-never e f p = ap settled_for (bits-say w32 e 22 f p)

pub settled-told : (e : ℤ) → (of_z w32 e ≡ 22 → ⊥) → Err (NotSafe e) ≡ settled_for e
unfolding settled_for
settled-told (pos n) p = rw (ne_eqb n 22 p)
settled-told (negsuc n) p = refl

pub ruleset settling = (settled-never, settled-told, rules)

-- ---- the other name

pub taken-told : (e : ℤ) → SFits w32 e → eqb (of_z w32 e) 17 ≡ is_taken_by e
unfolding is_taken_by
taken-told (pos n) f = refl
taken-told (negsuc n) f = ne_eqb (of_z w32 (negsuc n)) 17 never where
  never : of_z w32 (negsuc n) ≡ 17 → ⊥
  never p =
      let k : pos 17 ≡ negsuc n = bits-say w32 (negsuc n) 17 f p in
      let z : ◌≡◌ {A = ℕ} 0 1 = cc in
      omega arith

pub ruleset taking = (taken-told, rules)

pub part-laid : (o m₁ m₂ n path : List ℕ) (a b r digit : ℕ) → Laid o 0 path m₁ a → Laid m₁ a (bytes_of ".part") m₂ b → Laid m₂ b ((zero_digit + digit) ∷ []) n r → Laid o 0 (part_name path digit) n r
unfolding part_name
part-laid o m₁ m₂ n path a b r digit p q s = laid-join o m₁ n path _ 0 a r p (laid-join m₁ m₂ n _ _ a b r q s)

part-size : (path : List ℕ) (digit : ℕ) → length (part_name path digit) ≡ length path + 6
unfolding part_name
part-size path digit = length-append path _

pub part-made : (o n path : List ℕ) (r digit : ℕ) → digit ≤ 9 → Laid o 0 (part_name path digit) n r → IsPart path (take (length path + 6) n)
part-made o n path r digit p laid =
    let e : r ≡ length path + 6 = omega (arith, laid.stop, part-size path digit) in
    record { digit = digit; most = p; is = rw e at laid.front }

pub part_end : (o n path : List ℕ) (r digit : ℕ) → Laid o 0 (part_name path digit) n r → r ≤ length n
part_end o n path r digit laid = laid.within

pub ruleset naming = (part-laid, part-made, part_end, rules)
