-- What is told of a wrong usage is laid piece by piece, and a name is shown byte by byte, in the code's own terms.
-- Assumes nothing.
use mathlib.Core.Path.{◌≡◌, refl, sym, ap, ◌∙◌}
use mathlib.Core.List.{List, [], ◌∷◌, ◌++◌, map, map-append}
use Prim.Native.Nat.{ℕ, ◌+◌, ◌-◌, ◌<◌, ◌≤◌}
use native.Mathlib.Numerals.{add-one}
use native.Mathlib.Omega.{arith}
use lib.ListN.{length, take, drop, get_or, set, length-append, length-drop, length-map, length-set}
use lib.Seq.{take-suc, take-suc-set, drop-set-lt, get_or-drop, drop-drop, length-take-le, take_all, take-append_seam, drop-append_seam}
use borrow.Author.Tests.{eq-eqb, ne_eqb, lt-ltb, le-ltb}
use borrow.Author.Rules.{rules}
use Rattle.std.proofs.Common.{◌⊎◌, inl, inr}
use Rattle.base.proofs.TestLaws.{pick_true, pick-false}
use Rattle.ascii.specs.Text.{bytes_of}
use Rattle.ascii.specs.Words.{space, newline}
use Rattle.ascii.specs.Laying.{Laid}
use Rattle.ascii.proofs.LayLaws.{laid-join, laid-nothing}
use Rattle.orders.specs.declared.Usage.TheVariants.{Right, Wished, NoCommand, NoOption, TooFew, TooMany, NoNumber, InputTwice}
use Rattle.orders.specs.declared.Order.{Order}
use Rattle.menu.specs.Table.{Row, row_of}
use Rattle.orders.specs.Usage.{dash}
use Rattle.orders.specs.Said.{usage_line, usage_room, fault, fault_usage, front_room, missing, misuse_of, misuse_line, misuse_room, unshown, delete, shown_byte, shown, first_line}

-- ---- the usage's line

pub lay-usage : (o m₁ m₂ n text : List ℕ) (row : Row) (at a b r : ℕ) → text ≡ row.usage → Laid o at (bytes_of "usage: bin/poolmirror ") m₁ a → Laid m₁ a text m₂ b
    → Laid m₂ b (newline ∷ []) n r → Laid o at (usage_line row) n r
unfolding usage_line
lay-usage o m₁ m₂ n text row at a b r e p q s =
    let u : Laid m₁ a row.usage m₂ b = rw e at q in
    laid-join o m₁ n _ _ at a r p (laid-join m₁ m₂ n _ _ a b r u s)

-- ---- what is wrong with what

pub lay-fault : (o m₁ m₂ n what words : List ℕ) (a b r : ℕ) → Laid o 0 (bytes_of "bin/poolmirror: ") m₁ a → Laid m₁ a what m₂ b → Laid m₂ b words n r → Laid o 0 (fault what words) n r
unfolding fault
lay-fault o m₁ m₂ n what words a b r p q s = laid-join o m₁ n _ _ 0 a r p (laid-join m₁ m₂ n _ _ a b r q s)

pub lay-fault-usage : (o m n what words : List ℕ) (row : Row) (a r : ℕ) → Laid o 0 (fault what words) m a → Laid m a (usage_line row) n r → Laid o 0 (fault_usage what words row) n r
unfolding fault_usage
lay-fault-usage o m n what words row a r p q = laid-join o m n _ _ 0 a r p q

fault-length : (what words : List ℕ) → length (fault what words) ≡ front_room + length what + length words
unfolding fault
fault-length what words = omega (arith, length-append what words, length-append (bytes_of "bin/poolmirror: ") (what ++ words))

pub usage-fits : (o m what words : List ℕ) (a : ℕ) → Laid o 0 (fault what words) m a → front_room + length what + length words + usage_room ≤ length o → a + usage_room ≤ length m
usage-fits o m what words a p q =
    let e : a ≡ 0 + length (fault what words) = p.stop in
    let z : length m ≡ length o = p.size in
    omega (arith, fault-length what words)

pub lay-missing : (o n text : List ℕ) (row : Row) (r : ℕ) → text ≡ row.name → Laid o 0 (fault_usage text (bytes_of ": an argument is missing\n") row) n r → Laid o 0 (missing row) n r
unfolding missing
lay-missing o n text row r e p = rw e at p

pub ruleset saying = (lay-usage, lay-fault, lay-fault-usage, usage-fits, lay-missing, rules)

-- ---- each usage

module _ (o n arg : List ℕ) (ord : Order) (r : ℕ) where
  pub said-none : (ord.usage ≡ Right) ⊎ (ord.usage ≡ Wished) → Laid o 0 (misuse_line ord arg) o 0
  unfolding misuse_line misuse_of
  said-none (inl e) = rw e (laid-nothing o 0 (omega arith))
  said-none (inr e) = rw e (laid-nothing o 0 (omega arith))

  pub said-no-command : ord.usage ≡ NoCommand → Laid o 0 (fault arg (bytes_of ": no such command. bin/poolmirror help lists the commands.\n")) n r → Laid o 0 (misuse_line ord arg) n r
  unfolding misuse_line misuse_of
  said-no-command e p = rw e p

  pub said-no-option : ord.usage ≡ NoOption → Laid o 0 (fault_usage arg (bytes_of ": no such option. Before a name that begins with a dash write --\n") (row_of ord.command)) n r
      → Laid o 0 (misuse_line ord arg) n r
  unfolding misuse_line misuse_of
  said-no-option e p = rw e p

  pub said-few : ord.usage ≡ TooFew → Laid o 0 (missing (row_of ord.command)) n r → Laid o 0 (misuse_line ord arg) n r
  unfolding misuse_line misuse_of
  said-few e p = rw e p

  pub said-many : ord.usage ≡ TooMany → Laid o 0 (fault_usage arg (bytes_of ": one argument too many\n") (row_of ord.command)) n r → Laid o 0 (misuse_line ord arg) n r
  unfolding misuse_line misuse_of
  said-many e p = rw e p

  pub said-no-number : ord.usage ≡ NoNumber → Laid o 0 (fault_usage arg (bytes_of ": not a whole number of 1 to 10 digits\n") (row_of ord.command)) n r
      → Laid o 0 (misuse_line ord arg) n r
  unfolding misuse_line misuse_of
  said-no-number e p = rw e p

  pub said-twice : ord.usage ≡ InputTwice → Laid o 0 (fault_usage dash (bytes_of ": standard input can't be read twice\n") (row_of ord.command)) n r
      → Laid o 0 (misuse_line ord arg) n r
  unfolding misuse_line misuse_of
  said-twice e p = rw e p

pub ruleset misused = (said-none, said-no-command, said-no-option, said-few, said-many, said-no-number, said-twice, rules)

-- ---- a byte and a name as they are shown

pub shown-control : (b : ℕ) → b < space → unshown ≡ shown_byte b
unfolding shown_byte
shown-control b p = pick_true _ _ _ _ (lt-ltb b space p) refl

pub shown-delete : (b : ℕ) → b ≡ delete → unshown ≡ shown_byte b
unfolding shown_byte
shown-delete b q = let p : space ≤ b = omega arith in pick-false _ _ _ _ (le-ltb b space p) (pick_true _ _ _ _ (eq-eqb b delete q) refl)

pub shown-none : (b : ℕ) → (b < space) ⊎ (space ≤ b × b ≡ delete) → unshown ≡ shown_byte b
shown-none b (inl p) = shown-control b p
shown-none b (inr p) = shown-delete b p.1

pub shown-itself : (b : ℕ) → space ≤ b → (b ≡ delete → ⊥) → b ≡ shown_byte b
unfolding shown_byte
shown-itself b p q = pick-false _ _ _ _ (le-ltb b space p) (pick-false _ _ _ _ (ne_eqb b delete q) refl)

pub show-start : (o : List ℕ) → take 0 o ≡ map shown_byte (take 0 o)
show-start o = refl

module _ (o m : List ℕ) (i : ℕ) (front : take i m ≡ map shown_byte (take i o)) (back : drop i m ≡ drop i o) (size : length m ≡ length o) where
  pub show-front : (b n : ℕ) → i < n → n ≤ length o → b ≡ shown_byte (get_or m i 0) → take (i + 1) (set m i b) ≡ map shown_byte (take (i + 1) o)
  show-front b n l q e =
      let p : i < length m = omega arith in
      let g : get_or m i 0 ≡ get_or o i 0 =
      let z : i + 0 ≡ i = omega arith in
      let f : (l : List ℕ) → get_or (drop i l) 0 0 ≡ get_or l i 0 = λ l. rw z at (get_or-drop i l 0 0) in
      sym (f m) ∙ ap (λ (l : List ℕ). get_or l 0 0) back ∙ f o
      in
      rw (add-one, take-suc-set m i b p, take-suc o i 0 (omega arith), map-append shown_byte (take i o) (get_or o i 0 ∷ []), front, e, g)

  pub show-back : (b : ℕ) → drop (i + 1) (set m i b) ≡ drop (i + 1) o
  show-back b = drop-set-lt (i + 1) m i b (omega arith) ∙ sym (drop-drop 1 i m) ∙ ap (drop 1) back ∙ drop-drop 1 i o

pub show-end : (o m : List ℕ) (i n : ℕ) → n ≤ length o → length m ≡ length (take n o) → length (take n o) ≤ i → take i m ≡ map shown_byte (take i (take n o))
    → Laid o 0 (map shown_byte (take n o)) (m ++ drop n o) n
show-end o m i n l s q front =
    let k : length (take n o) ≡ n = length-take-le n o l in
    let z : n ≡ length m = omega arith in
    let e : m ≡ map shown_byte (take n o) = sym (take_all i m (omega arith)) ∙ front ∙ ap (map shown_byte) (take_all i (take n o) q) in
    record {
      front = ap (λ (j : ℕ). take j (m ++ drop n o)) z ∙ take-append_seam m (drop n o) ∙ e;
      others = ap (λ (j : ℕ). drop j (m ++ drop n o)) z ∙ drop-append_seam m (drop n o);
      stop = omega (arith, length-map (take n o) shown_byte);
      within = omega (arith, length-append m (drop n o));
      size = omega (arith, length-append m (drop n o), length-drop n o);
    }

pub ruleset showing = (show-start, show-front, show-back, show-end, length-set, rules)

pub shown-empty : (o m : List ℕ) (n r : ℕ) → n ≡ 0 → Laid o 0 (bytes_of "\"\"") m r → Laid o 0 (shown (take n o)) m r
unfolding shown
shown-empty o m n r e p = rw e p

pub shown-some : (o m : List ℕ) (n r : ℕ) → (n ≡ 0 → ⊥) → n ≤ length o → Laid o 0 (map shown_byte (take n o)) m r → Laid o 0 (shown (take n o)) m r
unfolding shown
shown-some o m n r z l p = go (take n o) (length-take-le n o l) p where
  go : (name : List ℕ) → length name ≡ n → Laid o 0 (map shown_byte name) m r → Laid o 0 (shown name) m r
  go [] e q = absurd (z (sym e))
  go (b ∷ bs) e q = q

pub lay-first : (o m n name : List ℕ) (a r : ℕ) → Laid o 0 name m a → Laid m a (bytes_of ":1") n r → Laid o 0 (first_line name) n r
unfolding first_line
lay-first o m n name a r p q = laid-join o m n _ _ 0 a r p q

pub ruleset shows = (shown-empty, shown-some, lay-first, rules)
