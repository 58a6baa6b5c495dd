-- The names of a right order are the arguments that are names: the first is the first of them, and the second the second. Its number is the value of the one behind
-- the files, 0 where there is none.
-- Assumes nothing.
use mathlib.Core.Path.{◌≡◌, refl, sym, ap, ◌∙◌}
use mathlib.Core.Bool.{Bool, true, false}
use mathlib.Core.List.{List, [], ◌∷◌}
use Prim.Native.Nat.{ℕ, zero, suc, ◌+◌, ◌-◌, ◌<◌, ◌≤◌}
use native.Mathlib.Numerals.{add-one}
use native.Mathlib.Omega.{arith}
use lib.Dec.{leb, ltb}
use lib.ListN.{length, get_or, drop}
use lib.Seq.{get_or-drop, drop-drop}
use borrow.Author.Tests.{ne_eqb, leb-true, leb-false}
use Rattle.std.specs.Prelude.{Option, Some, None}
use Rattle.base.specs.Tests.{pick, every}
use Rattle.ascii.specs.Numbers.{is_number, value_from, value}
use Rattle.ascii.specs.Text.{bytes_of}
use Rattle.ascii.specs.Words.{begins, same}
use Rattle.menu.specs.declared.Command.{Command}
use Rattle.menu.specs.declared.Command.TheVariants.{Play}
use Rattle.menu.specs.Table.{row_of, commands, named_in, command_named}
use Rattle.menu.proofs.TableLaws.{arguments-fit}
use Rattle.orders.specs.declared.Argument.{Argument}
use Rattle.orders.specs.declared.Argument.TheVariants.{Name, Plain, Wish, Dashed}
use Rattle.orders.specs.declared.Usage.TheVariants.{Right, TooFew, TooMany, NoNumber, InputTwice}
use Rattle.orders.specs.declared.Names.{Names}
use Rattle.orders.specs.declared.Order.{Order}
use Rattle.orders.specs.Usage.{argument_of, is_name, no_names, name_more, fresh, stopped, is_right, begun_named, begun_as, begun, named, numbered, file_taken, number_taken, name_taken, taken_plain, taken_as, taken, closed, taken_all, ordered, is_input}
use Rattle.orders.specs.Names.{plain_after, with_name, names_at}
use Rattle.orders.proofs.OrderLaws.{fault-all}
use Rattle.orders.proofs.RightLaws.{ordered-right, more-counted, right_is}

-- ---- one after the other

unfoldable all_more : Names → List ℕ → Names
all_more n [] = n
all_more n (i ∷ l) = all_more (name_more n i) l

-- the number behind these names, where k of them are files and n is the number so far; argument i stands at place i of all
unfoldable number_after : (all : List (List ℕ)) → List ℕ → (k n : ℕ) → ℕ
number_after all [] k n = n
number_after all (i ∷ l) zero n = number_after all l zero (value (get_or all i []))
number_after all (i ∷ l) (suc k) n = number_after all l k n

-- the number of an order with these names more
abbrev number_with : (all : List (List ℕ)) → Order → List ℕ → ℕ
number_with all o l = number_after all l ((row_of o.command).files - o.names.count) o.number

-- one argument more, where nothing is found
record Step (all : List (List ℕ)) (o p : Order) (i : ℕ) (a : Argument) : Type 0 where
  command : p.command ≡ o.command
  names : (l : List ℕ) → all_more p.names l ≡ all_more o.names (with_name a i l)
  number : (l : List ℕ) → number_with all p l ≡ number_with all o (with_name a i l)
  plain : p.plain ≡ plain_after a o.plain

module _ (all : List (List ℕ)) (o : Order) (i : ℕ) (arg : List ℕ) where
  step-file : o.names.count < (row_of o.command).files → is_right (file_taken o i arg).usage ≡ true → Step all o (file_taken o i arg) i Name
  unfolding file_taken pick stopped named is_right all_more number_after with_name is_name plain_after
  step-file p = go (is_input o arg) (leb 1 o.inputs) where
    file : (inputs : ℕ) → Step all o (named o i inputs) i Name
    file inputs =
        let c : (name_more o.names i).count ≡ o.names.count + 1 = more-counted o.names i in
        let k : (row_of o.command).files - o.names.count ≡ suc ((row_of o.command).files - (name_more o.names i).count) = omega arith in
        record { command = refl; names = λ l. refl; number = λ l. rw k; plain = refl }

    go : (s u : Bool) → is_right (pick s (pick u (stopped o InputTwice i) (named o i (o.inputs + 1))) (named o i o.inputs)).usage ≡ true
        → Step all o (pick s (pick u (stopped o InputTwice i) (named o i (o.inputs + 1))) (named o i o.inputs)) i Name
    go true true e = let z : ◌≡◌ {A = ℕ} 0 1 = cc in absurd (omega arith)
    go true false e = file (o.inputs + 1)
    go false u e = file o.inputs

  module _ (there : get_or all i [] ≡ arg) where
    step-number : (row_of o.command).files ≤ o.names.count → is_right (number_taken o i arg).usage ≡ true → Step all o (number_taken o i arg) i Name
    unfolding number_taken pick stopped numbered is_right all_more number_after with_name is_name plain_after
    step-number p = go (is_number arg) where
      go : (t : Bool) → is_right (pick t (numbered o i (value arg)) (stopped o NoNumber i)).usage ≡ true → Step all o (pick t (numbered o i (value arg)) (stopped o NoNumber i)) i Name
      go true e =
          let c : (name_more o.names i).count ≡ o.names.count + 1 = more-counted o.names i in
          let k : (row_of o.command).files - o.names.count ≡ 0 = omega arith in
          let n : (row_of o.command).files - (name_more o.names i).count ≡ 0 = omega arith in
          record { command = refl; names = λ l. refl; number = λ l. rw (k, n, there); plain = refl }
      go false e = let z : ◌≡◌ {A = ℕ} 0 1 = cc in absurd (omega arith)

    step-name : is_right (name_taken o i arg).usage ≡ true → Step all o (name_taken o i arg) i Name
    unfolding name_taken pick stopped is_right
    step-name = go (leb (row_of o.command).most o.names.count) (leb (row_of o.command).files o.names.count) refl where
      go : (t s : Bool) → leb (row_of o.command).files o.names.count ≡ s → is_right (pick t (stopped o TooMany i) (pick s (number_taken o i arg) (file_taken o i arg))).usage ≡ true
          → Step all o (pick t (stopped o TooMany i) (pick s (number_taken o i arg) (file_taken o i arg))) i Name
      go true s d e = let z : ◌≡◌ {A = ℕ} 0 1 = cc in absurd (omega arith)
      go false true d e = step-number (leb-true _ _ d) e
      go false false d e = step-file (leb-false _ _ d) e

    step-as : (a : Argument) → is_right (taken_as o i a arg).usage ≡ true → Step all o (taken_as o i a arg) i a
    unfolding taken_as taken_plain stopped is_right all_more with_name is_name pick plain_after
    step-as Name e = step-name e
    step-as Plain e = record { command = refl; names = λ l. refl; number = λ l. refl; plain = refl }
    step-as Wish e = let z : ◌≡◌ {A = ℕ} 0 1 = cc in absurd (omega arith)
    step-as Dashed e = let z : ◌≡◌ {A = ℕ} 0 1 = cc in absurd (omega arith)

    step : is_right (taken o i arg).usage ≡ true → Step all o (taken o i arg) i (argument_of o.plain arg)
    unfolding taken pick
    step = go (is_right o.usage) refl where
      go : (t : Bool) → is_right o.usage ≡ t → is_right (pick t (taken_as o i (argument_of o.plain arg) arg) o).usage ≡ true
          → Step all o (pick t (taken_as o i (argument_of o.plain arg) arg) o) i (argument_of o.plain arg)
      go true p e = step-as (argument_of o.plain arg) e
      go false p e = let z : ◌≡◌ {A = ℕ} 0 1 = cc in absurd (omega arith)

-- an order that ends right was right
was-right : (o : Order) (i : ℕ) (args : List (List ℕ)) → (taken_all o i args).usage ≡ Right → is_right o.usage ≡ true
was-right o i args e = go (is_right o.usage) refl where
  go : (t : Bool) → is_right o.usage ≡ t → t ≡ true
  go true p = refl
  go false p =
      let s : o.usage ≡ Right = sym (ap (λ (x : Order). x.usage) (fault-all o i args p)) ∙ e in
      let y : is_right o.usage ≡ true = right_is o.usage s in
      let z : ◌≡◌ {A = ℕ} 0 1 = cc in
      absurd (omega arith)

all_named : (all : List (List ℕ)) (o : Order) (i : ℕ) (args : List (List ℕ)) → drop i all ≡ args → (taken_all o i args).usage ≡ Right
    → ((taken_all o i args).command ≡ o.command)
    × ((taken_all o i args).names ≡ all_more o.names (names_at o.plain i args))
    × ((taken_all o i args).number ≡ number_with all o (names_at o.plain i args))
unfolding taken_all names_at all_more number_after
all_named all o i [] d e = (refl, refl, refl)
all_named all o i (arg ∷ args) d e =
    let z : i + 0 ≡ i = omega arith in
    let there : get_or all i [] ≡ arg = sym (rw z at (get_or-drop i all 0 [])) ∙ ap (λ (l : List (List ℕ)). get_or l 0 []) d in
    let later : drop (suc i) all ≡ args = ap (λ (k : ℕ). drop k all) (sym (add-one i)) ∙ sym (drop-drop 1 i all) ∙ ap (drop 1) d in
    let s : Step all o (taken o i arg) i (argument_of o.plain arg) = step all o i arg there (was-right (taken o i arg) (suc i) args e) in
    let k = all_named all (taken o i arg) (suc i) args later e in
    let l : List ℕ = names_at (plain_after (argument_of o.plain arg) o.plain) (suc i) args in (
      k.0 ∙ s.command,
      k.1 ∙ ap (λ (b : Bool). all_more (taken o i arg).names (names_at b (suc i) args)) s.plain ∙ s.names l,
      k.2 ∙ ap (λ (b : Bool). number_with all (taken o i arg) (names_at b (suc i) args)) s.plain ∙ s.number l,
    )

-- ---- the first two

more-kept : (n : Names) (i : ℕ) → 2 ≤ n.count → name_more n i ≡ record { count = n.count + 1; first = n.first; second = n.second }
unfolding name_more pick
more-kept n i p = rw (ne_eqb n.count 0 (λ e. omega arith), ne_eqb n.count 1 (λ e. omega arith))

later-kept : (n : Names) (l : List ℕ) → 2 ≤ n.count
    → ((all_more n l).count ≡ n.count + length l) × ((all_more n l).first ≡ n.first) × ((all_more n l).second ≡ n.second)
unfolding all_more
later-kept n [] p = (omega arith, refl, refl)
later-kept n (i ∷ l) p =
    let c : (name_more n i).count ≡ n.count + 1 = more-counted n i in
    let k = later-kept (name_more n i) l (omega arith) in
    let r : (all_more (name_more n i) l).count ≡ (name_more n i).count + length l = k.0 in
    let m : name_more n i ≡ record { count = n.count + 1; first = n.first; second = n.second } = more-kept n i p in
    (omega arith, k.1 ∙ ap (λ (x : Names). x.first) m, k.2 ∙ ap (λ (x : Names). x.second) m)

placed : (l : List ℕ) → ((all_more no_names l).count ≡ length l) × ((all_more no_names l).first ≡ get_or l 0 0) × ((all_more no_names l).second ≡ get_or l 1 0)
unfolding all_more name_more no_names pick
placed [] = (refl, refl, refl)
placed (i ∷ []) = (refl, refl, refl)
placed (i ∷ j ∷ l) =
    let k = later-kept (record { count = 2; first = i; second = j }) l (omega arith) in
    let r : (all_more (record { count = 2; first = i; second = j }) l).count ≡ 2 + length l = k.0 in
    (omega arith, k.1, k.2)

-- ---- the one behind the files

number-after : (all : List (List ℕ)) (l : List ℕ) (k : ℕ) → get_or all 0 [] ≡ [] → length l ≤ suc k → number_after all l k 0 ≡ value (get_or all (get_or l k 0) [])
unfolding number_after value value_from
number-after all [] k z p = rw z
number-after all (i ∷ []) zero z p = refl
number-after all (i ∷ j ∷ l) zero z p = absurd (omega arith)
number-after all (i ∷ l) (suc k) z p = number-after all l k z (omega arith)

-- ---- all arguments

-- no names yet, no number, and no `--`
abbrev Fresh : Order → Type 0
Fresh o = (o.names ≡ no_names) × (o.number ≡ 0) × (o.plain ≡ false)

named-fresh : (n : Option Command) → Fresh (begun_named n)
unfolding begun_named fresh
named-fresh (Some c) = (refl, refl, refl)
named-fresh None = (refl, refl, refl)

begun_fresh : (a : Argument) (arg : List ℕ) → Fresh (begun_as a arg)
unfolding begun_as fresh
begun_fresh Name arg = named-fresh (command_named arg)
begun_fresh Plain arg = named-fresh (command_named arg)
begun_fresh Wish arg = (refl, refl, refl)
begun_fresh Dashed arg = named-fresh (command_named arg)

closed_same : (o : Order) → (closed o).usage ≡ Right → closed o ≡ o
unfolding closed pick stopped
closed_same o = go (is_right o.usage) (ltb o.names.count (row_of o.command).least) where
  go : (t s : Bool) → (pick t (pick s (stopped o TooFew 1) o) o).usage ≡ Right → pick t (pick s (stopped o TooFew 1) o) o ≡ o
  go true true e = let z : ◌≡◌ {A = ℕ} 0 1 = cc in absurd (omega arith)
  go true false e = refl
  go false s e = refl

module _ (arg : List ℕ) (args : List (List ℕ)) (e : (ordered (arg ∷ args)).usage ≡ Right) where
  -- argument i stands at place i, behind an empty one that is none
  all_placed : ((ordered (arg ∷ args)).command ≡ (begun arg).command)
      × ((ordered (arg ∷ args)).names ≡ all_more no_names (names_at false 2 args))
      × ((ordered (arg ∷ args)).number ≡ number_after ([] ∷ arg ∷ args) (names_at false 2 args) (row_of (begun arg).command).files 0)
  unfolding ordered begun no_names
  all_placed =
      let o : Order = begun arg in
      let f : Fresh o = begun_fresh (argument_of false arg) arg in
      let s : closed (taken_all o 2 args) ≡ taken_all o 2 args = closed_same (taken_all o 2 args) e in
      let k = all_named ([] ∷ arg ∷ args) o 2 args refl (ap (λ (x : Order). x.usage) (sym s) ∙ e) in
      let c : o.names.count ≡ 0 = ap (λ (x : Names). x.count) f.0 in
      let w : (row_of o.command).files - o.names.count ≡ (row_of o.command).files = omega arith in
      let names : (taken_all o 2 args).names ≡ all_more o.names (names_at o.plain 2 args) = k.1 in
      let number : (taken_all o 2 args).number ≡ number_with ([] ∷ arg ∷ args) o (names_at o.plain 2 args) = k.2 in
      let n : o.names ≡ no_names = f.0 in
      let z : o.number ≡ 0 = f.1 in
      let p : o.plain ≡ false = f.2 in
      (ap (λ (x : Order). x.command) s ∙ k.0, ap (λ (x : Order). x.names) s ∙ (cc), ap (λ (x : Order). x.number) s ∙ (cc))

  pub names-placed : ((ordered (arg ∷ args)).names.count ≡ length (names_at false 2 args))
      × ((ordered (arg ∷ args)).names.first ≡ get_or (names_at false 2 args) 0 0)
      × ((ordered (arg ∷ args)).names.second ≡ get_or (names_at false 2 args) 1 0)
  names-placed =
      let n : (ordered (arg ∷ args)).names ≡ all_more no_names (names_at false 2 args) = all_placed.1 in
      let p = placed (names_at false 2 args) in
      (ap (λ (x : Names). x.count) n ∙ p.0, ap (λ (x : Names). x.first) n ∙ p.1, ap (λ (x : Names). x.second) n ∙ p.2)

  -- 0 where there are no more names than files: it is then the value of the empty one
  pub number-placed : (ordered (arg ∷ args)).number ≡ value (get_or ([] ∷ arg ∷ args) (get_or (names_at false 2 args) (row_of (ordered (arg ∷ args)).command).files 0) [])
  number-placed =
      let k : (ordered (arg ∷ args)).number ≡ number_after ([] ∷ arg ∷ args) (names_at false 2 args) (row_of (ordered (arg ∷ args)).command).files 0 =
      rw all_placed.0 all_placed.2
      in
      let n : (ordered (arg ∷ args)).names.count ≡ length (names_at false 2 args) = names-placed.0 in
      let few : (ordered (arg ∷ args)).names.count ≤ (row_of (ordered (arg ∷ args)).command).most = (ordered-right (arg ∷ args) e).0.few in
      let most : (row_of (ordered (arg ∷ args)).command).most ≤ (row_of (ordered (arg ∷ args)).command).files + 1 = (arguments-fit (ordered (arg ∷ args)).command).2 in
      k ∙ number-after ([] ∷ arg ∷ args) (names_at false 2 args) (row_of (ordered (arg ∷ args)).command).files refl (omega arith)

-- ---- the number of `play` is its third name's

play-placed : (args : List (List ℕ)) → (ordered (bytes_of "play" ∷ args)).usage ≡ Right
    → (ordered (bytes_of "play" ∷ args)).number ≡ value (get_or ([] ∷ bytes_of "play" ∷ args) (get_or (names_at false 2 args) 2 0) [])
unfolding pick every begins same row_of commands named_in command_named argument_of fresh begun_named begun_as begun
play-placed args e =
    let c : (ordered (bytes_of "play" ∷ args)).command ≡ Play = (all_placed (bytes_of "play") args e).0 in
    number-placed (bytes_of "play") args e ∙ rw c

module _ (a b : List ℕ) (p : argument_of false a ≡ Name) (q : argument_of false b ≡ Name) where
  pub play-without : (ordered (bytes_of "play" ∷ a ∷ b ∷ [])).usage ≡ Right → (ordered (bytes_of "play" ∷ a ∷ b ∷ [])).number ≡ 0
  unfolding names_at with_name is_name plain_after pick value value_from
  play-without e = play-placed (a ∷ b ∷ []) e ∙ rw (p, q)

  pub play-number : (c : List ℕ) → argument_of false c ≡ Name → (ordered (bytes_of "play" ∷ a ∷ b ∷ c ∷ [])).usage ≡ Right → (ordered (bytes_of "play" ∷ a ∷ b ∷ c ∷ [])).number ≡ value c
  unfolding names_at with_name is_name plain_after pick
  play-number c s e = play-placed (a ∷ b ∷ c ∷ []) e ∙ rw (p, q, s)
