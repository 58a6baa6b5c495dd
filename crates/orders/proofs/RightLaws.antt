-- A right order has as many names as its command takes, and standard input once at most.
-- Assumes nothing.
use mathlib.Core.Path.{◌≡◌, refl}
use mathlib.Core.Bool.{Bool, true, false}
use mathlib.Core.List.{List, [], ◌∷◌}
use Prim.Native.Nat.{ℕ, suc, ◌+◌, ◌<◌, ◌≤◌}
use native.Mathlib.Omega.{arith}
use lib.Dec.{eqb, leb, ltb}
use borrow.Author.Tests.{leb-false, ltb-false}
use Rattle.std.specs.Prelude.{Option, Some, None}
use Rattle.base.specs.Tests.{pick}
use Rattle.ascii.specs.Numbers.{is_number, value}
use Rattle.menu.specs.declared.Command.{Command}
use Rattle.orders.specs.declared.Argument.{Argument}
use Rattle.orders.specs.declared.Argument.TheVariants.{Name, Plain, Wish, Dashed}
use Rattle.orders.specs.declared.Usage.{Usage}
use Rattle.orders.specs.declared.Usage.TheVariants.{Right, TooFew, TooMany, NoNumber, InputTwice}
use Rattle.orders.specs.declared.Names.{Names}
use Rattle.orders.specs.declared.Order.{Order}
use Rattle.menu.specs.Table.{row_of, command_named}
use Rattle.orders.specs.Usage.{argument_of, no_names, name_more, fresh, stopped, is_right, begun_named, begun_as, begun, named, numbered, file_taken, number_taken, name_taken, taken_plain, taken_as, taken, closed, taken_all, ordered, is_input}

-- no more names than the command takes, and standard input once at most
pub record Fitting (o : Order) : Type 0 where
  pub few : o.names.count ≤ (row_of o.command).most
  pub single : o.inputs ≤ 1

-- ---- the first argument

fresh-fits : (c : Command) (u : Usage) (at : ℕ) → Fitting (fresh c u at)
unfolding fresh no_names
fresh-fits c u at = record { few = omega arith; single = omega arith }

named-fits : (n : Option Command) → Fitting (begun_named n)
unfolding begun_named
named-fits (Some c) = fresh-fits c _ _
named-fits None = fresh-fits _ _ _

begun-as-fits : (a : Argument) (arg : List ℕ) → Fitting (begun_as a arg)
unfolding begun_as
begun-as-fits Name arg = named-fits (command_named arg)
begun-as-fits Plain arg = named-fits (command_named arg)
begun-as-fits Wish arg = fresh-fits _ _ _
begun-as-fits Dashed arg = named-fits (command_named arg)

-- ---- one argument more

pub more-counted : (n : Names) (i : ℕ) → (name_more n i).count ≡ n.count + 1
unfolding name_more pick
more-counted n i = go (eqb n.count 0) (eqb n.count 1) where
  go : (s t : Bool)
      → (pick {A = Names} s (record { count = n.count + 1; first = i; second = n.second })
      (pick t (record { count = n.count + 1; first = n.first; second = i }) (record { count = n.count + 1; first = n.first; second = n.second }))).count
      ≡ n.count + 1
  go true t = refl
  go false true = refl
  go false false = refl

module _ (o : Order) (f : Fitting o) where
  stopped-fits : (u : Usage) (at : ℕ) → Fitting (stopped o u at)
  unfolding stopped
  stopped-fits u at = record { few = f.few; single = f.single }

  named-more-fits : (i n : ℕ) → o.names.count < (row_of o.command).most → n ≤ 1 → Fitting (named o i n)
  unfolding named
  named-more-fits i n p q =
      let c : (name_more o.names i).count ≡ o.names.count + 1 = more-counted o.names i in
      record { few = omega arith; single = q }

  module _ (i : ℕ) (arg : List ℕ) where
    file-fits : o.names.count < (row_of o.command).most → Fitting (file_taken o i arg)
    unfolding file_taken pick
    file-fits p = go (is_input o arg) (leb 1 o.inputs) refl where
      go : (s u : Bool) → leb 1 o.inputs ≡ u → Fitting (pick s (pick u (stopped o InputTwice i) (named o i (o.inputs + 1))) (named o i o.inputs))
      go true true d = stopped-fits InputTwice i
      go true false d = let l : o.inputs < 1 = leb-false 1 o.inputs d in named-more-fits i (o.inputs + 1) p (omega arith)
      go false u d = named-more-fits i o.inputs p f.single

    number_fits : o.names.count < (row_of o.command).most → Fitting (number_taken o i arg)
    unfolding number_taken pick numbered named
    number_fits p = go (is_number arg) where
      go : (t : Bool) → Fitting (pick t (numbered o i (value arg)) (stopped o NoNumber i))
      go true = let n : Fitting (named o i o.inputs) = named-more-fits i o.inputs p f.single in record { few = n.few; single = n.single }
      go false = stopped-fits NoNumber i

    name-fits : Fitting (name_taken o i arg)
    unfolding name_taken pick
    name-fits = go (leb (row_of o.command).most o.names.count) (leb (row_of o.command).files o.names.count) refl where
      go : (t s : Bool) → leb (row_of o.command).most o.names.count ≡ t → Fitting (pick t (stopped o TooMany i) (pick s (number_taken o i arg) (file_taken o i arg)))
      go true s e = stopped-fits TooMany i
      go false true e = number_fits (leb-false _ _ e)
      go false false e = file-fits (leb-false _ _ e)

  as_fits : (i : ℕ) (a : Argument) (arg : List ℕ) → Fitting (taken_as o i a arg)
  unfolding taken_as taken_plain
  as_fits i Name arg = name-fits i arg
  as_fits i Plain arg = record { few = f.few; single = f.single }
  as_fits i Wish arg = stopped-fits _ _
  as_fits i Dashed arg = stopped-fits _ _

  taken-fits : (i : ℕ) (arg : List ℕ) → Fitting (taken o i arg)
  unfolding taken pick
  taken-fits i arg = go (is_right o.usage) where
    go : (t : Bool) → Fitting (pick t (taken_as o i (argument_of o.plain arg) arg) o)
    go true = as_fits i _ arg
    go false = f

all_fit : (o : Order) (i : ℕ) (args : List (List ℕ)) → Fitting o → Fitting (taken_all o i args)
unfolding taken_all
all_fit o i [] f = f
all_fit o i (arg ∷ args) f = all_fit (taken o i arg) (suc i) args (taken-fits o f i arg)

-- ---- all arguments

pub right_is : (u : Usage) → u ≡ Right → is_right u ≡ true
unfolding is_right
right_is u e = rw e

closed-right : (o : Order) → Fitting o → (closed o).usage ≡ Right → Fitting (closed o) × ((row_of (closed o).command).least ≤ (closed o).names.count)
unfolding closed pick stopped is_right
closed-right o f = go (is_right o.usage) (ltb o.names.count (row_of o.command).least) refl refl where
  go : (t s : Bool) → is_right o.usage ≡ t → ltb o.names.count (row_of o.command).least ≡ s
      → (pick t (pick s (stopped o TooFew 1) o) o).usage ≡ Right
      → Fitting (pick t (pick s (stopped o TooFew 1) o) o) × ((row_of (pick t (pick s (stopped o TooFew 1) o) o).command).least ≤ (pick t (pick s (stopped o TooFew 1) o) o).names.count)
  go true true p q e = let z : ◌≡◌ {A = ℕ} 0 1 = cc in absurd (omega arith)
  go true false p q e = (f, ltb-false _ _ q)
  go false s p q e =
      let y : is_right o.usage ≡ true = right_is o.usage e in
      let z : ◌≡◌ {A = ℕ} 0 1 = cc in
      absurd (omega arith)

pub ordered-right : (args : List (List ℕ)) → (ordered args).usage ≡ Right → Fitting (ordered args) × ((row_of (ordered args).command).least ≤ (ordered args).names.count)
unfolding ordered fresh begun
ordered-right [] e = let z : ◌≡◌ {A = ℕ} 0 1 = cc in absurd (omega arith)
ordered-right (arg ∷ args) e = closed-right (taken_all (begun arg) 2 args) (all_fit (begun arg) 2 args (begun-as-fits _ arg)) e
