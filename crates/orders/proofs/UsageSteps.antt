-- What an argument is, and what it makes of an order, in the code's own terms: what the calls told decides the tests of the definition.
-- Assumes nothing.
use mathlib.Core.Path.{◌≡◌, refl, sym, ◌∙◌}
use mathlib.Core.Bool.{Bool, true, false, not}
use mathlib.Core.List.{List}
use Prim.Native.Nat.{ℕ, ◌+◌, ◌<◌, ◌≤◌}
use lib.Dec.{ltb}
use borrow.Author.Tests.{eq-eqb, ne_eqb, le-leb, lt-leb, lt-ltb, le-ltb}
use borrow.Author.Rules.{rules}
use Rattle.base.specs.Tests.{pick}
use Rattle.base.proofs.TestLaws.{pick_true, pick-false, every-pass, every-stop, every-last, told-true, told-false}
use Rattle.std.specs.Prelude.{Option, Some, None}
use Rattle.std.proofs.Common.{◌⊎◌, inl, inr}
use Rattle.ascii.specs.Numbers.{number_of}
use Rattle.ascii.specs.Text.{bytes_of}
use Rattle.ascii.specs.Words.{begins, same}
use Rattle.ascii.proofs.NumberSteps.{told-number, told-value, told_none}
use Rattle.menu.specs.declared.Command.{Command}
use Rattle.menu.specs.declared.Command.TheVariants.{Help}
use Rattle.orders.specs.declared.Argument.{Argument}
use Rattle.orders.specs.declared.Argument.TheVariants.{Name, Plain, Wish, Dashed}
use Rattle.orders.specs.declared.Usage.{Usage}
use Rattle.orders.specs.declared.Usage.TheVariants.{Right, Wished, NoCommand, NoOption, TooFew, TooMany, NoNumber, InputTwice}
use Rattle.orders.specs.declared.Names.{Names}
use Rattle.orders.specs.declared.Order.{Order}
use Rattle.menu.specs.Table.{row_of, command_named}
use Rattle.orders.specs.Usage.{dash, argument_of, is_name, name_more, fresh, stopped, is_right, begun_named, begun_as, begun, named, numbered, file_taken, number_taken, name_taken, taken_plain, taken_as, taken, closed, is_input}

-- ---- what an argument is

pub behind-dashes : (plain : Bool) (arg : List ℕ) → plain ≡ true → Name ≡ argument_of plain arg
unfolding argument_of
behind-dashes plain arg p = pick_true _ _ _ _ p refl

module _ (plain : Bool) (arg : List ℕ) (np : plain ≡ false) (d : Bool) (ed : d ≡ same (bytes_of "--") arg) where
  pub is_plain : d ≡ true → Plain ≡ argument_of plain arg
  unfolding argument_of
  is_plain p = pick-false _ _ _ _ np (pick_true _ _ _ _ (sym ed ∙ p) refl)

  module _ (nd : d ≡ false) (h : Bool) (eh : h ≡ same (bytes_of "-h") arg) where
    pub is-short-wish : h ≡ true → Wish ≡ argument_of plain arg
    unfolding argument_of
    is-short-wish p = pick-false _ _ _ _ np (pick-false _ _ _ _ (sym ed ∙ nd) (pick_true _ _ _ _ (sym eh ∙ p) refl))

    module _ (nh : h ≡ false) (l : Bool) (el : l ≡ same (bytes_of "--help") arg) where
      pub is-long-wish : l ≡ true → Wish ≡ argument_of plain arg
      unfolding argument_of
      is-long-wish p = pick-false _ _ _ _ np (pick-false _ _ _ _ (sym ed ∙ nd) (pick-false _ _ _ _ (sym eh ∙ nh) (pick_true _ _ _ _ (sym el ∙ p) refl)))

      module _ (nl : l ≡ false) (s : Bool) (es : s ≡ same dash arg) where
        past_words : (r : Argument) → r ≡ pick (same dash arg) Name (pick (begins dash arg) Dashed Name) → r ≡ argument_of plain arg
        unfolding argument_of
        past_words r e = pick-false _ _ _ _ np (pick-false _ _ _ _ (sym ed ∙ nd) (pick-false _ _ _ _ (sym eh ∙ nh) (pick-false _ _ _ _ (sym el ∙ nl) e)))

        pub is-input : s ≡ true → Name ≡ argument_of plain arg
        is-input p = past_words Name (pick_true _ _ _ _ (sym es ∙ p) refl)

        module _ (ns : s ≡ false) (b : Bool) (eb : b ≡ begins dash arg) where
          pub is-dashed : b ≡ true → Dashed ≡ argument_of plain arg
          is-dashed p = past_words Dashed (pick-false _ _ _ _ (sym es ∙ ns) (pick_true _ _ _ _ (sym eb ∙ p) refl))

          pub is-name : b ≡ false → Name ≡ argument_of plain arg
          is-name p = past_words Name (pick-false _ _ _ _ (sym es ∙ ns) (pick-false _ _ _ _ (sym eb ∙ p) refl))

pub ruleset reading = (behind-dashes, is_plain, is-short-wish, is-long-wish, is-input, is-dashed, is-name, rules)

pub no-name : (a : Argument) (plain : Bool) (arg : List ℕ) → a ≡ argument_of plain arg → (a ≡ Name → ⊥) → false ≡ is_name (argument_of plain arg)
unfolding is_name
no-name a plain arg ea p = rw (← ea) (go a p) where
  go : (y : Argument) → (y ≡ Name → ⊥) → false ≡ is_name y
  go Name q = absurd (q refl)
  go Plain q = refl
  go Wish q = refl
  go Dashed q = refl

pub is-a-name : (a : Argument) (plain : Bool) (arg : List ℕ) → a ≡ argument_of plain arg → a ≡ Name → true ≡ is_name (argument_of plain arg)
unfolding is_name
is-a-name a plain arg ea e = rw (← ea, e) refl

pub ruleset naming = (is-a-name, no-name, rules)

-- ---- one name more

module _ (n : Names) (i : ℕ) where
  pub more-first : n.count ≡ 0 → record { count = n.count + 1; first = i; second = n.second } ≡ name_more n i
  unfolding name_more
  more-first e = pick_true _ _ _ _ (eq-eqb n.count 0 e) refl

  pub more-second : (n.count ≡ 0 → ⊥) → n.count ≡ 1 → record { count = n.count + 1; first = n.first; second = i } ≡ name_more n i
  unfolding name_more
  more-second z e = pick-false _ _ _ _ (ne_eqb n.count 0 z) (pick_true _ _ _ _ (eq-eqb n.count 1 e) refl)

  pub more-later : (n.count ≡ 0 → ⊥) → (n.count ≡ 1 → ⊥) → record { count = n.count + 1; first = n.first; second = n.second } ≡ name_more n i
  unfolding name_more
  more-later z o = pick-false _ _ _ _ (ne_eqb n.count 0 z) (pick-false _ _ _ _ (ne_eqb n.count 1 o) refl)

pub named_more : (o : Order) (n : Names) (i inputs : ℕ) → n ≡ name_more o.names i
    → record { command = o.command; names = n; inputs = inputs; number = o.number; plain = o.plain; usage = o.usage; at = o.at } ≡ named o i inputs
unfolding named
named_more o n i inputs e = rw e

pub numbered_more : (o : Order) (n : Names) (i number : ℕ) → n ≡ name_more o.names i
    → record { command = o.command; names = n; inputs = o.inputs; number = number; plain = o.plain; usage = o.usage; at = o.at } ≡ numbered o i number
unfolding numbered
numbered_more o n i number e = rw e

pub ruleset adding = (more-first, more-second, more-later, named_more, numbered_more, rules)

-- ---- the first argument

pub right-found : (u : Usage) → u ≡ Right → true ≡ is_right u
unfolding is_right
right-found u e = rw e refl

pub right-none : (u : Usage) → (u ≡ Right → ⊥) → false ≡ is_right u
unfolding is_right
right-none Right p = absurd (p refl)
right-none Wished p = refl
right-none NoCommand p = refl
right-none NoOption p = refl
right-none TooFew p = refl
right-none TooMany p = refl
right-none NoNumber p = refl
right-none InputTwice p = refl

module _ (arg : List ℕ) (a : Argument) (ea : a ≡ argument_of false arg) (r : Order) where
  pub begun-wish : a ≡ Wish → r ≡ fresh Help Wished 0 → r ≡ begun arg
  unfolding begun begun_as
  begun-wish e p = rw (← ea, e) p

  module _ (n : Option Command) (en : n ≡ command_named arg) (er : r ≡ begun_named n) where
    pub begun-found : (a ≡ Name) ⊎ ((a ≡ Plain) ⊎ (a ≡ Dashed)) → r ≡ begun arg
    unfolding begun begun_as
    begun-found (inl e) = rw (← ea, e, ← en) er
    begun-found (inr (inl e)) = rw (← ea, e, ← en) er
    begun-found (inr (inr e)) = rw (← ea, e, ← en) er

pub ruleset beginning = (right-found, right-none, begun-wish, begun-found, rules)

-- ---- one argument more

module _ (o : Order) (arg : List ℕ) (t : Bool) (et : t ≡ same dash arg) where
  pub input-other : t ≡ false → t ≡ is_input o arg
  unfolding is_input
  input-other p = p ∙ every-stop _ _ (sym et ∙ p)

  pub input-read : (n : ℕ) → t ≡ true → n ≡ (row_of o.command).reads → ltb o.names.count n ≡ is_input o arg
  unfolding is_input
  input-read n p e = every-pass _ _ _ (sym et ∙ p) (every-last _ _ (rw e))

module _ (o : Order) (i : ℕ) (arg : List ℕ) (r : Order) where
  module _ (t : Bool) (et : t ≡ is_input o arg) where
    pub file-twice : t ≡ true → 1 ≤ o.inputs → r ≡ stopped o InputTwice i → r ≡ file_taken o i arg
    unfolding file_taken
    file-twice p q e = pick_true _ _ _ _ (sym et ∙ p) (pick_true _ _ _ _ (le-leb 1 o.inputs q) e)

    pub file-input : t ≡ true → o.inputs < 1 → r ≡ named o i (o.inputs + 1) → r ≡ file_taken o i arg
    unfolding file_taken
    file-input p q e = pick_true _ _ _ _ (sym et ∙ p) (pick-false _ _ _ _ (lt-leb 1 o.inputs q) e)

    pub file-other : t ≡ false → r ≡ named o i o.inputs → r ≡ file_taken o i arg
    unfolding file_taken
    file-other p e = pick-false _ _ _ _ (sym et ∙ p) e

  module _ (v : Option ℕ) (ev : v ≡ number_of arg) where
    pub number-none : v ≡ None → r ≡ stopped o NoNumber i → r ≡ number_taken o i arg
    unfolding number_taken
    number-none p e = pick-false _ _ _ _ (told_none arg v ev p) e

    pub number_read : (n : ℕ) → v ≡ Some n → r ≡ numbered o i n → r ≡ number_taken o i arg
    unfolding number_taken
    number_read n p e = pick_true _ _ _ _ (told-number arg v ev n p) (rw (told-value arg v ev n p) at e)

  module _ (most : ℕ) (em : most ≡ (row_of o.command).most) where
    pub name-many : most ≤ o.names.count → r ≡ stopped o TooMany i → r ≡ name_taken o i arg
    unfolding name_taken
    name-many p e = pick_true _ _ _ _ (rw (← em) (le-leb most o.names.count p)) e

    module _ (few : o.names.count < most) (files : ℕ) (ef : files ≡ (row_of o.command).files) where
      pub name-number : files ≤ o.names.count → r ≡ number_taken o i arg → r ≡ name_taken o i arg
      unfolding name_taken
      name-number p e = pick-false _ _ _ _ (rw (← em) (lt-leb most o.names.count few)) (pick_true _ _ _ _ (rw (← ef) (le-leb files o.names.count p)) e)

      pub name-file : o.names.count < files → r ≡ file_taken o i arg → r ≡ name_taken o i arg
      unfolding name_taken
      name-file p e = pick-false _ _ _ _ (rw (← em) (lt-leb most o.names.count few)) (pick-false _ _ _ _ (rw (← ef) (lt-leb files o.names.count p)) e)

pub ruleset filing = (file-twice, file-input, file-other, rules)

pub ruleset figures = (number-none, number_read, rules)

pub ruleset counting = (name-many, name-number, name-file, rules)

module _ (o : Order) (t : Bool) (et : t ≡ is_right o.usage) where
  pub take_on : (i : ℕ) (arg : List ℕ) (a : Argument) (r : Order) → t ≡ true → a ≡ argument_of o.plain arg → r ≡ taken_as o i a arg → r ≡ taken o i arg
  unfolding taken
  take_on i arg a r p ea e = pick_true _ _ _ _ (sym et ∙ p) (rw ea at e)

  pub take_none : (i : ℕ) (arg : List ℕ) → t ≡ false → o ≡ taken o i arg
  unfolding taken
  take_none i arg p = pick-false _ _ _ _ (sym et ∙ p) refl

  pub close-none : t ≡ false → o ≡ closed o
  unfolding closed
  close-none p = pick-false _ _ _ _ (sym et ∙ p) refl

  module _ (right : t ≡ true) (least : ℕ) (el : least ≡ (row_of o.command).least) where
    pub close-few : (r : Order) → o.names.count < least → r ≡ stopped o TooFew 1 → r ≡ closed o
    unfolding closed
    close-few r p e = pick_true _ _ _ _ (sym et ∙ right) (pick_true _ _ _ _ (rw (← el) (lt-ltb o.names.count least p)) e)

    pub close-right : least ≤ o.names.count → o ≡ closed o
    unfolding closed
    close-right p = pick_true _ _ _ _ (sym et ∙ right) (pick-false _ _ _ _ (rw (← el) (le-ltb o.names.count least p)) refl)

pub ruleset closing = (take_on, take_none, close-none, close-few, close-right, rules)
