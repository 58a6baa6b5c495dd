-- The arguments, read from front to back: the first fault decides.
use Rattle.std.specs.Prelude.{ℕ, suc, ◌+◌, Bool, true, false, List, [], ◌∷◌, eqb, leb, ltb, Option, Some, None}
use Rattle.base.specs.Tests.{pick, every}
use Rattle.ascii.specs.Numbers.{is_number, value}
use Rattle.ascii.specs.Text.{bytes_of}
use Rattle.ascii.specs.Words.{begins, same}
use Rattle.menu.specs.declared.Command.{Command}
use Rattle.menu.specs.declared.Command.TheVariants.{Help}
use Rattle.menu.specs.Table.{row_of, command_named}
use Rattle.orders.specs.declared.Argument.{Argument}
use Rattle.orders.specs.declared.Argument.TheVariants.{Name, Plain, Wish, Dashed}
use Rattle.orders.specs.declared.Usage.{Usage}
use Rattle.orders.specs.declared.Usage.TheVariants.{Right, Wished, NoCommand, NoOption, TooFew, TooMany, NoNumber, InputTwice}
use Rattle.orders.specs.declared.Names.{Names}
use Rattle.orders.specs.declared.Order.{Order}

-- ---- what an argument is

-- The name of standard input and of standard output. It is also what an option begins with.
abbrev pub dash : List ℕ
dash = bytes_of "-"

-- Behind `--` everything is a name.
unfoldable pub argument_of : (plain : Bool) → List ℕ → Argument
argument_of plain arg =
    pick plain Name
    (pick (same (bytes_of "--") arg) Plain
    (pick (same (bytes_of "-h") arg) Wish
    (pick (same (bytes_of "--help") arg) Wish
    (pick (same dash arg) Name
    (pick (begins dash arg) Dashed Name)))))

-- The argument is a name.
unfoldable pub is_name : Argument → Bool
is_name Name = true
is_name Plain = false
is_name Wish = false
is_name Dashed = false

-- ---- names

unfoldable pub no_names : Names
no_names = record { count = 0; first = 0; second = 0 }

-- One name more, which is argument i. Of the first and the second it is kept which arguments they are.
unfoldable pub name_more : Names → (i : ℕ) → Names
name_more n i =
    pick (eqb n.count 0) (record { count = n.count + 1; first = i; second = n.second })
    (pick (eqb n.count 1) (record { count = n.count + 1; first = n.first; second = i })
    (record { count = n.count + 1; first = n.first; second = n.second }))

-- ---- what is ordered

-- An order with no names; one with what was found at an argument.
unfoldable pub fresh : Command → Usage → (at : ℕ) → Order
fresh c u at = record { command = c; names = no_names; inputs = 0; number = 0; plain = false; usage = u; at = at }

unfoldable pub stopped : Order → Usage → (at : ℕ) → Order
stopped o u at = record { command = o.command; names = o.names; inputs = o.inputs; number = o.number; plain = o.plain; usage = u; at = at }

-- Nothing was found.
unfoldable pub is_right : Usage → Bool
is_right Right = true
is_right Wished = false
is_right NoCommand = false
is_right NoOption = false
is_right TooFew = false
is_right TooMany = false
is_right NoNumber = false
is_right InputTwice = false

-- ---- the first argument

-- The command that was looked up; an unknown one is a fault of argument 1.
unfoldable pub begun_named : Option Command → Order
begun_named (Some c) = fresh c Right 0
begun_named None = fresh Help NoCommand 1

-- A wish for help, else the command of that name. Where no command is known, it is `help`.
unfoldable pub begun_as : Argument → List ℕ → Order
begun_as Name arg = begun_named (command_named arg)
begun_as Plain arg = begun_named (command_named arg)
begun_as Wish arg = fresh Help Wished 0
begun_as Dashed arg = begun_named (command_named arg)

unfoldable pub begun : List ℕ → Order
begun arg = begun_as (argument_of false arg) arg

-- ---- one argument more

-- The order with a name more, where so many of the names are standard input.
unfoldable pub named : Order → (i inputs : ℕ) → Order
named o i inputs = record { command = o.command; names = name_more o.names i; inputs = inputs; number = o.number; plain = o.plain; usage = o.usage; at = o.at }

-- The order with a number more, which is argument i: it counts among the names.
unfoldable pub numbered : Order → (i number : ℕ) → Order
numbered o i number =
    record { command = o.command; names = name_more o.names i; inputs = o.inputs; number = number; plain = o.plain; usage = o.usage; at = o.at }

-- The name is standard input's: it is `-`, where a file is read. Where one is written it is standard output's.
unfoldable pub is_input : Order → List ℕ → Bool
is_input o arg = every (same dash arg ∷ ltb o.names.count (row_of o.command).reads ∷ [])

-- The name of a file, which is argument i: standard input a second time is a fault.
unfoldable pub file_taken : Order → (i : ℕ) → List ℕ → Order
file_taken o i arg = pick (is_input o arg) (pick (leb 1 o.inputs) (stopped o InputTwice i) (named o i (o.inputs + 1))) (named o i o.inputs)

-- A number, of 1 to 10 digits: anything else is a fault.
unfoldable pub number_taken : Order → (i : ℕ) → List ℕ → Order
number_taken o i arg = pick (is_number arg) (numbered o i (value arg)) (stopped o NoNumber i)

-- A name, which is argument i: a file's, or a number behind these. One more than the command takes is a fault.
unfoldable pub name_taken : Order → (i : ℕ) → List ℕ → Order
name_taken o i arg =
    pick (leb (row_of o.command).most o.names.count) (stopped o TooMany i)
    (pick (leb (row_of o.command).files o.names.count) (number_taken o i arg) (file_taken o i arg))

-- The `--`, behind which each argument is a name.
unfoldable pub taken_plain : Order → Order
taken_plain o = record { command = o.command; names = o.names; inputs = o.inputs; number = o.number; plain = true; usage = o.usage; at = o.at }

-- One argument more, by what it is.
unfoldable pub taken_as : Order → (i : ℕ) → Argument → List ℕ → Order
taken_as o i Name arg = name_taken o i arg
taken_as o i Plain arg = taken_plain o
taken_as o i Wish arg = stopped o Wished 0
taken_as o i Dashed arg = stopped o NoOption i

-- Where something was found already, nothing changes.
unfoldable pub taken : Order → (i : ℕ) → List ℕ → Order
taken o i arg = pick (is_right o.usage) (taken_as o i (argument_of o.plain arg) arg) o

-- ---- all arguments

-- No argument more: fewer names than the command takes are a fault, told of the command.
unfoldable pub closed : Order → Order
closed o = pick (is_right o.usage) (pick (ltb o.names.count (row_of o.command).least) (stopped o TooFew 1) o) o

-- These arguments, the first of them argument i.
unfoldable pub taken_all : Order → (i : ℕ) → List (List ℕ) → Order
taken_all o i [] = o
taken_all o i (arg ∷ args) = taken_all (taken o i arg) (suc i) args

-- No argument at all is a wish for help. The command is argument 1.
unfoldable pub ordered : List (List ℕ) → Order
ordered [] = fresh Help Wished 0
ordered (arg ∷ args) = closed (taken_all (begun arg) 2 args)
