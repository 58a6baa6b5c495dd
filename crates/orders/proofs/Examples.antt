-- Calls of the program, and what it tells of them, worked out by the definitions.
-- Assumes nothing.
use mathlib.Core.Path.{◌≡◌, refl}
use mathlib.Core.Bool.{Bool, true, false}
use mathlib.Core.List.{List, [], ◌∷◌, map}
use Prim.Native.Nat.{ℕ}
use Rattle.base.specs.Tests.{pick, every, between}
use Rattle.ascii.specs.Numbers.{is_digit, all_digits, is_number, value_from, value}
use Rattle.ascii.specs.Text.{bytes_of}
use Rattle.ascii.specs.Words.{begins, same}
use Rattle.menu.specs.declared.Command.{Command}
use Rattle.menu.specs.declared.Command.TheVariants.{Check, Play, Read, Replies, Help}
use Rattle.orders.specs.declared.Usage.{Usage}
use Rattle.orders.specs.declared.Usage.TheVariants.{Right, Wished, NoCommand, NoOption, TooFew, TooMany, NoNumber, InputTwice}
use Rattle.orders.specs.declared.Names.{Names}
use Rattle.orders.specs.declared.Order.{Order}
use Rattle.menu.specs.Table.{row_of, commands, named_in, command_named}
use Rattle.orders.specs.Usage.{argument_of, no_names, name_more, fresh, stopped, is_right, begun_named, begun_as, begun, named, numbered, is_input, file_taken, number_taken, name_taken, taken_plain, taken_as, taken, closed, taken_all, ordered}
use Rattle.orders.specs.Said.{usage_line, fault, fault_usage, missing, misuse_of, misuse_line, shown_byte, shown, first_line}

-- how many names, and which arguments the first two are
abbrev names : (count first second : ℕ) → Names
names count first second = record { count = count; first = first; second = second }

-- what a call came to: the command, its names, how many are standard input, the number, whether `--` was passed, and what is wrong with which argument
abbrev order_with : Command → Names → (inputs number : ℕ) → (plain : Bool) → Usage → (at : ℕ) → Order
order_with c n inputs number plain u at = record { command = c; names = n; inputs = inputs; number = number; plain = plain; usage = u; at = at }

-- with no number and no `--`
abbrev order : Command → Names → (inputs : ℕ) → Usage → (at : ℕ) → Order
order c n inputs u at = order_with c n inputs 0 false u at

-- ---- as the usage says

pub nothing-ordered : ordered [] ≡ order Help (names 0 0 0) 0 Wished 0
unfolding no_names fresh ordered
nothing-ordered = refl

abbrev right_calls : List (List (List ℕ))
right_calls = (bytes_of "check" ∷ bytes_of "a" ∷ bytes_of "b" ∷ [])
    ∷ (bytes_of "check" ∷ bytes_of "-" ∷ bytes_of "" ∷ [])
    ∷ (bytes_of "check" ∷ bytes_of "a" ∷ bytes_of "b" ∷ bytes_of "c" ∷ [])
    ∷ (bytes_of "play" ∷ bytes_of "a" ∷ bytes_of "-" ∷ [])
    ∷ (bytes_of "play" ∷ bytes_of "a" ∷ bytes_of "b" ∷ bytes_of "630" ∷ [])
    ∷ (bytes_of "read" ∷ bytes_of "-" ∷ bytes_of "-" ∷ [])
    ∷ (bytes_of "replies" ∷ [])
    ∷ (bytes_of "help" ∷ [])
    ∷ (bytes_of "--help" ∷ [])
    ∷ (bytes_of "-h" ∷ [])
    ∷ (bytes_of "check" ∷ bytes_of "-h" ∷ [])
    ∷ []

pub right-calls : map ordered right_calls
    ≡ order Check (names 2 2 3) 0 Right 0
    ∷ order Check (names 2 2 3) 1 Right 0
    ∷ order Check (names 3 2 3) 0 Right 0
    ∷ order Play (names 2 2 3) 1 Right 0
    ∷ order_with Play (names 3 2 3) 0 630 false Right 0
    ∷ order Read (names 2 2 3) 1 Right 0
    ∷ order Replies (names 0 0 0) 0 Right 0
    ∷ order Help (names 0 0 0) 0 Right 0
    ∷ order Help (names 0 0 0) 0 Wished 0
    ∷ order Help (names 0 0 0) 0 Wished 0
    ∷ order Check (names 0 0 0) 0 Wished 0
    ∷ []
unfolding pick every between is_digit all_digits is_number value_from value begins row_of commands same named_in command_named argument_of no_names name_more fresh stopped is_right begun_named begun_as begun named numbered is_input file_taken number_taken name_taken taken_plain taken_as taken closed taken_all ordered
right-calls = refl

-- behind `--` what begins with a dash is a name, and `-` is standard input still; the `--` itself is no name
pub dashes-passed : ordered (bytes_of "play" ∷ bytes_of "a" ∷ bytes_of "--" ∷ bytes_of "-x" ∷ []) ≡ order_with Play (names 2 2 4) 0 0 true Right 0
unfolding pick every between is_digit all_digits is_number value_from value begins row_of commands same named_in command_named argument_of no_names name_more fresh stopped is_right begun_named begun_as begun named numbered is_input file_taken number_taken name_taken taken_plain taken_as taken closed taken_all ordered
dashes-passed = refl

pub input-behind-dashes : ordered (bytes_of "check" ∷ bytes_of "--" ∷ bytes_of "-x" ∷ bytes_of "-" ∷ []) ≡ order_with Check (names 2 3 4) 1 0 true Right 0
unfolding pick every between is_digit all_digits is_number value_from value begins row_of commands same named_in command_named argument_of no_names name_more fresh stopped is_right begun_named begun_as begun named numbered is_input file_taken number_taken name_taken taken_plain taken_as taken closed taken_all ordered
input-behind-dashes = refl

-- a number behind `--` is a number still
pub number-behind-dashes : ordered (bytes_of "play" ∷ bytes_of "a" ∷ bytes_of "b" ∷ bytes_of "--" ∷ bytes_of "1" ∷ []) ≡ order_with Play (names 3 2 3) 0 1 true Right 0
unfolding pick every between is_digit all_digits is_number value_from value begins row_of commands same named_in command_named argument_of no_names name_more fresh stopped is_right begun_named begun_as begun named numbered is_input file_taken number_taken name_taken taken_plain taken_as taken closed taken_all ordered
number-behind-dashes = refl

-- ---- wrong, and at which argument

abbrev wrong_calls : List (List (List ℕ))
wrong_calls = (bytes_of "chekc" ∷ bytes_of "a" ∷ [])
    ∷ (bytes_of "check" ∷ [])
    ∷ (bytes_of "check" ∷ bytes_of "a" ∷ bytes_of "-x" ∷ [])
    ∷ (bytes_of "play" ∷ bytes_of "a" ∷ bytes_of "b" ∷ bytes_of "c" ∷ [])
    ∷ (bytes_of "play" ∷ bytes_of "a" ∷ bytes_of "b" ∷ bytes_of "00000000630" ∷ [])
    ∷ (bytes_of "play" ∷ bytes_of "a" ∷ bytes_of "-" ∷ bytes_of "-" ∷ [])
    ∷ (bytes_of "play" ∷ bytes_of "a" ∷ bytes_of "b" ∷ bytes_of "630" ∷ bytes_of "x" ∷ [])
    ∷ (bytes_of "play" ∷ bytes_of "-" ∷ bytes_of "-" ∷ [])
    ∷ (bytes_of "help" ∷ bytes_of "-x" ∷ bytes_of "a" ∷ [])
    ∷ []

pub wrong-calls : map ordered wrong_calls
    ≡ order Help (names 0 0 0) 0 NoCommand 1
    ∷ order Check (names 0 0 0) 0 TooFew 1
    ∷ order Check (names 1 2 0) 0 NoOption 3
    ∷ order Play (names 2 2 3) 0 NoNumber 4
    ∷ order Play (names 2 2 3) 0 NoNumber 4
    ∷ order Play (names 2 2 3) 1 NoNumber 4
    ∷ order_with Play (names 3 2 3) 0 630 false TooMany 5
    ∷ order Play (names 1 2 0) 1 InputTwice 3
    ∷ order Help (names 0 0 0) 0 NoOption 2
    ∷ []
unfolding pick every between is_digit all_digits is_number value_from value begins row_of commands same named_in command_named argument_of no_names name_more fresh stopped is_right begun_named begun_as begun named numbered is_input file_taken number_taken name_taken taken_plain taken_as taken closed taken_all ordered
wrong-calls = refl

-- ---- what is told

pub unknown-told : misuse_line (order Help (names 0 0 0) 0 NoCommand 1) (bytes_of "chekc") ≡ bytes_of "bin/poolmirror: chekc: no such command. bin/poolmirror help lists the commands.\n"
unfolding fault misuse_of misuse_line
unknown-told = refl

pub missing-told : misuse_line (order Check (names 0 0 0) 0 TooFew 1) (bytes_of "check") ≡ bytes_of "bin/poolmirror: check: an argument is missing\nusage: bin/poolmirror check FILE ..\n"
unfolding row_of usage_line fault fault_usage missing misuse_of misuse_line
missing-told = refl

pub no-number-told : misuse_line (order Play (names 2 2 3) 0 NoNumber 4) (bytes_of "c") ≡ bytes_of "bin/poolmirror: c: not a whole number of 1 to 10 digits\nusage: bin/poolmirror play FILE COMMANDS [GRACE]\n"
unfolding row_of usage_line fault fault_usage missing misuse_of misuse_line
no-number-told = refl

pub twice-told : misuse_line (order Play (names 1 2 0) 1 InputTwice 3) (bytes_of "-") ≡ bytes_of "bin/poolmirror: -: standard input can't be read twice\nusage: bin/poolmirror play FILE COMMANDS [GRACE]\n"
unfolding row_of usage_line fault fault_usage missing misuse_of misuse_line
twice-told = refl

pub newline-shown : shown (bytes_of "a\nb") ≡ bytes_of "a?b"
unfolding pick shown_byte shown
newline-shown = refl

pub empty-shown : shown [] ≡ bytes_of "\"\""
unfolding shown
empty-shown = refl

pub first-line-told : first_line (bytes_of "commands") ≡ bytes_of "commands:1"
unfolding first_line
first-line-told = refl
