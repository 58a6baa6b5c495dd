-- Lines of document 01's example, and lines that are unreadable, worked out by the definitions.
-- Assumes nothing.
use mathlib.Core.Path.{◌≡◌, refl}
use mathlib.Core.List.{List, [], ◌∷◌, ◌++◌, map}
use Prim.Native.Nat.{ℕ}
use Rattle.std.specs.Prelude.{Some, None}
use Rattle.base.specs.Tests.{pick, every, between}
use Rattle.ascii.specs.Text.{bytes_of}
use Rattle.ascii.specs.Words.{begins, bytes_before}
use Rattle.ascii.specs.Numbers.{is_digit, all_digits, is_number, value_from, value}
use Rattle.ascii.specs.Decimals.{digits_of, decimal}
use Rattle.lines.specs.declared.Command.TheVariants.{Open, Hear, Pass}
use Rattle.lines.specs.Commands.{first_word, other_words, two_numbers, open_of, hear_of, pass_of, command_of}
use Rattle.lines.specs.Output.{word_line, words_line, figure, open_line, message_line, no_line, bad_line, end_line}

abbrev pub readable_lines : List (List ℕ)
readable_lines = bytes_of "O 1 5040" ∷ bytes_of "H 1 5040" ∷ bytes_of "T 1000" ∷ bytes_of "O 65535 0" ∷ bytes_of "T 0000000001" ∷ []

pub readable-lines : map command_of readable_lines ≡ Some (Open 1 5040) ∷ Some (Hear 1 5040) ∷ Some (Pass 1000) ∷ Some (Open 65535 0) ∷ Some (Pass 1) ∷ []
unfolding pick every between bytes_before is_digit all_digits is_number value_from value begins first_word other_words two_numbers open_of hear_of pass_of command_of
readable-lines = refl

-- the empty line; parts above 65,535; 11 digits; a doubled space; a leading space; a trailing space; a sign; lower case; no number; no space; a carriage return; a tab; the byte 0
abbrev pub unreadable_lines : List (List ℕ)
unreadable_lines = []
    ∷ bytes_of "O 65536 0"
    ∷ bytes_of "T 00000000001"
    ∷ bytes_of "O  1 5040"
    ∷ bytes_of " O 1 5040"
    ∷ bytes_of "O 1 5040 "
    ∷ bytes_of "T +1"
    ∷ bytes_of "t 1"
    ∷ bytes_of "T "
    ∷ bytes_of "T"
    ∷ (bytes_of "O 1 5040" ++ (13 ∷ []))
    ∷ (79 ∷ 9 ∷ bytes_of "1 5040")
    ∷ (bytes_of "T 1" ++ (0 ∷ []))
    ∷ []

pub unreadable-lines : map command_of unreadable_lines ≡ map (λ l. None) unreadable_lines
unfolding pick every between bytes_before is_digit all_digits is_number value_from value begins first_word other_words two_numbers open_of hear_of pass_of command_of
unreadable-lines = refl

pub open-0-parts-1 : open_line 0 1 ≡ bytes_of "open 0 parts 1\n"
unfolding pick digits_of decimal word_line words_line
open-0-parts-1 = refl

pub message-a : message_line 5040000 5040000 0 (bytes_of "a") ≡ bytes_of "5040000 5040000 0 a\n"
unfolding pick digits_of decimal figure message_line
message-a = refl

pub end-7560000-sent-2 : end_line 7560000 2 ≡ bytes_of "end 7560000 sent 2\n"
unfolding pick digits_of decimal word_line words_line
end-7560000-sent-2 = refl

pub no-12 : no_line 12 ≡ bytes_of "no 12\n"
unfolding pick digits_of decimal word_line
no-12 = refl

pub bad-3 : bad_line 3 ≡ bytes_of "bad 3\n"
unfolding pick digits_of decimal word_line
bad-3 = refl
