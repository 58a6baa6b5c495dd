-- Small texts, worked out by the definitions: what is read at their front, and the exact byte of a fault.
-- Assumes nothing.
use mathlib.Core.Path.{◌≡◌, refl}
use mathlib.Core.Bool.{true, false}
use mathlib.Core.List.{[], ◌∷◌, map}
use Rattle.base.specs.Tests.{pick, every, between}
use Rattle.ascii.specs.Text.{bytes_of}
use Rattle.ascii.specs.Words.{begins, same}
use Rattle.ascii.specs.Numbers.{is_digit, value_from, value}
use Rattle.tokens.specs.Bytes.{is_blank, is_letter, is_escaped}
use Rattle.tokens.specs.Tokens.{got, stop, onward, past_blanks, blanks, leading, behind, is_word, is_number, number, with_byte, label_from, label}
use Rattle.tokens.specs.Beats.{is_fraction, valued, fraction, beats}
use Rattle.tokens.specs.Places.{place_from, place_behind}

-- a carriage return ends no comment; a comment may end with the text
pub blanks-passed : map blanks (bytes_of " \t\r\n# 1 \r 2\n 3" ∷ bytes_of "# 1" ∷ bytes_of "1 " ∷ []) ≡ bytes_of "3" ∷ [] ∷ bytes_of "1 " ∷ []
unfolding pick past_blanks is_blank
blanks-passed = refl

-- ten digits and eleven; a limit
pub numbers-read : map (number 65536) (bytes_of "0000000001x" ∷ bytes_of "00000000001" ∷ bytes_of "65535" ∷ bytes_of "65536" ∷ bytes_of "x1" ∷ [])
    ≡ got 1 (bytes_of "x") ∷ stop (bytes_of "00000000001") ∷ got 65535 [] ∷ stop (bytes_of "65536") ∷ stop (bytes_of "x1") ∷ []
unfolding pick every between is_digit leading behind value_from value is_number number
numbers-read = refl

-- "a denominator too big for its field is at its own first byte"; "`1/ 2` at the blank"; denominator 0; not a whole number of grains; the most grains, and too many
pub beats-read : map beats (bytes_of "1/2 send" ∷ bytes_of "3send" ∷ bytes_of "1/4294967296" ∷ bytes_of "1/ 2" ∷ bytes_of "1/0" ∷ bytes_of "1/11" ∷ bytes_of "852176" ∷ bytes_of "852177" ∷ [])
    ≡ got 2520 (bytes_of " send")
    ∷ got 15120 (bytes_of "send")
    ∷ stop (bytes_of "4294967296")
    ∷ stop (bytes_of " 2")
    ∷ stop (bytes_of "1/0")
    ∷ stop (bytes_of "1/11")
    ∷ got 4294967040 []
    ∷ stop (bytes_of "852177")
    ∷ []
unfolding pick every between is_digit leading behind value_from value is_number number onward is_fraction valued fraction beats
beats-read = refl

-- "within a label the newline, the byte after a backslash, or the text's end itself"
pub labels-read : map label (bytes_of "\"a\\\"b\\\\\"c" ∷ bytes_of "\"\"" ∷ bytes_of "\"a\nb\"" ∷ bytes_of "\"a\\nb\"" ∷ bytes_of "\"a" ∷ bytes_of "\"a\\" ∷ bytes_of "a\"" ∷ [])
    ≡ got (bytes_of "a\"b\\") (bytes_of "c")
    ∷ got [] []
    ∷ stop (bytes_of "\nb\"")
    ∷ stop (bytes_of "nb\"")
    ∷ stop []
    ∷ stop []
    ∷ stop (bytes_of "a\"")
    ∷ []
unfolding pick is_escaped with_byte label_from label
labels-read = refl

-- `send_x` is `send`, with the fault at its `X`
pub words-compared : map (is_word (bytes_of "send")) (bytes_of "send 0" ∷ bytes_of "send" ∷ bytes_of "sendX" ∷ bytes_of "sen" ∷ bytes_of "sends" ∷ bytes_of "Send" ∷ []) ≡ true ∷ true ∷ true ∷ false ∷ false ∷ false ∷ []
unfolding pick every between begins same is_letter leading is_word
words-compared = refl

-- "after a newline: the next line, column 1"; a byte from 128 up is one column, and a carriage return too
pub places-found : map place_behind ([] ∷ bytes_of "ab" ∷ bytes_of "ab\n" ∷ bytes_of "\n\n\r1" ∷ (195 ∷ 188 ∷ []) ∷ [])
    ≡ record { line = 1; column = 1 }
    ∷ record { line = 1; column = 3 }
    ∷ record { line = 2; column = 1 }
    ∷ record { line = 3; column = 3 }
    ∷ record { line = 1; column = 3 }
    ∷ []
unfolding pick place_from place_behind
places-found = refl
