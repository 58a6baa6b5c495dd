-- Small texts without their layout, worked out by the definitions.
-- Assumes nothing.
use mathlib.Core.Path.{◌≡◌, refl}
use mathlib.Core.List.{[], ◌∷◌, map}
use Rattle.base.specs.Tests.{pick}
use Rattle.ascii.specs.Text.{bytes_of}
use Rattle.tokens.specs.Bytes.{is_blank}
use Rattle.tokens.specs.Tokens.{past_blanks}
use Rattle.text.specs.Layout.{squeezed_from, squeezed}

-- Blanks before the first token and a comment behind the last; comments right behind a number, a word and the text's last byte; no blank where none is needed.
-- Within a label blanks and `#` stay, an escaped quote doesn't end it, and the comment right behind it goes.
-- A newline within a label and a bad escape stay too. A blank within a fraction stays a fault; a text of a comment is empty.
pub laid-squeezed :
    map squeezed
    (bytes_of " \t\r\n messages # the list\n\n  0   \"a b\" # kept\n"
    ∷ bytes_of "1#a\n#b\nsend#\n0#"
    ∷ bytes_of "1send 0"
    ∷ bytes_of "0 \"a # b  \\\" \\\\\"#c"
    ∷ bytes_of "0  \"a\n  # b"
    ∷ bytes_of "0  \"a\\x  \" 1  2"
    ∷ bytes_of "1/  2"
    ∷ bytes_of "# only a remark"
    ∷ [])
    ≡ bytes_of "messages 0 \"a b\""
    ∷ bytes_of "1 send 0"
    ∷ bytes_of "1send 0"
    ∷ bytes_of "0 \"a # b  \\\" \\\\\""
    ∷ bytes_of "0 \"a\n  # b"
    ∷ bytes_of "0 \"a\\x  \" 1 2"
    ∷ bytes_of "1/ 2"
    ∷ []
    ∷ []
unfolding squeezed squeezed_from past_blanks is_blank pick
laid-squeezed = refl
