-- A label as it is written: "label = '"' { any byte but '"', '\' and newline | '\"' | '\\' } '"'".
use Rattle.std.specs.Prelude.{ℕ, List, [], ◌∷◌}
use Rattle.base.specs.Tests.{pick}
use Rattle.tokens.specs.Bytes.{quote, backslash, is_escaped}

-- From behind its first quote: "'\"' | '\\'" stand for the bytes that are no plain ones of a label.
unfoldable pub escaped : List ℕ → List ℕ
escaped [] = quote ∷ []
escaped (b ∷ bs) = pick (is_escaped b) (backslash ∷ b ∷ escaped bs) (b ∷ escaped bs)

-- The whole of it.
unfoldable pub quoted : List ℕ → List ℕ
quoted l = quote ∷ escaped l
