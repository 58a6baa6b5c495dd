-- Numbers in a file's bytes. "Little-endian"
use Rattle.std.specs.Prelude.{ℕ, ◌+◌, ◌*◌, List, get_or, take, drop}

abbrev pub byte_at : List ℕ → ℕ → ℕ
byte_at f at = get_or f at 0

unfoldable pub u16_at : List ℕ → ℕ → ℕ
u16_at f at = byte_at f at + 256 * byte_at f (at + 1)

unfoldable pub u32_at : List ℕ → ℕ → ℕ
u32_at f at = u16_at f at + 65536 * u16_at f (at + 2)

-- The size bytes from at on.
unfoldable pub part : List ℕ → ℕ → ℕ → List ℕ
part f at size = take size (drop at f)
