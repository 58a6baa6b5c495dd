-- Paths as bytes: the folder that a path names a file in, and where a link leads.
use Rattle.std.specs.Prelude.{◌≡◌, Bool, true, cond, List, [], ◌∷◌, ◌++◌, ℕ, zero, suc, ◌≤◌, eqb, ltb, ℤ, pos, length, take, get_or, Result, Ok, Err}
use Rattle.ascii.specs.Text.{bytes_of}
use Rattle.ascii.specs.Words.{begins}

-- A path has at most this many bytes, one less than there is room for, and the error number of a longer one.
abbrev pub longest_path : ℕ
longest_path = 4095

abbrev pub path_room : ℕ
path_room = 4096

abbrev pub name_long : ℕ
name_long = 36

-- The error number of a path whose bytes are no text.
abbrev pub no_text : ℕ
no_text = 84

-- ---- the folder

abbrev pub slash : ℕ
slash = 47

-- Of the first n bytes, how many stand up to their last slash, the slash among them: none where there is no slash.
unfoldable pub up_to_slash : (n : ℕ) (path : List ℕ) → ℕ
up_to_slash zero path = 0
up_to_slash (suc n) path = cond (eqb (get_or path n 0) slash) (suc n) (up_to_slash n path)

abbrev pub folder_size : (path : List ℕ) → ℕ
folder_size path = up_to_slash (length path) path

-- Where no bytes name a folder, it is the one that the program stands in.
unfoldable pub or_here : List ℕ → List ℕ
or_here [] = bytes_of "."
or_here (b ∷ bs) = b ∷ bs

-- The folder of a path: the path up to its last slash.
unfoldable pub folder_of : (path : List ℕ) → List ℕ
folder_of path = or_here (take (folder_size path) path)

-- ---- where a link leads

-- A target that begins with a slash is a path of its own, and any other is looked for from the link's folder.
unfoldable pub kept_size : (link target : List ℕ) → ℕ
kept_size link target = cond (begins (bytes_of "/") target) 0 (folder_size link)

unfoldable pub next_path : (link target : List ℕ) → List ℕ
next_path link target = take (kept_size link target) link ++ target

unfoldable pub gone_to : (path : List ℕ) → Result ℕ ℤ
gone_to path = cond (ltb longest_path (length path)) (Err (pos name_long)) (Ok (length path))

-- The path that the link leads to stands at the start, where it is no longer than any.
pub record Gone (place : List ℕ) (size : ℕ) (target new : List ℕ) (r : Result ℕ ℤ) : Type 0 where
  pub told : r ≡ gone_to (next_path (take size place) target)
  pub laid : length (next_path (take size place) target) ≤ longest_path → take (length (next_path (take size place) target)) new ≡ next_path (take size place) target
  pub size_stays : length new ≡ length place

-- The links in /dev and /proc are the system's own.
unfoldable pub is_systems : (path : List ℕ) → Bool
is_systems path = cond (begins (bytes_of "/dev/") path) true (begins (bytes_of "/proc/") path)
