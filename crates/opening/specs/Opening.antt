-- The opening: "It checks a score file, opens a session on it with a set of sounding parts and a tempo", and with a grace. "Opening: 1, the file check, 9", then 19.
use Rattle.std.specs.Prelude.{ℕ, zero, suc, ◌+◌, List, [], ◌∷◌, ◌++◌, map, leb, length, set, drop, Result, Ok, Err}
use Rattle.std.specs.Int.Count.{ones}
use Rattle.base.specs.Tests.{between}
use Rattle.base.specs.Checks.{Check, fine, refused, need, first_fault, renamed}
use Rattle.score.specs.File.{checked}
use Rattle.score.specs.Piece.{Piece, decode}
use Rattle.rules.specs.Terms.{Terms}
use Rattle.fates.specs.Fields.{item_word}
use Rattle.session.specs.declared.Refusal.{Refusal}
use Rattle.session.specs.declared.Refusal.TheVariants.{MemoryShort, File, BadTempo, BadGrace}
use Rattle.session.specs.Layout.{memory_size, most_tempo, most_grace, mark_at, starts_at, page_at, tempo_at, mark}

-- ---- the words of a new session

-- n words of 0.
unfoldable pub zeros : ℕ → List ℕ
zeros zero = []
zeros (suc n) = 0 ∷ zeros n

-- The words m with these in their place, from the place at on.
unfoldable pub with_words : ℕ → List ℕ → List ℕ → List ℕ
with_words at [] m = m
with_words at (w ∷ ws) m = with_words (at + 1) ws (set m at w)

-- E(1), E(2) and so on, where the first is sum.
unfoldable pub starts_of : ℕ → List ℕ → List ℕ
starts_of sum [] = []
starts_of sum (d ∷ ds) = sum ∷ starts_of (sum + d) ds

-- "Words past 8,192 are never read or changed."
unfoldable pub cleared : List ℕ → List ℕ
cleared m = zeros memory_size ++ drop memory_size m

-- A session at its opening: the score, the part bits, the grace and the tempo; nothing heard, nothing sent, the clock at 0.
unfoldable pub new_session : Piece → Terms → List ℕ → List ℕ
new_session p o m =
    with_words page_at (map item_word p.items)
    (with_words (starts_at + 1) (starts_of 0 p.durations)
    (with_words tempo_at (o.tempo ∷ [])
    (with_words mark_at (mark ∷ length p.durations ∷ length p.items ∷ o.parts ∷ o.grace ∷ []) (cleared m))))

-- ---- the call

unfoldable pub opening_check : (memory file : List ℕ) → Terms → Check Refusal
opening_check m f o =
    first_fault (
    need (leb memory_size (length m)) MemoryShort
    ∷ renamed File (checked f)
    ∷ need (between 1 most_tempo o.tempo) BadTempo
    ∷ need (leb o.grace most_grace) BadGrace
    ∷ []
    )

-- What an opening comes to: its reply, and the session memory after it.
pub record OpeningResult : Type 0 where
  pub reply : Result ℕ Refusal
  pub memory : List ℕ

-- "A refusal sends nothing and changes no lent word."
unfoldable pub opened : (memory file : List ℕ) → Terms → OpeningResult
opened m f o =
    elim (opening_check m f o) [
      | fine ↦ record { reply = Ok (ones o.parts); memory = new_session (decode f) o m }
      | refused x ↦ record { reply = Err x; memory = m }
    ]
