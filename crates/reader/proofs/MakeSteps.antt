-- From the bodies to the file and its answer, in the code's own terms.
-- Assumes nothing.
use Rattle.std.specs.Prelude.{Result, Ok, Err}
use mathlib.Core.Path.{◌≡◌, refl, sym, ◌∙◌}
use mathlib.Core.List.{List}
use Prim.Native.Nat.{ℕ, ◌-◌, ◌<◌, ◌≤◌}
use native.Mathlib.Omega.{arith}
use lib.ListN.{length, take}
use lib.Seq.{length-take-le}
use borrow.Author.Tests.{le-leb, lt-leb}
use borrow.Author.Rules.{rules}
use Rattle.base.specs.Tests.{pick}
use Rattle.base.specs.Checks.{fine, refused, first_fault}
use Rattle.ascii.specs.Laying.{Laid}
use Rattle.tokens.specs.declared.Place.{Place}
use Rattle.tokens.specs.Places.{place_behind}
use Rattle.contents.specs.declared.Counts.{Counts}
use Rattle.contents.specs.declared.Fault.{Fault}
use Rattle.contents.specs.Limits.{longest_score}
use Rattle.contents.specs.Contents.{counts_right}
use Rattle.contents.specs.Inner.{Counted}
use Rattle.contents.specs.Replies.{verdict_of}
use Rattle.contents.proofs.Verdicts.{verdict-fine, verdict-refused}
use Rattle.contents.proofs.ContentsLaws.{counts-told}
use Rattle.score.specs.Piece.{Piece}
use Rattle.score.specs.Encode.{counts_in, encode}
use Rattle.score.specs.File.{checked}
use Rattle.score.proofs.EncodingPieces.{size-encode, counts-right, last-told}
use Rattle.filing.specs.Pieces.{filed}
use Rattle.filing.specs.Bodies.{Bodies, file_in, settled, Settled}
use Rattle.text.specs.declared.Stage.TheVariants.{Start}
use Rattle.text.specs.declared.TextError.{TextError}
use Rattle.text.specs.declared.TextError.TheVariants.{NoRoom, BadText, BadFile}
use Rattle.text.specs.Grammar.{Script, done, more, fault, script}
use Rattle.text.specs.Said.{piece_of, Reading, piece, unread, told, said}
use Rattle.text.specs.Transcripts.{room_left, piece_right, judged, fault_at, answered, file_of, read_answer}
use Rattle.script.specs.Tallies.{tally_of}
use Rattle.script.proofs.BalancedLaws.{counted-balanced, counted-said, counts-said}
use Rattle.reader.specs.Filled.{Begun, Listed, Paged, Writable, Settles, Sayable, Answers}

-- ---- the bodies and the file

module _ (t : List ℕ) (c : Counts) (out : List ℕ) (asked : Writable t c out) where
  counted : Counted c
  counted = rw asked.counts asked.told.counted

  pub page-begun : (e l : List ℕ) (r : ℕ) → Listed t e l r → Begun t r c.messages
  unfolding counts_in piece_of
  page-begun e l r p = rw asked.counts p.begun

  pub write-asked : (d m e l : List ℕ) (at : ℕ) → Listed t e l at → Paged t d m → Bodies c d m e l out
  write-asked d m e l at p q = record { counted = counted; page = q.room; list = p.room; room = asked.room }

  pub written-file : (d m e l n : List ℕ) (at r : ℕ) → Listed t e l at → Paged t d m → Laid out 0 (file_in c d m e l) n r → Laid out 0 (encode (piece_of (script Start t))) n r
  unfolding file_in filed encode counts_in piece_of
  written-file d m e l n at r p q laid = rw (asked.counts, p.entries, p.labels, q.durations, q.items) at laid

pub ruleset writes = (page-begun, write-asked, written-file, rules)

-- ---- the file's answer

module _ (f m m' : List ℕ) (v : Result (Unit {0}) Fault) (a : Settled f m m' v) where
  pub settle-refused : (x : Fault) (r : Result ℕ TextError) → v ≡ Err x → r ≡ Err (BadFile x) → Settles f m m' r
  unfolding judged room_left settled
  settle-refused x r p e =
      let z = verdict-refused (checked f) v x a.verdict p in
      record { answer = rw (z, e); left = rw e (rw z at a.left) }

  pub settle-made : v ≡ Ok tt → Settles f m m' (Ok (length f))
  unfolding judged room_left settled
  settle-made p =
      let z = verdict-fine (checked f) v a.verdict p in
      record { answer = rw z; left = rw z at a.left }

pub ruleset settles = (settle-refused, settle-made, rules)

module _ (t : List ℕ) (c : Counts) (m : List ℕ) (asked : Sayable t c m) where
  says-counts : counts_right (counts_in (piece_of (script Start t))) ≡ counts_right c
  says-counts = rw asked.counts

  pub count-refused : (v : Result (Unit {0}) Fault) (x : Fault) (r : Result ℕ TextError) → v ≡ verdict_of (counts_right c) → v ≡ Err x → r ≡ Err (BadFile x) → Answers t m m r
  unfolding answered piece_right first_fault judged room_left
  count-refused v x r e p q =
      let z : counts_right (counts_in (piece_of (script Start t))) ≡ refused x = says-counts ∙ verdict-refused (counts_right c) v x e p in
      record { answer = rw (asked.says, z, q); left = rw q }

  pub make-asked : Counted c → (file : List ℕ) → longest_score ≤ length file → Writable t c file
  make-asked k file r = record { told = record { balanced = asked.balanced; counted = rw asked.counts at k }; counts = asked.counts; room = r }

  -- room for the largest file holds it
  pub put-room : Counted c → (file file' o : List ℕ) (size : ℕ) → Laid file 0 (encode (piece_of (script Start t))) file' size → longest_score ≤ length o → length (take size file') ≤ length o
  put-room k file file' o size laid r =
      let k' : Counted (counts_in (piece_of (script Start t))) = rw asked.counts at k in
      omega (
        arith,
        length-take-le size file' laid.within,
        laid.stop,
        size-encode (piece_of (script Start t)),
        k'.events,
        k'.items,
        k'.messages,
        k'.text,
      )

  module _ (k : Counted c) (file file' : List ℕ) (size : ℕ) (laid : Laid file 0 (encode (piece_of (script Start t))) file' size) where
    fine-counts : counts_right (counts_in (piece_of (script Start t))) ≡ fine
    fine-counts = counts-right (counts_in (piece_of (script Start t))) (rw asked.counts at k)

    pub file-told : (m' : List ℕ) (r : Result ℕ TextError) → Settles (take size file') m m' r → Answers t m m' r
    unfolding answered piece_right first_fault file_of
    file-told m' r s =
        let f : take size file' ≡ encode (piece_of (script Start t)) = laid.front in
        let a : r ≡ judged (encode (piece_of (script Start t))) (checked (encode (piece_of (script Start t)))) = rw f at s.answer in
        let b : m' ≡ room_left r (encode (piece_of (script Start t))) m = rw f at s.left in
        record { answer = rw (asked.says, fine-counts, last-told (checked (encode (piece_of (script Start t))))) a; left = rw asked.says b }

pub ruleset makes = (make-asked, put-room, file-told, length-take-le, rules)

pub ruleset judges = (count-refused, counts-told, rules)

pub place-told : (t : List ℕ) (at : ℕ) (p : Place) → p ≡ place_behind (take at t) → Err (BadText p.line p.column) ≡ fault_at (place_behind (take at t))
unfolding fault_at
place-told t at p e = rw e

pub ruleset places = (place-told, length-take-le, rules)

-- ---- what the first pass told decides

unread-within : (size at : ℕ) (p : Piece) (s : Script) → told size p s ≡ unread at → at ≤ size
unfolding told
unread-within size at p done e = let z : ◌≡◌ {A = ℕ} 0 1 = cc in absurd (omega arith)
unread-within size at p (more l s) e = unread-within size at p s e
unread-within size at p (fault left) e = let z : size - length left ≡ at = cc in omega arith

module _ (t m : List ℕ) where
  pub read_short : length m < longest_score → Err NoRoom ≡ read_answer (length m) t
  unfolding read_answer pick
  read_short p = rw (lt-leb longest_score (length m) p)

  pub left-short : m ≡ room_left (Err NoRoom) (file_of (said t)) m
  unfolding room_left
  left-short = refl

  module _ (v : Result Counts ℕ) (found : v ≡ tally_of (said t)) where
    module _ (at : ℕ) (k : v ≡ Err at) where
      is-unread : said t ≡ unread at
      unfolding tally_of
      is-unread = go (said t) refl where
        go : (r : Reading) → said t ≡ r → said t ≡ unread at
        go (unread b) e = let f : v ≡ Err b = rw e at found in let z : b ≡ at = cc in rw z at e
        go (piece p) e = let f : v ≡ Ok (counts_in p) = rw e at found in let z : ◌≡◌ {A = ℕ} 0 1 = cc in absurd (omega arith)

      pub fault-within : at ≤ length t
      unfolding said
      fault-within = unread-within (length t) at (piece_of (script Start t)) (script Start t) is-unread

      pub read-fault : (r : Result ℕ TextError) → longest_score ≤ length m → r ≡ fault_at (place_behind (take at t)) → r ≡ read_answer (length m) t
      unfolding read_answer pick answered
      read-fault r p q = rw (le-leb longest_score (length m) p, is-unread) q

      pub left-fault : (r : Result ℕ TextError) → r ≡ fault_at (place_behind (take at t)) → m ≡ room_left r (file_of (said t)) m
      unfolding room_left fault_at
      left-fault r q = rw q

    module _ (c : Counts) (k : v ≡ Ok c) where
      told-counts : Ok c ≡ tally_of (said t)
      told-counts = sym k ∙ found

      pub read_asked : longest_score ≤ length m → Sayable t c m
      read_asked p = record { balanced = counted-balanced t c told-counts; says = counted-said t c told-counts; counts = counts-said t c told-counts; room = p }

  module _ (m' : List ℕ) (r : Result ℕ TextError) (a : Answers t m m' r) where
    pub read_told : longest_score ≤ length m → r ≡ read_answer (length m) t
    unfolding read_answer pick
    read_told p = rw (le-leb longest_score (length m) p) a.answer

    pub left-told : m' ≡ room_left r (file_of (said t)) m
    left-told = a.left

pub ruleset readings = (read_short, left-short, fault-within, read-fault, left-fault, read_asked, read_told, left-told, rules)
