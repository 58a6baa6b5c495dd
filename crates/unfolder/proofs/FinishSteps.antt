-- From the bodies to the file and its answer, in the code's own terms.
-- Assumes nothing.
use mathlib.Core.Path.{◌≡◌, sym, ap, ◌∙◌}
use mathlib.Core.List.{List, ◌++◌, append_assoc, append-nil}
use Prim.Native.Nat.{ℕ, zero, suc, ◌+◌, ◌*◌, ◌≤◌}
use native.Mathlib.Numerals.{add-one}
use native.Mathlib.Omega.{arith}
use lib.ListN.{length, take}
use lib.Seq.{length-take-le}
use borrow.Author.Rules.{rules}
use Rattle.std.specs.Prelude.{Result, Ok, Err}
use Rattle.base.specs.Tests.{pick}
use Rattle.ascii.specs.Laying.{Laid}
use Rattle.ascii.proofs.LayLaws.{laid-join, laid-nothing}
use Rattle.contents.specs.declared.Counts.{Counts}
use Rattle.contents.specs.declared.Fault.{Fault}
use Rattle.contents.specs.Limits.{event_size, most_events, longest_score}
use Rattle.contents.specs.Bytes.{u32_at}
use Rattle.contents.specs.Inner.{Counted}
use Rattle.contents.proofs.Verdicts.{verdict-fine, verdict-refused}
use Rattle.score.specs.Events.{durations_at}
use Rattle.score.specs.Encode.{le32, duration_bytes}
use Rattle.score.specs.File.{checked}
use Rattle.score.proofs.Decoded.{durations-length}
use Rattle.score.proofs.EncodingPieces.{durations-size}
use Rattle.filing.specs.Pieces.{filed}
use Rattle.filing.specs.Bodies.{Bodies, file_in, settled, Settled}
use Rattle.extended.specs.Layout.{events_start, extent_of}
use Rattle.unfolding.specs.declared.UnfoldError.{UnfoldError}
use Rattle.unfolding.specs.declared.UnfoldError.TheVariants.{BadFile}
use Rattle.unfolding.specs.Extended.{extended_of}
use Rattle.unfolding.specs.Sizes.{score_of, counts_on, file_of}
use Rattle.unfolding.specs.Answers.{judged, answered, room_left, unfolded_file}
use Rattle.unfolding.proofs.LimitLaws.{limits-counted}
use Rattle.unfolding.proofs.OneOutcome.{made-short}
use Rattle.unfolder.specs.Inner.{Answers, Settles, score_in, Built}

-- ---- the durations

durations-suc : (f : List ℕ) (at n : ℕ) → duration_bytes (durations_at f at (suc n)) ≡ duration_bytes (durations_at f at n) ++ le32 (u32_at f (at + event_size * n))
unfolding durations_at duration_bytes
durations-suc f at zero = let z : at + event_size * 0 ≡ at = omega arith in rw z (append-nil (le32 (u32_at f at)))
durations-suc f at (suc n) =
    let z : at + event_size + event_size * n ≡ at + event_size * suc n = omega arith in
    ap (λ (l : List ℕ). le32 (u32_at f at) ++ l) (rw z at (durations-suc f (at + event_size) n))
    ∙ sym (append_assoc (le32 (u32_at f at)) (duration_bytes (durations_at f (at + event_size) n)) _)

pub durations-none : (f o : List ℕ) (count : ℕ) → event_size * count ≤ length o → Laid o 0 (duration_bytes (durations_at f events_start 0)) o 0
unfolding durations_at duration_bytes
durations-none f o count p = laid-nothing o 0 (omega arith)

pub durations-step : (f o m n : List ℕ) (i at r d : ℕ) → Laid o 0 (duration_bytes (durations_at f events_start i)) m at → d ≡ u32_at f (events_start + event_size * i) → Laid m at (le32 d) n r
    → Laid o 0 (duration_bytes (durations_at f events_start (i + 1))) n r
durations-step f o m n i at r d a e b = rw (add-one i, durations-suc f events_start i, ← e) (laid-join o m n _ _ 0 at r a b)

pub durations-all : (f o m : List ℕ) (i count at : ℕ) → i ≤ count → count ≤ i → Laid o 0 (duration_bytes (durations_at f events_start i)) m at
    → Laid o 0 (duration_bytes (durations_at f events_start count)) m at
durations-all f o m i count at p q a = let e : i ≡ count = omega arith in rw (← e) a

pub ruleset copies = (durations-none, durations-step, durations-all, rules)

-- ---- the answer

module _ (f m m' : List ℕ) (v : Result (Unit {0}) Fault) (a : Settled f m m' v) where
  pub settle-refused : (x : Fault) (r : Result ℕ UnfoldError) → v ≡ Err x → r ≡ Err (BadFile x) → Settles f m m' r
  unfolding judged room_left settled
  settle-refused x r p e =
      let z = verdict-refused (checked f) v x a.verdict p in
      record { answer = rw (z, e); left = rw e (rw z at a.left) }

  pub settle-made : v ≡ Ok tt → Settles f m m' (Ok (length f))
  unfolding judged room_left settled
  settle-made p =
      let z = verdict-fine (checked f) v a.verdict p in
      record { answer = rw z; left = rw z at a.left }

pub ruleset settles = (settle-refused, settle-made, rules)

-- ---- the file

durations-front : (f : List ℕ) (n : ℕ) (o d : List ℕ) (at : ℕ) → Laid o 0 (duration_bytes (durations_at f events_start n)) d at
    → take (event_size * n) d ≡ duration_bytes (durations_at f events_start n)
durations-front f n o d at laid =
    let s = durations-size (durations_at f events_start n) in
    let l = durations-length f events_start n in
    let e : at ≡ event_size * n = omega (arith, laid.stop) in
    rw e at laid.front

score-durations : (f : List ℕ) (k : Counts) → k ≡ counts_on (score_in f) → durations_at f events_start k.events ≡ (score_in f).durations
unfolding score_in score_of counts_on extended_of
score-durations f k e =
    let a : k.events ≡ length (durations_at f events_start (extent_of f).events) = ap (λ (c : Counts). c.events) e in
    let b : k.events ≡ (extent_of f).events = a ∙ durations-length f events_start (extent_of f).events in
    rw b

module _ (f : List ℕ) (k : Counts) (is es ls : List ℕ) (asked : Built f k is es ls) where
  pub built-counted : Counted k
  built-counted = rw asked.counts (limits-counted (score_in f) asked.limits)

  pub events-room : (d : List ℕ) → event_size * most_events ≤ length d → event_size * k.events ≤ length d
  events-room d e = omega (arith, built-counted.events)

  module _ (d₀ d : List ℕ) (at : ℕ) (full : event_size * most_events ≤ length d₀) (laid : Laid d₀ 0 (duration_bytes (durations_at f events_start k.events)) d at) (file : List ℕ) (room : longest_score ≤ length file) where
    pub make-bodies : Bodies k d is es ls file
    make-bodies =
        let s : length d ≡ length d₀ = laid.size in
        record { counted = built-counted; page = record { durations = omega arith; items = asked.item_room }; list = asked.list_room; room = room }

    made-file : file_in k d is es ls ≡ unfolded_file f
    unfolding file_in filed unfolded_file file_of score_in
    made-file =
        let a : take (event_size * k.events) d ≡ duration_bytes (durations_at f events_start k.events) = durations-front f k.events d₀ d at laid in
        let b : durations_at f events_start k.events ≡ (score_in f).durations = score-durations f k asked.counts in
        rw (a, b, asked.items, asked.entries, asked.labels, asked.counts)

    pub make-room : (file' m : List ℕ) (size : ℕ) → Laid file 0 (file_in k d is es ls) file' size → longest_score ≤ length m → length (take size file') ≤ length m
    unfolding score_in
    make-room file' m size put r =
        let t = length-take-le size file' put.within in
        let s : size ≡ 0 + length (file_in k d is es ls) = put.stop in
        omega (arith, ap length made-file, made-short f asked.limits)

    pub make-told : (file' m m' : List ℕ) (size : ℕ) (r : Result ℕ UnfoldError) → Laid file 0 (file_in k d is es ls) file' size → Settles (take size file') m m' r → Answers f m m' r
    unfolding answered pick score_in
    make-told file' m m' size r put s =
        let e : take size file' ≡ unfolded_file f = put.front ∙ made-file in
        record { answer = rw asked.limits (rw e at s.answer); left = rw e at s.left }

pub ruleset makes = (events-room, make-bodies, make-room, make-told, length-take-le, rules)
