-- What may stand where, in the code's own terms: the text's end, and each line that a stage takes.
-- Assumes nothing.
use Rattle.std.specs.Prelude.{Result, Ok, Err}
use mathlib.Core.Path.{◌≡◌, refl, sym, ◌∙◌}
use mathlib.Core.Bool.{Bool, true, false, not}
use mathlib.Core.List.{List, []}
use Prim.Native.Nat.{ℕ, zero, suc, ◌+◌, ◌<◌, ◌≤◌}
use native.Mathlib.Omega.{arith}
use lib.ListN.{length, drop, drop_of_length-le, length-drop}
use lib.Seq.{drop-drop}
use lib.Dec.{eqb}
use borrow.Author.Rules.{rules}
use Rattle.base.specs.Tests.{pick}
use Rattle.base.proofs.TestLaws.{told-true, told-false}
use Rattle.ascii.proofs.WordSteps.{drop-next}
use Rattle.tokens.specs.Bytes.{is_letter}
use Rattle.tokens.specs.Tokens.{behind, is_word}
use Rattle.tokens.proofs.ShorterLaws.{word-behind}
use Rattle.text.specs.declared.Stage.{Stage}
use Rattle.text.specs.declared.Stage.TheVariants.{Start, Listing, Timed, Playing}
use Rattle.text.specs.Words.{messages_word, event_word, part_word}
use Rattle.text.specs.Grammar.{entry, timed, parted, item, closed, line, may_end, is_over}
use Rattle.script.specs.declared.Found.TheVariants.{Heading}
use Rattle.script.specs.declared.Step.{Step}
use Rattle.script.specs.Steps.{PassesWord, line_of, as_line, ends_at, Lines, fits_heading, fits_read}
use Rattle.script.proofs.WordSteps.{event-stands, part-stands}
use Rattle.script.proofs.LineSteps.{fault-lines}

-- ---- the text's end

module _ (stage : Stage) where
  pub end-start : stage ≡ Start → false ≡ may_end stage
  unfolding may_end
  end-start e = rw e

  pub end_list : (next : ℕ) → stage ≡ Listing next → true ≡ may_end stage
  unfolding may_end
  end_list next e = rw e

  pub end-timed : stage ≡ Timed → true ≡ may_end stage
  unfolding may_end
  end-timed e = rw e

  pub end-playing : (depth : ℕ) → stage ≡ Playing depth → eqb depth 0 ≡ may_end stage
  unfolding may_end
  end-playing depth e = rw e

  pub over-not : (t : List ℕ) (at : ℕ) → at < length t → false ≡ is_over stage (drop at t)
  unfolding is_over
  over-not t at p = rw (drop-next t at p)

  pub over-end : (t : List ℕ) (at : ℕ) (r : Bool) → length t ≤ at → r ≡ may_end stage → r ≡ is_over stage (drop at t)
  unfolding is_over
  over-end t at r p e = let z : drop at t ≡ [] = drop_of_length-le t p in rw z e

pub ruleset endings = (end-start, end_list, end-timed, end-playing, over-not, over-end, rules)

-- ---- the word `messages`

module _ (t : List ℕ) (at : ℕ) (start : at ≤ length t) (s : Bool) (told : s ≡ is_word messages_word (drop at t)) where
  pub heading-none : not s ≡ true → Lines t (line Start (drop at t)) (Err at)
  unfolding line pick
  heading-none p = fault-lines t _ at start (rw (told-false s _ told p))

  module _ (p : not s ≡ false) where
    pub heading-room : at + 8 ≤ length t
    heading-room = omega (arith, (word-behind messages_word (drop at t) (told-true s _ told p)).1, length-drop at t)

    pub heading-read : Lines t (line Start (drop at t)) (Ok (record { found = Heading; next = at + 8 }))
    unfolding line pick as_line ends_at line_of
    heading-read =
        let w = told-true s _ told p in
        let b : behind is_letter (drop at t) ≡ drop (at + 8) t = (word-behind messages_word (drop at t) w).0 ∙ drop-drop 8 at t in
        record { says = rw (w, b); within = heading-room; fits = fits_read fits_heading }

pub ruleset headings = (heading-none, heading-room, heading-read, rules)

-- ---- events, parts and what stands beside them

module _ (t : List ℕ) (at : ℕ) (s : Bool) (told : s ≡ is_word event_word (drop at t)) where
  module _ (k : ℕ) (p : s ≡ true) (b : PassesWord t at k) (r : Result Step ℕ) (l : Lines t (timed (drop k t)) r) where
    pub listed-event : (next : ℕ) → Lines t (line (Listing next) (drop at t)) r
    unfolding line pick
    listed-event next = let w : is_word event_word (drop at t) ≡ true = sym told ∙ p in rw (w, b.left) l

    pub divided-event : Lines t (line Timed (drop at t)) r
    unfolding line pick
    divided-event = let w : is_word event_word (drop at t) ≡ true = sym told ∙ p in rw (w, b.left) l

    pub played-event : Lines t (line (Playing 0) (drop at t)) r
    unfolding line pick
    played-event = let w : is_word event_word (drop at t) ≡ true = sym told ∙ p in rw (w, b.left) l

  module _ (no : s ≡ false) where
    pub listed-entry : (next : ℕ) (r : Result Step ℕ) → Lines t (entry next (drop at t)) r → Lines t (line (Listing next) (drop at t)) r
    unfolding line pick
    listed-entry next r l = let w : is_word event_word (drop at t) ≡ false = sym told ∙ no in rw w l

    module _ (h : Bool) (asked : h ≡ is_word part_word (drop at t)) where
      module _ (k : ℕ) (p : h ≡ true) (b : PassesWord t at k) (r : Result Step ℕ) (l : Lines t (parted (drop k t)) r) where
        pub divided-part : Lines t (line Timed (drop at t)) r
        unfolding line pick
        divided-part =
            let w : is_word event_word (drop at t) ≡ false = sym told ∙ no in
            let v : is_word part_word (drop at t) ≡ true = sym asked ∙ p in
            rw (w, v, b.left) l

        pub played-part : Lines t (line (Playing 0) (drop at t)) r
        unfolding line pick
        played-part =
            let w : is_word event_word (drop at t) ≡ false = sym told ∙ no in
            let v : is_word part_word (drop at t) ≡ true = sym asked ∙ p in
            rw (w, v, b.left) l

      module _ (none : h ≡ false) where
        pub divided-none : at ≤ length t → Lines t (line Timed (drop at t)) (Err at)
        unfolding line pick
        divided-none start =
            let w : is_word event_word (drop at t) ≡ false = sym told ∙ no in
            let v : is_word part_word (drop at t) ≡ false = sym asked ∙ none in
            fault-lines t _ at start (rw (w, v))

        pub played-item : (r : Result Step ℕ) → Lines t (item (drop at t)) r → Lines t (line (Playing 0) (drop at t)) r
        unfolding line pick
        played-item r l =
            let w : is_word event_word (drop at t) ≡ false = sym told ∙ no in
            let v : is_word part_word (drop at t) ≡ false = sym asked ∙ none in
            rw (w, v) l

pub ruleset listing = (event-stands, listed-event, listed-entry, rules)

pub ruleset dividing = (event-stands, part-stands, divided-event, divided-part, divided-none, rules)

pub ruleset playing = (event-stands, part-stands, played-event, played-part, played-item, rules)

-- ---- a line

module _ (t : List ℕ) (at : ℕ) (stage : Stage) (r : Result Step ℕ) where
  pub line-start : stage ≡ Start → Lines t (line Start (drop at t)) r → Lines t (line stage (drop at t)) r
  line-start e l = rw e l

  pub line-list : (next : ℕ) → stage ≡ Listing next → Lines t (line (Listing next) (drop at t)) r → Lines t (line stage (drop at t)) r
  line-list next e l = rw e l

  pub line-timed : stage ≡ Timed → Lines t (line Timed (drop at t)) r → Lines t (line stage (drop at t)) r
  line-timed e l = rw e l

  module _ (depth : ℕ) (e : stage ≡ Playing depth) where
    pub line-top : depth ≡ 0 → Lines t (line (Playing 0) (drop at t)) r → Lines t (line stage (drop at t)) r
    line-top z l = rw (e, z) l

    pub line-within : (depth ≡ 0 → ⊥) → Lines t (closed (drop at t)) r → Lines t (line stage (drop at t)) r
    unfolding line
    line-within n l = rw e (go depth n) where
      go : (d : ℕ) → (d ≡ 0 → ⊥) → Lines t (line (Playing d) (drop at t)) r
      go zero n = absurd (n refl)
      go (suc d) n = l

pub ruleset lines = (line-start, line-list, line-timed, line-top, line-within, rules)
