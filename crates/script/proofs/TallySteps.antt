-- Each step of the first pass, in the code's own terms. The invariant: what the lines left come to, after those counted, is what all of them come to.
-- Assumes nothing.
use Rattle.std.specs.Prelude.{Result, Ok, Err}
use mathlib.Core.Path.{◌≡◌, refl, sym, ap, ◌∙◌}
use mathlib.Core.Bool.{Bool, true, false}
use mathlib.Core.List.{List}
use Prim.Native.Nat.{ℕ, ◌+◌, ◌-◌, ◌<◌, ◌≤◌, ◌^◌}
use native.Mathlib.Omega.{arith}
use lib.ListN.{length, drop, length-drop}
use borrow.Author.Rules.{rules}
use Rattle.contents.specs.declared.Counts.{Counts}
use Rattle.score.specs.Piece.{Piece}
use Rattle.score.specs.Encode.{counts_in}
use Rattle.tokens.specs.Asked.{Passes}
use Rattle.text.specs.declared.Stage.{Stage}
use Rattle.text.specs.declared.Stage.TheVariants.{Start}
use Rattle.text.specs.Grammar.{line, is_over, Script, done, more, fault, script}
use Rattle.text.specs.Said.{piece_of, told, said}
use Rattle.text.proofs.CountLaws.{counted_line, counted_from, uncounted, counted-piece}
use Rattle.script.specs.declared.Found.{Found}
use Rattle.script.specs.declared.Found.TheVariants.{Heading, Message, Event, Part, Send, Group, Close}
use Rattle.script.specs.declared.Step.{Step}
use Rattle.script.specs.Steps.{line_in, Fits, fits_message, Lines}
use Rattle.script.specs.Stages.{stage_after, held}
use Rattle.script.specs.Tallies.{tally_of, size_in, counted_in, Countable}
use Rattle.script.proofs.StageSteps.{held_after}
use Rattle.script.proofs.ScriptSteps.{script-over, fault-near, script-fault, line-fits, line-within, script-more, line_on, line-less}

-- ---- what is counted is what the line says

count-line : (t : List ℕ) (f : Found) (c : Counts) → Fits t f → counted_in f c ≡ counted_line (line_in t f) c
unfolding counted_in counted_line line_in
count-line t Heading c p = refl
count-line t (Message start size) c (fits_message a b) = rw b
count-line t (Event g) c p = refl
count-line t (Part n) c p = refl
count-line t (Send d n) c p = refl
count-line t (Group d w v) c p = refl
count-line t Close c p = refl

-- Of each kind at most one more, and of the text its label's bytes.
module _ (f : Found) (c : Counts) where
  count-events : (counted_in f c).events ≤ c.events + 1
  unfolding counted_in
  count-events = go f where
    go : (f : Found) → (counted_in f c).events ≤ c.events + 1
    go Heading = omega arith
    go (Message start size) = omega arith
    go (Event g) = omega arith
    go (Part n) = omega arith
    go (Send d n) = omega arith
    go (Group d w v) = omega arith
    go Close = omega arith

  count-items : (counted_in f c).items ≤ c.items + 1
  unfolding counted_in
  count-items = go f where
    go : (f : Found) → (counted_in f c).items ≤ c.items + 1
    go Heading = omega arith
    go (Message start size) = omega arith
    go (Event g) = omega arith
    go (Part n) = omega arith
    go (Send d n) = omega arith
    go (Group d w v) = omega arith
    go Close = omega arith

  count-messages : (counted_in f c).messages ≤ c.messages + 1
  unfolding counted_in
  count-messages = go f where
    go : (f : Found) → (counted_in f c).messages ≤ c.messages + 1
    go Heading = omega arith
    go (Message start size) = omega arith
    go (Event g) = omega arith
    go (Part n) = omega arith
    go (Send d n) = omega arith
    go (Group d w v) = omega arith
    go Close = omega arith

  count-text : (counted_in f c).text ≤ c.text + size_in f
  unfolding counted_in size_in
  count-text = go f where
    go : (f : Found) → (counted_in f c).text ≤ c.text + size_in f
    go Heading = omega arith
    go (Message start size) = omega arith
    go (Event g) = omega arith
    go (Part n) = omega arith
    go (Send d n) = omega arith
    go (Group d w v) = omega arith
    go Close = omega arith

-- ---- what the lines left come to

unfoldable pub tallied : (size : ℕ) → Counts → Script → Result Counts ℕ
tallied size c done = Ok c
tallied size c (more l s) = tallied size (counted_line l c) s
tallied size c (fault left) = Err (size - length left)

tallied-told : (size : ℕ) (c : Counts) (p : Piece) (s : Script) → counted_from c s ≡ counts_in p → tallied size c s ≡ tally_of (told size p s)
unfolding tallied tally_of told counted_from
tallied-told size c p done e = ap (λ (n : Counts). Ok n) e
tallied-told size c p (more l s) e = tallied-told size (counted_line l c) p s e
tallied-told size c p (fault left) e = refl

pub record Tallying (t : List ℕ) (at : ℕ) (stage : Stage) (c : Counts) : Type 0 where
  pub total : tallied (length t) c (script stage (drop at t)) ≡ tally_of (said t)
  pub within : at ≤ length t
  pub events : c.events ≤ at
  pub items : c.items ≤ at
  pub messages : c.messages ≤ at
  pub text : c.text ≤ at
  pub few : held stage ≤ at

pub tally-start : (t : List ℕ) → Tallying t 0 Start uncounted
unfolding said held
tally-start t =
    record {
      total = tallied-told (length t) uncounted (piece_of (script Start t)) (script Start t) (counted-piece (script Start t));
      within = omega arith;
      events = omega arith;
      items = omega arith;
      messages = omega arith;
      text = omega arith;
      few = omega arith;
    }

module _ (t : List ℕ) (at from : ℕ) (stage : Stage) (c : Counts) (inv : Tallying t at stage c) (passed : Passes t at from) (over : Bool) (asked : over ≡ is_over stage (drop from t)) where
  pub tally-over : over ≡ true → Ok c ≡ tally_of (said t)
  unfolding tallied
  tally-over p = rw (script-over t at from stage passed (sym asked ∙ p)) at inv.total

  module _ (no : over ≡ false) (v : Result Step ℕ) (read : Lines t (line stage (drop from t)) v) where
    pub tally-fault : (r : Result Counts ℕ) (i : ℕ) → v ≡ Err i → r ≡ Err i → r ≡ tally_of (said t)
    unfolding tallied
    tally-fault r i k q =
        let e : Err (length t - length (drop i t)) ≡ tally_of (said t) = rw (script-fault t at from stage passed v read i k (sym asked ∙ no)) at inv.total in
        let z : length t - length (drop i t) ≡ i = omega (arith, length-drop i t, fault-near t at from stage passed v read i k) in
        q ∙ (rw z at e)

    module _ (s : Step) (k : v ≡ Ok s) where
      tally-on : at + size_in s.found < s.next
      tally-on = line_on t at from stage passed v read s k

      tally-within : s.next ≤ length t
      tally-within = line-within t at from stage passed v read s k

      pub tally-less : length t - s.next < length t - at
      tally-less = line-less t at from stage passed v read s k

      pub tally-room : length t < 2 ^ 64 → Countable s.found c
      tally-room q =
          record {
            events = omega (arith, tally-on, inv.events, tally-within);
            items = omega (arith, tally-on, inv.items, tally-within);
            messages = omega (arith, tally-on, inv.messages, tally-within);
            text = omega (arith, tally-on, inv.text, tally-within);
          }

      pub tally-held : length t < 2 ^ 64 → held stage + 1 < 2 ^ 64
      tally-held q = omega (arith, tally-on, inv.few, tally-within)

      pub tally-step : (d : Counts) (behind : Stage) → d ≡ counted_in s.found c → behind ≡ stage_after s.found stage → Tallying t s.next behind d
      unfolding tallied
      tally-step d behind e f =
          let m = script-more t at from stage passed v read s k (sym asked ∙ no) in
          let n : tallied (length t) (counted_line (line_in t s.found) c) (script (stage_after s.found stage) (drop s.next t)) ≡ tally_of (said t) = rw m at inv.total in
          rw (e, f)
          (record {
            total = rw (count-line t s.found c (line-fits t at from stage passed v read s k)) n;
            within = tally-within;
            events = omega (arith, tally-on, inv.events, count-events s.found c);
            items = omega (arith, tally-on, inv.items, count-items s.found c);
            messages = omega (arith, tally-on, inv.messages, count-messages s.found c);
            text = omega (arith, tally-on, inv.text, count-text s.found c);
            few = omega (arith, tally-on, inv.few, held_after s.found stage);
          })

pub ruleset tallies = (tally-start, tally-over, tally-fault, tally-less, tally-room, tally-held, tally-step, rules)
