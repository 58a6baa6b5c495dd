-- What a line that was found makes and where its token stands, in the code's own terms; and that it is what the line itself makes.
-- Assumes nothing.
use Rattle.std.specs.Prelude.{Result, Ok, Err}
use mathlib.Core.Path.{◌≡◌, refl, sym, ◌∙◌}
use mathlib.Core.List.{List}
use Prim.Native.Nat.{ℕ, ◌≤◌}
use lib.ListN.{length, drop}
use borrow.Author.Rules.{rules}
use Rattle.tokens.specs.declared.Token.{Token}
use Rattle.tokens.specs.Tokens.{left_by, got, stop, blanks, number}
use Rattle.tokens.specs.Asked.{Reads, Passes}
use Rattle.tokens.proofs.ShorterLaws.{read-got, read-stop, reads-within, fault-within}
use Rattle.text.specs.Words.{any_number}
use Rattle.script.specs.declared.Found.{Found}
use Rattle.script.specs.declared.Found.TheVariants.{Heading, Message, Event, Part, Send, Group, Close}
use Rattle.script.specs.Steps.{line_in, Fits, fits_message}
use Rattle.origins.specs.Origins.{adds, token_in, is_listed}
use Rattle.origins.specs.Aims.{added_by, listed_in, Begins}

-- ---- what it adds

-- What is found and fits adds what its line adds.
pub added-line : (t : List ℕ) (f : Found) → Fits t f → added_by f ≡ adds (line_in t f)
unfolding added_by adds line_in
added-line t Heading p = refl
added-line t (Message start size) (fits_message a b) = rw b
added-line t (Event g) p = refl
added-line t (Part n) p = refl
added-line t (Send d n) p = refl
added-line t (Group d w v) p = refl
added-line t Close p = refl

-- ---- the end of the list

pub listed-line : (t : List ℕ) (f : Found) → listed_in f ≡ is_listed (line_in t f)
unfolding listed_in is_listed line_in
listed-line t Heading = refl
listed-line t (Message start size) = refl
listed-line t (Event g) = refl
listed-line t (Part n) = refl
listed-line t (Send d n) = refl
listed-line t (Group d w v) = refl
listed-line t Close = refl

-- ---- the token

-- What is left behind a number that was read, or where it was not, is told by the answer.
module _ (t : List ℕ) (at k : ℕ) (v : Result Token ℕ) (told : Reads t any_number (number any_number (drop at t)) v) where
  pub quote-there : (n : Token) → v ≡ Ok n → Passes t n.next k → Begins t (blanks (left_by (number any_number (drop at t)))) k
  unfolding left_by
  quote-there n e q =
      let z : number any_number (drop at t) ≡ got n.value (drop n.next t) = sym told.says ∙ read-got t v n e in
      record { left = rw z (sym q.left); within = q.within }

  pub fault-there : (i : ℕ) → v ≡ Err i → Passes t i k → Begins t (blanks (left_by (number any_number (drop at t)))) k
  unfolding left_by
  fault-there i e q =
      let z : number any_number (drop at t) ≡ stop (drop i t) = sym told.says ∙ read-stop t v i e in
      record { left = rw z (sym q.left); within = q.within }

module _ (t : List ℕ) (at : ℕ) (f : Found) where
  pub token-quote : (start size r : ℕ) → f ≡ Message start size → Begins t (blanks (left_by (number any_number (drop at t)))) r → Begins t (token_in (line_in t f) (drop at t)) r
  unfolding token_in line_in
  token-quote start size r e p = rw e p

  module _ (p : at ≤ length t) where
    pub token-heading : f ≡ Heading → Begins t (token_in (line_in t f) (drop at t)) at
    unfolding token_in line_in
    token-heading e = rw e (record { left = refl; within = p })

    pub token-event : (g : ℕ) → f ≡ Event g → Begins t (token_in (line_in t f) (drop at t)) at
    unfolding token_in line_in
    token-event g e = rw e (record { left = refl; within = p })

    pub token-part : (n : ℕ) → f ≡ Part n → Begins t (token_in (line_in t f) (drop at t)) at
    unfolding token_in line_in
    token-part n e = rw e (record { left = refl; within = p })

    pub token-send : (d n : ℕ) → f ≡ Send d n → Begins t (token_in (line_in t f) (drop at t)) at
    unfolding token_in line_in
    token-send d n e = rw e (record { left = refl; within = p })

    pub token-group : (d w v : ℕ) → f ≡ Group d w v → Begins t (token_in (line_in t f) (drop at t)) at
    unfolding token_in line_in
    token-group d w v e = rw e (record { left = refl; within = p })

    pub token-close : f ≡ Close → Begins t (token_in (line_in t f) (drop at t)) at
    unfolding token_in line_in
    token-close e = rw e (record { left = refl; within = p })

pub ruleset quoting = (quote-there, fault-there, reads-within, fault-within, rules)

pub ruleset tokening = (token-quote, token-heading, token-event, token-part, token-send, token-group, token-close, rules)
