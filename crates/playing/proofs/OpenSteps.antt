-- An opening printed: its reply's number and parts, and a session on an accepted file only.
-- Assumes nothing.
use mathlib.Core.Path.{◌≡◌, refl, sym, subst, ◌∙◌}
use mathlib.Core.Bool.{Bool, true, false}
use mathlib.Core.List.{List, [], ◌∷◌}
use Prim.Native.Nat.{ℕ, ◌≤◌}
use native.Mathlib.Omega.{arith}
use lib.Dec.{leb, eqb}
use lib.ListN.{length}
use borrow.Author.Tests.{le-leb, ne_eqb}
use borrow.Author.Rules.{rules}
use Rattle.std.specs.Prelude.{Result, Ok, Err}
use Rattle.base.specs.Tests.{between, pick}
use Rattle.base.specs.Checks.{Check, fine, refused, need, first_fault, renamed}
use Rattle.ascii.specs.Laying.{Laid}
use Rattle.contents.specs.declared.Fault.{Fault}
use Rattle.contents.specs.declared.Fault.TheVariants.{FileShort, BadCount, BadOffset, BadLength, BadEvent, BadItem, BadMessage, TextLeft, NoMessage}
use Rattle.contents.specs.Replies.{rule_row, fault_row, verdict_of}
use Rattle.score.specs.File.{checked, Accepted}
use Rattle.contents.proofs.RuleRows.{rule-numbered}
use Rattle.contents.proofs.Verdicts.{verdict-fine, verdict-refused}
use Rattle.rules.specs.Terms.{Terms}
use Rattle.session.specs.declared.Refusal.{Refusal}
use Rattle.session.specs.declared.Refusal.TheVariants.{MemoryShort, RoomShort, File, BadTempo, BadGrace, NoSession, NoEvent, NotAfter, BadMillis, ClockFull}
use Rattle.session.specs.Layout.{memory_size, most_tempo, most_grace}
use Rattle.session.specs.Replies.{refusal_row}
use Rattle.opening.specs.declared.OpeningReply.{OpeningReply}
use Rattle.opening.specs.Opening.{opening_check, opened}
use Rattle.opening.specs.Replies.{opening_reply}
use Rattle.opening.proofs.Opened.{opened-accepted, refused-kept}
use Rattle.lines.specs.Output.{open_line}
use Rattle.playing.specs.Printed.{carried_opening}
use Rattle.playing.specs.Refused.{why_refused}
use Rattle.playing.specs.Inner.{Carries}

-- ---- number 0 is no refusal's

row-numbered : (x : Fault) → eqb (fault_row x).number 0 ≡ false
unfolding fault_row
row-numbered FileShort = refl
row-numbered (BadCount at) = refl
row-numbered (BadOffset at) = refl
row-numbered BadLength = refl
row-numbered (BadEvent at) = refl
row-numbered (BadItem r at) = ne_eqb (rule_row r).number 0 (λ e. omega (arith, rule-numbered r))
row-numbered (BadMessage at) = refl
row-numbered TextLeft = refl
row-numbered NoMessage = refl

pub refusal-numbered : (x : Refusal) → eqb (refusal_row x).number 0 ≡ false
unfolding refusal_row
refusal-numbered MemoryShort = refl
refusal-numbered RoomShort = refl
refusal-numbered (File x) = row-numbered x
refusal-numbered BadTempo = refl
refusal-numbered BadGrace = refl
refusal-numbered NoSession = refl
refusal-numbered NoEvent = refl
refusal-numbered NotAfter = refl
refusal-numbered BadMillis = refl
refusal-numbered ClockFull = refl

-- so an opening that answers 0 was granted, and its file is accepted
zero-accepted : (m f : List ℕ) (o : Terms) (v : Check Refusal) → opening_check m f o ≡ v → eqb (opening_reply (opened m f o).reply).number 0 ≡ true → Accepted f
unfolding opening_reply
zero-accepted m f o fine p e = opened-accepted m f o p
zero-accepted m f o (refused x) p e =
    let n : eqb (refusal_row x).number 0 ≡ true = rw (refused-kept m f o x p) at e in
    let z : ◌≡◌ {A = Bool} true false = sym n ∙ refusal-numbered x in
    let y : ◌≡◌ {A = ℕ} 0 1 = cc in
    absurd (omega arith)

-- ---- what is printed, and the stand after it

module _ (f m m' : List ℕ) (parts tempo grace : ℕ) (a : Result ℕ Refusal) (r : OpeningReply)
    (told : opened m f (record { parts = parts; tempo = tempo; grace = grace }) ≡ record { reply = a; memory = m' }) (row : r ≡ opening_reply a) where
  pub opening-accepted : eqb r.number 0 ≡ true → Accepted f
  opening-accepted t = zero-accepted m f (record { parts = parts; tempo = tempo; grace = grace }) _ refl (rw (told, ← row) t)

  pub opening-carries : (room out new : List ℕ) (n p : ℕ) → p ≡ r.parts → Laid out 0 (open_line r.number p) new n
      → Carries (carried_opening room (opened m f (record { parts = parts; tempo = tempo; grace = grace }))) out m' room new (eqb r.number 0) n
  unfolding carried_opening
  opening-carries room out new n p e laid = rw (told, ← row) (record { memory = refl; room = refl; opened = refl; output = rw e at laid })

pub ruleset openings = (opening-accepted, opening-carries, rules)

-- ---- why an opening was refused

module _ (f : List ℕ) (nineteen : Bool) (v : Result (Unit {0}) Fault) (told : v ≡ verdict_of (checked f)) where
  pub why-file : (x : Fault) → v ≡ Err x → File x ≡ why_refused f nineteen
  unfolding why_refused
  why-file x e = rw (verdict-refused (checked f) v x told e, why_refused)

  pub why-grace : v ≡ Ok tt → nineteen ≡ true → BadGrace ≡ why_refused f nineteen
  unfolding why_refused pick
  why-grace e n = rw (verdict-fine (checked f) v told e, why_refused, n)

  pub why-tempo : v ≡ Ok tt → nineteen ≡ false → BadTempo ≡ why_refused f nineteen
  unfolding why_refused pick
  why-tempo e n = rw (verdict-fine (checked f) v told e, why_refused, n)

pub ruleset whys = (why-file, why-grace, why-tempo, rules)

-- "Opening: 1, the file check, 9", then 19.
pub why-refused : (m f : List ℕ) (o : Terms) (x : Refusal) → memory_size ≤ length m → opening_check m f o ≡ refused x → why_refused f (eqb (refusal_row x).number 19) ≡ x
unfolding opening_check why_refused first_fault need renamed refusal_row pick
why-refused m f o x l e =
    go (checked f) refl (between 1 most_tempo o.tempo) (leb o.grace most_grace) (rw (le-leb memory_size (length m) l) at e) where
      told : Refusal → Type 0
      told y = why_refused f (eqb (refusal_row y).number 19) ≡ y

      go : (c : Check Fault) → checked f ≡ c → (t g : Bool) → first_fault (renamed File c ∷ need t BadTempo ∷ need g BadGrace ∷ []) ≡ refused x → told x
      go (refused y) p t g q = let z : File y ≡ x = cc in rw (p, why_refused) z
      go fine p true true q = let z : ◌≡◌ {A = ℕ} 0 1 = cc in absurd (omega arith)
      go fine p true false q = let z : BadGrace ≡ x = cc in subst told z (rw (p, why_refused))
      go fine p false g q = let z : BadTempo ≡ x = cc in subst told z (rw (p, why_refused))
