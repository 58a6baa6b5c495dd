-- What is said, case by case.
-- Assumes nothing.
use Rattle.std.specs.Prelude.{Result, Ok, Err, Option, None}
use mathlib.Core.Path.{◌≡◌, sym, ◌∙◌}
use mathlib.Core.List.{List}
use Prim.Native.Nat.{ℕ, ◌≤◌}
use lib.ListN.{length}
use borrow.Author.Rules.{rules}
use Rattle.ascii.specs.Laying.{Laid}
use Rattle.contents.specs.declared.Counts.{Counts}
use Rattle.contents.specs.declared.Fault.{Fault}
use Rattle.contents.specs.declared.Reply.{Reply}
use Rattle.contents.specs.Replies.{fault_row}
use Rattle.tokens.specs.declared.Place.{Place}
use Rattle.session.specs.Replies.{refusal_row}
use Rattle.session.specs.declared.Refusal.TheVariants.{File}
use Rattle.streams.specs.declared.ending.Ending.TheVariants.{Done, Refused}
use Rattle.text.specs.declared.TextError.{TextError}
use Rattle.text.specs.declared.TextError.TheVariants.{NoRoom, BadText, BadFile}
use Rattle.text.specs.Said.{said}
use Rattle.script.specs.Tallies.{tally_of}
use Rattle.script.proofs.BalancedLaws.{fault-within}
use Rattle.origins.specs.Origins.{place_in_text}
use Rattle.hints.specs.declared.Hint.{Hint}
use Rattle.hints.specs.Hints.{hint_at, fault_hint}
use Rattle.refusals.specs.Texts.{misread_line, misfit_line}
use Rattle.transcribing.specs.Told.{counts_told, counts_said, hint_told, faulty_line, unfit_line, ending_of}

-- ---- counts

pub counts_of : (text : List ℕ) (t : Result Counts ℕ) (r : Counts) → t ≡ tally_of (said text) → r ≡ counts_told t → r ≡ counts_said (said text)
unfolding counts_said
counts_of text t r e p = rw (← e) p

pub ruleset counting = (counts_of, rules)

-- ---- hints

module _ (text : List ℕ) (t : Result Counts ℕ) where
  pub fault-here : (at : ℕ) → t ≡ tally_of (said text) → t ≡ Err at → at ≤ length text
  fault-here at e f = fault-within text at (sym f ∙ e)

  pub hint-none : (c : Counts) → t ≡ Ok c → None ≡ hint_told text t
  unfolding hint_told
  hint-none c e = rw e

  pub hint-fault : (at : ℕ) (r : Option Hint) → t ≡ Err at → r ≡ hint_at text at → r ≡ hint_told text t
  unfolding hint_told
  hint-fault at r e p = rw e p

pub ruleset hinting = (fault-here, hint-none, hint-fault, rules)

-- ---- lines

pub lay-unfit : (o n name text : List ℕ) (r : ℕ) (c : Counts) (x : Fault) (row : Reply) (p : Place) (h : Option Hint) → c ≡ counts_said (said text) → row ≡ refusal_row (File x)
    → p ≡ place_in_text text row.place → h ≡ fault_hint x → Laid o 0 (misfit_line name p c (File x) h) n r → Laid o 0 (unfit_line name text x) n r
unfolding unfit_line refusal_row
lay-unfit o n name text r c x row p h e f g k l =
    let z : row.place ≡ (fault_row x).place = rw f in
    rw (← e, ← z, ← g, ← k) l

pub lay-faulty : (o n name text : List ℕ) (r i c : ℕ) (t : Result Counts ℕ) (h : Option Hint) → t ≡ tally_of (said text) → h ≡ hint_told text t → Laid o 0 (misread_line name i c h) n r → Laid o 0 (faulty_line name text i c) n r
unfolding faulty_line
lay-faulty o n name text r i c t h e f l = rw (← e, ← f) l

pub ruleset reading = (lay-unfit, lay-faulty, rules)

-- ---- endings

pub ending-made : (t : Result ℕ TextError) (k : ℕ) → t ≡ Ok k → Done ≡ ending_of t
unfolding ending_of
ending-made t k e = rw e

pub ending-refused : (t : Result ℕ TextError) (x : TextError) → t ≡ Err x → Refused ≡ ending_of t
unfolding ending_of
ending-refused t NoRoom e = rw e
ending-refused t (BadText l c) e = rw e
ending-refused t (BadFile x) e = rw e

pub ruleset endings = (ending-made, ending-refused, rules)
