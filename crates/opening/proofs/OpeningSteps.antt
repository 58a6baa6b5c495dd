-- The opening in the code's own terms: what each way through the checks comes to, and the words of a new session, one table after the other.
-- Assumes nothing.
use mathlib.Core.Path.{◌≡◌, sym, ◌∙◌}
use mathlib.Core.List.{List, [], ◌∷◌, map}
use Prim.Native.Nat.{ℕ, ◌+◌}
use lib.Count.{ones}
use lib.ListN.{length}
use borrow.Author.Rules.{rules}
use Rattle.std.specs.Prelude.{Result, Ok, Err}
use Rattle.base.specs.Checks.{Check, fine, refused, first_fault, renamed}
use Rattle.base.proofs.CheckLaws.{renamed-pass, renamed-stop, faults}
use Rattle.contents.specs.declared.Fault.{Fault}
use Rattle.contents.specs.Replies.{verdict_of}
use Rattle.contents.specs.Contents.{counts_of}
use Rattle.score.specs.File.{checked}
use Rattle.score.specs.Piece.{decode}
use Rattle.contents.proofs.Verdicts.{verdict-fine, verdict-refused}
use Rattle.score.proofs.Accepted.{accepted-told}
use Rattle.score.proofs.Decoded.{events-decoded, items-decoded}
use Rattle.rules.specs.Terms.{Terms}
use Rattle.fates.specs.Fields.{item_word}
use Rattle.session.specs.declared.Refusal.{Refusal}
use Rattle.session.specs.declared.Refusal.TheVariants.{File}
use Rattle.session.specs.Layout.{mark_at, starts_at, page_at, tempo_at, mark}
use Rattle.opening.specs.Opening.{with_words, starts_of, cleared, new_session, opening_check, opened}

-- ---- the file check's verdict among the opening's checks

pub file-pass : (f : List ℕ) (v : Result (Unit {0}) Fault) (u : Unit {0}) (r : Check Refusal) (l : List (Check Refusal)) → v ≡ verdict_of (checked f) → v ≡ Ok u → r ≡ first_fault l
    → r ≡ first_fault (renamed File (checked f) ∷ l)
file-pass f v u r l e p q = renamed-pass File _ r l (verdict-fine _ v e p) q

pub file-stop : (f : List ℕ) (v : Result (Unit {0}) Fault) (x : Fault) (y : Refusal) (l : List (Check Refusal)) → v ≡ verdict_of (checked f) → v ≡ Err x → y ≡ File x
    → refused y ≡ first_fault (renamed File (checked f) ∷ l)
file-stop f v x y l e p q = rw q (renamed-stop File _ x l (verdict-refused _ v x e p))

-- ---- each way through them

module _ (m f : List ℕ) (o : Terms) where
  pub opened-refused : (x : Refusal) → refused x ≡ opening_check m f o → opened m f o ≡ record { reply = Err x; memory = m }
  unfolding opened
  opened-refused x e = rw (← e, opened)

  pub opened-granted : (m' : List ℕ) → fine ≡ opening_check m f o → m' ≡ new_session (decode f) o m → opened m f o ≡ record { reply = Ok (ones o.parts); memory = m' }
  unfolding opened
  opened-granted m' e p = rw (← e, opened, p)

pub ruleset openings = (opened-refused, opened-granted, file-pass, file-stop, accepted-told, faults, rules)

-- ---- the words of a new session, written one table after the other

pub words-begun : (f m m₁ m₂ m₃ m₄ : List ℕ) (events items parts tempo grace : ℕ) → events ≡ (counts_of f).events → items ≡ (counts_of f).items
    → m₁ ≡ cleared m
    → m₂ ≡ with_words tempo_at (tempo ∷ []) (with_words mark_at (mark ∷ events ∷ items ∷ parts ∷ grace ∷ []) m₁)
    → m₃ ≡ with_words (starts_at + 1) (starts_of 0 (decode f).durations) m₂
    → m₄ ≡ with_words page_at (map item_word (decode f).items) m₃
    → m₄ ≡ new_session (decode f) (record { parts = parts; tempo = tempo; grace = grace }) m
unfolding new_session
words-begun f m m₁ m₂ m₃ m₄ events items parts tempo grace n k e₁ e₂ e₃ e₄ =
    let events-all : events ≡ length (decode f).durations = n ∙ sym (events-decoded f) in
    let items-all : items ≡ length (decode f).items = k ∙ sym (items-decoded f) in
    rw (← events-all, ← items-all, e₄, e₃, e₂, e₁)
