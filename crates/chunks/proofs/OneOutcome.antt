-- No second outcome meets the contract of reading on in a chunk, or of the last line: replies, memory, room, output and kept bytes are all given.
-- Assumes nothing.
use mathlib.Core.Path.{◌≡◌, sym, ap, ◌∙◌}
use mathlib.Core.List.{List}
use Prim.Native.Nat.{ℕ, ◌≤◌}
use lib.ListN.{length}
use lib.Seq.{length-take-le}
use Rattle.ascii.proofs.OneOutcome.{one-stop, one-laid}
use Rattle.playing.proofs.OneOutcome.{Same}
use Rattle.chunks.specs.declared.Progress.{Progress}
use Rattle.chunks.specs.declared.Step.{Step}
use Rattle.chunks.specs.Reading.{Reading}
use Rattle.chunks.specs.Inner.{reading_of, WentOn, Ended}

module _ (f : List ℕ) (r : Reading) (out m m' room room' new new' : List ℕ) (n n' : ℕ) (p : Ended f r out m room new n) (q : Ended f r out m' room' new' n') where
  pub one-last-line : Same m m' room room' new new' n n'
  one-last-line =
      record {
        memory = p.memory ∙ sym q.memory;
        room = p.room ∙ sym q.room;
        output = one-laid out _ new new' 0 n n' p.output q.output;
        count = one-stop out _ new new' 0 n n' p.output q.output;
      }

-- Progress is given by the reading that it stands for, where what is kept lies within the line.
module _ (m m' room room' l l' : List ℕ) (p q : Progress) (e : reading_of m room l p ≡ reading_of m' room' l' q) where
  pub same_lines : p.lines ≡ q.lines
  same_lines = ap (λ (r : Reading). r.lines) e

  pub same-opened : p.opened ≡ q.opened
  same-opened = ap (λ (r : Reading). r.stand.opened) e

  pub same-grace : p.grace ≡ q.grace
  same-grace = ap (λ (r : Reading). r.grace) e

  pub same-have : p.have ≤ length l → q.have ≤ length l' → p.have ≡ q.have
  same-have a b = sym (length-take-le p.have l a) ∙ ap (λ (r : Reading). length r.kept) e ∙ length-take-le q.have l' b

module _ (f chunk : List ℕ) (at : ℕ) (m room line : List ℕ) (p : Progress) (out m₁ m₂ room₁ room₂ l₁ l₂ out₁ out₂ : List ℕ) (s t : Step)
    (a : WentOn f chunk at m room line p out m₁ room₁ l₁ out₁ s) (b : WentOn f chunk at m room line p out m₂ room₂ l₂ out₂ t) where
  pub one-next : s.next ≡ t.next
  one-next = a.next ∙ sym b.next

  pub one-reading : reading_of m₁ room₁ l₁ s.progress ≡ reading_of m₂ room₂ l₂ t.progress
  one-reading = a.reading ∙ sym b.reading

  pub one_kept : l₁ ≡ l₂
  one_kept = a.line ∙ sym b.line

  pub one-output : out₁ ≡ out₂
  one-output = one-laid out _ out₁ out₂ 0 s.count t.count a.output b.output

  pub one-count : s.count ≡ t.count
  one-count = one-stop out _ out₁ out₂ 0 s.count t.count a.output b.output
