-- In the file of a piece a message is wrong where its label is, and no text is left over: an entry is made from its label.
-- By recursion over the labels. Assumes nothing.
use mathlib.Core.Path.{◌≡◌, refl, sym, ap, ◌∙◌}
use mathlib.Core.Bool.{Bool, true, false}
use mathlib.Core.List.{List, [], ◌∷◌}
use Prim.Native.Nat.{ℕ, zero, suc, ◌+◌, ◌*◌, ◌<◌}
use native.Mathlib.Omega.{arith}
use lib.Dec.{eqb}
use lib.ListN.{length, get_or}
use borrow.Author.Tests.{eq-eqb, le-leb}
use Rattle.base.specs.Tests.{every, between}
use Rattle.base.specs.Checks.{refused}
use Rattle.base.proofs.CheckLaws.{need-fine}
use Rattle.contents.specs.declared.Fault.{Fault}
use Rattle.contents.specs.declared.Fault.TheVariants.{BadMessage, TextLeft}
use Rattle.contents.specs.declared.Counts.{Counts}
use Rattle.contents.specs.Limits.{message_size, longest_label}
use Rattle.contents.specs.Bytes.{u16_at}
use Rattle.messages.specs.Messages.{readable, message_right, messages_right}
use Rattle.score.specs.Encode.{text_bytes}
use Rattle.score.proofs.EncodingReads.{Entries, start-read, size-read, text-read, text-whole, next-entries}
use Rattle.score.proofs.FaultPlaces.{fault-of, no_fault, need-wrong, need-fault}

-- "Length 1 to 48. Label bytes are 32 to 255 but not 127"
unfoldable pub label_right : List ℕ → Bool
label_right l = every (between 1 longest_label (length l) ∷ readable l ∷ [])

-- The label at this place of the list is wrong, and those before it are right.
pub record LabelFault (at : ℕ) (ls : List (List ℕ)) (x : Fault) : Type 0 where
  pub k : ℕ
  pub below : k < length ls
  pub place : x ≡ BadMessage (at + message_size * k)
  pub wrong : label_right (get_or ls k []) ≡ false
  pub before_right : (j : ℕ) → j < k → label_right (get_or ls j []) ≡ true

label-next : (at : ℕ) (l : List ℕ) (ls : List (List ℕ)) (x : Fault) → label_right l ≡ true → LabelFault (at + message_size) ls x → LabelFault at (l ∷ ls) x
label-next at l ls x right h =
    let s : at + message_size + message_size * h.k ≡ at + message_size * suc h.k = omega arith in
    record { k = suc h.k; below = omega (arith, h.below); place = h.place ∙ ap BadMessage s; wrong = h.wrong; before_right = before }
  where
    before : (j : ℕ) → j < suc h.k → label_right (get_or (l ∷ ls) j []) ≡ true
    before zero p = right
    before (suc j) p = h.before_right j (omega arith)

every_two : (b r : Bool) → every (true ∷ b ∷ true ∷ r ∷ []) ≡ every (b ∷ r ∷ [])
unfolding every
every_two true r = refl
every_two false r = refl

module _ (f : List ℕ) (c : Counts) where
  message-says : (at from : ℕ) (l : List ℕ) (ls : List (List ℕ)) (ys : List ℕ) → Entries f c at from (l ∷ ls) ys → message_right f c at from ≡ label_right l
  unfolding message_right label_right
  message-says at from l ls ys s =
      rw (
        size-read f c at from l ls ys s,
        text-read f c at from l ls ys s,
        eq-eqb (u16_at f at) from (start-read f c at from l ls ys s),
        le-leb (from + length l) c.text (omega (arith, text-whole f c at from l ls ys s)),
      )
      (every_two (between 1 longest_label (length l)) (readable l))

  pub label-fault : (at from : ℕ) (ls : List (List ℕ)) (ys : List ℕ) (x : Fault) → Entries f c at from ls ys → messages_right f c at (length ls) from ≡ refused x → LabelFault at ls x
  unfolding messages_right text_bytes
  label-fault at from [] ys x s e =
      let used : eqb from c.text ≡ true = eq-eqb from c.text (omega (arith, s.whole)) in
      let left : eqb from c.text ≡ false = need-wrong _ x TextLeft e in
      let z : ◌≡◌ {A = ℕ} 0 1 = cc in
      absurd (omega arith)
  label-fault at from (l ∷ ls) ys x s e =
      let says : message_right f c at from ≡ label_right l = message-says at from l ls ys s in
      fault-of _ _ x (LabelFault at (l ∷ ls) x) e
      (λ h.
      let a : at ≡ at + message_size * 0 = omega arith in
      record {
        k = 0;
        below = omega arith;
        place = need-fault _ x (BadMessage at) h ∙ ap BadMessage a;
        wrong = sym says ∙ need-wrong _ x (BadMessage at) h;
        before_right = λ j p. absurd (omega arith);
      })
      (λ right rest.
      fault-of _ _ x (LabelFault at (l ∷ ls) x) rest
      (λ h.
      let h₁ = rw (size-read f c at from l ls ys s) at h in
      label-next at l ls x (sym says ∙ need-fine _ (BadMessage at) right) (label-fault (at + message_size) (from + length l) ls ys x (next-entries f c at from l ls ys s) h₁))
      (λ _ h. no_fault x _ h))
