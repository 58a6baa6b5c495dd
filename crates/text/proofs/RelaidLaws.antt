-- Texts that differ in blanks and comments only are the same without their layout: so they mean the same.
-- Assumes nothing.
use mathlib.Core.Path.{◌≡◌, refl, sym, ap, ◌∙◌}
use mathlib.Core.Bool.{Bool, true, false}
use mathlib.Core.List.{List, [], ◌∷◌, ◌++◌, append_assoc}
use Prim.Native.Nat.{ℕ}
use lib.Dec.{eqb}
use borrow.Author.Tests.{not-true}
use Rattle.base.specs.Tests.{pick}
use Rattle.ascii.specs.Words.{newline}
use Rattle.tokens.specs.Bytes.{backslash, is_blank, is_plain, is_escaped, All, none, one}
use Rattle.tokens.specs.Tokens.{past_blanks, blanks}
use Rattle.tokens.specs.Quoted.{escaped, quoted}
use Rattle.tokens.proofs.TokenLaws.{comment-passed, plain_byte}
use Rattle.text.specs.Said.{said}
use Rattle.text.specs.Layout.{in_token, in_gap, in_comment, in_label, squeezed_from, squeezed, meaning}
use Rattle.text.specs.Relaid.{Gap, blank, comment, joined, Tail, bare, trailing, remark, Relaid, same, tails, gaps, labels, byte}
use Rattle.text.proofs.SqueezedTokens.{blanks-squeezed}
use Rattle.text.proofs.LayoutLaws.{same-meaning}

-- ---- a gap is a gap

remark-gone : {l : List ℕ} (t : List ℕ) → All is_plain l → squeezed_from in_comment (l ++ (newline ∷ t)) ≡ squeezed_from in_gap t
unfolding squeezed_from pick
remark-gone t none = refl
remark-gone t (one {b = b} e a) = rw (not-true (eqb b newline) e) (remark-gone t a)

-- Behind a token or behind another gap.
record Gone (g t : List ℕ) : Type 0 where
  token : squeezed_from in_token (g ++ t) ≡ squeezed_from in_gap t
  gap : squeezed_from in_gap (g ++ t) ≡ squeezed_from in_gap t

gap-gone : {g : List ℕ} (t : List ℕ) → Gap g → Gone g t
unfolding squeezed_from is_blank pick
gap-gone t (blank e) = record { token = rw e; gap = rw e }
gap-gone t (comment {l = l} a) =
    let z = append_assoc l (newline ∷ []) t in
    record { token = rw z (remark-gone t a); gap = rw z (remark-gone t a) }
gap-gone t (joined {g = g} {h = h} p q) =
    let x = gap-gone (h ++ t) p in
    let y = gap-gone t q in
    record {
      token = rw (append_assoc g h t) (x.token ∙ y.gap);
      gap = rw (append_assoc g h t) (x.gap ∙ y.gap);
    }

last-gone : {l : List ℕ} → All is_plain l → squeezed_from in_comment l ≡ []
unfolding squeezed_from pick
last-gone none = refl
last-gone (one {b = b} e a) = rw (not-true (eqb b newline) e) (last-gone a)

record Nothing (t : List ℕ) : Type 0 where
  token : squeezed_from in_token t ≡ []
  gap : squeezed_from in_gap t ≡ []

tail-gone : {t : List ℕ} → Tail t → Nothing t
unfolding squeezed_from is_blank pick
tail-gone bare = record { token = refl; gap = refl }
tail-gone (trailing {g = g} {t = t} p q) =
    let x = gap-gone t p in
    let y = tail-gone q in
    record { token = x.token ∙ y.gap; gap = x.gap ∙ y.gap }
tail-gone (remark a) = record { token = last-gone a; gap = last-gone a }

-- ---- a label stays

escaped-kept : (l t : List ℕ) → squeezed_from in_label (escaped l ++ t) ≡ escaped l ++ squeezed_from in_token t
unfolding squeezed_from escaped pick
escaped-kept [] t = refl
escaped-kept (b ∷ l) t = go (is_escaped b) refl (escaped-kept l t) where
  go : (e : Bool) → is_escaped b ≡ e → squeezed_from in_label (escaped l ++ t) ≡ escaped l ++ squeezed_from in_token t
      → squeezed_from in_label (pick e (backslash ∷ b ∷ escaped l) (b ∷ escaped l) ++ t) ≡ pick e (backslash ∷ b ∷ escaped l) (b ∷ escaped l) ++ squeezed_from in_token t
  go true p r = rw r
  go false p r = let q = plain_byte b p in rw (q.0, q.1, r)

-- ---- the whole

record Same (t u : List ℕ) : Type 0 where
  token : squeezed_from in_token t ≡ squeezed_from in_token u
  gap : squeezed_from in_gap t ≡ squeezed_from in_gap u

relaid-same : {t u : List ℕ} → Relaid t u → Same t u
unfolding squeezed_from quoted is_blank pick
relaid-same same = record { token = refl; gap = refl }
relaid-same (tails p q) =
    let x = tail-gone p in
    let y = tail-gone q in
    record { token = x.token ∙ sym y.token; gap = x.gap ∙ sym y.gap }
relaid-same (gaps {t = t} {u = u} p q r) =
    let x = gap-gone t p in
    let y = gap-gone u q in
    let z = relaid-same r in
    record { token = x.token ∙ z.gap ∙ sym y.token; gap = x.gap ∙ z.gap ∙ sym y.gap }
relaid-same (labels l {t = t} {u = u} r) =
    let z = relaid-same r in
    record { token = rw (escaped-kept l t, escaped-kept l u, z.token); gap = rw (escaped-kept l t, escaped-kept l u, z.token) }
relaid-same (byte {b = b} e f q r) =
    let z = relaid-same r in
    record { token = rw (e, f, q, z.token); gap = rw (e, f, q, z.token) }

pub relaid-squeezed : {t u : List ℕ} → Relaid t u → squeezed t ≡ squeezed u
unfolding squeezed
relaid-squeezed {t} {u} r = sym (blanks-squeezed t) ∙ ap (λ (bs : List ℕ). blanks bs) (relaid-same r).token ∙ blanks-squeezed u

gap-passed : {g : List ℕ} (t : List ℕ) → Gap g → blanks (g ++ t) ≡ blanks t
unfolding past_blanks is_blank pick
gap-passed t (blank e) = rw e
gap-passed t (comment {l = l} a) = rw (append_assoc l (newline ∷ []) t) (comment-passed t a)
gap-passed t (joined {g = g} {h = h} p q) = rw (append_assoc g h t) (gap-passed (h ++ t) p ∙ gap-passed t q)

-- Before the first token a gap may stand or none.
pub front-squeezed : {g : List ℕ} (t : List ℕ) → Gap g → squeezed (g ++ t) ≡ squeezed t
unfolding squeezed
front-squeezed t p = rw (gap-passed t p)

pub relaid-meaning : {t u : List ℕ} → Relaid t u → meaning (said t) ≡ meaning (said u)
relaid-meaning {t} {u} r = same-meaning t u (relaid-squeezed r)
