-- A look-up in an accepted file depends on the file's labels alone.
-- Assumes nothing.
use mathlib.Core.Path.{◌≡◌, refl, ap, sym, ◌∙◌}
use Prim.Native.Nat.{ℕ, ◌<◌, ◌≤◌}
use mathlib.Core.Bool.{Bool, true, false}
use mathlib.Core.List.{List, [], ◌∷◌}
use native.Mathlib.Omega.{arith}
use lib.Dec.{ltb}
use lib.ListN.{length, get_or, get_or-eq_default}
use borrow.Author.Tests.{ltb-true, ltb-false}
use Rattle.base.specs.Checks.{Check, fine, refused, need, first_fault}
use Rattle.contents.specs.declared.Fault.{Fault}
use Rattle.contents.specs.declared.Fault.TheVariants.{NoMessage}
use Rattle.contents.specs.Bytes.{part}
use Rattle.contents.specs.Contents.{counts_of}
use Rattle.messages.specs.Messages.{label_at}
use Rattle.score.specs.Piece.{decode}
use Rattle.score.specs.File.{Accepted}
use Rattle.score.specs.LookUp.{label_reply, label_span, label_bytes, granted}
use Rattle.messages.proofs.Decoded.{labels-at}
use Rattle.score.proofs.Decoded.{labels-decoded}

-- The reply: whether there is such a label.
unfoldable pub found : List (List ℕ) → ℕ → Check Fault
found ls n = need (ltb n (length ls)) NoMessage

pub reply-found : (f : List ℕ) → Accepted f → (n : ℕ) → label_reply f n ≡ found (decode f).labels n
unfolding label_reply found first_fault need
reply-found f a n = rw (a.fine, labels-decoded f) (go (ltb n (counts_of f).messages))
  where
    go : (t : Bool) → first_fault (need t NoMessage ∷ []) ≡ need t NoMessage
    go true = refl
    go false = refl

-- The bytes: that label, and none where there is none.
granted_bytes : (f : List ℕ) (n : ℕ) → label_reply f n ≡ fine → n < (counts_of f).messages → label_bytes f n ≡ get_or (decode f).labels n []
unfolding label_bytes label_span granted decode label_at part
granted_bytes f n e h = rw (e, granted) (sym (labels-at f (counts_of f) _ (counts_of f).messages n [] h))

refused-bytes : (f : List ℕ) (n : ℕ) → label_reply f n ≡ refused NoMessage → label_bytes f n ≡ []
unfolding label_bytes label_span granted
refused-bytes f n e = rw (e, granted)

pub bytes-found : (f : List ℕ) → Accepted f → (n : ℕ) → label_bytes f n ≡ get_or (decode f).labels n []
unfolding found need
bytes-found f a n = go (ltb n (length (decode f).labels)) refl
  where
    go : (t : Bool) → ltb n (length (decode f).labels) ≡ t → label_bytes f n ≡ get_or (decode f).labels n []
    go true e =
        let h : n < length (decode f).labels = ltb-true _ _ e in
        granted_bytes f n (reply-found f a n ∙ rw e) (omega (arith, labels-decoded f))
    go false e =
        let h : length (decode f).labels ≤ n = ltb-false _ _ e in
        refused-bytes f n (reply-found f a n ∙ rw e) ∙ sym (get_or-eq_default (decode f).labels [] h)

-- Two accepted files with the same labels.
pub same-reply : (f g : List ℕ) → Accepted f → Accepted g → (decode f).labels ≡ (decode g).labels → (n : ℕ) → label_reply f n ≡ label_reply g n
same-reply f g a b e n = reply-found f a n ∙ (ap (λ (l : List (List ℕ)). found l n) e ∙ sym (reply-found g b n))

pub same_bytes : (f g : List ℕ) → Accepted f → Accepted g → (decode f).labels ≡ (decode g).labels → (n : ℕ) → label_bytes f n ≡ label_bytes g n
same_bytes f g a b e n = bytes-found f a n ∙ (ap (λ (l : List (List ℕ)). get_or l n []) e ∙ sym (bytes-found g b n))
