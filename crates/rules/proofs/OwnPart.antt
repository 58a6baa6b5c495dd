-- 'Own part': "one part's delays never move another's". What becomes of a part's actions depends on the events and on that part's items alone: striking the others'
-- out of the page, or out of an accepted table, strikes out just their cues. A table's runs of items are whole, so they go or stay as wholes. Assumes nothing.
use mathlib.Core.Path.{◌≡◌, refl, ap, ap₂, sym, ◌∙◌}
use Prim.Native.Nat.{ℕ}
use mathlib.Core.Bool.{Bool, true, false}
use mathlib.Core.List.{List, [], ◌∷◌, ◌++◌}
use Rattle.base.specs.Tests.{pick}
use Rattle.rules.specs.Rules.{Reading, Line, line, perform}
use Rattle.rules.specs.Page.{Entry, cast, cues}
use Rattle.base.specs.Only.{only}
use Rattle.rules.specs.Parts.{sounding_entries, sounding_cues}

pub only-append {ℓ} : {A : Type ℓ} (T : A → Bool) (l k : List A) → only T (l ++ k) ≡ only T l ++ only T k
unfolding only pick
only-append T [] k = refl
only-append T (x ∷ l) k = go (T x) (only-append T l k)
  where
    go : (v : Bool) → only T (l ++ k) ≡ only T l ++ only T k → pick v (x ∷ only T (l ++ k)) (only T (l ++ k)) ≡ pick v (x ∷ only T l) (only T l) ++ only T k
    go true e = ap (λ z. x ∷ z) e
    go false e = e

-- ---- the page

module _ (S : ℕ → Bool) where
  cast-in : (q : ℕ) (l : List Line) → S q ≡ true → sounding_cues S (cast q l) ≡ cast q l
  unfolding only pick cast
  cast-in q [] h = refl
  cast-in q (line p m o ∷ l) h = rw (h, cast-in q l h)

  cast-out : (q : ℕ) (l : List Line) → S q ≡ false → sounding_cues S (cast q l) ≡ []
  unfolding only pick cast
  cast-out q [] h = refl
  cast-out q (line p m o ∷ l) h = rw (h, cast-out q l h)

  pub own-part : (R : Reading) (es : List Entry) → cues R (sounding_entries S es) ≡ sounding_cues S (cues R es)
  unfolding cues only pick
  own-part R [] = refl
  own-part R (e ∷ es) = go (S e.part) refl (own-part R es)
    where
      go : (v : Bool) → S e.part ≡ v → cues R (sounding_entries S es) ≡ sounding_cues S (cues R es) →
          cues R (pick (S e.part) (e ∷ sounding_entries S es) (sounding_entries S es))
          ≡ sounding_cues S (cast e.part (perform R e.event e.body) ++ cues R es)
      go true h ih =
          rw (h, pick)
          (ap₂ ◌++◌ (sym (cast-in e.part (perform R e.event e.body) h)) ih
          ∙ sym (only-append (λ c. S c.part) (cast e.part (perform R e.event e.body)) (cues R es)))
      go false h ih =
          rw (h, pick)
          (ih
          ∙ (ap (λ z. z ++ sounding_cues S (cues R es)) (sym (cast-out e.part (perform R e.event e.body) h))
          ∙ sym (only-append (λ c. S c.part) (cast e.part (perform R e.event e.body)) (cues R es))))
