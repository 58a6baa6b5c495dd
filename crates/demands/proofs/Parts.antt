-- The sounding parts send what the whole piece sends with the other parts' messages struck out: an outcome depends on its own part's sequences alone, and
-- striking out may change places with the order of sending.
-- Assumes nothing.
use mathlib.Core.Path.{◌≡◌, refl, ap, sym, ◌∙◌}
use Prim.Native.Nat.{ℕ}
use mathlib.Core.Bool.{Bool, true, false}
use mathlib.Core.List.{List, [], ◌∷◌, map}
use lib.ListN.{length}
use Rattle.base.specs.Tests.{pick}
use Rattle.rules.specs.Rules.{Reading, reading_of, Outcome, played, dropped, undecided}
use Rattle.rules.specs.Page.{Entry, Cue, cues}
use Rattle.base.specs.Only.{only}
use Rattle.base.proofs.OnlyLaws.{only-in, only_out}
use Rattle.rules.specs.Parts.{sounding_entries, sounding_cues}
use Rattle.rules.proofs.OwnPart.{own-part}
use Rattle.session.specs.declared.Refusal.{Refusal}
use Rattle.base.specs.Checks.{Check, fine, refused}
use Rattle.demands.specs.History.{Call, note, pass, report, look_up, Now, heard_events, after}
use Rattle.demands.specs.Messages.{Sent, first_time, sends, firsts, insert, order, sent_between}
use Rattle.demands.specs.Answers.{messages_of, if_granted, messages_by}
use Rattle.demands.specs.Demands.{only_parts, sent_by}
use Rattle.demands.proofs.Ordered.{insert-ahead, insert-behind, Place, ahead, behind, place, From, none, one, Sorted, empty, link, from-lower, sorted-order, insert-first}

module _ (S : ℕ → Bool) where
  pub part_in : (x : Sent) (l : List Sent) → S x.part ≡ true → only_parts S (x ∷ l) ≡ x ∷ only_parts S l
  part_in x l e = only-in (λ (y : Sent). S y.part) x l e

  pub part_out : (x : Sent) (l : List Sent) → S x.part ≡ false → only_parts S (x ∷ l) ≡ only_parts S l
  part_out x l e = only_out (λ (y : Sent). S y.part) x l e

  -- ---- striking out and the order of sending

  only-from : {d : ℕ} {l : List Sent} → From d l → From d (only_parts S l)
  unfolding only pick
  only-from none = none
  only-from {d} (one {x = x} {l = l} p q) = go (S x.part) refl (only-from q)
    where
      go : (t : Bool) → S x.part ≡ t → From d (only_parts S l) → From d (only_parts S (x ∷ l))
      go true e r = rw (part_in x l e) (one p r)
      go false e r = rw (part_out x l e) r

  insert-in : (x : Sent) {l : List Sent} → S x.part ≡ true → Sorted l → only_parts S (insert x l) ≡ insert x (only_parts S l)
  unfolding insert only pick
  insert-in x a empty = part_in x [] a
  insert-in x a (link {x = y} {l = l} f s) = go (place x y) (S y.part) refl (insert-in x a s)
    where
      go : Place x y → (t : Bool) → S y.part ≡ t → only_parts S (insert x l) ≡ insert x (only_parts S l) → only_parts S (insert x (y ∷ l)) ≡ insert x (only_parts S (y ∷ l))
      go (ahead h) true e ih = rw (insert-ahead x y l h, part_in x (y ∷ l) a, part_in y l e, insert-ahead x y (only_parts S l) h)
      go (ahead h) false e ih = rw (insert-ahead x y l h, part_in x (y ∷ l) a, part_out y l e) (sym (insert-first x (only-from (from-lower h f))))
      go (behind h) true e ih = rw (insert-behind x y l h, part_in y (insert x l) e, part_in y l e, insert-behind x y (only_parts S l) h, ih)
      go (behind h) false e ih = rw (insert-behind x y l h, part_out y (insert x l) e, part_out y l e) ih

  insert-out : (x : Sent) (l : List Sent) → S x.part ≡ false → only_parts S (insert x l) ≡ only_parts S l
  unfolding insert only
  insert-out x [] a = part_out x [] a
  insert-out x (y ∷ l) a = go (place x y) (insert-out x l a)
    where
      go : Place x y → only_parts S (insert x l) ≡ only_parts S l → only_parts S (insert x (y ∷ l)) ≡ only_parts S (y ∷ l)
      go (ahead h) ih = rw (insert-ahead x y l h) (part_out x (y ∷ l) a)
      go (behind h) ih = rw (insert-behind x y l h, ih)

  pub only-order : (l : List Sent) → only_parts S (order l) ≡ order (only_parts S l)
  unfolding order only
  only-order [] = refl
  only-order (x ∷ l) = go (S x.part) refl (only-order l)
    where
      go : (t : Bool) → S x.part ≡ t → only_parts S (order l) ≡ order (only_parts S l) → only_parts S (insert x (order l)) ≡ order (only_parts S (x ∷ l))
      go true a ih = rw (part_in x l a) (insert-in x a (sorted-order l) ∙ ap (insert x) ih)
      go false a ih = rw (part_out x l a) (insert-out x (order l) a ∙ ih)

  -- ---- striking out and the page

  first-in : (b n : Bool) (x : Sent) (l : List Sent) → S x.part ≡ true → only_parts S (first_time b n x l) ≡ first_time b n x (only_parts S l)
  unfolding first_time
  first-in true n x l e = refl
  first-in false true x l e = part_in x l e
  first-in false false x l e = refl

  first_out : (b n : Bool) (x : Sent) (l : List Sent) → S x.part ≡ false → only_parts S (first_time b n x l) ≡ only_parts S l
  unfolding first_time
  first_out true n x l e = refl
  first_out false true x l e = part_out x l e
  first_out false false x l e = refl

  module _ (s n : Now) where
    sends-in : (c : Cue) (o : Outcome) (l : List Sent) → S c.part ≡ true → only_parts S (sends s n c o l) ≡ sends s n c o (only_parts S l)
    unfolding sends
    sends-in c (played i d) l e = first-in _ _ _ l e
    sends-in c dropped l e = refl
    sends-in c undecided l e = refl

    sends-out : (c : Cue) (o : Outcome) (l : List Sent) → S c.part ≡ false → only_parts S (sends s n c o l) ≡ only_parts S l
    unfolding sends
    sends-out c (played i d) l e = first_out _ _ _ l e
    sends-out c dropped l e = refl
    sends-out c undecided l e = refl

    cues-of-parts : (l : List Cue) → only_parts S (firsts s n l) ≡ firsts s n (sounding_cues S l)
    unfolding firsts only pick
    cues-of-parts [] = refl
    cues-of-parts (c ∷ l) = go (S c.part) refl (cues-of-parts l)
      where
        go : (t : Bool) → S c.part ≡ t → only_parts S (firsts s n l) ≡ firsts s n (sounding_cues S l)
            → only_parts S (sends s n c c.outcome (firsts s n l)) ≡ firsts s n (pick (S c.part) (c ∷ sounding_cues S l) (sounding_cues S l))
        go true a ih = rw a (sends-in c c.outcome (firsts s n l) a ∙ ap (sends s n c c.outcome) ih)
        go false a ih = rw a (sends-out c c.outcome (firsts s n l) a ∙ ih)

    -- By the rules' law of own part.
    pub only-firsts : (R : Reading) (es : List Entry) → only_parts S (firsts s n (cues R es)) ≡ firsts s n (cues R (sounding_entries S es))
    only-firsts R es = cues-of-parts (cues R es) ∙ ap (firsts s n) (sym (own-part S R es))

    pub between-of-parts : (ds : List ℕ) (es : List Entry) → sent_between ds (sounding_entries S es) s n ≡ only_parts S (sent_between ds es s n)
    unfolding sent_between
    between-of-parts ds es = sym (only-order _ ∙ ap order (only-firsts (reading_of n.terms ds (heard_events n.hearings)) es))

  -- ---- call by call: "one part's delays never move another's"

  granted-of-parts : (ds : List ℕ) (es : List Entry) (s : Now) (c : Call) → messages_of ds (sounding_entries S es) s c ≡ only_parts S (messages_of ds es s c)
  unfolding messages_of only
  granted-of-parts ds es s (note room h tempo) = between-of-parts s _ ds es
  granted-of-parts ds es s (pass room ms) = between-of-parts s _ ds es
  granted-of-parts ds es s report = refl
  granted-of-parts ds es s (look_up n) = refl

  only-granted : (g : Check Refusal) (l : List Sent) → if_granted g (only_parts S l) ≡ only_parts S (if_granted g l)
  unfolding if_granted only
  only-granted fine l = refl
  only-granted (refused x) l = refl

  pub sent-of-parts : (ds : List ℕ) (es : List Entry) (s : Now) (c : Call) → messages_by ds (sounding_entries S es) s c ≡ only_parts S (messages_by ds es s c)
  unfolding messages_by
  sent-of-parts ds es s c = rw (granted-of-parts ds es s c) (only-granted _ _)

  pub run-of-parts : (ds : List ℕ) (es : List Entry) (s : Now) (cs : List Call) → sent_by ds (sounding_entries S es) s cs ≡ map (only_parts S) (sent_by ds es s cs)
  unfolding sent_by
  run-of-parts ds es s [] = refl
  run-of-parts ds es s (c ∷ cs) = rw (sent-of-parts ds es s c, run-of-parts ds es (after (length ds) s c) cs)
