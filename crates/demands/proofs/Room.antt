-- The send room is enough: an accepted page has at most 1,024 actions, and a call sends each of them once at most.
-- Assumes nothing.
use mathlib.Core.Path.{◌≡◌, refl, ap, sym, ◌∙◌}
use Prim.Native.Nat.{ℕ, zero, suc, ◌+◌, ◌≤◌}
use mathlib.Core.Bool.{Bool, true, false}
use mathlib.Core.List.{List, [], ◌∷◌, ◌++◌}
use native.Mathlib.Omega.{arith}
use lib.Dec.{eqb}
use lib.ListN.{length, take, drop, length-append, take-append-drop}
use borrow.Author.Tests.{eqb-true}
use Rattle.page.specs.declared.Item.{Item}
use Rattle.base.specs.Only.{only}
use Rattle.base.specs.Tests.{pick}
use Rattle.contents.specs.declared.Counts.{Counts}
use Rattle.contents.specs.Limits.{most_actions}
use Rattle.items.specs.declared.Setting.{Setting}
use Rattle.items.specs.Items.{own_of}
use Rattle.score.specs.Piece.{decode}
use Rattle.score.specs.File.{Accepted}
use Rattle.items.proofs.Walked.{Walked, walked_none, walked_item, walked-few}
use Rattle.items.proofs.WalkLaws.{own-action}
use Rattle.score.proofs.Accepted.{accepted-walked}
use Rattle.rules.specs.Words.{synchrony_of, error_of}
use Rattle.rules.specs.Score.{Seq, end}
use Rattle.rules.specs.Rules.{Reading, reading_of, Outcome, played, dropped, undecided, Line, line, Holder as Holds, fate_of, enter, run, perform}
use Rattle.rules.specs.Page.{levels, sequence_of, Entry, run_length, entries_of, entries, Cue, cast, cues}
use Rattle.rules.specs.Parts.{sounding_entries}
use Rattle.session.specs.declared.Refusal.{Refusal}
use Rattle.base.specs.Checks.{Check, fine, refused}
use Rattle.demands.specs.History.{Call, note, pass, report, look_up, Now, heard_events, verdict}
use Rattle.demands.specs.Messages.{Sent, first_time, sends, firsts, sent_between}
use Rattle.demands.specs.Answers.{messages_of, if_granted, messages_by, sounding_in}
use Rattle.demands.proofs.Ordered.{length-order}

-- ---- the actions of a table

among : List Item → ℕ
among [] = 0
among (i ∷ is) = own_of i + among is

among-append : (is js : List Item) → among (is ++ js) ≡ among is + among js
unfolding among
among-append [] js = omega arith
among-append (i ∷ is) js = omega (arith, among-append is js)

among-split : (k : ℕ) (is : List Item) → among (take k is) + among (drop k is) ≡ among is
among-split k is = sym (among-append (take k is) (drop k is)) ∙ ap among (take-append-drop k is)

-- ---- the walk of the check counts them, and goes no further than 1,024

walked-among : {c : Counts} {h : Setting} {n m : ℕ} {is : List Item} → Walked c h n is m → m ≡ n + among is
unfolding among
walked-among walked_none = omega arith
walked-among (walked_item {b = b} {l = l} r e inner rest) = omega (arith, walked-among inner, walked-among rest, among-append b l)

few-actions : (f : List ℕ) → Accepted f → among (decode f).items ≤ most_actions
few-actions f a = let w = accepted-walked f a in omega (arith, walked-among w.1, walked-few w.1 (omega arith))

-- ---- no more lines than actions

-- A group's lines are those of its body and those after it.
group-few : (l k : List Line) (i : Item) (is : List Item) → length l ≤ among (take i.last is) → length k ≤ among (drop i.last is) → length (l ++ k) ≤ among (i ∷ is)
unfolding among
group-few l k i is a b = omega (arith, length-append l k, among-split i.last is)

lines-few : (R : Reading) (n v p : ℕ) (h : Holds) (s : ℕ) (is : List Item) → length (run R h s (sequence_of n v p is)) ≤ among is
unfolding sequence_of run among
lines-few R zero v p h s is = omega arith
lines-few R (suc n) v p h s [] = omega arith
lines-few R (suc n) v p h s (i ∷ is) =
    go (eqb i.kind 0) refl
    (lines-few R n v (p + 1) h (s + i.delay.0) is)
    (λ u k. lines-few R n u (p + 1) k 0 (take i.last is))
    (lines-few R n v (p + 1 + i.last) h (s + i.delay.0) (drop i.last is))
  where
    Body : Type 0
    Body = (u : ℕ) (k : Holds) → length (run R k 0 (sequence_of n u (p + 1) (take i.last is))) ≤ among (take i.last is)

    held : Seq
    held = elim v [ zero ↦ end | suc u ↦ sequence_of n u (p + 1) (take i.last is) ]

    after : Seq
    after = sequence_of n v (p + 1 + i.last) (drop i.last is)

    entered : Holds
    entered = enter (fate_of R h (s + i.delay.0)) (synchrony_of i.synchrony) (error_of i.error)

    within : (w : ℕ) (k : Holds) → Body → length (run R k 0 (elim w [ zero ↦ end | suc u ↦ sequence_of n u (p + 1) (take i.last is) ])) ≤ among (take i.last is)
    within zero k b = omega arith
    within (suc u) k b = b u k

    go : (t : Bool) → eqb i.kind 0 ≡ t
        → length (run R h (s + i.delay.0) (sequence_of n v (p + 1) is)) ≤ among is
        → Body
        → length (run R h (s + i.delay.0) (sequence_of n v (p + 1 + i.last) (drop i.last is))) ≤ among (drop i.last is)
        → length (run R h s (sequence_of (suc n) v p (i ∷ is))) ≤ among (i ∷ is)
    go true e a b r = rw (e, sequence_of) (omega (arith, own-action i (eqb-true _ _ e)))
    go false e a b r = rw (e, sequence_of) (group-few (run R entered 0 held) (run R h (s + i.delay.0) after) i is (within v entered b) r)

cast-length : (p : ℕ) (l : List Line) → length (cast p l) ≡ length l
unfolding cast
cast-length p [] = refl
cast-length p (line a m o ∷ l) = ap suc (cast-length p l)

entries-few : (R : Reading) (n p : ℕ) (is : List Item) → length (cues R (entries_of n p is)) ≤ among is
unfolding entries_of cues perform among
entries-few R zero p is = omega arith
entries-few R (suc n) p [] = omega arith
entries-few R (suc n) p (x ∷ is) =
    let k = run_length x.event x.part is in
    let l : List Line = perform R x.event (sequence_of (suc k) levels p (x ∷ take k is)) in
    let a : length l ≤ among (x ∷ take k is) = lines-few R (suc k) levels p _ 0 (x ∷ take k is) in
    omega (arith, length-append (cast x.part l) (cues R (entries_of n (p + 1 + k) (drop k is))), cast-length x.part l, entries-few R n (p + 1 + k) (drop k is), among-split k is)

sounding-few : (R : Reading) (S : ℕ → Bool) (es : List Entry) → length (cues R (sounding_entries S es)) ≤ length (cues R es)
unfolding only cues pick
sounding-few R S [] = omega arith
sounding-few R S (e ∷ es) = go (S e.part) (sounding-few R S es)
  where
    go : (t : Bool) → length (cues R (sounding_entries S es)) ≤ length (cues R es) → length (cues R (pick t (e ∷ sounding_entries S es) (sounding_entries S es))) ≤ length (cues R (e ∷ es))
    go true h = omega (arith, length-append (cast e.part (perform R e.event e.body)) (cues R (sounding_entries S es)), length-append (cast e.part (perform R e.event e.body)) (cues R es))
    go false h = omega (arith, length-append (cast e.part (perform R e.event e.body)) (cues R es))

-- The cues of an accepted file's sounding parts.
pub few-cues : (f : List ℕ) → Accepted f → (S : ℕ → Bool) (R : Reading) → length (cues R (sounding_in f S)) ≤ most_actions
unfolding sounding_in entries
few-cues f a S R =
    let is = (decode f).items in
    omega (arith, few-actions f a, entries-few R (length is) 0 is, sounding-few R S (entries_of (length is) 0 is))

-- ---- no more messages than cues

first-few : (b n : Bool) (x : Sent) (l : List Sent) (k : ℕ) → length l ≤ k → length (first_time b n x l) ≤ suc k
unfolding first_time
first-few true n x l k h = omega arith
first-few false true x l k h = omega arith
first-few false false x l k h = omega arith

sends-few : (s n : Now) (c : Cue) (o : Outcome) (l : List Sent) (k : ℕ) → length l ≤ k → length (sends s n c o l) ≤ suc k
unfolding sends
sends-few s n c (played i d) l k h = first-few _ _ _ l k h
sends-few s n c dropped l k h = omega arith
sends-few s n c undecided l k h = omega arith

firsts-few : (s n : Now) (l : List Cue) → length (firsts s n l) ≤ length l
unfolding firsts
firsts-few s n [] = omega arith
firsts-few s n (c ∷ l) = sends-few s n c c.outcome (firsts s n l) (length l) (firsts-few s n l)

module _ (f : List ℕ) (accepted : Accepted f) (S : ℕ → Bool) (ds : List ℕ) where
  between-few : (s n : Now) → length (sent_between ds (sounding_in f S) s n) ≤ most_actions
  unfolding sent_between
  between-few s n =
      let R = reading_of n.terms ds (heard_events n.hearings) in
      omega (arith, length-order (firsts s n (cues R (sounding_in f S))), firsts-few s n (cues R (sounding_in f S)), few-cues f accepted S R)

  granted-few : (s : Now) (c : Call) → length (messages_of ds (sounding_in f S) s c) ≤ most_actions
  unfolding messages_of
  granted-few s (note room h tempo) = between-few s _
  granted-few s (pass room ms) = between-few s _
  granted-few s report = omega arith
  granted-few s (look_up n) = omega arith

  pub few-sent : (s : Now) (c : Call) → length (messages_by ds (sounding_in f S) s c) ≤ most_actions
  unfolding messages_by if_granted
  few-sent s c = go (verdict (length ds) s c)
    where
      go : (g : Check Refusal) → length (if_granted g (messages_of ds (sounding_in f S) s c)) ≤ most_actions
      go fine = granted-few s c
      go (refused x) = omega arith
