-- The part bits of the terms change nothing of a history but which parts sound: with other bits every moment and every call's messages are the same of the same
-- sequences. And all sixteen bits let every part of an accepted file sound. Assumes nothing.
use mathlib.Core.Path.{◌≡◌, refl, ap}
use Prim.Native.Nat.{ℕ, zero, suc, ◌+◌, ◌-◌, ◌/◌, ◌%◌, ◌^◌, ◌<◌}
use mathlib.Core.Bool.{true}
use mathlib.Core.List.{List, [], ◌∷◌}
use native.Mathlib.Nat.{pow-succ', one-le-pow}
use native.Mathlib.Omega.{arith}
use lib.ListN.{length, drop}
use Rattle.base.specs.Tests.{pick}
use Rattle.base.specs.Checks.{Check, fine, refused}
use Rattle.base.specs.Only.{only}
use Rattle.page.specs.declared.Item.{Item}
use Rattle.score.specs.Piece.{decode}
use Rattle.score.specs.File.{Accepted}
use Rattle.items.proofs.Ranges.{Ranges, none as no_item, more as more_items}
use Rattle.rules.specs.Terms.{Terms}
use Rattle.rules.specs.Rules.{reading_of, Outcome, played, dropped, undecided}
use Rattle.rules.specs.Page.{Entry, Cue, run_length, entries_of, entries}
use Rattle.rules.specs.Parts.{sounding_entries}
use Rattle.session.specs.declared.Refusal.{Refusal}
use Rattle.session.specs.Parts.{halvings, sounds}
use Rattle.demands.specs.History.{Call, note, pass, report, look_up, Now, start, verdict, moved, kept, after}
use Rattle.demands.specs.Messages.{Sent, sends, firsts, sent_between}
use Rattle.demands.specs.Answers.{messages_of, if_granted, messages_by, sounding_in}
use Rattle.demands.specs.Demands.{sent_by, with_parts, every_part}
use Rattle.demands.proofs.MemoryAndHistory.Fair.{accepted-fair}

-- ---- other bits

module _ (bits : ℕ) where
  -- The same moment under terms with these bits.
  rebit : Now → Now
  rebit s = record { terms = with_parts bits s.terms; clock = s.clock; tempo = s.tempo; last = s.last; hearings = s.hearings }

  sends-rebit : (s n : Now) (c : Cue) (o : Outcome) (l : List Sent) → sends (rebit s) (rebit n) c o l ≡ sends s n c o l
  unfolding sends rebit
  sends-rebit s n c (played i d) l = refl
  sends-rebit s n c dropped l = refl
  sends-rebit s n c undecided l = refl

  firsts-rebit : (s n : Now) (l : List Cue) → firsts (rebit s) (rebit n) l ≡ firsts s n l
  unfolding firsts
  firsts-rebit s n [] = refl
  firsts-rebit s n (c ∷ l) = rw (firsts-rebit s n l) (sends-rebit s n c c.outcome (firsts s n l))

  between-rebit : (ds : List ℕ) (es : List Entry) (s n : Now) → sent_between ds es (rebit s) (rebit n) ≡ sent_between ds es s n
  unfolding sent_between reading_of rebit
  between-rebit ds es s n = rw (firsts-rebit s n _)

  verdict-rebit : (events : ℕ) (s : Now) (c : Call) → verdict events (rebit s) c ≡ verdict events s c
  unfolding verdict rebit
  verdict-rebit events s (note room h tempo) = refl
  verdict-rebit events s (pass room ms) = refl
  verdict-rebit events s report = refl
  verdict-rebit events s (look_up n) = refl

  moved-rebit : (s : Now) (c : Call) → moved (rebit s) c ≡ rebit (moved s c)
  unfolding moved rebit
  moved-rebit s (note room h tempo) = refl
  moved-rebit s (pass room ms) = refl
  moved-rebit s report = refl
  moved-rebit s (look_up n) = refl

  kept-rebit : (g : Check Refusal) (s n : Now) → kept g (rebit s) (rebit n) ≡ rebit (kept g s n)
  unfolding kept
  kept-rebit fine s n = refl
  kept-rebit (refused x) s n = refl

  after-rebit : (events : ℕ) (s : Now) (c : Call) → after events (rebit s) c ≡ rebit (after events s c)
  unfolding after
  after-rebit events s c = rw (verdict-rebit events s c, moved-rebit s c) (kept-rebit (verdict events s c) s (moved s c))

  messages-rebit : (ds : List ℕ) (es : List Entry) (s : Now) (c : Call) → messages_of ds es (rebit s) c ≡ messages_of ds es s c
  unfolding messages_of
  messages-rebit ds es s (note room h tempo) = rw (moved-rebit s (note room h tempo)) (between-rebit ds es s _)
  messages-rebit ds es s (pass room ms) = rw (moved-rebit s (pass room ms)) (between-rebit ds es s _)
  messages-rebit ds es s report = refl
  messages-rebit ds es s (look_up n) = refl

  sent-rebit : (ds : List ℕ) (es : List Entry) (s : Now) (cs : List Call) → sent_by ds es (rebit s) cs ≡ sent_by ds es s cs
  unfolding sent_by messages_by
  sent-rebit ds es s [] = refl
  sent-rebit ds es s (c ∷ cs) =
      rw (verdict-rebit (length ds) s c, messages-rebit ds es s c, after-rebit (length ds) s c)
      (ap (λ (l : List (List Sent)). if_granted (verdict (length ds) s c) (messages_of ds es s c) ∷ l) (sent-rebit ds es (after (length ds) s c) cs))

  pub sent-with-parts : (ds : List ℕ) (es : List Entry) (o : Terms) (cs : List Call) → sent_by ds es (start (with_parts bits o)) cs ≡ sent_by ds es (start o) cs
  unfolding start rebit
  sent-with-parts ds es o cs = sent-rebit ds es (start o) cs

-- ---- all sixteen bits

all_sound : (n p : ℕ) → p < n → sounds (2 ^ n - 1) p ≡ true
unfolding sounds halvings
all_sound zero p h = absurd (omega arith)
all_sound (suc n) zero h = let e : (2 ^ suc n - 1) % 2 ≡ 1 = omega (arith, pow-succ' 2 n, one-le-pow n 2 (omega arith)) in rw e
all_sound (suc n) (suc p) h =
    let e : (2 ^ suc n - 1) / 2 ≡ 2 ^ n - 1 = omega (arith, pow-succ' 2 n, one-le-pow n 2 (omega arith)) in
    rw e (all_sound n p (omega arith))

ranges-drop : (k : ℕ) {is : List Item} → Ranges is → Ranges (drop k is)
ranges-drop zero r = r
ranges-drop (suc k) no_item = no_item
ranges-drop (suc k) (more_items x r) = ranges-drop k r

entries-sound : (n p : ℕ) {is : List Item} → Ranges is → sounding_entries (sounds every_part) (entries_of n p is) ≡ entries_of n p is
unfolding entries_of only pick
entries-sound zero p r = refl
entries-sound (suc n) p no_item = refl
entries-sound (suc n) p (more_items {i = x} {is = is} ranged r) =
    let k = run_length x.event x.part is in
    rw (all_sound 16 x.part (omega (arith, ranged.part)), entries-sound n (p + 1 + k) (ranges-drop k r))

-- The whole piece: every part of an accepted file sounds.
pub whole-piece : (f : List ℕ) → Accepted f → sounding_in f (sounds every_part) ≡ entries (decode f).items
unfolding sounding_in entries
whole-piece f a = entries-sound (length (decode f).items) 0 (accepted-fair f a).ranges
