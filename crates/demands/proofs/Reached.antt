-- What is reached of a page stands in page order, so that each call's messages are sent in order. By the rules' law that the actions of a page stand at rising
-- places.
-- Assumes nothing.
use mathlib.Core.Path.{◌≡◌, refl}
use Prim.Native.Nat.{ℕ, suc, ◌≤◌, ◌<◌}
use mathlib.Core.Bool.{Bool, true, false}
use mathlib.Core.List.{List, [], ◌∷◌}
use native.Mathlib.Omega.{arith}
use native.Mathlib.Nat.{le_trans, le_refl}
use Rattle.page.specs.declared.Item.{Item}
use Rattle.rules.specs.Rules.{Reading, reading_of, Outcome, played, dropped, undecided}
use Rattle.rules.specs.Page.{entries, Cue, cues}
use Rattle.rules.specs.Written.{Written, actions_in, Placed, no_actions, placed}
use Rattle.rules.specs.Parts.{sounding_entries}
use Rattle.rules.proofs.Places.{cues-placed}
use Rattle.session.specs.declared.Refusal.{Refusal}
use Rattle.base.specs.Checks.{Check, fine, refused}
use Rattle.demands.specs.History.{Call, note, pass, report, look_up, Now, heard_events}
use Rattle.demands.specs.Messages.{Sent, first_time, sends, firsts, sent_between}
use Rattle.demands.specs.Answers.{messages_of, if_granted, messages_by}
use Rattle.demands.specs.Demands.{InOrder, no_more}
use Rattle.demands.proofs.Parts.{only-firsts}
use Rattle.demands.proofs.Paged.{Past, none, one, Paged, empty, link, paged-only, order-in-order}

-- ---- page places, from a on

data SentRise : ℕ → List Sent → Type 0 where
  no_sent : {a : ℕ} → SentRise a []
  one_sent : {a : ℕ} {x : Sent} {l : List Sent} → a ≤ x.place → SentRise (suc x.place) l → SentRise a (x ∷ l)

sent-low : {a c : ℕ} {l : List Sent} → a ≤ c → SentRise c l → SentRise a l
sent-low h no_sent = no_sent
sent-low h (one_sent {x = x} q r) = one_sent {x = x} (le_trans h q) r

first-rises : (b n : Bool) (x : Sent) {a : ℕ} {l : List Sent} → a ≤ x.place → SentRise (suc x.place) l → SentRise a (first_time b n x l)
unfolding first_time
first-rises true n x h r = sent-low (omega arith) r
first-rises false true x h r = one_sent h r
first-rises false false x h r = sent-low (omega arith) r

sends-rise : (s n : Now) (c : Cue) (o : Outcome) {a : ℕ} {l : List Sent} → a ≤ c.place → SentRise (suc c.place) l → SentRise a (sends s n c o l)
unfolding sends
sends-rise s n c (played i d) h r = first-rises _ _ _ h r
sends-rise s n c dropped h r = sent-low (omega arith) r
sends-rise s n c undecided h r = sent-low (omega arith) r

firsts-rise : (s n : Now) {a b : ℕ} {w : List Written} (l : List Cue) → Placed a b w → actions_in l ≡ w → SentRise a (firsts s n l)
unfolding firsts actions_in
firsts-rise s n [] p e = no_sent
firsts-rise s n (c ∷ l) no_actions e = let z : ◌≡◌ {A = ℕ} 0 1 = cc in absurd (omega arith)
firsts-rise s n (c ∷ l) (placed {p = p} h g r) e =
    let q : p ≡ c.place = cc in
    sends-rise s n c c.outcome (rw q at h) (rw q at (firsts-rise s n l r (cc)))

sent-past : {q a : ℕ} {l : List Sent} → q < a → SentRise a l → Past q l
sent-past h no_sent = none
sent-past h (one_sent {x = x} g r) = one {x = x} (omega arith) (sent-past (omega arith) r)

sent-paged : {a : ℕ} {l : List Sent} → SentRise a l → Paged l
sent-paged no_sent = empty
sent-paged (one_sent {x = x} h r) = link {x = x} (sent-past (le_refl (suc x.place)) r) (sent-paged r)

pub firsts-paged : (R : Reading) (s n : Now) (is : List Item) → Paged (firsts s n (cues R (entries is)))
firsts-paged R s n is = sent-paged (firsts-rise s n (cues R (entries is)) (cues-placed R is) refl)

-- Of the sounding parts too.
pub sounding-paged : (S : ℕ → Bool) (R : Reading) (s n : Now) (is : List Item) → Paged (firsts s n (cues R (sounding_entries S (entries is))))
sounding-paged S R s n is = rw (← only-firsts S s n R (entries is)) (paged-only S (firsts-paged R s n is))

-- ---- so each call's messages are in order

none-in-order : (g : Check Refusal) → InOrder (if_granted g [])
unfolding if_granted
none-in-order fine = no_more
none-in-order (refused x) = no_more

granted-in-order : (g : Check Refusal) (l : List Sent) → InOrder l → InOrder (if_granted g l)
unfolding if_granted
granted-in-order fine l r = r
granted-in-order (refused x) l r = no_more

module _ (S : ℕ → Bool) (ds : List ℕ) (is : List Item) where
  between-in-order : (s n : Now) → InOrder (sent_between ds (sounding_entries S (entries is)) s n)
  unfolding sent_between
  between-in-order s n = order-in-order (sounding-paged S (reading_of n.terms ds (heard_events n.hearings)) s n is)

  pub sent-in-order : (s : Now) (c : Call) → InOrder (messages_by ds (sounding_entries S (entries is)) s c)
  unfolding messages_by messages_of
  sent-in-order s (note room h tempo) = granted-in-order _ _ (between-in-order s _)
  sent-in-order s (pass room ms) = granted-in-order _ _ (between-in-order s _)
  sent-in-order s report = none-in-order _
  sent-in-order s (look_up n) = none-in-order _
