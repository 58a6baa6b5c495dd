-- Every message that the rules give an accepted file's parts has a number below 65,536: so its part and its number can be read back from one word.
-- From the page's actions to the cues, and on to what is sent. Assumes nothing.
use mathlib.Core.Path.{sym, subst, ◌∙◌}
use Prim.Native.Nat.{ℕ, ◌+◌, ◌<◌}
use mathlib.Core.Bool.{Bool, true, false}
use mathlib.Core.List.{List, [], ◌∷◌}
use native.Mathlib.Omega.{arith}
use Rattle.base.specs.Tests.{pick}
use Rattle.page.specs.declared.Item.{Item}
use Rattle.score.specs.File.{Accepted}
use Rattle.items.proofs.Ranges.{Ranges, none, more}
use Rattle.rules.specs.Rules.{Reading, reading_of, Outcome, played, dropped, undecided}
use Rattle.rules.specs.Page.{Cue, cues}
use Rattle.rules.specs.Written.{Written, written, actions_in}
use Rattle.rules.proofs.Sound.{each-action-once}
use Rattle.demands.specs.History.{Call, note, pass, report, look_up, Now, heard_events}
use Rattle.demands.specs.Messages.{Sent, first_time, sends, firsts, insert, order, sent_between}
use Rattle.demands.specs.Answers.{messages_of, sounding_in}
use Rattle.demands.proofs.Ordered.{Place, ahead, behind, place, insert-ahead, insert-behind}
use Rattle.demands.proofs.MemoryAndHistory.Shows.{can_sound, actions_from}
use Rattle.demands.proofs.MemoryAndHistory.Fair.{accepted-fair}

-- ---- on the page

data Numbered : List Written → Type 0 where
  no_action : Numbered []
  one_action : {p q m : ℕ} {l : List Written} → m < 65536 → Numbered l → Numbered (written p q m ∷ l)

page-numbered : (S : ℕ → Bool) (p : ℕ) {is : List Item} → Ranges is → Numbered (actions_from S p is)
unfolding actions_from pick
page-numbered S p none = no_action
page-numbered S p (more {i = i} {is = is} r rs) = go (can_sound S i) (page-numbered S (p + 1) rs)
  where
    go : (t : Bool) → Numbered (actions_from S (p + 1) is) → Numbered (pick t (written p i.part i.last ∷ actions_from S (p + 1) is) (actions_from S (p + 1) is))
    go true h = one_action {m = i.last} (omega (arith, r.last)) h
    go false h = h

-- ---- what is sent

pub data Small : List Sent → Type 0 where
  no_message : Small []
  one_message : {x : Sent} {l : List Sent} → x.message < 65536 → Small l → Small (x ∷ l)

first_small : (b n : Bool) (x : Sent) (l : List Sent) → x.message < 65536 → Small l → Small (first_time b n x l)
unfolding first_time
first_small true n x l m h = h
first_small false true x l m h = one_message m h
first_small false false x l m h = h

sends-small : (s n : Now) (c : Cue) (o : Outcome) (l : List Sent) → c.message < 65536 → Small l → Small (sends s n c o l)
unfolding sends
sends-small s n c (played i d) l m h = first_small _ _ _ l m h
sends-small s n c dropped l m h = h
sends-small s n c undecided l m h = h

firsts-small : (s n : Now) (l : List Cue) → Numbered (actions_in l) → Small (firsts s n l)
unfolding firsts actions_in
firsts-small s n [] h = no_message
firsts-small s n (c ∷ l) (one_action m h) = sends-small s n c c.outcome (firsts s n l) m (firsts-small s n l h)

insert-small : (x : Sent) {l : List Sent} → x.message < 65536 → Small l → Small (insert x l)
unfolding insert
insert-small x m no_message = one_message m no_message
insert-small x m (one_message {x = y} {l = l} k h) = go (place x y) (insert-small x m h)
  where
    go : Place x y → Small (insert x l) → Small (insert x (y ∷ l))
    go (ahead a) r = rw (insert-ahead x y l a) (one_message m (one_message k h))
    go (behind b) r = rw (insert-behind x y l b) (one_message k r)

order_small : {l : List Sent} → Small l → Small (order l)
unfolding order
order_small no_message = no_message
order_small (one_message {x = x} m h) = insert-small x m (order_small h)

-- ---- an accepted file's

module _ (f : List ℕ) (accepted : Accepted f) (S : ℕ → Bool) (ds : List ℕ) where
  cues-numbered : (R : Reading) → Numbered (actions_in (cues R (sounding_in f S)))
  unfolding sounding_in
  cues-numbered R =
      let fair = accepted-fair f accepted in
      subst Numbered (sym (each-action-once R (sounding_in f S) ∙ fair.actions S)) (page-numbered S 0 fair.ranges)

  between-small : (s n : Now) → Small (sent_between ds (sounding_in f S) s n)
  unfolding sent_between
  between-small s n = order_small (firsts-small s n _ (cues-numbered (reading_of n.terms ds (heard_events n.hearings))))

  pub messages-small : (s : Now) (c : Call) → Small (messages_of ds (sounding_in f S) s c)
  unfolding messages_of
  messages-small s (note room h tempo) = between-small s _
  messages-small s (pass room ms) = between-small s _
  messages-small s report = no_message
  messages-small s (look_up n) = no_message
