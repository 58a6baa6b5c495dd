-- Counts: a call's count is the number of its messages, and the total of a report the sum of the counts since the opening.
-- Assumes nothing.
use mathlib.Core.Path.{◌≡◌, refl, ap}
use Prim.Native.Nat.{ℕ, ◌+◌}
use mathlib.Core.List.{List, [], ◌∷◌, ◌++◌, map}
use native.Mathlib.Nat.{add-zero, add_assoc}
use lib.ListN.{length}
use Rattle.rules.specs.Page.{Entry}
use Rattle.sequencer.specs.Replies.{sending_reply}
use Rattle.session.specs.declared.Refusal.{Refusal}
use Rattle.base.specs.Checks.{Check, fine, refused}
use Rattle.demands.specs.History.{Call, note, pass, report, look_up, Now, after}
use Rattle.demands.specs.Messages.{Sent}
use Rattle.demands.specs.Answers.{Answer, sending_answer, messages_of, if_granted, messages_by, answer, answers}
use Rattle.demands.specs.Demands.{after_all, sent_by, count_in, sum_of}

count-sending : (g : Check Refusal) (l : List Sent) (room : List ℕ) → count_in (sending_answer g l room) ≡ length (if_granted g l)
unfolding count_in sending_answer sending_reply if_granted
count-sending fine l room = refl
count-sending (refused x) l room = refl

count_none : (g : Check Refusal) → 0 ≡ length (if_granted g [])
unfolding if_granted
count_none fine = refl
count_none (refused x) = refl

-- The messages of one call more.
pub sent-on : (ds : List ℕ) (es : List Entry) (s : Now) (cs : List Call) (c : Call)
    → sent_by ds es s (cs ++ (c ∷ [])) ≡ sent_by ds es s cs ++ (messages_by ds es (after_all (length ds) s cs) c ∷ [])
unfolding sent_by after_all
sent-on ds es s [] c = refl
sent-on ds es s (k ∷ cs) c = ap (λ (l : List (List Sent)). messages_by ds es s k ∷ l) (sent-on ds es (after (length ds) s k) cs c)

module _ (f ds : List ℕ) (es : List Entry) where
  pub count-is : (total : ℕ) (s : Now) (c : Call) → count_in (answer f ds es total s c) ≡ length (messages_by ds es s c)
  unfolding answer messages_by messages_of count_in
  count-is total s (note room h tempo) = count-sending _ _ room
  count-is total s (pass room ms) = count-sending _ _ room
  count-is total s report = count_none _
  count-is total s (look_up n) = count_none _

  pub counts-are : (total : ℕ) (s : Now) (cs : List Call) → map count_in (answers f ds es total s cs) ≡ map length (sent_by ds es s cs)
  unfolding answers sent_by
  counts-are total s [] = refl
  counts-are total s (c ∷ cs) = rw (count-is total s c, counts-are (total + length (messages_by ds es s c)) (after (length ds) s c) cs)

  -- Calls after calls: they begin with the sum of the counts before them.
  pub answers-on : (total : ℕ) (s : Now) (cs ks : List Call)
      → answers f ds es total s (cs ++ ks) ≡ answers f ds es total s cs ++ answers f ds es (total + sum_of (map count_in (answers f ds es total s cs))) (after_all (length ds) s cs) ks
  unfolding answers after_all sum_of
  answers-on total s [] ks = rw add-zero
  answers-on total s (c ∷ cs) ks =
      rw (count-is total s c, ← add_assoc)
      (ap (λ (l : List Answer). answer f ds es total s c ∷ l) (answers-on (total + length (messages_by ds es s c)) (after (length ds) s c) cs ks))
