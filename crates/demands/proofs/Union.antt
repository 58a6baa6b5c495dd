-- Two sets of parts with none in common, opened together, send what each of them sends alone, merged by due date and page place.
-- Assumes nothing.
use mathlib.Core.Path.{◌≡◌, refl}
use Prim.Native.Nat.{ℕ}
use mathlib.Core.Bool.{Bool, true, false}
use mathlib.Core.List.{List, [], ◌∷◌}
use lib.ListN.{length}
use Rattle.page.specs.declared.Item.{Item}
use Rattle.rules.specs.Rules.{reading_of}
use Rattle.rules.specs.Page.{entries}
use Rattle.rules.specs.Parts.{sounding_entries}
use Rattle.session.specs.declared.Refusal.{Refusal}
use Rattle.base.specs.Checks.{Check, fine, refused}
use Rattle.demands.specs.History.{Call, note, pass, report, look_up, Now, heard_events, after}
use Rattle.demands.specs.Messages.{Sent, sent_between}
use Rattle.demands.specs.Answers.{messages_of, if_granted, messages_by}
use Rattle.demands.specs.Demands.{either, merge, merge_all, sent_by}
use Rattle.demands.proofs.Parts.{only-firsts}
use Rattle.demands.proofs.Merging.{merged}
use Rattle.demands.proofs.Reached.{firsts-paged}

module _ (ds : List ℕ) (is : List Item) (S U : ℕ → Bool) (apart : (p : ℕ) → S p ≡ true → U p ≡ false) where
  between-both : (s n : Now)
      → sent_between ds (sounding_entries (either S U) (entries is)) s n ≡ merge (sent_between ds (sounding_entries S (entries is)) s n) (sent_between ds (sounding_entries U (entries is)) s n)
  unfolding sent_between
  between-both s n =
      let R = reading_of n.terms ds (heard_events n.hearings) in
      rw (← only-firsts (either S U) s n R (entries is), ← only-firsts S s n R (entries is), ← only-firsts U s n R (entries is)) (merged S U apart (firsts-paged R s n is))

  granted-both : (s : Now) (c : Call)
      → messages_of ds (sounding_entries (either S U) (entries is)) s c ≡ merge (messages_of ds (sounding_entries S (entries is)) s c) (messages_of ds (sounding_entries U (entries is)) s c)
  unfolding messages_of merge
  granted-both s (note room h tempo) = between-both s _
  granted-both s (pass room ms) = between-both s _
  granted-both s report = refl
  granted-both s (look_up n) = refl

  merge-granted : (g : Check Refusal) (x y : List Sent) → if_granted g (merge x y) ≡ merge (if_granted g x) (if_granted g y)
  unfolding if_granted merge
  merge-granted fine x y = refl
  merge-granted (refused z) x y = refl

  -- "by due date and then page place"
  pub sent-by-both : (s : Now) (c : Call)
      → messages_by ds (sounding_entries (either S U) (entries is)) s c ≡ merge (messages_by ds (sounding_entries S (entries is)) s c) (messages_by ds (sounding_entries U (entries is)) s c)
  unfolding messages_by
  sent-by-both s c = rw (granted-both s c) (merge-granted _ _ _)

  pub run-of-both : (s : Now) (cs : List Call)
      → sent_by ds (sounding_entries (either S U) (entries is)) s cs ≡ merge_all (sent_by ds (sounding_entries S (entries is)) s cs) (sent_by ds (sounding_entries U (entries is)) s cs)
  unfolding sent_by merge_all
  run-of-both s [] = refl
  run-of-both s (c ∷ cs) = rw (sent-by-both s c, run-of-both (after (length ds) s c) cs)
