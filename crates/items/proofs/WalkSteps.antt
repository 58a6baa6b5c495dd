-- One item judged and one step of the walk through the file's bytes, in the code's own terms.
-- Assumes nothing.
use mathlib.Core.Path.{◌≡◌, refl, sym, ◌∙◌}
use mathlib.Core.Bool.{Bool, true, false, not}
use mathlib.Core.List.{List}
use Prim.Native.Nat.{ℕ, ◌+◌, ◌-◌, ◌*◌, ◌<◌, ◌≤◌}
use native.Mathlib.Omega.{arith}
use lib.ListN.{length}
use borrow.Author.Rules.{rules}
use Rattle.std.specs.Prelude.{Result, Ok, Err}
use Rattle.page.specs.declared.Item.{Item}
use Rattle.base.specs.Tests.{pick}
use Rattle.base.specs.Checks.{fine, is_fine}
use Rattle.base.proofs.TestLaws.{told-true, told-false}
use Rattle.base.proofs.CheckLaws.{fine-told}
use Rattle.contents.specs.declared.Fault.{Fault}
use Rattle.contents.specs.declared.Fault.TheVariants.{BadItem}
use Rattle.contents.specs.declared.ItemRule.{ItemRule}
use Rattle.contents.specs.declared.RuleRow.{RuleRow}
use Rattle.contents.specs.declared.Counts.{Counts}
use Rattle.contents.specs.Limits.{item_size, most_actions}
use Rattle.contents.specs.Replies.{rule_row}
use Rattle.items.specs.declared.Setting.{Setting}
use Rattle.items.specs.declared.walk.Step.{Step}
use Rattle.items.specs.Items.{item_at, items_from, item_right, within_of, own_of, next, inside, onward, broken_at, walked}
use Rattle.items.specs.Inner.{step_of, broken_by, judged, StepFits, Room}
use Rattle.items.proofs.Decoded.{items-length, items-none, items_more, items-take, items-drop}
use Rattle.contents.proofs.RuleRows.{field-within}
use Rattle.items.proofs.Walked.{right-item, within-left, own_room}
use Rattle.items.proofs.WalkLaws.{within-action, within_group, own-action, own-group, walked_end, walked-right, walked-wrong, walked-small}

-- ---- the step after a right item

module _ (i : Item) (left n : ℕ) (room : Room i left n) (s : Step) where
  module _ (action : i.kind ≡ 0) (e : s ≡ record { body = 0; after = left; actions = n + 1; event = i.event; part = i.part }) where
    pub action-step : s ≡ step_of i left n
    unfolding step_of
    action-step =
        let a = within-action i action in
        let o = own-action i action in
        let l : left - within_of i ≡ left = omega arith in
        let m : n + own_of i ≡ n + 1 = omega arith in
        cc

    pub action-bounded : StepFits left s
    action-bounded =
        let o = own-action i action in
        let b : n + own_of i ≤ most_actions = room.own in
        rw e (record { sum = omega arith; few = omega arith })

  module _ (group : i.kind ≡ 0 → ⊥) (e : s ≡ record { body = i.last; after = left - i.last; actions = n; event = i.event; part = i.part }) where
    pub group-step : s ≡ step_of i left n
    unfolding step_of
    group-step =
        let a = within_group i group in
        let o = own-group i group in
        let m : n + own_of i ≡ n = omega arith in
        cc

    pub group-bounded : StepFits left s
    group-bounded =
        let a = within_group i group in
        let o = own-group i group in
        let b : n + own_of i ≤ most_actions = room.own in
        let l : within_of i ≤ left = room.body in
        rw e (record { sum = omega arith; few = omega arith })

pub group-last : (i : Item) (left n : ℕ) → Room i left n → (i.kind ≡ 0 → ⊥) → i.last ≤ left
group-last i left n room group = let a = within_group i group in let b : within_of i ≤ left = room.body in omega arith

-- ---- an item judged

module _ (i : Item) (c : Counts) (h : Setting) (left n : ℕ) (t : Bool) (told : t ≡ is_fine (item_right i c h left n)) where
  pub right-room : n ≤ most_actions → not t ≡ false → Room i left n
  right-room m p = let r = right-item i c h left n (fine-told _ (told-true t _ told p)) in record { body = within-left r; own = own_room r m }

  module _ (at : ℕ) (j : Item) (same : i ≡ j) where
    pub judged-right : (s : Step) → not t ≡ false → s ≡ step_of i left n → Ok s ≡ judged at j c h left n
    unfolding judged pick
    judged-right s p q = rw (← same, told-true t _ told p, q)

    pub judged-wrong : (x : Fault) → not t ≡ true → x ≡ broken_at at (broken_by (item_right j c h left n)) → Err x ≡ judged at j c h left n
    unfolding judged pick
    judged-wrong x p q = rw (← same, told-false t _ told p) (rw (q, ← same))

pub ruleset judges = (right-room, judged-right, judged-wrong, action-step, action-bounded, group-step, group-bounded, group-last, rules)

-- what an item judged says of its rules
module _ (r : Result Step Fault) (at : ℕ) (i : Item) (c : Counts) (h : Setting) (left n : ℕ) (told : r ≡ judged at i c h left n) where
  abbrev right : Bool
  right = is_fine (item_right i c h left n)

  module _ (s : Step) (e : r ≡ Ok s) where
    fine-by : (b : Bool) → right ≡ b → (right ≡ true) × (s ≡ step_of i left n)
    unfolding judged pick
    fine-by true q = (q, let z = rw q at told in cc)
    fine-by false q = let z = rw q at told in absurd cc

    judged-fine : (right ≡ true) × (s ≡ step_of i left n)
    judged-fine = fine-by right refl

  module _ (x : Fault) (e : r ≡ Err x) where
    fault-by : (b : Bool) → right ≡ b → (right ≡ false) × (x ≡ broken_at at (broken_by (item_right i c h left n)))
    unfolding judged pick
    fault-by true q = let z = rw q at told in absurd cc
    fault-by false q = (q, let z = rw q at told in cc)

    judged-fault : (right ≡ false) × (x ≡ broken_at at (broken_by (item_right i c h left n)))
    judged-fault = fault-by right refl

-- ---- the fault of an item that is wrong

pub fault-told : (i j : Item) (c : Counts) (h : Setting) (at left n : ℕ) (r : ItemRule) (row : RuleRow) → i ≡ j → r ≡ broken_by (item_right i c h left n) → row ≡ rule_row r
    → BadItem r (at + row.offset) ≡ broken_at at (broken_by (item_right j c h left n))
fault-told i j c h at left n r row same e p = rw (← same, ← e, p)

pub field-small : (r : ItemRule) (row : RuleRow) → row ≡ rule_row r → row.offset < item_size
field-small r row p = rw p (field-within r)

pub ruleset wrongs = (fault-told, rules)

-- ---- the walk through the bytes

-- what the count items from at on are found to be
abbrev found : List ℕ → Counts → ℕ → ℕ → Setting → ℕ → Result ℕ Fault
found f c at count h n = walked c at (items_from f at count) h n

pub walk_none : (f : List ℕ) (c : Counts) (at count : ℕ) (h : Setting) (n : ℕ) (W : Result ℕ Fault) → count ≤ 0 → found f c at count h n ≡ W → Ok n ≡ W
walk_none f c at count h n W p q = sym (rw (items-none f at count p) (walked_end c at h n)) ∙ q

module _ (f : List ℕ) (c : Counts) (at count : ℕ) (h : Setting) (n : ℕ) (some : 0 < count) where
  abbrev here : Item
  here = item_at f at

  rest-length : length (items_from f (at + item_size) (count - 1)) ≡ count - 1
  rest-length = items-length f (at + item_size) (count - 1)

  found_right : item_right here c h (count - 1) n ≡ fine
      → found f c at count h n
      ≡ onward (found f c (at + item_size) (within_of here) (inside here h) (n + own_of here))
      (λ m. found f c (at + item_size + item_size * within_of here) (count - 1 - within_of here) (next here h) m)
  found_right e =
      let l = within-left (right-item here c h (count - 1) n e) in
      let step = walked-right c at here (items_from f (at + item_size) (count - 1)) h n (rw rest-length e) in
      rw (items_more f at count some)
      (step ∙ rw (items-take f (at + item_size) (count - 1) (within_of here) l, items-drop f (at + item_size) (count - 1) (within_of here) l))

  found-wrong : is_fine (item_right here c h (count - 1) n) ≡ false → found f c at count h n ≡ Err (broken_at at (broken_by (item_right here c h (count - 1) n)))
  found-wrong e =
      let stop = walked-wrong c at here (items_from f (at + item_size) (count - 1)) h n (rw rest-length e) in
      rw (items_more f at count some) (rw rest-length at stop)

module _ (f : List ℕ) (c : Counts) (at count depth event part n : ℕ) (W : Result ℕ Fault) (r : Result Step Fault) (some : 0 < count)
    (told : r ≡ judged at (item_at f at) c (record { depth = depth; event = event; part = part }) (count - 1) n) where
  abbrev around : Setting
  around = record { depth = depth; event = event; part = part }

  pub walk-stop : (x : Fault) → r ≡ Err x → found f c at count around n ≡ W → Err x ≡ W
  walk-stop x p q =
      let e = judged-fault r at (item_at f at) c around (count - 1) n told x p in
      rw e.1 (sym (found-wrong f c at count around n some e.0) ∙ q)

  module _ (s : Step) (w : Result ℕ Fault) (p : r ≡ Ok s) (ew : w ≡ found f c (at + item_size) s.body (record { depth = depth + 1; event = 0; part = s.part }) s.actions) where
    through : found f c at count around n ≡ onward w (λ m. found f c (at + item_size + item_size * s.body) s.after (record { depth = depth; event = s.event; part = s.part }) m)
    unfolding step_of next inside
    through =
        let e = judged-fine r at (item_at f at) c around (count - 1) n told s p in
        rw (ew, e.1)
        (found_right f c at count around n some (fine-told _ e.0))

    pub walk-body-stop : (x : Fault) → w ≡ Err x → found f c at count around n ≡ W → w ≡ W
    unfolding onward
    walk-body-stop x e r = e ∙ sym (rw e at through) ∙ r

    pub walk_step : (m : ℕ) → w ≡ Ok m → found f c at count around n ≡ W
        → found f c (at + (item_size + item_size * s.body)) s.after (record { depth = depth; event = s.event; part = s.part }) m ≡ W
    unfolding onward
    walk_step m e r =
        let a₁ : at + (item_size + item_size * s.body) ≡ at + item_size + item_size * s.body = omega arith in
        rw a₁ (sym (rw e at through) ∙ r)

pub ruleset walks = (walk_none, walk-stop, walk-body-stop, walk_step, walked-small, rules)
