-- What is looked for, by its case and the line's share of it, in the code's own terms; and that it is what the definitions ask for.
-- Assumes nothing.
use mathlib.Core.Path.{◌≡◌, refl}
use mathlib.Core.Bool.{Bool, false}
use Prim.Native.Nat.{ℕ, zero, suc, ◌-◌, ◌<◌}
use native.Mathlib.Omega.{arith}
use lib.Dec.{ltb}
use lib.ListN.{get_or}
use borrow.Author.Rules.{rules}
use borrow.Author.Tests.{eq-eqb, ne_eqb}
use Rattle.base.specs.Tests.{pick}
use Rattle.contents.specs.declared.Counts.{Counts}
use Rattle.contents.specs.declared.entries.Entry.{Entry}
use Rattle.contents.specs.declared.entries.Entry.TheVariants as entry
use Rattle.contents.specs.Limits.{most_events, most_items, most_messages, most_text}
use Rattle.origins.specs.declared.aims.Table.{Table}
use Rattle.origins.specs.declared.aims.Table.TheVariants.{Events, Items, Messages, Text}
use Rattle.origins.specs.declared.aims.Aim.{Aim}
use Rattle.origins.specs.declared.aims.Aim.TheVariants.{Nothing, TextEnd, ListEnd, Past}
use Rattle.origins.specs.Origins.{count_of}
use Rattle.origins.specs.Aims.{event_aim, field_aims, aim_at, share_of, hits_in, aim_behind}

-- ---- a count

module _ (k : Table) (c : Counts) where
  pub count-events : k ≡ Events → c.events ≡ count_of k c
  unfolding count_of
  count-events e = rw e

  pub count-items : k ≡ Items → c.items ≡ count_of k c
  unfolding count_of
  count-items e = rw e

  pub count-messages : k ≡ Messages → c.messages ≡ count_of k c
  unfolding count_of
  count-messages e = rw e

  pub count-text : k ≡ Text → c.text ≡ count_of k c
  unfolding count_of
  count-text e = rw e

pub ruleset counting = (count-events, count-items, count-messages, count-text, rules)

-- ---- the aim of an entry

pub aim-no-event : (n : ℕ) → n ≡ 0 → TextEnd ≡ event_aim n
unfolding event_aim pick
aim-no-event n e = rw (eq-eqb n 0 e)

module _ (r : Aim) (n : ℕ) where
  pub aim-events : (n ≡ 0 → ⊥) → r ≡ Past Events most_events → r ≡ event_aim n
  unfolding event_aim pick
  aim-events e p = rw (ne_eqb n 0 e) p

  pub aim-below : n < 1 → r ≡ Past Events 0 → r ≡ Past Events (n - 1)
  aim-below e p = let z : n - 1 ≡ 0 = omega arith in rw z p

pub ruleset eventing = (aim-no-event, aim-events, aim-below, rules)

module _ (c : Counts) (k : ℕ) (r : Aim) where
  pub field-events : k ≡ 1 → r ≡ event_aim c.events → r ≡ get_or (field_aims c) k Nothing
  unfolding field_aims
  field-events e p = rw e p

  pub field-items : k ≡ 3 → r ≡ Past Items most_items → r ≡ get_or (field_aims c) k Nothing
  unfolding field_aims
  field-items e p = rw e p

  pub field-messages : k ≡ 5 → r ≡ Past Messages most_messages → r ≡ get_or (field_aims c) k Nothing
  unfolding field_aims
  field-messages e p = rw e p

  pub field-text : k ≡ 7 → r ≡ Past Text most_text → r ≡ get_or (field_aims c) k Nothing
  unfolding field_aims
  field-text e p = rw e p

pub field-list : (c : Counts) (k : ℕ) → k ≡ 6 → ListEnd ≡ get_or (field_aims c) k Nothing
unfolding field_aims
field-list c k e = rw e

pub field-none : (c : Counts) (k : ℕ) → (k ≡ 1 → ⊥) → (k ≡ 3 → ⊥) → (k ≡ 5 → ⊥) → (k ≡ 6 → ⊥) → (k ≡ 7 → ⊥) → Nothing ≡ get_or (field_aims c) k Nothing
unfolding field_aims
field-none c zero a b d e f = refl
field-none c (suc zero) a b d e f = absurd (a refl)
field-none c (suc (suc zero)) a b d e f = refl
field-none c (suc (suc (suc zero))) a b d e f = absurd (b refl)
field-none c (suc (suc (suc (suc zero)))) a b d e f = refl
field-none c (suc (suc (suc (suc (suc zero))))) a b d e f = absurd (d refl)
field-none c (suc (suc (suc (suc (suc (suc zero)))))) a b d e f = absurd (e refl)
field-none c (suc (suc (suc (suc (suc (suc (suc zero))))))) a b d e f = absurd (f refl)
field-none c (suc (suc (suc (suc (suc (suc (suc (suc k)))))))) a b d e f = refl

pub ruleset fielding = (field-events, field-items, field-messages, field-text, field-list, field-none, rules)

pub at-nowhere : (c : Counts) (e : Entry) → e ≡ entry.Nowhere → Nothing ≡ aim_at c e
unfolding aim_at
at-nowhere c e p = rw p

module _ (c : Counts) (e : Entry) (r : Aim) (n : ℕ) where
  pub at-contents : e ≡ entry.Contents n → r ≡ get_or (field_aims c) n Nothing → r ≡ aim_at c e
  unfolding aim_at
  at-contents p q = rw p q

  pub at_event : e ≡ entry.Event n → r ≡ Past Events (n - 1) → r ≡ aim_at c e
  unfolding aim_at
  at_event p q = rw p q

  pub at_item : e ≡ entry.Item n → r ≡ Past Items n → r ≡ aim_at c e
  unfolding aim_at
  at_item p q = rw p q

  pub at-message : e ≡ entry.Message n → r ≡ Past Messages n → r ≡ aim_at c e
  unfolding aim_at
  at-message p q = rw p q

pub ruleset aiming = (at-nowhere, at-contents, at_event, at_item, at-message, rules)

-- ---- a line and the aim

module _ (a : Aim) (k : Table) (n : ℕ) (e : a ≡ Past k n) where
  pub share-past : (c : Counts) (r : ℕ) → r ≡ count_of k c → r ≡ share_of a c
  unfolding share_of
  share-past c r p = rw e p

  module _ (s : ℕ) where
    pub hits-past : (r : Bool) → r ≡ ltb n s → r ≡ hits_in a s
    unfolding hits_in
    hits-past r p = rw e p

    pub behind-none : (r : Aim) → n < s → r ≡ Past k 0 → r ≡ aim_behind a s
    unfolding aim_behind
    behind-none r p q = let z : n - s ≡ 0 = omega arith in rw (e, z) q

    pub behind-some : (r : Aim) → r ≡ Past k (n - s) → r ≡ aim_behind a s
    unfolding aim_behind
    behind-some r q = rw e q

module _ (a : Aim) where
  pub share-nothing : a ≡ Nothing → (c : Counts) → 0 ≡ share_of a c
  unfolding share_of
  share-nothing e c = rw e

  pub share-end : a ≡ TextEnd → (c : Counts) → 0 ≡ share_of a c
  unfolding share_of
  share-end e c = rw e

  pub share-list : a ≡ ListEnd → (c : Counts) → 0 ≡ share_of a c
  unfolding share_of
  share-list e c = rw e

  module _ (s : ℕ) where
    pub hits-nothing : a ≡ Nothing → false ≡ hits_in a s
    unfolding hits_in
    hits-nothing e = rw e

    pub hits-end : a ≡ TextEnd → false ≡ hits_in a s
    unfolding hits_in
    hits-end e = rw e

    pub hits-list : a ≡ ListEnd → false ≡ hits_in a s
    unfolding hits_in
    hits-list e = rw e

    pub behind-nothing : a ≡ Nothing → a ≡ aim_behind a s
    unfolding aim_behind
    behind-nothing e = rw e

    pub behind-end : a ≡ TextEnd → a ≡ aim_behind a s
    unfolding aim_behind
    behind-end e = rw e

    pub behind_list : a ≡ ListEnd → a ≡ aim_behind a s
    unfolding aim_behind
    behind_list e = rw e

pub ruleset sharing = (share-nothing, share-end, share-list, share-past, rules)

pub ruleset hitting = (hits-nothing, hits-end, hits-list, hits-past, rules)

pub ruleset going = (behind-nothing, behind-end, behind_list, behind-none, behind-some, rules)
