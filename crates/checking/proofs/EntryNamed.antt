-- The entry that a refusal's line names is the entry at fault, for every refusal of the file check.
-- A fault's place is where its entry stands, and that place lies in no other entry. Assumes nothing.
use mathlib.Core.Path.{◌≡◌, refl}
use mathlib.Core.Bool.{true, false}
use mathlib.Core.List.{List}
use Prim.Native.Nat.{ℕ, ◌+◌, ◌*◌, ◌<◌}
use native.Mathlib.Omega.{arith}
use lib.ListN.{length, get_or}
use lib.Dec.{leb}
use Rattle.base.specs.Tests.{pick, between}
use Rattle.base.specs.Checks.{refused}
use Rattle.base.proofs.CheckLaws.{need-fine}
use Rattle.contents.specs.declared.Fault.{Fault}
use Rattle.contents.specs.declared.Fault.TheVariants.{FileShort, BadCount, BadOffset, BadLength, BadEvent, BadMessage, TextLeft, NoMessage}
use Rattle.contents.specs.declared.ItemRule.{ItemRule}
use Rattle.contents.specs.Limits.{contents_size, event_size, item_size, message_size, longest}
use Rattle.contents.specs.Contents.{counts_of, offsets_of, counts_right, offsets_right, events_at, items_at, messages_at}
use Rattle.contents.specs.Replies.{fault_row}
use Rattle.contents.specs.Entries.{entry_at}
use Rattle.items.specs.declared.Setting.{Setting}
use Rattle.items.specs.Items.{item_right, broken_at, outset, items_right}
use Rattle.items.specs.Ranged.{blank}
use Rattle.contents.proofs.RuleRows.{field-within}
use Rattle.contents.proofs.EntryLaws.{event-at, item-at, message-at}
use Rattle.messages.specs.Messages.{message_right, messages_right}
use Rattle.score.specs.Events.{events_right}
use Rattle.score.specs.Piece.{decode}
use Rattle.score.specs.File.{bodies_right, checked}
use Rattle.score.proofs.Decoded.{events-decoded, items-decoded}
use Rattle.session.specs.declared.Refusal.TheVariants.{File}
use Rattle.session.specs.Replies.{refusal_row}
use Rattle.contents.specs.declared.entries.Entry.{Entry}
use Rattle.contents.specs.declared.entries.Entry.TheVariants.{Nowhere, Contents, Event, Item, Message}
use Rattle.wording.specs.Words.{fault_placed, placed}
use Rattle.refusals.specs.Entries.{entry_of}
use Rattle.score.proofs.FaultPlaces.{Standing, text_to, fault-of, no_fault, need-fault, event-fault, item-fault, message-fault}

-- Which entry is told of which fault, row by row. There is no row for NoMessage: the file check never finds it.
pub data Named (f : List ℕ) : Fault → Entry → Type 0 where
  file_short : Named f FileShort Nowhere
  events_count : Named f (BadCount 4) (Contents 1)
  items_count : Named f (BadCount 12) (Contents 3)
  messages_count : Named f (BadCount 20) (Contents 5)
  text_count : Named f (BadCount 28) (Contents 7)
  events_offset : Named f (BadOffset 0) (Contents 0)
  items_offset : Named f (BadOffset 8) (Contents 2)
  messages_offset : Named f (BadOffset 16) (Contents 4)
  text_offset : Named f (BadOffset 24) (Contents 6)
  file_length : Named f BadLength Nowhere
  -- Its duration is wrong, and those before it are right.
  event : (k : ℕ) → k < (counts_of f).events → between 1 longest (get_or (decode f).durations k 0) ≡ false
      → ((j : ℕ) → j < k → between 1 longest (get_or (decode f).durations j 0) ≡ true) → Named f (BadEvent (events_at + event_size * k)) (Event (1 + k))
  -- It is wrong where it stands, this is the first rule that it breaks, and those before it are right. The place is that of the rule's field.
  item : (p : ℕ) → p < (counts_of f).items → (h : Setting) (left actions : ℕ) → Standing (counts_of f) (decode f).items outset 0 p h left actions
      → (r : ItemRule) → item_right (get_or (decode f).items p blank) (counts_of f) h left actions ≡ refused r
      → Named f (broken_at (items_at (counts_of f) + item_size * p) r) (Item p)
  -- The entry or its label is wrong, where the text of those before it ends, and they are right.
  message : (n : ℕ) → n < (counts_of f).messages
      → message_right f (counts_of f) (messages_at (counts_of f) + message_size * n) (text_to f (messages_at (counts_of f)) n 0) ≡ false
      → ((j : ℕ) → j < n → message_right f (counts_of f) (messages_at (counts_of f) + message_size * j) (text_to f (messages_at (counts_of f)) j 0) ≡ true)
      → Named f (BadMessage (messages_at (counts_of f) + message_size * n)) (Message n)
  text_left : Named f TextLeft (Contents 6)

-- ---- the entry of a fault, in a file that has its contents

module _ (f : List ℕ) (x : Fault) (long : leb contents_size (length f) ≡ true) where
  abbrev Goal : Type 0
  Goal = Named f x (entry_of f (File x))

  counts-named : counts_right (counts_of f) ≡ refused x → Goal
  unfolding counts_right entry_of entry_at placed fault_placed refusal_row fault_row pick
  counts-named e =
      fault-of _ _ x Goal e (λ h. rw (need-fault _ x _ h, long) events_count)
      (λ _ e₁. fault-of _ _ x Goal e₁ (λ h. rw (need-fault _ x _ h, long) items_count)
      (λ _ e₂. fault-of _ _ x Goal e₂ (λ h. rw (need-fault _ x _ h, long) messages_count)
      (λ _ e₃. fault-of _ _ x Goal e₃ (λ h. rw (need-fault _ x _ h, long) text_count) (λ _ e₄. no_fault x Goal e₄))))

  offsets-named : offsets_right (offsets_of f) (counts_of f) (length f) ≡ refused x → Goal
  unfolding offsets_right entry_of entry_at placed fault_placed refusal_row fault_row pick
  offsets-named e =
      fault-of _ _ x Goal e (λ h. rw (need-fault _ x _ h, long) events_offset)
      (λ _ e₁. fault-of _ _ x Goal e₁ (λ h. rw (need-fault _ x _ h, long) items_offset)
      (λ _ e₂. fault-of _ _ x Goal e₂ (λ h. rw (need-fault _ x _ h, long) messages_offset)
      (λ _ e₃. fault-of _ _ x Goal e₃ (λ h. rw (need-fault _ x _ h, long) text_offset)
      (λ _ e₄. fault-of _ _ x Goal e₄ (λ h. rw (need-fault _ x _ h) file_length) (λ _ e₅. no_fault x Goal e₅)))))

  events-named : events_right events_at (decode f).durations ≡ refused x → Goal
  unfolding entry_of placed fault_placed refusal_row fault_row pick
  events-named e =
      let h = event-fault events_at (decode f).durations x e in
      let b : h.k < (counts_of f).events = omega (arith, h.below, events-decoded f) in
      rw (h.place, long, event-at (counts_of f) h.k b) (event h.k b h.wrong h.before_right)

  items-named : items_right (counts_of f) (decode f).items ≡ refused x → Goal
  unfolding entry_of placed fault_placed refusal_row fault_row pick
  items-named e =
      let h = item-fault (counts_of f) (decode f).items x e in
      let b : h.p < (counts_of f).items = omega (arith, h.below, items-decoded f) in
      rw (h.place, long, item-at (counts_of f) h.p _ b (field-within h.rule)) (item h.p b h.setting h.left h.actions h.stands h.rule h.wrong)

  messages-named : messages_right f (counts_of f) (messages_at (counts_of f)) (counts_of f).messages 0 ≡ refused x → Goal
  unfolding entry_of entry_at placed fault_placed refusal_row fault_row pick
  messages-named e =
      message-fault f (counts_of f) (messages_at (counts_of f)) (counts_of f).messages 0 x Goal e
      (λ h. rw (h.place, long, message-at (counts_of f) h.n h.below) (message h.n h.below h.wrong h.before_right))
      (λ h. rw (h, long) text_left)

  bodies-named : bodies_right f (counts_of f) ≡ refused x → Goal
  unfolding bodies_right
  bodies-named e =
      fault-of _ _ x Goal e events-named
      (λ _ e₁. fault-of _ _ x Goal e₁ items-named (λ _ e₂. fault-of _ _ x Goal e₂ messages-named (λ _ e₃. no_fault x Goal e₃)))

-- ---- every refusal of the file check

pub entry_named : (f : List ℕ) (x : Fault) → checked f ≡ refused x → Named f x (entry_of f (File x))
unfolding checked entry_of placed fault_placed pick
entry_named f x e =
    fault-of _ _ x (Named f x (entry_of f (File x))) e (λ h. rw (need-fault _ x _ h) file_short)
    (λ h e₁.
    let long : leb contents_size (length f) ≡ true = need-fine _ FileShort h in
    fault-of _ _ x (Named f x (entry_of f (File x))) e₁ (counts-named f x long)
    (λ _ e₂. fault-of _ _ x (Named f x (entry_of f (File x))) e₂ (offsets-named f x long)
    (λ _ e₃. fault-of _ _ x (Named f x (entry_of f (File x))) e₃ (bodies-named f x long) (λ _ e₄. no_fault x _ e₄))))

-- the text look-up's own refusal is none of the file check
pub never-no-message : (f : List ℕ) → checked f ≡ refused NoMessage → ⊥
never-no-message f e = go (entry_named f NoMessage e) refl where
  go : {x : Fault} {t : Entry} → Named f x t → x ≡ NoMessage → ⊥
  go file_short q = let z : ◌≡◌ {A = ℕ} 0 1 = cc in omega arith
  go events_count q = let z : ◌≡◌ {A = ℕ} 0 1 = cc in omega arith
  go items_count q = let z : ◌≡◌ {A = ℕ} 0 1 = cc in omega arith
  go messages_count q = let z : ◌≡◌ {A = ℕ} 0 1 = cc in omega arith
  go text_count q = let z : ◌≡◌ {A = ℕ} 0 1 = cc in omega arith
  go events_offset q = let z : ◌≡◌ {A = ℕ} 0 1 = cc in omega arith
  go items_offset q = let z : ◌≡◌ {A = ℕ} 0 1 = cc in omega arith
  go messages_offset q = let z : ◌≡◌ {A = ℕ} 0 1 = cc in omega arith
  go text_offset q = let z : ◌≡◌ {A = ℕ} 0 1 = cc in omega arith
  go file_length q = let z : ◌≡◌ {A = ℕ} 0 1 = cc in omega arith
  go (event k b w r) q = let z : ◌≡◌ {A = ℕ} 0 1 = cc in omega arith
  go (item p b h l n s r w) q = let z : ◌≡◌ {A = ℕ} 0 1 = cc in omega arith
  go (message n b m w) q = let z : ◌≡◌ {A = ℕ} 0 1 = cc in omega arith
  go text_left q = let z : ◌≡◌ {A = ℕ} 0 1 = cc in omega arith
