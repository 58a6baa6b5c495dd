-- For every text that is read with a file fault: what the fault's place leads to is a token of the text, and the refused entry was read from it.
-- By the order of the checks; each fault's place lies in the entry at fault. Assumes nothing.
use Rattle.std.specs.Prelude.{Err}
use mathlib.Core.Path.{◌≡◌, refl}
use mathlib.Core.Bool.{Bool, true, false}
use mathlib.Core.List.{List, [], ◌∷◌}
use Prim.Native.Nat.{ℕ, zero, suc, ◌+◌, ◌-◌, ◌*◌, ◌<◌}
use native.Mathlib.Omega.{arith}
use lib.Dec.{eqb, leb}
use lib.ListN.{length, get_or}
use borrow.Author.Tests.{eqb-true, leb-true, leb-false}
use Rattle.base.specs.Tests.{pick, between}
use Rattle.base.specs.Checks.{Check, fine, refused}
use Rattle.base.proofs.TestLaws.{between_in}
use Rattle.contents.specs.declared.Fault.{Fault}
use Rattle.contents.specs.declared.Fault.TheVariants.{BadCount, BadEvent, BadMessage, TextLeft}
use Rattle.contents.specs.declared.ItemRule.{ItemRule}
use Rattle.contents.specs.Limits.{event_size, item_size, message_size, longest, longest_score, most_events, most_items, most_messages, most_text}
use Rattle.contents.specs.Contents.{counts_right, events_at, items_at, messages_at}
use Rattle.contents.specs.Replies.{fault_row}
use Rattle.contents.specs.Entries.{entry_at}
use Rattle.contents.proofs.RuleRows.{field-within}
use Rattle.contents.proofs.EntryLaws.{event-at, item-at, message-at}
use Rattle.items.specs.declared.Setting.{Setting}
use Rattle.items.specs.Items.{item_right, broken_at, outset, items_right}
use Rattle.items.specs.Ranged.{blank}
use Rattle.messages.specs.Messages.{messages_right}
use Rattle.score.specs.Events.{events_right}
use Rattle.score.specs.Piece.{Piece}
use Rattle.score.specs.File.{bodies_right}
use Rattle.score.specs.Encode.{text_bytes, counts_in, encode}
use Rattle.score.proofs.EncodingPieces.{decode-fielded, encode-decided, entries}
use Rattle.score.proofs.FaultPlaces.{Standing, fault-of, no_fault, need-fault, need-wrong, event-fault, item-fault}
use Rattle.text.specs.declared.TextError.TheVariants.{BadFile, NoRoom}
use Rattle.text.specs.Said.{Reading, piece, unread, said}
use Rattle.text.specs.Transcripts.{piece_right, judged, fault_at, answered, read_answer}
use Rattle.text.proofs.FieldLaws.{said-fielded}
use Rattle.origins.specs.declared.aims.Table.TheVariants.{Events, Items, Messages, Text}
use Rattle.origins.specs.Origins.{Origin, from, passing, contents_origins, origin_in, origin_of, place_of, place_in_text}
use Rattle.origins.proofs.Tails.{Tail, whole, later}
use Rattle.origins.proofs.LineTokens.{Token, tail-token, EventRead, LabelRead}
use Rattle.origins.proofs.PlaceLaws.{InText, token-placed}
use Rattle.origins.proofs.OriginLaws.{ItemRead, label_over, placed_in, event-token, item-token, label-token, text-token}
use Rattle.origins.proofs.LabelFaults.{label_right, label-fault}

-- Nothing is left.
pub data Over : List ℕ → Type 0 where
  over : Over []

-- What is shown of which fault, row by row, in a text that says this piece: the token that the entry at fault was read from. There is no other row: reading a text
-- finds no other fault.
pub data Shown (t : List ℕ) (p : Piece) : Fault → Origin → Type 0 where
  -- "for a count the first one past its limit": where an event is missing, the text's end.
  no_event : length p.durations ≡ 0 → Token t Over (from []) → Shown t p (BadCount 4) (from [])
  many_events : most_events < length p.durations → Token t (EventRead (get_or p.durations most_events 0)) (passing Events most_events (placed_in t))
      → Shown t p (BadCount 4) (passing Events most_events (placed_in t))
  many_items : most_items < length p.items → Token t (ItemRead (get_or p.items most_items blank)) (passing Items most_items (placed_in t))
      → Shown t p (BadCount 12) (passing Items most_items (placed_in t))
  many_messages : most_messages < length p.labels → Token t (LabelRead (get_or p.labels most_messages [])) (passing Messages most_messages (placed_in t))
      → Shown t p (BadCount 20) (passing Messages most_messages (placed_in t))
  -- The label that has the first byte past the limit.
  much_text : most_text < length (text_bytes p.labels) → Token t (LabelRead (get_or p.labels (label_over p.labels most_text) [])) (passing Text most_text (placed_in t))
      → Shown t p (BadCount 28) (passing Text most_text (placed_in t))
  -- The event's duration is wrong, and those before it are right.
  event : (k : ℕ) → k < length p.durations → between 1 longest (get_or p.durations k 0) ≡ false
      → ((j : ℕ) → j < k → between 1 longest (get_or p.durations j 0) ≡ true) → Token t (EventRead (get_or p.durations k 0)) (passing Events k (placed_in t))
      → Shown t p (BadEvent (events_at + event_size * k)) (passing Events k (placed_in t))
  -- The item is wrong where it stands, this is the first rule that it breaks, and those before it are right.
  item : (k : ℕ) → k < length p.items → (h : Setting) (left actions : ℕ) → Standing (counts_in p) p.items outset 0 k h left actions
      → (r : ItemRule) → item_right (get_or p.items k blank) (counts_in p) h left actions ≡ refused r
      → Token t (ItemRead (get_or p.items k blank)) (passing Items k (placed_in t)) → Shown t p (broken_at (items_at (counts_in p) + item_size * k) r) (passing Items k (placed_in t))
  -- The label is wrong, and those before it are right.
  message : (k : ℕ) → k < length p.labels → label_right (get_or p.labels k []) ≡ false → ((j : ℕ) → j < k → label_right (get_or p.labels j []) ≡ true)
      → Token t (LabelRead (get_or p.labels k [])) (passing Messages k (placed_in t))
      → Shown t p (BadMessage (messages_at (counts_in p) + message_size * k)) (passing Messages k (placed_in t))

-- ---- numbers past a limit

end-tail : (t : List ℕ) → Tail t []
end-tail [] = whole
end-tail (b ∷ t) = later (end-tail t)

-- A number that is not among these is 0 or past the last.
not-between : (hi n : ℕ) → between 1 hi n ≡ false → eqb n 0 ≡ false → hi < n
not-between hi zero e q = let z : ◌≡◌ {A = ℕ} 0 1 = cc in absurd (omega arith)
not-between hi (suc n) e q = go (leb (suc n) hi) refl where
  go : (u : Bool) → leb (suc n) hi ≡ u → hi < suc n
  go true l = let in-range : between 1 hi (suc n) ≡ true = between_in 1 hi (suc n) (omega arith) (leb-true (suc n) hi l) in let z : ◌≡◌ {A = ℕ} 0 1 = cc in absurd (omega arith)
  go false l = leb-false (suc n) hi l

module _ (t : List ℕ) (p : Piece) (says : said t ≡ piece p) (x : Fault) where
  -- What the fault's place leads to.
  abbrev origin : Origin
  origin = origin_in t (counts_in p) (placed_in t) (entry_at (counts_in p) (fault_row x).place)

  abbrev Goal : Type 0
  Goal = Shown t p x origin

  -- ---- the counts

  events-shown : between 1 most_events (length p.durations) ≡ false → x ≡ BadCount 4 → Goal
  unfolding counts_in origin_in contents_origins entry_at fault_row pick
  events-shown w e = rw e (go (eqb (length p.durations) 0) refl) where
    go : (u : Bool) → eqb (length p.durations) 0 ≡ u → Shown t p (BadCount 4) (pick u (from []) (passing Events most_events (placed_in t)))
    go true q = no_event (eqb-true _ _ q) (tail-token (end-tail t) over)
    go false q = let b : most_events < length p.durations = not-between most_events _ w q in many_events b (event-token t p says most_events b)

  counts-shown : counts_right (counts_in p) ≡ refused x → Goal
  unfolding counts_right counts_in origin_in contents_origins entry_at fault_row pick
  counts-shown e =
      fault-of _ _ x Goal e (λ h. events-shown (need-wrong _ x _ h) (need-fault _ x _ h))
      (λ _ e₁. fault-of _ _ x Goal e₁ (λ h. let b : most_items < length p.items = leb-false _ _ (need-wrong _ x _ h) in rw (need-fault _ x _ h) (many_items b (item-token t p says most_items b)))
      (λ _ e₂. fault-of _ _ x Goal e₂
      (λ h. let b : most_messages < length p.labels = leb-false _ _ (need-wrong _ x _ h) in rw (need-fault _ x _ h) (many_messages b (label-token t p says most_messages b)))
      (λ _ e₃. fault-of _ _ x Goal e₃
      (λ h. let b : most_text < length (text_bytes p.labels) = leb-false _ _ (need-wrong _ x _ h) in rw (need-fault _ x _ h) (much_text b (text-token t p says most_text b)))
      (λ _ e₄. no_fault x Goal e₄))))

  -- ---- the bodies

  durations-shown : events_right events_at p.durations ≡ refused x → Goal
  unfolding counts_in origin_in fault_row
  durations-shown e =
      let h = event-fault events_at p.durations x e in
      let z : 1 + h.k - 1 ≡ h.k = omega arith in
      rw (h.place, event-at (counts_in p) h.k h.below, z) (event h.k h.below h.wrong h.before_right (event-token t p says h.k h.below))

  items_shown : items_right (counts_in p) p.items ≡ refused x → Goal
  unfolding counts_in origin_in fault_row
  items_shown e =
      let h = item-fault (counts_in p) p.items x e in
      rw (h.place, item-at (counts_in p) h.p _ h.below (field-within h.rule))
      (item h.p h.below h.setting h.left h.actions h.stands h.rule h.wrong (item-token t p says h.p h.below))

  module _ (right : counts_right (counts_in p) ≡ fine) where
    labels-shown : messages_right (encode p) (counts_in p) (messages_at (counts_in p)) (counts_in p).messages 0 ≡ refused x → Goal
    unfolding counts_in origin_in fault_row
    labels-shown e =
        let h = label-fault (encode p) (counts_in p) (messages_at (counts_in p)) 0 p.labels _ x (entries p (said-fielded t p says right)) e in
        rw (h.place, message-at (counts_in p) h.k h.below) (message h.k h.below h.wrong h.before_right (label-token t p says h.k h.below))

    bodies-shown : bodies_right (encode p) (counts_in p) ≡ refused x → Goal
    unfolding bodies_right
    bodies-shown e =
        let f = rw (decode-fielded p (said-fielded t p says right)) at e in
        fault-of _ _ x Goal f durations-shown
        (λ _ e₁. fault-of _ _ x Goal e₁ items_shown (λ _ e₂. fault-of _ _ x Goal e₂ labels-shown (λ _ e₃. no_fault x Goal e₃)))

  right-shown : piece_right p ≡ refused x → Goal
  unfolding piece_right
  right-shown e =
      fault-of _ _ x Goal e counts-shown
      (λ right e₁. fault-of _ _ x Goal e₁ (λ h. let b : bodies_right (encode p) (counts_in p) ≡ refused x = rw (encode-decided p right) at h in bodies-shown right b) (λ _ e₂. no_fault x Goal e₂))

-- ---- every text that is read with a file fault

-- It says a piece, and the token that made the byte at the fault's place is that of the entry at fault.
pub record FaultShown (t : List ℕ) (x : Fault) : Type 0 where
  pub what : Piece
  pub says : said t ≡ piece what
  pub shown : Shown t what x (origin_of t (said t) (fault_row x).place)

judged-fault : (made : List ℕ) (v : Check Fault) (x : Fault) → judged made v ≡ Err (BadFile x) → v ≡ refused x
unfolding judged
judged-fault made fine x e = let z : ◌≡◌ {A = ℕ} 0 1 = cc in absurd (omega arith)
judged-fault made (refused y) x e = cc

pub fault-shown : (room : ℕ) (t : List ℕ) (x : Fault) → read_answer room t ≡ Err (BadFile x) → FaultShown t x
unfolding read_answer answered fault_at origin_of pick
fault-shown room t x e = go (leb longest_score room) (said t) refl e where
  go : (u : Bool) (r : Reading) → said t ≡ r → pick u (answered t r) (Err NoRoom) ≡ Err (BadFile x) → FaultShown t x
  go true (piece p) says f = record { what = p; says = says; shown = rw says (right-shown t p says x (judged-fault (encode p) (piece_right p) x f)) }
  go true (unread at) says f = let z : ◌≡◌ {A = ℕ} 0 1 = cc in absurd (omega arith)
  go false r says f = let z : ◌≡◌ {A = ℕ} 0 1 = cc in absurd (omega arith)

-- ---- "line and column are at least 1 and lie in the text"

shown-placed : {t : List ℕ} {p : Piece} {x : Fault} {o : Origin} → Shown t p x o → InText t (place_of t o)
shown-placed {t} (no_event n k) = token-placed t k
shown-placed {t} (many_events b k) = token-placed t k
shown-placed {t} (many_items b k) = token-placed t k
shown-placed {t} (many_messages b k) = token-placed t k
shown-placed {t} (much_text b k) = token-placed t k
shown-placed {t} (event n b w r k) = token-placed t k
shown-placed {t} (item n b h l a s r w k) = token-placed t k
shown-placed {t} (message n b w r k) = token-placed t k

pub fault-in-text : (room : ℕ) (t : List ℕ) (x : Fault) → read_answer room t ≡ Err (BadFile x) → InText t (place_in_text t (fault_row x).place)
unfolding place_in_text
fault-in-text room t x e = shown-placed (fault-shown room t x e).shown

-- ---- "entries right, text not used up" never comes from a text

not-text-left : {t : List ℕ} {p : Piece} {x : Fault} {o : Origin} → Shown t p x o → x ≡ TextLeft → ⊥
not-text-left (no_event n k) e = let z : ◌≡◌ {A = ℕ} 0 1 = cc in omega arith
not-text-left (many_events b k) e = let z : ◌≡◌ {A = ℕ} 0 1 = cc in omega arith
not-text-left (many_items b k) e = let z : ◌≡◌ {A = ℕ} 0 1 = cc in omega arith
not-text-left (many_messages b k) e = let z : ◌≡◌ {A = ℕ} 0 1 = cc in omega arith
not-text-left (much_text b k) e = let z : ◌≡◌ {A = ℕ} 0 1 = cc in omega arith
not-text-left (event n b w r k) e = let z : ◌≡◌ {A = ℕ} 0 1 = cc in omega arith
not-text-left (item n b h l a s r w k) e = let z : ◌≡◌ {A = ℕ} 0 1 = cc in omega arith
not-text-left (message n b w r k) e = let z : ◌≡◌ {A = ℕ} 0 1 = cc in omega arith

pub never-text-left : (room : ℕ) (t : List ℕ) → read_answer room t ≡ Err (BadFile TextLeft) → ⊥
never-text-left room t e = not-text-left (fault-shown room t TextLeft e).shown refl
