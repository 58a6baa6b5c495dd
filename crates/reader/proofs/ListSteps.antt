-- Each step through the message list, in the code's own terms. The invariant: what is laid and what is owed of the labels left are together those of all.
-- Assumes nothing.
use Rattle.std.specs.Prelude.{Option, Some, None, IsSome}
use mathlib.Core.Path.{◌≡◌, refl, sym, ap, ◌∙◌}
use mathlib.Core.Bool.{Bool, true, false}
use mathlib.Core.List.{List, [], ◌++◌, append_assoc, append-nil}
use Prim.Native.Nat.{ℕ, suc, ◌+◌, ◌*◌, ◌<◌, ◌≤◌}
use native.Mathlib.Numerals.{add-one}
use native.Mathlib.Omega.{arith}
use lib.ListN.{length, take, drop, length-append}
use borrow.Author.Rules.{rules}
use Rattle.ascii.specs.Laying.{Laid}
use Rattle.tokens.specs.Tokens.{label, is_read, bytes_in}
use Rattle.tokens.specs.Asked.{Copyable}
use Rattle.contents.specs.Limits.{message_size, most_messages, most_text}
use Rattle.score.specs.Encode.{le16, entry_bytes, text_bytes, counts_in}
use Rattle.filing.specs.Pieces.{entry_of}
use Rattle.text.specs.declared.Stage.{Stage}
use Rattle.text.specs.declared.Stage.TheVariants.{Start, Listing, Timed, Playing}
use Rattle.text.specs.Grammar.{Line, heading, message, after, further, may_end, Script, done, more, script}
use Rattle.text.specs.Said.{labels_of, durations_of, items_of, piece_of}
use Rattle.script.specs.declared.Found.{Found}
use Rattle.script.specs.declared.Found.TheVariants.{Heading, Message, Event, Part, Send, Group, Close}
use Rattle.script.specs.Steps.{line_in, Fits, fits_message}
use Rattle.script.specs.Stages.{held}
use Rattle.script.specs.Balanced.{BeforeEvent, behind_list, behind_event, behind_items, BeforePart, first_part, next_part, Balanced, ends, heads, lists, times, parts, sends, opens, closes}
use Rattle.reader.specs.declared.turns.Turn.{Turn}
use Rattle.reader.specs.Turns.{Turnable, Turns}
use Rattle.reader.specs.Filled.{Tellable, Headed, Begun, Listed}
use Rattle.filing.specs.Bodies.{ListRoom}
use Rattle.reader.proofs.TurnSteps.{turn-less}

-- ---- the label of a message

message-told : (t : List ℕ) (found : Found) (l : List ℕ) → line_in t found ≡ message l → ((start size : ℕ) → found ≡ Message start size → ⊥) → ⊥
unfolding line_in
message-told t Heading l e p = let z : ◌≡◌ {A = ℕ} 0 1 = cc in omega arith
message-told t (Message start size) l e p = p start size refl
message-told t (Event g) l e p = let z : ◌≡◌ {A = ℕ} 0 1 = cc in omega arith
message-told t (Part n) l e p = let z : ◌≡◌ {A = ℕ} 0 1 = cc in omega arith
message-told t (Send d n) l e p = let z : ◌≡◌ {A = ℕ} 0 1 = cc in omega arith
message-told t (Group d w v) l e p = let z : ◌≡◌ {A = ℕ} 0 1 = cc in omega arith
message-told t Close l e p = let z : ◌≡◌ {A = ℕ} 0 1 = cc in omega arith

-- ---- behind the list stands no message

unfoldable is_page : Stage → Bool
is_page Start = false
is_page (Listing next) = false
is_page Timed = true
is_page (Playing depth) = true

page-labels : {stage : Stage} {s : Script} → is_page stage ≡ true → Balanced stage s → labels_of s ≡ []
unfolding is_page labels_of
page-labels p (ends m) = refl
page-labels p (heads b) = let z : ◌≡◌ {A = ℕ} 0 1 = cc in absurd (omega arith)
page-labels p (lists b) = let z : ◌≡◌ {A = ℕ} 0 1 = cc in absurd (omega arith)
page-labels p (times m b) = page-labels refl b
page-labels p (parts m b) = page-labels refl b
page-labels p (sends b) = page-labels refl b
page-labels p (opens b) = page-labels refl b
page-labels p (closes b) = page-labels refl b

no_message : {next : ℕ} {l : Line} {s : Script} → Balanced (Listing next) (more l s) → ((name : List ℕ) → l ≡ message name → ⊥) → labels_of (more l s) ≡ []
unfolding is_page labels_of
no_message (lists {l = name} b) n = absurd (n name refl)
no_message (times m b) n = page-labels refl b
no_message (parts m b) n = page-labels refl b

-- ---- the word `messages`

start-event : {stage : Stage} → BeforeEvent stage → stage ≡ Start → ⊥
start-event behind_list e = let z : ◌≡◌ {A = ℕ} 0 1 = cc in omega arith
start-event behind_event e = let z : ◌≡◌ {A = ℕ} 0 1 = cc in omega arith
start-event behind_items e = let z : ◌≡◌ {A = ℕ} 0 1 = cc in omega arith

start-part : {stage : Stage} → BeforePart stage → stage ≡ Start → ⊥
start-part first_part e = let z : ◌≡◌ {A = ℕ} 0 1 = cc in omega arith
start-part next_part e = let z : ◌≡◌ {A = ℕ} 0 1 = cc in omega arith

start-line : {l : Line} {s : Script} → Balanced Start (more l s) → l ≡ heading
start-line (heads b) = refl
start-line (times m b) = absurd (start-event m refl)
start-line (parts m b) = absurd (start-part m refl)

start-goes : {s : Script} → Balanced Start s → s ≡ done → ⊥
unfolding may_end
start-goes (ends m) e = let z : ◌≡◌ {A = ℕ} 0 1 = cc in omega arith
start-goes (heads b) e = let z : ◌≡◌ {A = ℕ} 0 1 = cc in omega arith
start-goes (times m b) e = start-event m refl
start-goes (parts m b) e = start-part m refl

pub heading-asked : (t : List ℕ) → Tellable t → Turnable t 0 Start
unfolding held
heading-asked t a = record { balanced = a.balanced; within = omega arith; few = omega arith }

module _ (t : List ℕ) (v : Option Turn) (a : Tellable t) (turns : Turns t 0 Start v) where
  -- A text without a fault has a line.
  pub heading-there : IsSome v
  heading-there = go v refl where
    go : (w : Option Turn) → v ≡ w → IsSome w
    go (Some s) e = refl
    go None e = absurd (start-goes a.balanced (turns.over e))

  pub heading-past : (s : Turn) → v ≡ Some s → Headed t s.next
  unfolding after labels_of durations_of items_of
  heading-past s e =
      let d = turns.more s e in
      let b : Balanced Start (more (line_in t s.found) (script s.stage (drop s.next t))) = rw d.says at a.balanced in
      let l : line_in t s.found ≡ heading = start-line b in
      let h : s.stage ≡ Listing 0 = rw l at d.behind in
      let m : script Start t ≡ more heading (script (Listing 0) (drop s.next t)) = rw (l, h) at d.says in
      record { left = rw h at d.left; labels = rw m; durations = rw m; items = rw m }

pub ruleset headings = (heading-asked, heading-there, heading-past, rules)

-- ---- the invariant

pub record FillingList (t e₀ l₀ e l : List ℕ) (at n from : ℕ) : Type 0 where
  pub begun : Begun t at n
  pub entries : take (message_size * n) e ++ entry_bytes from (labels_of (script (Listing n) (drop at t))) ≡ entry_bytes 0 (labels_of (script Start t))
  pub labels : take from l ++ text_bytes (labels_of (script (Listing n) (drop at t))) ≡ text_bytes (labels_of (script Start t))
  pub count : n + length (labels_of (script (Listing n) (drop at t))) ≡ length (labels_of (script Start t))
  pub size : from + length (text_bytes (labels_of (script (Listing n) (drop at t)))) ≡ length (text_bytes (labels_of (script Start t)))
  pub few : n ≤ most_messages
  pub short : from ≤ most_text
  pub room : ListRoom e l
  pub entries_kept : length e ≡ length e₀
  pub labels_kept : length l ≡ length l₀

pub list-start : (t e l : List ℕ) (at : ℕ) → ListRoom e l → Headed t at → FillingList t e l e l at 0 0
list-start t e l at r h =
    let same = h.labels in
    let n : length (labels_of (script (Listing 0) (drop at t))) ≡ length (labels_of (script Start t)) = rw same in
    let z : length (text_bytes (labels_of (script (Listing 0) (drop at t)))) ≡ length (text_bytes (labels_of (script Start t))) = rw same in
    record {
      begun = record { left = h.left; durations = h.durations; items = h.items };
      entries = rw same;
      labels = rw same;
      count = omega arith;
      size = omega arith;
      few = omega arith;
      short = omega arith;
      room = r;
      entries_kept = refl;
      labels_kept = refl;
    }

pub list-asked : (t e₀ l₀ e l : List ℕ) (at n from : ℕ) → FillingList t e₀ l₀ e l at n from → Turnable t at (Listing n)
list-asked t e₀ l₀ e l at n from inv = inv.begun.left

-- what is owed, once x of it is laid
pub owed-laid : (m new x rest whole : List ℕ) (a r : ℕ) → take a m ++ (x ++ rest) ≡ whole → Laid m a x new r → take r new ++ rest ≡ whole
owed-laid m new x rest whole a r e laid = rw laid.front (append_assoc (take a m) x rest ∙ e)

module _ (t e₀ l₀ e l : List ℕ) (at n from : ℕ) (inv : FillingList t e₀ l₀ e l at n from) where
  list_done : labels_of (script (Listing n) (drop at t)) ≡ [] → Listed t e l at
  unfolding entry_bytes text_bytes
  list_done z =
      let c : n + 0 ≡ length (labels_of (script Start t)) = rw z at inv.count in
      let c' : n ≡ length (labels_of (script Start t)) = omega arith in
      let f : from + 0 ≡ length (text_bytes (labels_of (script Start t))) = rw z at inv.size in
      let f' : from ≡ length (text_bytes (labels_of (script Start t))) = omega arith in
      let a : take (message_size * n) e ++ [] ≡ entry_bytes 0 (labels_of (script Start t)) = rw z at inv.entries in
      let b : take from l ++ [] ≡ text_bytes (labels_of (script Start t)) = rw z at inv.labels in
      let a' : take (message_size * n) e ≡ entry_bytes 0 (labels_of (script Start t)) = sym (append-nil _) ∙ a in
      let b' : take from l ≡ text_bytes (labels_of (script Start t)) = sym (append-nil _) ∙ b in
      record { entries = rw c' at a'; labels = rw f' at b'; begun = rw c' at inv.begun; room = inv.room }

  module _ (v : Option Turn) (turns : Turns t at (Listing n) v) where
    pub list_over : v ≡ None → Listed t e l at
    unfolding labels_of
    list_over p = list_done (rw (turns.over p))

    module _ (s : Turn) (no : v ≡ Some s) where
      -- What is found is no message.
      pub list-end : ((start size : ℕ) → s.found ≡ Message start size → ⊥) → Listed t e l at
      list-end p =
          let d = turns.more s no in
          let q : (name : List ℕ) → line_in t s.found ≡ message name → ⊥ = λ name f. message-told t s.found name f p in
          list_done (rw d.says (no_message (rw d.says at inv.begun.left.balanced) q))

      module _ (start size : ℕ) (is-message : s.found ≡ Message start size) where
        name : List ℕ
        name = bytes_in (label (drop start t))

        says-message : line_in t s.found ≡ message name
        unfolding line_in name
        says-message = rw is-message

        behind-message : s.stage ≡ Listing (n + 1)
        unfolding after further
        behind-message = rw (says-message, ← add-one n) at (turns.more s no).behind

        script-message : script (Listing n) (drop at t) ≡ more (message name) (script (Listing (n + 1)) (drop s.next t))
        script-message =
            (turns.more s no).says
            ∙ ap (λ (x : Line). more x (script s.stage (drop s.next t))) says-message
            ∙ ap (λ (x : Stage). more (message name) (script x (drop s.next t))) behind-message

        fits-name : (is_read (label (drop start t)) ≡ true) × (size ≡ length name)
        unfolding name
        fits-name = go (rw is-message at (turns.more s no).fits) where
          go : {start size : ℕ} → Fits t (Message start size) → (is_read (label (drop start t)) ≡ true) × (size ≡ length (bytes_in (label (drop start t))))
          go (fits_message f g) = (f, g)

        list_count : n + suc (length (labels_of (script (Listing (n + 1)) (drop s.next t)))) ≡ length (labels_of (script Start t))
        unfolding labels_of
        list_count = rw script-message at inv.count

        list-size : from + (length name + length (text_bytes (labels_of (script (Listing (n + 1)) (drop s.next t))))) ≡ length (text_bytes (labels_of (script Start t)))
        unfolding labels_of text_bytes
        list-size =
            let z : from + length (name ++ text_bytes (labels_of (script (Listing (n + 1)) (drop s.next t)))) ≡ length (text_bytes (labels_of (script Start t))) = rw script-message at inv.size in
            rw (length-append name _) at z

        module _ (asked : Tellable t) where
          few : (length (labels_of (script Start t)) ≤ most_messages) × (length (text_bytes (labels_of (script Start t))) ≤ most_text)
          unfolding counts_in piece_of
          few = (asked.counted.messages, asked.counted.text)

          pub entry-room : message_size * n + message_size ≤ length e
          entry-room = let f = few in omega (arith, list_count, inv.room.entries)

          pub size_room : size < 65536
          size_room = let f = few in omega (arith, list-size, fits-name.1)

          pub label-room : Copyable t start l from
          unfolding name
          label-room = let f = few in record { labelled = fits-name.0; room = omega (arith, list-size, inv.room.labels) }

          pub list-step : (e' l' : List ℕ) (q r : ℕ) → Laid e (message_size * n) (entry_of from size) e' q → q ≡ message_size * n + message_size
              → Laid l from (bytes_in (label (drop start t))) l' r → FillingList t e₀ l₀ e' l' s.next (n + 1) r
          unfolding entry_of labels_of durations_of items_of entry_bytes text_bytes name
          list-step e' l' q r le qe ll =
              let ls = labels_of (script (Listing (n + 1)) (drop s.next t)) in
              let g : size ≡ length name = fits-name.1 in
              let a : r ≡ from + length name = ll.stop in
              let z : message_size * (n + 1) ≡ q = omega arith in
              let oe : take (message_size * n) e ++ (le16 from ++ (le16 (length name) ++ entry_bytes (from + length name) ls)) ≡ entry_bytes 0 (labels_of (script Start t)) =
              rw script-message at inv.entries in
              let oe' : take (message_size * n) e ++ (entry_of from size ++ entry_bytes r ls) ≡ entry_bytes 0 (labels_of (script Start t)) = rw (a, g, append_assoc (le16 from) (le16 (length name)) (entry_bytes (from + length name) ls)) oe in
              let ol : take from l ++ (name ++ text_bytes ls) ≡ text_bytes (labels_of (script Start t)) = rw script-message at inv.labels in
              record {
                begun = record {
                  left = rw behind-message at (turns.more s no).left;
                  durations = rw script-message at inv.begun.durations;
                  items = rw script-message at inv.begun.items;
                };
                entries = rw z (owed-laid e e' _ _ _ _ q oe' le);
                labels = owed-laid l l' _ _ _ _ r ol ll;
                count = omega (arith, list_count);
                size = omega (arith, list-size);
                few = let f = few in omega (arith, list_count);
                short = let f = few in omega (arith, list-size);
                room = record { entries = rw le.size inv.room.entries; labels = rw ll.size inv.room.labels };
                entries_kept = le.size ∙ inv.entries_kept;
                labels_kept = ll.size ∙ inv.labels_kept;
              }

pub ruleset listings = (list-start, list-asked, list_over, list-end, entry-room, size_room, label-room, list-step, turn-less, rules)
