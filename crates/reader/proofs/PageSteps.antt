-- Each step through the page, in the code's own terms. The invariant: what the machine makes of the lines left, from the items laid, is the page; and of the
-- durations, what is laid and what is owed are together those of all.
-- Assumes nothing.
use Rattle.std.specs.Prelude.{Option, Some, None}
use mathlib.Core.Path.{◌≡◌, refl, sym, ap, ◌∙◌}
use mathlib.Core.List.{List, [], ◌∷◌, append-nil}
use Prim.Native.Nat.{ℕ, zero, suc, ◌+◌, ◌-◌, ◌*◌, ◌<◌, ◌≤◌}
use native.Mathlib.Omega.{arith}
use lib.ListN.{length, take, drop}
use borrow.Author.Rules.{rules}
use Rattle.ascii.specs.Laying.{Laid}
use Rattle.tokens.specs.Tokens.{label, bytes_in}
use Rattle.tokens.specs.Beats.{field}
use Rattle.contents.specs.Limits.{event_size, item_size, most_events, most_items}
use Rattle.score.specs.Encode.{le32, duration_bytes, item_bytes, counts_in}
use Rattle.filing.specs.Pieces.{Fitting}
use Rattle.filing.specs.Lasts.{Replaced}
use Rattle.text.specs.declared.Stage.{Stage}
use Rattle.text.specs.declared.Stage.TheVariants.{Start, Listing}
use Rattle.text.specs.Grammar.{Line, heading, message, event, part, send, group, close, after, Script, more, script}
use Rattle.text.specs.Said.{event_of, durations_of, items_of, piece_of}
use Rattle.script.specs.declared.Found.TheVariants.{Heading, Message, Event, Part, Send, Group, Close}
use Rattle.script.specs.Steps.{line_in, Fits, fits_event, fits_part, fits_send, fits_group}
use Rattle.script.specs.Balanced.{Balanced}
use Rattle.reader.specs.declared.turns.Turn.{Turn}
use Rattle.reader.specs.Items.{send_item, group_item}
use Rattle.reader.specs.Turns.{Turnable, Turns}
use Rattle.reader.specs.Filled.{Tellable, Begun, RowRoom, Paged}
use Rattle.filing.specs.Bodies.{PageRoom}
use Rattle.reader.proofs.RunLaws.{open_in, root, run, run-page}
use Rattle.reader.proofs.TurnSteps.{turn-less}
use Rattle.reader.proofs.GoingLaws.{Going, open-heading, open-message, open-event, open-part, open-group, open-close, going-heading, going-message, going-part, event-owed, going-event, send-owed, going-send, group-owed, going-group, closing, going-close}

-- ---- an item

pub event-top : (inner events : ℕ) → inner ≡ 0 → events ≡ event_of inner events
unfolding event_of
event-top inner events e = rw e

pub event-within : (inner events : ℕ) → (inner ≡ 0 → ⊥) → 0 ≡ event_of inner events
unfolding event_of
event-within zero events n = absurd (n refl)
event-within (suc g) events n = refl

pub ruleset events = (event-top, event-within, rules)

module _ {m m' : List ℕ} (n inner events event p d r : ℕ) (named : event ≡ event_of inner events) where
  pub lay-send : (k : ℕ) → Laid m (item_size * n) (item_bytes (send_item p event d k ∷ [])) m' r → Laid m (item_size * n) (item_bytes (send_item p (event_of inner events) d k ∷ [])) m' r
  lay-send k laid = rw named at laid

  pub lay-group : (w v k : ℕ) → Laid m (item_size * n) (item_bytes (group_item p event d w v k ∷ [])) m' r → Laid m (item_size * n) (item_bytes (group_item p (event_of inner events) d w v k ∷ [])) m' r
  lay-group w v k laid = rw named at laid

module _ (m : List ℕ) (n e p d event : ℕ) (asked : RowRoom m n e p d) (low : event ≤ e) where
  pub send-fits : (k : ℕ) → k < 65536 → Fitting (send_item p event d k)
  send-fits k q =
      record {
        kind = omega arith;
        synchrony = omega arith;
        error = omega arith;
        part = asked.part;
        delay = asked.delay;
        event = omega (arith, asked.event);
        last = q;
      }

  pub group_fits : (w v k : ℕ) → w ≤ 1 → v ≤ 3 → k ≤ most_items → Fitting (group_item p event d w v k)
  group_fits w v k y q z =
      record {
        kind = omega arith;
        synchrony = omega arith;
        error = omega arith;
        part = asked.part;
        delay = asked.delay;
        event = omega (arith, asked.event);
        last = omega arith;
      }

pub row_room : (m : List ℕ) (n e p d : ℕ) → RowRoom m n e p d → item_size * n + item_size ≤ length m
row_room m n e p d a = a.room

pub ruleset rows = (lay-send, lay-group, send-fits, group_fits, row_room, rules)

-- ---- the invariant

pub record FillingPage (t d₀ m₀ d m : List ℕ) (at : ℕ) (stage : Stage) (e p n o : ℕ) : Type 0 where
  pub left : Turnable t at stage
  pub going : Going t d m (script stage (drop at t)) (open_in stage) e p n o
  pub room : PageRoom d m
  pub few_events : e ≤ most_events
  pub few_items : n ≤ most_items
  pub small : p < 256
  pub inside : o ≤ n
  pub durations_kept : length d ≡ length d₀
  pub items_kept : length m ≡ length m₀

pub page-start : (t d m : List ℕ) (at n : ℕ) → Begun t at n → PageRoom d m → FillingPage t d m d m at (Listing n) 0 0 0 0
unfolding open_in item_bytes
page-start t d m at n b r =
    let s = script (Listing n) (drop at t) in
    let z : open_in (Listing n) ≡ 0 = refl in
    let i : length (items_of 0 0 0 s) ≡ length (items_of 0 0 0 (script Start t)) = rw b.items in
    let k : length (durations_of s) ≡ length (durations_of (script Start t)) = rw b.durations in
    record {
      left = b.left;
      going = record {
        w = [];
        laid = refl;
        count = refl;
        rest = run-page 0 0 z b.left.balanced ∙ b.items;
        chain = root;
        events = rw b.durations;
        event_count = omega arith;
        item_count = omega arith;
      };
      room = r;
      few_events = omega arith;
      few_items = omega arith;
      small = omega arith;
      inside = omega arith;
      durations_kept = refl;
      items_kept = refl;
    }

pub page-asked : (t d₀ m₀ d m : List ℕ) (at : ℕ) (stage : Stage) (e p n o : ℕ) → FillingPage t d₀ m₀ d m at stage e p n o → Turnable t at stage
page-asked t d₀ m₀ d m at stage e p n o inv = inv.left

few-told : (t : List ℕ) → Tellable t → (length (durations_of (script Start t)) ≤ most_events) × (length (items_of 0 0 0 (script Start t)) ≤ most_items)
unfolding counts_in piece_of
few-told t a = (a.counted.events, a.counted.items)

module _ (t d₀ m₀ d m : List ℕ) (at : ℕ) (stage : Stage) (e p n o : ℕ) (inv : FillingPage t d₀ m₀ d m at stage e p n o) (v : Option Turn) (turns : Turns t at stage v) where
  pub page-over : v ≡ None → Paged t d m
  unfolding run durations_of duration_bytes items_of
  page-over q =
      let g = rw (turns.over q) at inv.going in
      let a : e + 0 ≡ length (durations_of (script Start t)) = g.event_count in
      let b : n + 0 ≡ length (items_of 0 0 0 (script Start t)) = g.item_count in
      let a' : e ≡ length (durations_of (script Start t)) = omega arith in
      let b' : n ≡ length (items_of 0 0 0 (script Start t)) = omega arith in
      let f : g.w ≡ items_of 0 0 0 (script Start t) = g.rest in
      let h : take (event_size * e) d ≡ duration_bytes (durations_of (script Start t)) = sym (append-nil _) ∙ g.events in
      let i : take (item_size * n) m ≡ item_bytes (items_of 0 0 0 (script Start t)) = g.laid ∙ ap item_bytes f in
      record { durations = rw a' at h; items = rw b' at i; room = inv.room }

  module _ (s : Turn) (no : v ≡ Some s) where
    left : Script
    left = script s.stage (drop s.next t)

    -- what is left, where the line is l and the machine goes on from there
    goes_on : (d' m' : List ℕ) (e' p' n' o' depth : ℕ) → open_in s.stage ≡ depth → Going t d' m' left depth e' p' n' o' → PageRoom d' m' → e' ≤ most_events → n' ≤ most_items
        → p' < 256 → o' ≤ n' → length d' ≡ length d₀ → length m' ≡ length m₀ → FillingPage t d₀ m₀ d' m' s.next s.stage e' p' n' o'
    unfolding left
    goes_on d' m' e' p' n' o' depth z g r fe fn sp i kd km =
        record {
          left = (turns.more s no).left;
          going = rw z g;
          room = r;
          few_events = fe;
          few_items = fn;
          small = sp;
          inside = i;
          durations_kept = kd;
          items_kept = km;
        }

    module _ (l : Line) (is : line_in t s.found ≡ l) where
      says : script stage (drop at t) ≡ more l left
      unfolding left
      says = (turns.more s no).says ∙ ap (λ (x : Line). more x (script s.stage (drop s.next t))) is

      balanced : Balanced stage (more l left)
      balanced = rw says at inv.left.balanced

      behind : s.stage ≡ after l stage
      behind = (turns.more s no).behind ∙ ap (λ (x : Line). after x stage) is

      before : Going t d m (more l left) (open_in stage) e p n o
      before = rw says at inv.going

    module _ (k : s.found ≡ Heading) where
      is-heading : line_in t s.found ≡ heading
      unfolding line_in
      is-heading = rw k

      pub page-heading : FillingPage t d₀ m₀ d m s.next s.stage e p n o
      page-heading =
          let z = open-heading (balanced heading is-heading) in
          let y : open_in s.stage ≡ open_in stage = rw (behind heading is-heading, z.1, z.0) in
          goes_on d m e p n o (open_in stage) y (going-heading (before heading is-heading)) inv.room inv.few_events inv.few_items inv.small inv.inside inv.durations_kept inv.items_kept

    module _ (start size : ℕ) (k : s.found ≡ Message start size) where
      name : List ℕ
      name = bytes_in (label (drop start t))

      is-message : line_in t s.found ≡ message name
      unfolding line_in name
      is-message = rw k

      pub page-message : FillingPage t d₀ m₀ d m s.next s.stage e p n o
      page-message =
          let z = open-message (balanced (message name) is-message) in
          let y : open_in s.stage ≡ open_in stage = rw (behind (message name) is-message, z.1, z.0) in
          goes_on d m e p n o (open_in stage) y (going-message (before (message name) is-message)) inv.room inv.few_events inv.few_items inv.small inv.inside inv.durations_kept inv.items_kept

    module _ (x : ℕ) (k : s.found ≡ Event x) where
      is-event : line_in t s.found ≡ event x
      unfolding line_in
      is-event = rw k

      pub event-small : x < field
      event-small = go (rw k at (turns.more s no).fits) where
        go : Fits t (Event x) → x < field
        go (fits_event q) = q

      module _ (asked : Tellable t) where
        event-few : e + 1 ≤ most_events
        event-few = let f = few-told t asked in omega (arith, event-owed (before (event x) is-event))

        pub event-room : event_size * e + 4 ≤ length d
        event-room = omega (arith, event-few, inv.room.durations)

        pub page-event : (d' : List ℕ) (r : ℕ) → Laid d (event_size * e) (le32 x) d' r → r ≡ event_size * e + 4 → FillingPage t d₀ m₀ d' m s.next s.stage (e + 1) p n o
        page-event d' r laid q =
            let z = open-event (balanced (event x) is-event) in
            let y : open_in s.stage ≡ open_in stage = rw (behind (event x) is-event, z.1, z.0) in
            let c : PageRoom d' m = record { durations = rw laid.size inv.room.durations; items = inv.room.items } in
            goes_on d' m (e + 1) p n o (open_in stage) y (going-event d' r (before (event x) is-event) laid q) c event-few inv.few_items inv.small inv.inside (laid.size ∙ inv.durations_kept) inv.items_kept

    module _ (q : ℕ) (k : s.found ≡ Part q) where
      is-part : line_in t s.found ≡ part q
      unfolding line_in
      is-part = rw k

      part_small : q < 256
      part_small = go (rw k at (turns.more s no).fits) where
        go : Fits t (Part q) → q < 256
        go (fits_part l) = l

      pub page-part : FillingPage t d₀ m₀ d m s.next s.stage e q n o
      page-part =
          let z = open-part (balanced (part q) is-part) in
          let y : open_in s.stage ≡ open_in stage = rw (behind (part q) is-part, z.1, z.0) in
          goes_on d m e q n o (open_in stage) y (going-part (before (part q) is-part)) inv.room inv.few_events inv.few_items part_small inv.inside inv.durations_kept inv.items_kept

    -- one item more
    item_room : (m' : List ℕ) → length m' ≡ length m → PageRoom d m'
    item_room m' z = record { durations = inv.room.durations; items = rw z inv.room.items }

    module _ (x y : ℕ) (k : s.found ≡ Send x y) where
      is-send : line_in t s.found ≡ send x y
      unfolding line_in
      is-send = rw k

      send-small : (x < field) × (y < 65536)
      send-small = go (rw k at (turns.more s no).fits) where
        go : Fits t (Send x y) → (x < field) × (y < 65536)
        go (fits_send a b) = (a, b)

      pub send-number : y < 65536
      send-number = send-small.1

      module _ (asked : Tellable t) where
        send-few : n + 1 ≤ most_items
        send-few = let f = few-told t asked in omega (arith, send-owed (before (send x y) is-send))

        pub send-room : RowRoom m n e p x
        send-room = record { room = omega (arith, send-few, inv.room.items); event = inv.few_events; part = inv.small; delay = send-small.0 }

        pub page-send : (m' : List ℕ) (r : ℕ) → Laid m (item_size * n) (item_bytes (send_item p (event_of o e) x y ∷ [])) m' r → r ≡ item_size * n + item_size
            → FillingPage t d₀ m₀ d m' s.next s.stage e p (n + 1) o
        unfolding after
        page-send m' r laid q =
            let z : open_in s.stage ≡ open_in stage = rw (behind (send x y) is-send) in
            goes_on d m' e p (n + 1) o (open_in stage) z (going-send m' r (before (send x y) is-send) laid q) (item_room m' laid.size) inv.few_events send-few inv.small (omega (arith, inv.inside)) inv.durations_kept (laid.size ∙ inv.items_kept)

    module _ (x y z' : ℕ) (k : s.found ≡ Group x y z') where
      is-group : line_in t s.found ≡ group x y z'
      unfolding line_in
      is-group = rw k

      group-small : (x < field) × (y ≤ 1) × (z' ≤ 3)
      group-small = go (rw k at (turns.more s no).fits) where
        go : Fits t (Group x y z') → (x < field) × (y ≤ 1) × (z' ≤ 3)
        go (fits_group a b c) = (a, b, c)

      pub group-synchrony : y ≤ 1
      group-synchrony = group-small.1

      pub group-error : z' ≤ 3
      group-error = group-small.2

      module _ (asked : Tellable t) where
        group-few : n + 1 ≤ most_items
        group-few = let f = few-told t asked in omega (arith, group-owed (before (group x y z') is-group))

        pub group-room : RowRoom m n e p x
        group-room = record { room = omega (arith, group-few, inv.room.items); event = inv.few_events; part = inv.small; delay = group-small.0 }

        pub page-group : (m' : List ℕ) (r : ℕ) → Laid m (item_size * n) (item_bytes (group_item p (event_of o e) x y z' o ∷ [])) m' r → r ≡ item_size * n + item_size
            → FillingPage t d₀ m₀ d m' s.next s.stage e p (n + 1) (n + 1)
        page-group m' r laid q =
            let z : open_in s.stage ≡ suc (open_in stage) = rw (behind (group x y z') is-group) (open-group (balanced (group x y z') is-group)) in
            goes_on d m' e p (n + 1) (n + 1) (suc (open_in stage)) z (going-group m' r (before (group x y z') is-group) laid q) (item_room m' laid.size) inv.few_events group-few inv.small (omega arith) inv.durations_kept (laid.size ∙ inv.items_kept)

    module _ (k : s.found ≡ Close) where
      is-close : line_in t s.found ≡ close
      unfolding line_in
      is-close = rw k

      is_open : (1 ≤ open_in stage) × (open_in (after close stage) ≡ open_in stage - 1)
      is_open = open-close (balanced close is-close)

      pub close-some : 1 ≤ o
      close-some = (closing (before close is-close) is_open.0).0

      pub close-room : item_size * (o - 1) + item_size ≤ length m
      close-room = omega (arith, close-some, inv.inside, inv.few_items, inv.room.items)

      pub page-close : (m' : List ℕ) (r : ℕ) → Replaced m (o - 1) (n - o) m' r → FillingPage t d₀ m₀ d m' s.next s.stage e p n r
      page-close m' r put =
          let l : item_size * n ≤ length m = omega (arith, inv.few_items, inv.room.items) in
          let g = going-close m' r (before close is-close) is_open.0 l put in
          let z : open_in s.stage ≡ open_in stage - 1 = rw (behind close is-close) is_open.1 in
          goes_on d m' e p n r (open_in stage - 1) z g.0 (item_room m' put.laid.size) inv.few_events inv.few_items inv.small g.1 inv.durations_kept (put.laid.size ∙ inv.items_kept)

pub ruleset paging = (page-start, page-asked, page-over, page-heading, page-message, event-small, event-room, page-part, send-number, send-room, group-synchrony, group-error, group-room, close-some, close-room, turn-less, rules)

-- where the invariant holds again, each step by itself
pub ruleset grouping = (page-group, rules)

pub ruleset bracing = (page-close, rules)
