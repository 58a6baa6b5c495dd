-- The machine of the second pass on bytes: with these lines left, what is laid of the items and the durations and what is owed are together those of all.
-- Each line keeps it. Assumes nothing.
use mathlib.Core.Path.{◌≡◌, refl, sym, ◌∙◌}
use mathlib.Core.List.{List, [], ◌∷◌, ◌++◌}
use Prim.Native.Nat.{ℕ, suc, ◌+◌, ◌-◌, ◌*◌, ◌<◌, ◌≤◌}
use native.Mathlib.Numerals.{add-one}
use native.Mathlib.Omega.{arith}
use lib.ListN.{length, take, length-append}
use Rattle.ascii.specs.Laying.{Laid}
use Rattle.page.specs.declared.Item.{Item}
use Rattle.contents.specs.Limits.{event_size, item_size}
use Rattle.score.specs.Encode.{le32, duration_bytes, item_bytes}
use Rattle.filing.specs.Lasts.{last_of, set_last, Replaced}
use Rattle.filing.proofs.LastLaws.{last-replaced, last-stood, item-added}
use Rattle.text.specs.declared.Stage.{Stage}
use Rattle.text.specs.declared.Stage.TheVariants.{Start}
use Rattle.text.specs.Grammar.{heading, message, event, part, send, group, close, after, further, deeper, shallower, Script, more, script}
use Rattle.text.specs.Said.{event_of, durations_of, items_of}
use Rattle.script.specs.Balanced.{Balanced, heads, lists, times, parts, opens, closes}
use Rattle.reader.specs.Items.{send_item, group_item}
use Rattle.reader.proofs.RunLaws.{open_in, event-none, part_none, set-length, Chain, root, link, chain-append, chain-set, chain-open, less, run}
use Rattle.reader.proofs.ListSteps.{owed-laid}

-- ---- how many groups are open behind a line

pub open-heading : {stage : Stage} {s : Script} → Balanced stage (more heading s) → (open_in stage ≡ 0) × (open_in (after heading stage) ≡ 0)
unfolding open_in after
open-heading (heads b) = (refl, refl)

pub open-message : {stage : Stage} {l : List ℕ} {s : Script} → Balanced stage (more (message l) s) → (open_in stage ≡ 0) × (open_in (after (message l) stage) ≡ 0)
unfolding open_in after further
open-message (lists b) = (refl, refl)

pub open-event : {stage : Stage} {g : ℕ} {s : Script} → Balanced stage (more (event g) s) → (open_in stage ≡ 0) × (open_in (after (event g) stage) ≡ 0)
unfolding open_in after
open-event (times m b) = (event-none m, refl)

pub open-part : {stage : Stage} {p : ℕ} {s : Script} → Balanced stage (more (part p) s) → (open_in stage ≡ 0) × (open_in (after (part p) stage) ≡ 0)
unfolding open_in after
open-part (parts m b) = (part_none m, refl)

pub open-group : {stage : Stage} {d w v : ℕ} {s : Script} → Balanced stage (more (group d w v) s) → open_in (after (group d w v) stage) ≡ suc (open_in stage)
unfolding open_in after deeper
open-group (opens b) = refl

pub open-close : {stage : Stage} {s : Script} → Balanced stage (more close s) → (1 ≤ open_in stage) × (open_in (after close stage) ≡ open_in stage - 1)
unfolding open_in after shallower
open-close (closes b) = (omega arith, refl)

-- ---- the innermost open group

record Closing (w : List Item) (depth o : ℕ) : Type 0 where
  some : 1 ≤ o
  place : o - 1 < length w
  below : last_of w (o - 1) ≤ o - 1
  around : Chain w (depth - 1) (last_of w (o - 1))
  is : less o ≡ o - 1

chain-close : {w : List Item} {depth o : ℕ} → Chain w depth o → 1 ≤ depth → Closing w depth o
unfolding less
chain-close root p = absurd (omega arith)
chain-close (link {depth = depth} {g = g} p q c) r =
    let y : suc depth - 1 ≡ depth = omega arith in
    let z : suc g - 1 ≡ g = omega arith in
    record { some = omega arith; place = omega arith; below = rw z q; around = rw (y, z) c; is = sym z }

-- ---- what the items laid and the lines left come to

-- With these lines left, behind so many events, in this part, with so many groups open.
pub record Going (t d m : List ℕ) (s : Script) (depth e p n o : ℕ) : Type 0 where
  pub w : List Item
  pub laid : take (item_size * n) m ≡ item_bytes w
  pub count : length w ≡ n
  pub rest : run e p o w s ≡ items_of 0 0 0 (script Start t)
  pub chain : Chain w depth o
  pub events : take (event_size * e) d ++ duration_bytes (durations_of s) ≡ duration_bytes (durations_of (script Start t))
  pub event_count : e + length (durations_of s) ≡ length (durations_of (script Start t))
  pub item_count : n + length (items_of e p depth s) ≡ length (items_of 0 0 0 (script Start t))

module _ {t d m : List ℕ} {s : Script} {depth e p n o : ℕ} where
  pub going-heading : Going t d m (more heading s) depth e p n o → Going t d m s depth e p n o
  unfolding run durations_of items_of
  going-heading g =
      record {
        w = g.w;
        laid = g.laid;
        count = g.count;
        rest = g.rest;
        chain = g.chain;
        events = g.events;
        event_count = g.event_count;
        item_count = g.item_count;
      }

  pub going-message : {l : List ℕ} → Going t d m (more (message l) s) depth e p n o → Going t d m s depth e p n o
  unfolding run durations_of items_of
  going-message g =
      record {
        w = g.w;
        laid = g.laid;
        count = g.count;
        rest = g.rest;
        chain = g.chain;
        events = g.events;
        event_count = g.event_count;
        item_count = g.item_count;
      }

  pub going-part : {q : ℕ} → Going t d m (more (part q) s) depth e p n o → Going t d m s depth e q n o
  unfolding run durations_of items_of
  going-part g =
      record {
        w = g.w;
        laid = g.laid;
        count = g.count;
        rest = g.rest;
        chain = g.chain;
        events = g.events;
        event_count = g.event_count;
        item_count = g.item_count;
      }

  pub event-owed : {x : ℕ} → Going t d m (more (event x) s) depth e p n o → e + suc (length (durations_of s)) ≡ length (durations_of (script Start t))
  unfolding durations_of
  event-owed g = g.event_count

  pub going-event : {x : ℕ} (d' : List ℕ) (r : ℕ) → Going t d m (more (event x) s) depth e p n o → Laid d (event_size * e) (le32 x) d' r → r ≡ event_size * e + event_size
      → Going t d' m s depth (e + 1) p n o
  unfolding run durations_of duration_bytes items_of
  going-event {x} d' r g laid q =
      let z : event_size * (e + 1) ≡ r = omega arith in
      let o : take r d' ++ duration_bytes (durations_of s) ≡ duration_bytes (durations_of (script Start t)) = owed-laid d d' (le32 x) _ _ _ r g.events laid in
      record {
        w = g.w;
        laid = g.laid;
        count = g.count;
        rest = rw (add-one e) g.rest;
        chain = g.chain;
        events = rw z o;
        event_count = omega (arith, event-owed g);
        item_count = rw (add-one e) g.item_count;
      }

  pub send-owed : {x k : ℕ} → Going t d m (more (send x k) s) depth e p n o → n + suc (length (items_of e p depth s)) ≡ length (items_of 0 0 0 (script Start t))
  unfolding items_of
  send-owed g = g.item_count

  pub going-send : {x k : ℕ} (m' : List ℕ) (r : ℕ) → Going t d m (more (send x k) s) depth e p n o → Laid m (item_size * n) (item_bytes (send_item p (event_of o e) x k ∷ [])) m' r
      → r ≡ item_size * n + item_size → Going t d m' s depth e p (n + 1) o
  unfolding run durations_of
  going-send {x} {k} m' r g laid q =
      let y = send_item p (event_of o e) x k in
      record {
        w = g.w ++ (y ∷ []);
        laid = item-added g.w y m m' n r g.count g.laid laid q;
        count = omega (arith, length-append g.w (y ∷ []), g.count);
        rest = g.rest;
        chain = chain-append (y ∷ []) g.chain;
        events = g.events;
        event_count = g.event_count;
        item_count = omega (arith, send-owed g);
      }

  pub group-owed : {x y v : ℕ} → Going t d m (more (group x y v) s) depth e p n o → n + suc (length (items_of e p (suc depth) s)) ≡ length (items_of 0 0 0 (script Start t))
  unfolding items_of
  group-owed g = g.item_count

  pub going-group : {x y v : ℕ} (m' : List ℕ) (r : ℕ) → Going t d m (more (group x y v) s) depth e p n o
      → Laid m (item_size * n) (item_bytes (group_item p (event_of o e) x y v o ∷ [])) m' r → r ≡ item_size * n + item_size → Going t d m' s (suc depth) e p (n + 1) (n + 1)
  unfolding run durations_of
  going-group {x} {y} {v} m' r g laid q =
      let z = group_item p (event_of o e) x y v o in
      let f : run e p (suc (length g.w)) (g.w ++ (z ∷ [])) s ≡ items_of 0 0 0 (script Start t) = g.rest in
      let c : Chain (g.w ++ (z ∷ [])) (suc depth) (suc (length g.w)) = chain-open z refl g.chain in
      let a : suc (length g.w) ≡ n + 1 = omega (arith, g.count) in
      record {
        w = g.w ++ (z ∷ []);
        laid = item-added g.w z m m' n r g.count g.laid laid q;
        count = omega (arith, length-append g.w (z ∷ []), g.count);
        rest = rw a at f;
        chain = rw a at c;
        events = g.events;
        event_count = g.event_count;
        item_count = omega (arith, group-owed g);
      }

  -- the innermost open group, where one is closed
  pub closing : Going t d m (more close s) depth e p n o → 1 ≤ depth → (1 ≤ o) × (o ≤ n)
  closing g q = let c = chain-close g.chain q in (c.some, omega (arith, c.place, g.count))

  pub going-close : (m' : List ℕ) (r : ℕ) → Going t d m (more close s) depth e p n o → 1 ≤ depth → item_size * n ≤ length m → Replaced m (o - 1) (n - o) m' r
      → Going t d m' s (depth - 1) e p n r × (r ≤ n)
  unfolding run durations_of items_of
  going-close m' r g q room put =
      let c = chain-close g.chain q in
      let l : item_size * length g.w ≤ length m = rw g.count room in
      let held : take (item_size * length g.w) m ≡ item_bytes g.w = rw g.count g.laid in
      let st : r ≡ last_of g.w (o - 1) = last-stood g.w (o - 1) c.place m m' (n - o) r put l held in
      let ne : take (item_size * length g.w) m' ≡ item_bytes (set_last g.w (o - 1) (n - o)) = last-replaced g.w (o - 1) c.place m m' (n - o) r put l held in
      let a : run e p (last_of g.w (less o)) (set_last g.w (less o) (length g.w - o)) s ≡ items_of 0 0 0 (script Start t) = g.rest in
      let b : run e p (last_of g.w (o - 1)) (set_last g.w (o - 1) (n - o)) s ≡ items_of 0 0 0 (script Start t) = rw (c.is, g.count) at a in
      let h : Chain (set_last g.w (o - 1) (n - o)) (depth - 1) (last_of g.w (o - 1)) = chain-set (o - 1) (n - o) c.below c.around in (
        record {
          w = set_last g.w (o - 1) (n - o);
          laid = rw g.count at ne;
          count = set-length g.w (o - 1) (n - o) ∙ g.count;
          rest = rw st b;
          chain = rw st h;
          events = g.events;
          event_count = g.event_count;
          item_count = g.item_count;
        },
        rw st (omega (arith, c.below, c.place, g.count)),
      )
