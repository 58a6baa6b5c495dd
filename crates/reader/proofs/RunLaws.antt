-- The second pass as a machine: items are put behind one another, an open group's last field is where the group around it stands, and a closing brace sets it to
-- the count of items within. What it leaves is the page.
-- Assumes nothing.
use mathlib.Core.Path.{◌≡◌, refl, sym, ap, ◌∙◌}
use mathlib.Core.Bool.{true}
use mathlib.Core.List.{List, [], ◌∷◌, ◌++◌, append_assoc, append-nil}
use Prim.Native.Nat.{ℕ, zero, suc, ◌+◌, ◌-◌, ◌<◌, ◌≤◌}
use native.Mathlib.Omega.{arith}
use lib.ListN.{length, length-append}
use borrow.Author.Tests.{eqb-true}
use Rattle.page.specs.declared.Item.{Item}
use Rattle.text.specs.declared.Stage.{Stage}
use Rattle.text.specs.declared.Stage.TheVariants.{Start, Listing, Timed, Playing}
use Rattle.text.specs.Grammar.{heading, message, event, part, send, group, close, may_end, Script, done, more, fault}
use Rattle.text.specs.Said.{within, event_of, items_of}
use Rattle.script.specs.Balanced.{BeforeEvent, behind_list, behind_event, behind_items, BeforePart, first_part, next_part, Balanced, ends, heads, lists, times, parts, sends, opens, closes}
use Rattle.filing.specs.Lasts.{with_last, last_of, set_last}
use Rattle.reader.specs.Items.{send_item, group_item}

-- ---- an item's last field

last-append : (w ys : List Item) (g : ℕ) → g < length w → last_of (w ++ ys) g ≡ last_of w g
unfolding last_of
last-append [] ys g p = absurd (omega arith)
last-append (i ∷ w) ys zero p = refl
last-append (i ∷ w) ys (suc g) p = last-append w ys g (omega arith)

set-append : (w ys : List Item) (g v : ℕ) → g < length w → set_last (w ++ ys) g v ≡ set_last w g v ++ ys
unfolding set_last
set-append [] ys g v p = absurd (omega arith)
set-append (i ∷ w) ys zero v p = refl
set-append (i ∷ w) ys (suc g) v p = ap (λ (l : List Item). i ∷ l) (set-append w ys g v (omega arith))

last-seam : (w : List Item) (x : Item) → last_of (w ++ (x ∷ [])) (length w) ≡ x.last
unfolding last_of
last-seam [] x = refl
last-seam (i ∷ w) x = last-seam w x

set-seam : (w : List Item) (x : Item) (v : ℕ) → set_last (w ++ (x ∷ [])) (length w) v ≡ w ++ (with_last x v ∷ [])
unfolding set_last
set-seam [] x v = refl
set-seam (i ∷ w) x v = ap (λ (l : List Item). i ∷ l) (set-seam w x v)

pub set-length : (w : List Item) (g v : ℕ) → length (set_last w g v) ≡ length w
unfolding set_last
set-length [] g v = refl
set-length (i ∷ w) zero v = refl
set-length (i ∷ w) (suc g) v = ap suc (set-length w g v)

last-other : (w : List Item) (g h v : ℕ) → h < g → last_of (set_last w g v) h ≡ last_of w h
unfolding set_last last_of
last-other [] g h v p = refl
last-other (i ∷ w) zero h v p = absurd (omega arith)
last-other (i ∷ w) (suc g) zero v p = refl
last-other (i ∷ w) (suc g) (suc h) v p = last-other w g h v (omega arith)

-- ---- the open groups, from the innermost out: 0 where there is none, else one more than the group's place

pub data Chain (w : List Item) : ℕ → ℕ → Type 0 where
  root : Chain w 0 0
  link : {depth g : ℕ} → g < length w → last_of w g ≤ g → Chain w depth (last_of w g) → Chain w (suc depth) (suc g)

pub chain-within : {w : List Item} {depth o : ℕ} → Chain w depth o → o ≤ length w
chain-within root = omega arith
chain-within (link p q c) = omega arith

-- no more groups are open than there are
pub chain-shallow : {w : List Item} {depth o : ℕ} → Chain w depth o → depth ≤ o
chain-shallow root = omega arith
chain-shallow (link p q c) = omega (arith, chain-shallow c)

pub chain-append : {w : List Item} {depth o : ℕ} (ys : List Item) → Chain w depth o → Chain (w ++ ys) depth o
chain-append ys root = root
chain-append {w} ys (link {depth = depth} {g = g} p q c) =
    let e = last-append w ys g p in
    let r : Chain (w ++ ys) depth (last_of (w ++ ys) g) = rw e (chain-append ys c) in
    link {g = g} (omega (arith, length-append w ys)) (rw e q) r

pub chain-set : {w : List Item} {depth o : ℕ} (h v : ℕ) → o ≤ h → Chain w depth o → Chain (set_last w h v) depth o
chain-set h v l root = root
chain-set {w} h v l (link {depth = depth} {g = g} p q c) =
    let e = last-other w h g v (omega arith) in
    let r : Chain (set_last w h v) depth (last_of (set_last w h v) g) = rw e (chain-set h v (omega arith) c) in
    link {g = g} (omega (arith, set-length w h v)) (rw e q) r

-- a group is opened
pub chain-open : {w : List Item} {depth o : ℕ} (x : Item) → x.last ≡ o → Chain w depth o → Chain (w ++ (x ∷ [])) (suc depth) (suc (length w))
chain-open {w} {depth} {o} x e c =
    let s : last_of (w ++ (x ∷ [])) (length w) ≡ o = last-seam w x ∙ e in
    let r : Chain (w ++ (x ∷ [])) depth (last_of (w ++ (x ∷ [])) (length w)) = rw s (chain-append (x ∷ []) c) in
    link {g = length w} (omega (arith, length-append w (x ∷ []))) (rw s (chain-within c)) r

-- an item stands within a group where a group is open
chain-event : {w : List Item} {depth o : ℕ} (e : ℕ) → Chain w depth o → event_of o e ≡ event_of depth e
unfolding event_of
chain-event e root = refl
chain-event e (link p q c) = refl

-- How many groups are open where this may stand.
unfoldable pub open_in : Stage → ℕ
open_in Start = 0
open_in (Listing next) = 0
open_in Timed = 0
open_in (Playing depth) = depth

-- ---- the machine

unfoldable pub less : ℕ → ℕ
less zero = zero
less (suc n) = n

-- After these events, in this part, with this group the innermost open.
unfoldable pub run : (event part innermost : ℕ) → List Item → Script → List Item
run e p o w done = w
run e p o w (fault left) = w
run e p o w (more heading s) = run e p o w s
run e p o w (more (message l) s) = run e p o w s
run e p o w (more (event g) s) = run (suc e) p o w s
run e p o w (more (part q) s) = run e q o w s
run e p o w (more (send d n) s) = run e p o (w ++ (send_item p (event_of o e) d n ∷ [])) s
run e p o w (more (group d y v) s) = run e p (suc (length w)) (w ++ (group_item p (event_of o e) d y v o ∷ [])) s
run e p o w (more close s) = run e p (last_of w (less o)) (set_last w (less o) (length w - o)) s

-- The open groups closed, the k-th of them from the innermost out where there are f k items.
unfoldable finish : (ℕ → ℕ) → (k depth innermost : ℕ) → List Item → List Item
finish f k zero o w = w
finish f k (suc depth) o w = finish f (suc k) depth (last_of w (less o)) (set_last w (less o) (f k - o))

finish-same : (f g : ℕ → ℕ) (j k depth o : ℕ) (w : List Item) → ((i : ℕ) → f (j + i) ≡ g (k + i)) → finish f j depth o w ≡ finish g k depth o w
unfolding finish
finish-same f g j k zero o w h = refl
finish-same f g j k (suc depth) o w h =
    let e : f j ≡ g k = first (h 0) in
    rw e (finish-same f g (suc j) (suc k) depth (last_of w (less o)) (set_last w (less o) (g k - o)) (λ i. next i (h (suc i)))) where
      first : f (j + 0) ≡ g (k + 0) → f j ≡ g k
      first p = let a : j + 0 ≡ j = omega arith in let b : k + 0 ≡ k = omega arith in rw (a, b) at p

      next : (i : ℕ) → f (j + suc i) ≡ g (k + suc i) → f (suc j + i) ≡ g (suc k + i)
      next i p = let a : j + suc i ≡ suc j + i = omega arith in let b : k + suc i ≡ suc k + i = omega arith in rw (a, b) at p

finish-append : (f : ℕ → ℕ) (k depth : ℕ) {o : ℕ} {w : List Item} (ys : List Item) → Chain w depth o → finish f k depth o (w ++ ys) ≡ finish f k depth o w ++ ys
unfolding finish less
finish-append f k zero ys c = refl
finish-append f k (suc depth) {w = w} ys (link {g = g} p q c) =
    rw (last-append w ys g p, set-append w ys g (f k - suc g) p)
    (finish-append f (suc k) depth ys (chain-set g (f k - suc g) q c))

finish-none : (f : ℕ → ℕ) (depth o : ℕ) (w : List Item) → depth ≡ 0 → w ≡ finish f 0 depth o w ++ []
unfolding finish
finish-none f zero o w e = sym (append-nil w)
finish-none f (suc depth) o w e = absurd (omega arith)

-- an item that stays as it is: what closes the groups around it leaves it alone
send-finish : (w : List Item) (o depth : ℕ) (x : Item) (s : Script) (rest : List Item) → Chain w depth o
    → finish (λ k. length (w ++ (x ∷ [])) + within k s) 0 depth o (w ++ (x ∷ [])) ++ rest ≡ finish (λ k. length w + suc (within k s)) 0 depth o w ++ (x ∷ rest)
send-finish w o depth x s rest c =
    ap (λ (l : List Item). l ++ rest) (finish-append _ 0 depth (x ∷ []) c)
    ∙ append_assoc (finish (λ k. length (w ++ (x ∷ [])) + within k s) 0 depth o w) (x ∷ []) rest
    ∙ ap (λ (l : List Item). l ++ (x ∷ rest))
    (finish-same (λ k. length (w ++ (x ∷ [])) + within k s) (λ k. length w + suc (within k s)) 0 0 depth o w (λ i. omega (arith, length-append w (x ∷ []))))

-- a group opened: what closes the groups around it closes it too
open-finish : (w : List Item) (o depth p e d y v : ℕ) (s : Script) → Chain w depth o
    → finish (λ k. length (w ++ (group_item p e d y v o ∷ [])) + within k s) 0 (suc depth) (suc (length w)) (w ++ (group_item p e d y v o ∷ []))
    ≡ finish (λ k. length w + suc (within (suc k) s)) 0 depth o w ++ (group_item p e d y v (within 0 s) ∷ [])
unfolding finish less with_last
open-finish w o depth p e d y v s c =
    let x = group_item p e d y v o in
    let z = group_item p e d y v (within 0 s) in
    let size : length (w ++ (x ∷ [])) ≡ length w + 1 = length-append w (x ∷ []) in
    let n : length (w ++ (x ∷ [])) + within 0 s - suc (length w) ≡ within 0 s = omega arith in
    rw (last-seam w x, set-seam w x (length (w ++ (x ∷ [])) + within 0 s - suc (length w)), n)
    (finish-append (λ k. length (w ++ (x ∷ [])) + within k s) 1 depth (z ∷ []) c
    ∙ ap (λ (l : List Item). l ++ (z ∷ []))
    (finish-same (λ k. length (w ++ (x ∷ [])) + within k s) (λ k. length w + suc (within (suc k) s)) 1 0 depth o w (λ i. later i)))
  where
    later : (i : ℕ) → length (w ++ (group_item p e d y v o ∷ [])) + within (1 + i) s ≡ length w + suc (within (suc (0 + i)) s)
    later i =
        let a : 1 + i ≡ suc i = omega arith in
        let b : 0 + i ≡ i = omega arith in
        rw (a, b) (omega (arith, length-append w (group_item p e d y v o ∷ [])))

-- a group closed
close-finish : (w : List Item) (g depth : ℕ) (s : Script)
    → finish (λ k. length (set_last w g (length w - suc g)) + within k s) 0 depth (last_of w g) (set_last w g (length w - suc g))
    ≡ finish (λ k. length w + within k (more close s)) 0 (suc depth) (suc g) w
unfolding finish less within
close-finish w g depth s =
    let v : length w + 0 - suc g ≡ length w - suc g = omega arith in
    rw v (finish-same (λ k. length (set_last w g (length w - suc g)) + within k s) (λ k. length w + within k (more close s)) 0 1 depth (last_of w g) (set_last w g (length w - suc g)) (λ i. later i))
  where
    later : (i : ℕ) → length (set_last w g (length w - suc g)) + within (0 + i) s ≡ length w + within (1 + i) (more close s)
    later i =
        let a : 1 + i ≡ suc i = omega arith in
        let b : 0 + i ≡ i = omega arith in
        rw (a, b) (omega (arith, set-length w g (length w - suc g)))

-- where a text may end no group is open
pub ends-none : (stage : Stage) → may_end stage ≡ true → open_in stage ≡ 0
unfolding may_end open_in
ends-none Start e = refl
ends-none (Listing next) e = refl
ends-none Timed e = refl
ends-none (Playing depth) e = eqb-true depth 0 e

-- nor where an event or a part may stand
pub event-none : {stage : Stage} → BeforeEvent stage → open_in stage ≡ 0
unfolding open_in
event-none behind_list = refl
event-none behind_event = refl
event-none behind_items = refl

pub part_none : {stage : Stage} → BeforePart stage → open_in stage ≡ 0
unfolding open_in
part_none first_part = refl
part_none next_part = refl

run-finish : {stage : Stage} {s : Script} (e p : ℕ) {o : ℕ} {w : List Item} → Balanced stage s → Chain w (open_in stage) o
    → run e p o w s ≡ finish (λ k. length w + within k s) 0 (open_in stage) o w ++ items_of e p (open_in stage) s
unfolding run items_of within less open_in
run-finish {stage} e p {o} {w} (ends m) c = finish-none (λ k. length w + 0) (open_in stage) o w (ends-none stage m)
run-finish e p (heads b) c = run-finish e p b c
run-finish e p (lists b) c = run-finish e p b c
run-finish e p (times m b) c = let z = event-none m in rw z (run-finish (suc e) p b (rw z at c))
run-finish e p (parts {n = q} m b) c = let z = part_none m in rw z (run-finish e q b (rw z at c))
run-finish e p {o} {w} (sends {depth = depth} {d = d} {n = n} {s = s} b) c =
    let x = send_item p (event_of o e) d n in
    run-finish e p b (chain-append (x ∷ []) c)
    ∙ send-finish w o depth x s (items_of e p depth s) c
    ∙ rw (chain-event e c)
run-finish e p {o} {w} (opens {depth = depth} {d = d} {w = y} {v = v} {s = s} b) c =
    let x = group_item p (event_of o e) d y v o in
    run-finish e p b (chain-open x refl c)
    ∙ ap (λ (l : List Item). l ++ items_of e p (suc depth) s) (open-finish w o depth p (event_of o e) d y v s c)
    ∙ append_assoc (finish (λ k. length w + suc (within (suc k) s)) 0 depth o w) (group_item p (event_of o e) d y v (within 0 s) ∷ []) (items_of e p (suc depth) s)
    ∙ rw (chain-event e c)
run-finish e p {o} {w} (closes {depth = depth} {s = s} b) (link {g = g} i q c) =
    let z : suc depth - 1 ≡ depth = omega arith in
    run-finish e p b (chain-set g (length w - suc g) q c)
    ∙ ap (λ (l : List Item). l ++ items_of e p depth s) (close-finish w g depth s)
    ∙ rw z

-- What the machine leaves is the page.
pub run-page : {stage : Stage} {s : Script} (e p : ℕ) → open_in stage ≡ 0 → Balanced stage s → run e p 0 [] s ≡ items_of e p 0 s
unfolding finish
run-page {stage} {s} e p z b =
    let c : Chain [] (open_in stage) 0 = rw z root in
    let r : run e p 0 [] s ≡ finish (λ k. 0 + within k s) 0 (open_in stage) 0 [] ++ items_of e p (open_in stage) s = run-finish e p b c in
    rw z at r
