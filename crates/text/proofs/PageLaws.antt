-- The items that a page can say, top items by event: a right table's are such, and their lines may stand one behind the other and say these durations and items.
-- By recursion over the page, an event or a top item at a time. Assumes nothing.
use mathlib.Core.Path.{◌≡◌, refl, sym, ap, ◌∙◌}
use mathlib.Core.Bool.{Bool, true, false}
use mathlib.Core.List.{List, [], ◌∷◌, ◌++◌, append-nil}
use Prim.Native.Nat.{ℕ, zero, suc, ◌+◌, ◌<◌, ◌≤◌}
use native.Mathlib.Omega.{arith}
use lib.ListN.{length, get_or, length-append}
use lib.Seq.{take-append_seam, drop-append_seam}
use lib.Dec.{ltb, eqb}
use borrow.Author.Tests.{eq-eqb, ne_eqb, eqb-true, eqb-false, ltb-true, ltb-false}
use Rattle.base.specs.Tests.{pick}
use Rattle.contents.specs.declared.Counts.{Counts}
use Rattle.tokens.specs.Bytes.{is_plain, All, one}
use Rattle.tokens.specs.Beats.{field}
use Rattle.page.specs.declared.Item.{Item}
use Rattle.items.specs.declared.Setting.{Setting}
use Rattle.items.specs.Items.{is_action, within_of, next, inside, in_order}
use Rattle.items.proofs.Walked.{Right, Walked, walked_none, walked_item}
use Rattle.text.specs.declared.Stage.{Stage}
use Rattle.text.specs.declared.Stage.TheVariants.{Listing, Timed, Playing}
use Rattle.text.specs.Words.{message_field, part_field}
use Rattle.text.specs.Grammar.{Line, event, part, after}
use Rattle.text.specs.Said.{labels_of, durations_of, event_of, items_of}
use Rattle.text.specs.Written.{Spot, item_lines, top_lines, part_line, later_events, page_lines}
use Rattle.text.proofs.LineLaws.{Outside, in_list, in_event, in_part, no_part, other_part, may_time, may_part}
use Rattle.text.proofs.TextLaws.{script_of, Nested, ends, goes}
use Rattle.text.proofs.BodyLaws.{Fits, Body, body_none, body_action, body_group, body-nested, body-labels, body-durations, body-items}

-- "A top item names its event." "Top items stand by event": from event e on, up to the last.
pub data Page (ls : List (List ℕ)) (last : ℕ) : (e : ℕ) → List Item → Type 0 where
  page_none : {e : ℕ} → Page ls last e []
  page_item : {e : ℕ} {i : Item} {b l : List Item} → Body ls i.part i.event (i ∷ b) → length b ≡ within_of i → i.part < part_field → 1 ≤ i.event → e ≤ i.event → i.event ≤ last
      → Page ls last i.event l → Page ls last e (i ∷ (b ++ l))

-- ---- the lines of the page, one top item or event at a time

module _ (x e st : ℕ) (ds : List ℕ) where
  page-here : (i : Item) (b l : List Item) → i.event ≡ e → length b ≡ within_of i
      → page_lines (suc x) e st ds (i ∷ (b ++ l)) ≡ part_line st i.part ++ (item_lines (suc (length b)) (i ∷ b) ++ page_lines x e (suc i.part) ds l)
  unfolding page_lines top_lines pick
  page-here i b l q w = rw (eq-eqb i.event e q, ← w, take-append_seam b l, drop-append_seam b l)

  page-later : (d : ℕ) (i : Item) (is : List Item) → (i.event ≡ e → ⊥) → page_lines (suc x) e st (d ∷ ds) (i ∷ is) ≡ event d ∷ page_lines x (suc e) 0 ds (i ∷ is)
  unfolding page_lines later_events pick
  page-later d i is q = rw (ne_eqb i.event e q)

  page-over : (d : ℕ) → page_lines (suc x) e st (d ∷ ds) [] ≡ event d ∷ page_lines x (suc e) 0 ds []
  unfolding page_lines later_events
  page-over d = refl

page_end : (x e st : ℕ) → page_lines (suc x) e st [] [] ≡ []
unfolding page_lines later_events
page_end x e st = refl

-- ---- the part that stands, and what may stand next

-- The part that stands is the one of the last top item, if there was one since the event.
abbrev Stands : (st p : ℕ) → Type 0
Stands st p = (q : ℕ) → st ≡ suc q → p ≡ q

-- Before the first event; behind an event; behind a part's items.
pub data Stays : (e st : ℕ) → Stage → Type 0 where
  before_events : {n : ℕ} → Stays 0 0 (Listing n)
  at_event : {e : ℕ} → Stays e 0 Timed
  at_part : {e q : ℕ} → Stays e (suc q) (Playing 0)

stays-outside : {e st : ℕ} {stage : Stage} → Stays e st stage → Outside stage
stays-outside before_events = in_list
stays-outside at_event = in_event
stays-outside at_part = in_part

part-nested : (ls : List (List ℕ)) {e st : ℕ} {stage : Stage} (q : ℕ) {rest : List Line} → Stays e st stage → 1 ≤ e → q < part_field → ((s : Spot) → Nested ls (Playing 0) s rest)
    → (s : Spot) → Nested ls stage s (part_line st q ++ rest)
unfolding part_line pick after
part-nested ls q before_events p f w s = absurd (omega arith)
part-nested ls q at_event p f w s = rw (ne_eqb 0 (suc q) (λ z. omega arith)) (goes (may_part no_part f) (w _))
part-nested ls q {rest} (at_part {q = r}) p f w s = go (eqb (suc r) (suc q)) where
  go : (t : Bool) → Nested ls (Playing 0) s (pick t [] (part q ∷ []) ++ rest)
  go true = w s
  go false = goes (may_part other_part f) (w _)

part-items : (e p st q : ℕ) (rest : List Line) → Stands st p → items_of e p 0 (script_of (part_line st q ++ rest)) ≡ items_of e q 0 (script_of rest)
unfolding part_line pick items_of script_of
part-items e p st q rest w = go (eqb st (suc q)) refl where
  go : (t : Bool) → eqb st (suc q) ≡ t → items_of e p 0 (script_of (pick t [] (part q ∷ []) ++ rest)) ≡ items_of e q 0 (script_of rest)
  go true h = rw (w q (eqb-true st (suc q) h))
  go false h = refl

part-durations : (st q : ℕ) (rest : List Line) → durations_of (script_of (part_line st q ++ rest)) ≡ durations_of (script_of rest)
unfolding part_line pick durations_of script_of
part-durations st q rest = go (eqb st (suc q)) where
  go : (t : Bool) → durations_of (script_of (pick t [] (part q ∷ []) ++ rest)) ≡ durations_of (script_of rest)
  go true = refl
  go false = refl

part-labels : (st q : ℕ) (rest : List Line) → labels_of (script_of (part_line st q ++ rest)) ≡ labels_of (script_of rest)
unfolding part_line pick labels_of script_of
part-labels st q rest = go (eqb st (suc q)) where
  go : (t : Bool) → labels_of (script_of (pick t [] (part q ∷ []) ++ rest)) ≡ labels_of (script_of rest)
  go true = refl
  go false = refl

-- ---- what the lines of a page say

-- These lines, behind event e and with this part standing, may stand there and say these durations and items, and no label.
pub record Says (ls : List (List ℕ)) (e st : ℕ) (ds : List ℕ) (is : List Item) (hs : List Line) : Type 0 where
  pub nested : (stage : Stage) → Stays e st stage → (s : Spot) → Nested ls stage s hs
  pub items : (p : ℕ) → Stands st p → items_of e p 0 (script_of hs) ≡ is
  pub durations : durations_of (script_of hs) ≡ ds
  pub labels : labels_of (script_of hs) ≡ []

says-end : (ls : List (List ℕ)) (e st : ℕ) → Says ls e st [] [] []
unfolding items_of durations_of labels_of script_of
says-end ls e st = record { nested = λ stage w s. ends (stays-outside w); items = λ p w. refl; durations = refl; labels = refl }

says-event : (ls : List (List ℕ)) (e st d : ℕ) (ds : List ℕ) (is : List Item) (hs : List Line) → d < field → Says ls (suc e) 0 ds is hs → Says ls e st (d ∷ ds) is (event d ∷ hs)
unfolding items_of durations_of labels_of script_of after
says-event ls e st d ds is hs f r =
    record {
      nested = λ stage w s. goes (may_time (stays-outside w) f) (r.nested Timed at_event _);
      items = λ p w. r.items p (λ q z. absurd (omega arith));
      durations = ap (λ (l : List ℕ). d ∷ l) r.durations;
      labels = r.labels;
    }

top_event : (e : ℕ) → e ≡ event_of 0 e
unfolding event_of
top_event e = refl

says-item : (ls : List (List ℕ)) (e st q : ℕ) (ds : List ℕ) (i : Item) (b l : List Item) (hs : List Line) → q < part_field → 1 ≤ e → i.event ≡ e → Body ls q i.event (i ∷ b)
    → Says ls e (suc q) ds l hs
    → Says ls e st ds (i ∷ (b ++ l)) (part_line st q ++ (item_lines (suc (length b)) (i ∷ b) ++ hs))
says-item ls e st q ds i b l hs f p same t r =
    let all : length (i ∷ b) ≤ suc (length b) = omega arith in
    record {
      nested = λ stage w s. part-nested ls q w p f (body-nested ls (suc (length b)) t all (r.nested (Playing 0) at_part)) s;
      items =
          λ p w.
          part-items e p st q _ w
          ∙ body-items ls (suc (length b)) e 0 hs t (same ∙ top_event e) all
          ∙ ap (λ (js : List Item). i ∷ (b ++ js)) (r.items q (λ k z. omega arith));
      durations = part-durations st q _ ∙ body-durations ls (suc (length b)) hs t all ∙ r.durations;
      labels = part-labels st q _ ∙ body-labels ls (suc (length b)) hs t all ∙ r.labels;
    }

-- ---- a page of so many events

abbrev pub in_field : ℕ → Bool
in_field d = ltb d field

page-event : {ls : List (List ℕ)} {last e : ℕ} {i : Item} {is : List Item} → Page ls last e (i ∷ is) → e ≤ i.event
page-event (page_item t n f s u v y) = u

page-last : {ls : List (List ℕ)} {last e : ℕ} {i : Item} {is : List Item} → Page ls last e (i ∷ is) → i.event ≤ last
page-last (page_item t n f s u v y) = v

page-next : {ls : List (List ℕ)} {last e : ℕ} {i : Item} {is : List Item} → Page ls last e (i ∷ is) → e < i.event → Page ls last (suc e) (i ∷ is)
page-next (page_item t n f s u v y) p = page_item t n f s p v y

module _ (ls : List (List ℕ)) (last x : ℕ)
    (rec : (e st : ℕ) (ds : List ℕ) (is : List Item) → Page ls last e is → All in_field ds → last ≡ e + length ds → length ds + length is < x → Says ls e st ds is (page_lines x e st ds is)) where
  page-elsewhere : (e st : ℕ) (ds : List ℕ) (i : Item) (is : List Item) → (i.event ≡ e → ⊥) → Page ls last e (i ∷ is) → All in_field ds → last ≡ e + length ds → length ds + length (i ∷ is) < suc x
      → Says ls e st ds (i ∷ is) (page_lines (suc x) e st ds (i ∷ is))
  page-elsewhere e st [] i is n y a k q =
      let u = page-event y in
      let v = page-last y in
      absurd (n (omega arith))
  page-elsewhere e st (d ∷ ds) i is n y (one f a) k q =
      let u = page-event y in
      let later : e < i.event = above (ltb e i.event) refl in
      rw (page-later x e st ds d i is n) (says-event ls e st d ds (i ∷ is) _ (ltb-true d field f) (rec (suc e) 0 ds (i ∷ is) (page-next y later) a (omega arith) (omega arith)))
    where
      above : (t : Bool) → ltb e i.event ≡ t → e < i.event
      above true h = ltb-true e i.event h
      above false h = absurd (n (omega (arith, ltb-false e i.event h, page-event y)))

  page-step : (e st : ℕ) (ds : List ℕ) (is : List Item) → Page ls last e is → All in_field ds → last ≡ e + length ds → length ds + length is < suc x → Says ls e st ds is (page_lines (suc x) e st ds is)
  page-step e st [] [] page_none a k q = rw (page_end x e st) (says-end ls e st)
  page-step e st (d ∷ ds) [] page_none (one f a) k q =
      rw (page-over x e st ds d) (says-event ls e st d ds [] _ (ltb-true d field f) (rec (suc e) 0 ds [] page_none a (omega arith) (omega arith)))
  page-step e st ds is (page_item {i = i} {b = b} {l = l} t n f s u v y) a k q = go (eqb i.event e) refl where
    go : (z : Bool) → eqb i.event e ≡ z → Says ls e st ds (i ∷ (b ++ l)) (page_lines (suc x) e st ds (i ∷ (b ++ l)))
    go true h =
        let same : i.event ≡ e = eqb-true _ _ h in
        let rest : Page ls last e l = rw same at y in
        rw (page-here x e st ds i b l same n)
        (says-item ls e st i.part ds i b l _ f (omega arith) same t (rec e (suc i.part) ds l rest a k (omega (arith, length-append b l))))
    go false h = page-elsewhere e st ds i (b ++ l) (eqb-false _ _ h) (page_item t n f s u v y) a k q

pub page-says : (ls : List (List ℕ)) (last x e st : ℕ) (ds : List ℕ) (is : List Item) → Page ls last e is → All in_field ds → last ≡ e + length ds → length ds + length is < x
    → Says ls e st ds is (page_lines x e st ds is)
page-says ls last zero e st ds is y a k q = absurd (omega arith)
page-says ls last (suc x) e st ds is y a k q = page-step ls last x (page-says ls last x) e st ds is y a k q

-- ---- a right table's items are such

one-kind : (k : ℕ) → k ≤ 1 → (k ≡ 0 → ⊥) → k ≡ 1
one-kind zero le n = absurd (n refl)
one-kind (suc k) le n = omega arith

none_left : (b : List Item) → length b ≡ 0 → b ≡ []
none_left [] e = refl
none_left (i ∷ b) e = absurd (omega arith)

order-later : (h : Setting) (i : Item) → in_order h i ≡ true → h.event ≤ i.event
unfolding in_order pick
order-later h i o = go (eqb i.event h.event) refl where
  go : (t : Bool) → eqb i.event h.event ≡ t → h.event ≤ i.event
  go true z = omega (arith, eqb-true i.event h.event z)
  go false z = let later : ltb h.event i.event ≡ true = rw z at o in omega (arith, ltb-true h.event i.event later)

module _ (ls : List (List ℕ)) (plain : (n : ℕ) → All is_plain (get_or ls n [])) (c : Counts) (few : c.messages ≤ message_field) where
  -- One item with those within it, before others.
  body-right : {h : Setting} {left n p ev : ℕ} {i : Item} {b l : List Item} → Right i c h left n → i.part ≡ p → i.event ≡ ev → length b ≡ within_of i → Body ls p 0 b → Body ls p ev l
      → Body ls p ev (i ∷ (b ++ l))
  unfolding within_of pick
  body-right {p = p} {ev = ev} {i = i} {b = b} {l = l} r ep ee size t u = go (is_action i) refl where
    fits : Fits p ev i
    fits = record { delay = omega (arith, r.delay); part = ep; event = ee }

    go : (z : Bool) → is_action i ≡ z → Body ls p ev (i ∷ (b ++ l))
    go true z =
        let w = r.no_words z in
        let e : b ≡ [] = none_left b (rw z at size) in
        rw e (body_action fits (record { kind = eqb-true _ _ z; synchrony = w.0; error = w.1; number = omega (arith, r.number z); label = plain i.last }) u)
    go false z =
        let k : i.kind ≡ 0 → ⊥ = eqb-false _ _ z in
        body_group fits (record { kind = one-kind i.kind r.kind k; synchrony = r.synchrony; error = r.error; last = sym (rw z at size) }) t u

  body-walked : {h : Setting} {n m p : ℕ} {is : List Item} → Walked c h n is m → 1 < h.depth → h.part ≡ p → Body ls p 0 is
  unfolding next inside
  body-walked walked_none d e = body_none
  body-walked {h} (walked_item {i = i} r size b l) d e =
      let ip = r.inner_part d ∙ e in
      body-right r ip (r.inner_event d) size (body-walked b (omega arith) ip) (body-walked l d ip)

  pub page-walked : {h : Setting} {n m e : ℕ} {is : List Item} → Walked c h n is m → h.depth ≡ 1 → h.event ≡ e → Page ls c.events e is
  unfolding next inside
  page-walked walked_none d e = page_none
  page-walked {h} {e = ev} (walked_item {i = i} {b = b} r size t u) d e =
      let whole : Body ls i.part i.event (i ∷ b) = rw append-nil at (body-right r refl refl size (body-walked t (omega arith) refl) body_none) in
      let later : ev ≤ i.event = omega (arith, order-later h i (r.order d)) in
      page_item whole size (omega (arith, r.part)) (r.top_event d) later r.event (page-walked u d refl)
