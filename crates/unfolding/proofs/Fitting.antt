-- The numbers of an unfolded score fit their fields: those read from bytes do, a group's count of items and a value's message number are below the limits, and an
-- added label starts and ends within the text. Assumes nothing.
use mathlib.Core.Path.{◌≡◌}
use mathlib.Core.Bool.{Bool, true, false}
use mathlib.Core.List.{List, [], ◌∷◌, ◌++◌}
use Prim.Native.Nat.{ℕ, zero, suc, ◌+◌, ◌<◌, ◌≤◌}
use native.Mathlib.Omega.{arith}
use lib.Dec.{ltb}
use lib.IntN.{ℤ, pos, negsuc}
use lib.ListN.{length, get_or, take, drop, length-append}
use Rattle.page.specs.declared.Item.{Item}
use Rattle.base.specs.Tests.{pick}
use Rattle.base.proofs.TestLaws.{every-head, every_rest, between-high}
use Rattle.ascii.specs.Words.{zero_digit, nine_digit}
use Rattle.ascii.specs.Numbers.{is_digit, all_digits}
use Rattle.ascii.specs.Decimals.{decimal}
use Rattle.ascii.proofs.DecimalLaws.{decimal-digits}
use Rattle.contents.specs.Limits.{event_size, message_size}
use Rattle.contents.specs.Bytes.{u16_at, u32_at, part}
use Rattle.contents.specs.Inner.{Counted}
use Rattle.items.specs.Items.{item_at}
use Rattle.score.specs.Events.{durations_at}
use Rattle.score.proofs.EncodingBytes.{Bytes, empty, byte, bytes-append}
use Rattle.score.proofs.Fielded.{Fitting, FitItems, no_item, fit_item, FitDurations, no_duration, fit_duration}
use Rattle.values.specs.Digits.{minus, digits}
use Rattle.values.specs.Curves.{Point}
use Rattle.extended.specs.Layout.{folded_size}
use Rattle.extended.specs.Folds.{folded_at, folded_from}
use Rattle.extended.specs.Points.{points_after, values_of, all_values}
use Rattle.unfolding.specs.Messages.{Entry, Messages, entries_from, number_of, joined, with_value, with_values, numbers_of}
use Rattle.unfolding.specs.Extended.{extended_of, Numbered, numbered_by, numbered}
use Rattle.unfolding.specs.Unfolded.{Unfolded, end, action, group, pass_item, send_item, passes, sends, inside_of, becomes, within_of, unfolded_to, unfolded, items, group_item, page}
use Rattle.unfolding.specs.Sizes.{Score, score_of, counts_on, within_limits}
use Rattle.unfolding.proofs.LimitLaws.{limits-counted}
use Rattle.unfolding.proofs.MessageLaws.{grown-values, values-append, entries-grow, text-grows, AllNamed, no_number, number, values-named}

-- ---- what is read from bytes

pub data FitEntries : List Entry → Type 0 where
  without_entry : FitEntries []
  fit_entry : {e : Entry} {es : List Entry} → e.start < 65536 → e.size < 65536 → FitEntries es → FitEntries (e ∷ es)

module _ (f : List ℕ) (bytes : (i : ℕ) → get_or f i 0 < 256) where
  u16-small : (at : ℕ) → u16_at f at < 65536
  unfolding u16_at
  u16-small at = omega (arith, bytes at, bytes (at + 1))

  u32-small : (at : ℕ) → u32_at f at < 4294967296
  unfolding u32_at
  u32-small at = omega (arith, u16-small at, u16-small (at + 2))

  item-fits : (at : ℕ) → Fitting (item_at f at)
  unfolding item_at
  item-fits at =
      record {
        kind = bytes at;
        synchrony = bytes (at + 1);
        error = bytes (at + 2);
        part = bytes (at + 3);
        delay = u32-small (at + 4);
        event = u16-small (at + 8);
        last = u16-small (at + 10);
      }

  durations-fit : (at n : ℕ) → FitDurations (durations_at f at n)
  unfolding durations_at
  durations-fit at zero = no_duration
  durations-fit at (suc n) = fit_duration (u32-small at) (durations-fit (at + event_size) n)

  entries_fit : (at n : ℕ) → FitEntries (entries_from f at n)
  unfolding entries_from
  entries_fit at zero = without_entry
  entries_fit at (suc n) = fit_entry (u16-small at) (u16-small (at + 2)) (entries_fit (at + message_size) n)

bytes-from : (l : List ℕ) → ((i : ℕ) → get_or l i 0 < 256) → Bytes l
bytes-from [] h = empty
bytes-from (b ∷ l) h = byte (h 0) (bytes-from l (λ i. h (suc i)))

bytes_take : (n : ℕ) {l : List ℕ} → Bytes l → Bytes (take n l)
bytes_take zero h = empty
bytes_take (suc n) empty = empty
bytes_take (suc n) (byte p h) = byte p (bytes_take n h)

bytes_drop : (n : ℕ) {l : List ℕ} → Bytes l → Bytes (drop n l)
bytes_drop zero h = h
bytes_drop (suc n) empty = empty
bytes_drop (suc n) (byte p h) = bytes_drop n h

part_bytes : (f : List ℕ) → ((i : ℕ) → get_or f i 0 < 256) → (at n : ℕ) → Bytes (part f at n)
unfolding part
part_bytes f h at n = bytes_take n (bytes_drop at (bytes-from f h))

-- ---- the messages with the values

all-bytes : (l : List ℕ) → all_digits l ≡ true → Bytes l
unfolding all_digits is_digit
all-bytes [] e = empty
all-bytes (b ∷ l) e = byte {b = b} (omega (arith, between-high zero_digit nine_digit b (every-head _ _ e))) (all-bytes l (every-head _ _ (every_rest _ _ e)))

digits-bytes : (v : ℤ) → Bytes (digits v)
unfolding digits
digits-bytes (pos n) = all-bytes (decimal n) (decimal-digits n)
digits-bytes (negsuc n) = byte {b = minus} (omega arith) (all-bytes (decimal (suc n)) (decimal-digits (suc n)))

entries-append : {es gs : List Entry} → FitEntries es → FitEntries gs → FitEntries (es ++ gs)
entries-append without_entry h = h
entries-append (fit_entry p q r) h = fit_entry p q (entries-append r h)

value-bytes : (m : Messages) (v : ℤ) → Bytes m.text → Bytes (with_value m v).text
unfolding with_value joined pick
value-bytes m v h = go (ltb (number_of m v) (length m.entries))
  where
    go : (b : Bool) → Bytes (pick b m (joined m (digits v))).text
    go true = h
    go false = bytes-append h (digits-bytes v)

values-bytes : (m : Messages) (vs : List ℤ) → Bytes m.text → Bytes (with_values m vs).text
unfolding with_values
values-bytes m [] h = h
values-bytes m (v ∷ vs) h = values-bytes (with_value m v) vs (value-bytes m v h)

value-entries : (m : Messages) (v : ℤ) → FitEntries m.entries → length (with_value m v).text < 65536 → FitEntries (with_value m v).entries
unfolding with_value joined pick
value-entries m v h = go (ltb (number_of m v) (length m.entries))
  where
    go : (b : Bool) → length (pick b m (joined m (digits v))).text < 65536 → FitEntries (pick b m (joined m (digits v))).entries
    go true l = h
    go false l = let n = length-append m.text (digits v) in entries-append h (fit_entry (omega arith) (omega arith) without_entry)

values-entries : (m : Messages) (vs : List ℤ) → FitEntries m.entries → length (with_values m vs).text < 65536 → FitEntries (with_values m vs).entries
unfolding with_values
values-entries m [] h l = h
values-entries m (v ∷ vs) h l =
    let next = with_value m v in
    values-entries next vs (value-entries m v h (omega (arith, text-grows next (with_values next vs) (grown-values next vs)))) l

-- ---- the items with their numbers

pub data FitNumbers : List ℕ → Type 0 where
  no_value : FitNumbers []
  fit_value : {n : ℕ} {ns : List ℕ} → n < 65536 → FitNumbers ns → FitNumbers (n ∷ ns)

pub record FitNumbered (x : Numbered) : Type 0 where
  pub item : Fitting x.item
  pub each : x.each < 4294967296
  pub numbers : FitNumbers x.numbers

pub data AllFit : List Numbered → Type 0 where
  none_fits : AllFit []
  one_fits : {x : Numbered} {xs : List Numbered} → FitNumbered x → AllFit xs → AllFit (x ∷ xs)

named-fit : (m : Messages) {vs : List ℤ} {ns : List ℕ} → AllNamed m vs ns → length m.entries < 65536 → FitNumbers ns
named-fit m no_number l = no_value
named-fit m (number {n = n} h r) l = fit_value {n = n} (omega (arith, h.below)) (named-fit m r l)

module _ (f : List ℕ) (bytes : (i : ℕ) → get_or f i 0 < 256) where
  folded_fits : (at : ℕ) (ns : List ℕ) → FitNumbers ns → FitNumbered (numbered_by (folded_at f at) ns)
  unfolding numbered_by folded_at
  folded_fits at ns h = record { item = item-fits f bytes at; each = u32-small f bytes (at + 12); numbers = h }

  numbered-fit : (at n : ℕ) (ps : List Point) (m : Messages) → length (with_values m (all_values (folded_from f at n) ps)).entries < 65536 →
      AllFit (numbered (folded_from f at n) ps m)
  unfolding folded_from numbered all_values
  numbered-fit at zero ps m l = none_fits
  numbered-fit at (suc n) ps m l =
      let i = folded_at f at in
      let vs = values_of i ps in
      let next = with_values m vs in
      let after = all_values (folded_from f (at + folded_size) n) (points_after i ps) in
      let e : with_values m (vs ++ after) ≡ with_values next after = values-append m vs after in
      let k : length (with_values next after).entries < 65536 = rw e at l in
      let g : length next.entries ≤ length (with_values next after).entries = entries-grow next (with_values next after) (grown-values next after) in
      one_fits (folded_fits at (numbers_of m vs) (named-fit next (values-named m vs) (omega arith))) (numbered-fit (at + folded_size) n (points_after i ps) next k)

-- ---- what they become

pub data Fits : Unfolded → Type 0 where
  end_fits : Fits end
  action_fits : {i : Item} {rest : Unfolded} → Fitting i → Fits rest → Fits (action i rest)
  group_fits : {i : Item} {body rest : Unfolded} → Fitting i → Fits body → Fits rest → Fits (group i body rest)

module _ (i : Item) (h : Fitting i) where
  pass_fits : (d : ℕ) → d < 4294967296 → Fitting (pass_item i d)
  unfolding pass_item
  pass_fits d l =
      record { kind = omega arith; synchrony = h.synchrony; error = h.error; part = h.part; delay = l; event = omega arith; last = omega arith }

  send-fits : (d n : ℕ) → d < 4294967296 → n < 65536 → Fitting (send_item i d n)
  unfolding send_item
  send-fits d n l k =
      record { kind = omega arith; synchrony = omega arith; error = omega arith; part = h.part; delay = l; event = omega arith; last = k }

  group_item-fits : (n : ℕ) → n < 65536 → Fitting (group_item i n)
  unfolding group_item
  group_item-fits n l =
      record { kind = omega arith; synchrony = h.synchrony; error = h.error; part = h.part; delay = h.delay; event = h.event; last = l }

  passes-fit : (period d n : ℕ) {body : Unfolded} → period < 4294967296 → d < 4294967296 → Fits body → Fits (passes i period d n body)
  unfolding passes
  passes-fit period d zero p q b = end_fits
  passes-fit period d (suc n) p q b = group_fits (pass_fits d q) b (passes-fit period period n p p b)

  sends-fit : (step d : ℕ) {ns : List ℕ} → step < 4294967296 → d < 4294967296 → FitNumbers ns → Fits (sends i step d ns)
  unfolding sends
  sends-fit step d p q no_value = end_fits
  sends-fit step d p q (fit_value {n = n} l r) = action_fits (send-fits d n q l) (sends-fit step step p p r)

pick-fits : (b : Bool) {u v : Unfolded} → Fits u → Fits v → Fits (pick b u v)
unfolding pick
pick-fits true h k = h
pick-fits false h k = k

becomes-fits : (x : Numbered) {body rest : Unfolded} → FitNumbered x → Fits body → Fits rest → Fits (becomes x body rest)
unfolding becomes inside_of
becomes-fits x h b r =
    pick-fits _ (action_fits h.item r)
    (group_fits h.item
    (pick-fits _ b (pick-fits _ (passes-fit x.item h.item x.each 0 x.times h.each (omega arith) b) (sends-fit x.item h.item x.each 0 h.each (omega arith) h.numbers)))
    r)

fit-take : (n : ℕ) {xs : List Numbered} → AllFit xs → AllFit (take n xs)
fit-take zero h = none_fits
fit-take (suc n) none_fits = none_fits
fit-take (suc n) (one_fits p h) = one_fits p (fit-take n h)

fit-drop : (n : ℕ) {xs : List Numbered} → AllFit xs → AllFit (drop n xs)
fit-drop zero h = h
fit-drop (suc n) none_fits = none_fits
fit-drop (suc n) (one_fits p h) = fit-drop n h

unfolded_to-fits : (n : ℕ) {xs : List Numbered} → AllFit xs → Fits (unfolded_to n xs)
unfolding unfolded_to
unfolded_to-fits zero h = end_fits
unfolded_to-fits (suc n) none_fits = end_fits
unfolded_to-fits (suc n) (one_fits {x = x} p h) = becomes-fits x p (unfolded_to-fits n (fit-take (within_of x) h)) (unfolded_to-fits n (fit-drop (within_of x) h))

unfolded-fits : {xs : List Numbered} → AllFit xs → Fits (unfolded xs)
unfolding unfolded
unfolded-fits {xs} h = unfolded_to-fits (length xs) h

items-append : {is js : List Item} → FitItems is → FitItems js → FitItems (is ++ js)
items-append no_item h = h
items-append (fit_item p r) h = fit_item p (items-append r h)

page-fits : {u : Unfolded} → Fits u → items u < 65536 → FitItems (page u)
unfolding page items
page-fits end_fits l = no_item
page-fits (action_fits h r) l = fit_item h (page-fits r (omega arith))
page-fits (group_fits {i = i} {body = body} h b r) l =
    fit_item (group_item-fits i h (items body) (omega arith)) (items-append (page-fits b (omega arith)) (page-fits r (omega arith)))

-- ---- the whole score

-- Right counts, and every number fits its field: nothing of such a score is lost in its file.
pub record Fit (s : Score) : Type 0 where
  pub counted : Counted (counts_on s)
  pub durations : FitDurations s.durations
  pub items : FitItems (page s.items)
  pub entries : FitEntries s.messages.entries
  pub text : Bytes s.messages.text

-- An extended file of bytes whose unfolded score is within the limits unfolds to a score whose numbers fit.
pub score-fits : (f : List ℕ) → ((i : ℕ) → get_or f i 0 < 256) → within_limits (score_of (extended_of f)) ≡ true → Fit (score_of (extended_of f))
unfolding score_of extended_of counts_on
score-fits f bytes e =
    let c = limits-counted (score_of (extended_of f)) e in
    record {
      counted = c;
      durations = durations-fit f bytes _ _;
      items = page-fits (unfolded-fits (numbered-fit f bytes _ _ _ _ (omega (arith, c.messages)))) (omega (arith, c.items));
      entries = values-entries _ _ (entries_fit f bytes _ _) (omega (arith, c.text));
      text = values-bytes _ _ (part_bytes f bytes _ _);
    }
