-- Each way in which a line is read, in the code's own terms: what the calls told decides.
-- Assumes nothing.
use Rattle.std.specs.Prelude.{Option, Some, None, Result, Ok, Err}
use mathlib.Core.Path.{◌≡◌, refl, sym, ◌∙◌}
use mathlib.Core.Bool.{Bool, true, false}
use mathlib.Core.List.{List, [], ◌∷◌}
use Prim.Native.Nat.{ℕ, ◌+◌, ◌<◌, ◌≤◌}
use native.Mathlib.Omega.{arith}
use lib.Dec.{ltb}
use lib.ListN.{length, drop, get_or, drop_of_length-le}
use borrow.Author.Tests.{eq-eqb, ne_eqb, lt-ltb}
use borrow.Author.Rules.{rules}
use Rattle.base.specs.Tests.{pick}
use Rattle.ascii.proofs.WordSteps.{drop-next}
use Rattle.tokens.specs.declared.Token.{Token}
use Rattle.tokens.specs.Bytes.{opening, closing}
use Rattle.tokens.specs.Tokens.{Read, got, stop, onward, is_word, number, label, is_read, bytes_in}
use Rattle.tokens.specs.Beats.{field, beats}
use Rattle.tokens.specs.Asked.{Passes, Reads, sized_from, Sizes}
use Rattle.tokens.proofs.ShorterLaws.{read-got, read-stop, reads-within, reads-small, fault-within, sizes-within, fault-sized}
use Rattle.text.specs.Words.{send_word, group_word, message_field, part_field, any_number}
use Rattle.text.specs.Grammar.{Line, message, named, entry, timed, parted, sent, opened, synchrony_at, error_at, erring, grouped, action, item, closed}
use Rattle.script.specs.declared.Found.TheVariants.{Message, Event, Part, Send, Group, Close}
use Rattle.script.specs.declared.Step.{Step}
use Rattle.script.specs.Steps.{PassesWord, known, line_of, as_line, ends_at, Lines, fits_message, fits_event, fits_part, fits_send, fits_group, fits_close, fits_read, fits_fault}
use Rattle.script.proofs.WordSteps.{send-stands, group-stands, known-some, known-none, synchrony-low, synchrony-stands, error-low, error-stands}

pub fault-lines : (t : List ℕ) (what : Read Line) (at : ℕ) → at ≤ length t → what ≡ stop (drop at t) → Lines t what (Err at)
unfolding as_line ends_at
fault-lines t what at p e = record { says = sym e; within = p; fits = fits_fault }

-- What is told of a token that was read, and of one that was not.
module _ (t : List ℕ) (limit : ℕ) (what : Read ℕ) (v : Result Token ℕ) (told : Reads t limit what v) where
  token-got : (k : Token) → v ≡ Ok k → what ≡ got k.value (drop k.next t)
  token-got k p = sym told.says ∙ read-got t v k p

  token-fault : (line : Read Line) (r : Result Step ℕ) (i : ℕ) → v ≡ Err i → r ≡ Err i → (what ≡ stop (drop i t) → line ≡ stop (drop i t)) → Lines t line r
  token-fault line r i p e f = rw e (fault-lines t line i (fault-within t v limit what told i p) (f (sym told.says ∙ read-stop t v i p)))

-- ---- a label

sized-got : (what : Read (List ℕ)) (n : ℕ) (left : List ℕ) → got n left ≡ sized_from 0 what
    → (onward what (λ l rest. got (message l) rest) ≡ got (message (bytes_in what)) left) × (is_read what ≡ true) × (n ≡ length (bytes_in what))
unfolding sized_from bytes_in is_read onward
sized-got (got l rest) n left e = let z : n ≡ 0 + length l = cc in let y : left ≡ rest = cc in (rw y, refl, omega (arith, z))
sized-got (stop rest) n left e = let z : ◌≡◌ {A = ℕ} 0 1 = cc in absurd (omega arith)

sized-stop : (what : Read (List ℕ)) (left : List ℕ) → stop left ≡ sized_from 0 what → what ≡ stop left
unfolding sized_from
sized-stop (got l rest) left e = let z : ◌≡◌ {A = ℕ} 0 1 = cc in absurd (omega arith)
sized-stop (stop rest) left e = let y : left ≡ rest = cc in rw y

module _ (t : List ℕ) (at : ℕ) (v : Result Token ℕ) (told : Sizes t (label (drop at t)) v) where
  pub named_none : (r : Result Step ℕ) (i : ℕ) → v ≡ Err i → r ≡ Err i → Lines t (named (drop at t)) r
  unfolding named onward
  named_none r i p e =
      let l : label (drop at t) ≡ stop (drop i t) = sized-stop _ _ (sym (read-stop t v i p) ∙ told.says) in
      rw e (fault-lines t _ i (fault-sized t v _ told i p) (rw l))

  pub named-read : (k : Token) → v ≡ Ok k → Lines t (named (drop at t)) (Ok (record { found = Message at k.value; next = k.next }))
  unfolding named as_line ends_at line_of
  named-read k p =
      let l = sized-got _ _ _ (sym (read-got t v k p) ∙ told.says) in
      record { says = sym l.0; within = sizes-within t v _ told k p; fits = fits_read (fits_message l.1 l.2) }

pub ruleset naming = (named_none, named-read, rules)

-- ---- number label

module _ (t : List ℕ) (at next : ℕ) (start : at ≤ length t) (v : Result Token ℕ) (told : Reads t any_number (number any_number (drop at t)) v) where
  pub entry-none : (r : Result Step ℕ) (i : ℕ) → v ≡ Err i → r ≡ Err i → Lines t (entry next (drop at t)) r
  unfolding entry onward
  entry-none r i p e = token-fault t any_number _ v told _ r i p e (λ w. rw w)

  module _ (m : Token) (p : v ≡ Ok m) where
    pub entry-within : m.next ≤ length t
    entry-within = reads-within t v any_number _ told m p

    pub entry_other : (m.value ≡ next → ⊥) → Lines t (entry next (drop at t)) (Err at)
    unfolding entry onward pick
    entry_other n = fault-lines t _ at start (rw (token-got t any_number _ v told m p, ne_eqb m.value next n))

    pub entry_read : (r : Result Step ℕ) (k : ℕ) → m.value ≡ next → Passes t m.next k → Lines t (named (drop k t)) r → Lines t (entry next (drop at t)) r
    unfolding entry onward pick
    entry_read r k n b l = rw (token-got t any_number _ v told m p, eq-eqb m.value next n, b.left) l

pub ruleset entering = (entry-none, entry-within, entry_other, entry_read, rules)

-- ---- behind "event" and "part"

module _ (t : List ℕ) (at : ℕ) (v : Result Token ℕ) where
  module _ (told : Reads t field (beats (drop at t)) v) where
    pub timed-none : (r : Result Step ℕ) (i : ℕ) → v ≡ Err i → r ≡ Err i → Lines t (timed (drop at t)) r
    unfolding timed onward
    timed-none r i p e = token-fault t field _ v told _ r i p e (λ w. rw w)

    pub timed-read : (k : Token) → v ≡ Ok k → Lines t (timed (drop at t)) (Ok (record { found = Event k.value; next = k.next }))
    unfolding timed onward as_line ends_at line_of
    timed-read k p = record { says = rw (token-got t field _ v told k p); within = reads-within t v field _ told k p; fits = fits_read (fits_event (reads-small t v field _ told k p)) }

  module _ (told : Reads t part_field (number part_field (drop at t)) v) where
    pub parted-none : (r : Result Step ℕ) (i : ℕ) → v ≡ Err i → r ≡ Err i → Lines t (parted (drop at t)) r
    unfolding parted onward
    parted-none r i p e = token-fault t part_field _ v told _ r i p e (λ w. rw w)

    pub parted-read : (k : Token) → v ≡ Ok k → Lines t (parted (drop at t)) (Ok (record { found = Part k.value; next = k.next }))
    unfolding parted onward as_line ends_at line_of
    parted-read k p = record { says = rw (token-got t part_field _ v told k p); within = reads-within t v part_field _ told k p; fits = fits_read (fits_part (reads-small t v part_field _ told k p)) }

pub ruleset timing = (timed-none, timed-read, rules)

pub ruleset parting = (parted-none, parted-read, rules)

-- ---- the message behind `send`

module _ (t : List ℕ) (at delay : ℕ) (small : delay < field) (v : Result Token ℕ) (told : Reads t message_field (number message_field (drop at t)) v) where
  pub sent-none : (r : Result Step ℕ) (i : ℕ) → v ≡ Err i → r ≡ Err i → Lines t (sent delay (drop at t)) r
  unfolding sent onward
  sent-none r i p e = token-fault t message_field _ v told _ r i p e (λ w. rw w)

  pub sent-read : (k : Token) → v ≡ Ok k → Lines t (sent delay (drop at t)) (Ok (record { found = Send delay k.value; next = k.next }))
  unfolding sent onward as_line ends_at line_of
  sent-read k p = record { says = rw (token-got t message_field _ v told k p); within = reads-within t v message_field _ told k p; fits = fits_read (fits_send small (reads-small t v message_field _ told k p)) }

pub ruleset sending = (sent-none, sent-read, rules)

-- ---- the brace behind a group's words

module _ (t : List ℕ) (at delay w v : ℕ) (start : at ≤ length t) where
  pub opened-none : length t ≤ at → Lines t (opened delay w v (drop at t)) (Err at)
  unfolding opened
  opened-none p = let z : drop at t ≡ [] = drop_of_length-le t p in fault-lines t _ at start (rw z)

  module _ (p : at < length t) where
    pub opened-other : (get_or t at 0 ≡ opening → ⊥) → Lines t (opened delay w v (drop at t)) (Err at)
    unfolding opened pick
    opened-other n = fault-lines t _ at start (rw (drop-next t at p, ne_eqb (get_or t at 0) opening n))

    pub opened-read : delay < field → w ≤ 1 → v ≤ 3 → get_or t at 0 ≡ opening → Lines t (opened delay w v (drop at t)) (Ok (record { found = Group delay w v; next = at + 1 }))
    unfolding opened as_line ends_at line_of pick
    opened-read a b c n = record { says = rw (drop-next t at p, eq-eqb (get_or t at 0) opening n); within = omega arith; fits = fits_read (fits_group a b c) }

pub ruleset braces = (opened-none, opened-other, opened-read, rules)

-- ---- a group's words

module _ (t : List ℕ) (at delay w : ℕ) (v : Option ℕ) (told : v ≡ known 4 (error_at (drop at t))) where
  pub erring-none : (r : Result Step ℕ) → v ≡ None → Lines t (opened delay w 0 (drop at t)) r → Lines t (erring delay w (drop at t)) r
  unfolding erring pick
  erring-none r p l = let e = known-none 4 (error_at (drop at t)) (sym told ∙ p) in rw e l

  pub erring-read : (r : Result Step ℕ) (k x : ℕ) → v ≡ Some x → PassesWord t at k → Lines t (opened delay w x (drop k t)) r → Lines t (erring delay w (drop at t)) r
  unfolding erring pick
  erring-read r k x p b l =
      let q = known-some 4 (error_at (drop at t)) x (sym told ∙ p) in
      let e : ltb (error_at (drop at t)) 4 ≡ true = rw (← q.0) (lt-ltb x 4 q.1) in
      let m : Lines t (opened delay w (error_at (drop at t)) (drop k t)) r = rw (← q.0) l in
      rw (e, b.left) m

pub ruleset erroring = (error-low, error-stands, erring-none, erring-read, rules)

module _ (t : List ℕ) (at delay : ℕ) (v : Option ℕ) (told : v ≡ known 2 (synchrony_at (drop at t))) where
  pub grouped-none : (r : Result Step ℕ) → v ≡ None → Lines t (erring delay 0 (drop at t)) r → Lines t (grouped delay (drop at t)) r
  unfolding grouped pick
  grouped-none r p l = let e = known-none 2 (synchrony_at (drop at t)) (sym told ∙ p) in rw e l

  pub grouped-read : (r : Result Step ℕ) (k w : ℕ) → v ≡ Some w → PassesWord t at k → Lines t (erring delay w (drop k t)) r → Lines t (grouped delay (drop at t)) r
  unfolding grouped pick
  grouped-read r k w p b l =
      let q = known-some 2 (synchrony_at (drop at t)) w (sym told ∙ p) in
      let e : ltb (synchrony_at (drop at t)) 2 ≡ true = rw (← q.0) (lt-ltb w 2 q.1) in
      let m : Lines t (erring delay (synchrony_at (drop at t)) (drop k t)) r = rw (← q.0) l in
      rw (e, b.left) m

pub ruleset grouping = (synchrony-low, synchrony-stands, grouped-none, grouped-read, rules)

-- ---- what stands behind a delay

module _ (t : List ℕ) (at delay : ℕ) (s : Bool) (told : s ≡ is_word send_word (drop at t)) where
  pub action-send : (r : Result Step ℕ) (k : ℕ) → s ≡ true → PassesWord t at k → Lines t (sent delay (drop k t)) r → Lines t (action delay (drop at t)) r
  unfolding action pick
  action-send r k p b l = let w : is_word send_word (drop at t) ≡ true = sym told ∙ p in rw (w, b.left) l

  module _ (no : s ≡ false) (g : Bool) (asked : g ≡ is_word group_word (drop at t)) where
    pub action-group : (r : Result Step ℕ) (k : ℕ) → g ≡ true → PassesWord t at k → Lines t (grouped delay (drop k t)) r → Lines t (action delay (drop at t)) r
    unfolding action pick
    action-group r k p b l =
        let w : is_word send_word (drop at t) ≡ false = sym told ∙ no in
        let v : is_word group_word (drop at t) ≡ true = sym asked ∙ p in
        rw (w, v, b.left) l

    pub action-none : at ≤ length t → g ≡ false → Lines t (action delay (drop at t)) (Err at)
    unfolding action pick
    action-none start p =
        let w : is_word send_word (drop at t) ≡ false = sym told ∙ no in
        let v : is_word group_word (drop at t) ≡ false = sym asked ∙ p in
        fault-lines t _ at start (rw (w, v))

pub ruleset actions = (send-stands, group-stands, action-send, action-group, action-none, rules)

-- ---- an item

module _ (t : List ℕ) (at : ℕ) (d : Result Token ℕ) (told : Reads t field (beats (drop at t)) d) where
  pub item-none : (r : Result Step ℕ) (i : ℕ) → d ≡ Err i → r ≡ Err i → Lines t (item (drop at t)) r
  unfolding item onward
  item-none r i p e = token-fault t field _ d told _ r i p e (λ w. rw w)

  module _ (m : Token) (p : d ≡ Ok m) where
    pub item-within : m.next ≤ length t
    item-within = reads-within t d field _ told m p

    pub item-small : m.value < field
    item-small = reads-small t d field _ told m p

    pub item-read : (r : Result Step ℕ) (k : ℕ) → Passes t m.next k → Lines t (action m.value (drop k t)) r → Lines t (item (drop at t)) r
    unfolding item onward
    item-read r k b l = rw (token-got t field _ d told m p, b.left) l

pub ruleset iteming = (item-none, item-within, item-small, item-read, rules)

-- ---- the brace that closes a group

module _ (t : List ℕ) (at : ℕ) (start : at ≤ length t) where
  pub closed_none : length t ≤ at → Lines t (closed (drop at t)) (Err at)
  unfolding closed
  closed_none p = let z : drop at t ≡ [] = drop_of_length-le t p in fault-lines t _ at start (rw z)

  module _ (p : at < length t) where
    pub closed-item : (r : Result Step ℕ) → (get_or t at 0 ≡ closing → ⊥) → Lines t (item (drop at t)) r → Lines t (closed (drop at t)) r
    unfolding closed pick
    closed-item r n l =
        let d = drop-next t at p in
        let i : Lines t (item (get_or t at 0 ∷ drop (at + 1) t)) r = rw d at l in
        rw (d, ne_eqb (get_or t at 0) closing n) i

    pub closed-read : get_or t at 0 ≡ closing → Lines t (closed (drop at t)) (Ok (record { found = Close; next = at + 1 }))
    unfolding closed as_line ends_at line_of pick
    closed-read n = record { says = rw (drop-next t at p, eq-eqb (get_or t at 0) closing n); within = omega arith; fits = fits_read fits_close }

pub ruleset closings = (closed_none, closed-item, closed-read, rules)
