-- "Words past 8,192 are never read": a call on any memory does to its first 8,192 words, to the send room and in its reply what it does on these words alone.
-- Each step of a call reads and writes by places below 8,192. Assumes nothing.
use mathlib.Core.Path.{◌≡◌, refl, sym, ap, ◌∙◌}
use mathlib.Core.Bool.{Bool, true, false}
use mathlib.Core.List.{List, [], ◌∷◌}
use Prim.Native.Nat.{ℕ, zero, suc, ◌+◌, ◌-◌, ◌≤◌, ◌<◌}
use native.Mathlib.Omega.{arith}
use lib.Dec.{leb}
use lib.ListN.{length, set, take, length-take}
use lib.Seq.{get_or-take, take-take}
use borrow.Author.Tests.{le-leb, lt-leb, leb-true, leb-false}
use Rattle.base.specs.Tests.{pick}
use Rattle.base.specs.Checks.{Check, fine, refused}
use Rattle.rules.specs.Page.{Cue}
use Rattle.fates.specs.declared.Places.{Places}
use Rattle.fates.specs.Fields.{outcome_word}
use Rattle.evaluators.specs.Performed.{write_all, performed}
use Rattle.evaluators.proofs.FrameLaws.{reading-alike, items_alike}
use Rattle.session.specs.declared.Refusal.{Refusal}
use Rattle.session.specs.Layout.{memory_size, most_sent, mark_at, event_count_at, item_count_at, parts_at, grace_at, page_at, clock_at, tempo_at, last_at, total_at, taken_at, slots_at, outcomes_at, word_at, places_of}
use Rattle.session.specs.Session.{is_session}
use Rattle.sending.specs.Sending.{slot_by, is_open, settled, is_due, message_at, due_from, fired_from, sent_at, fired_at}
use Rattle.sending.proofs.DueLaws.{due-cons, due-over, fired-cons, fired-over}
use Rattle.sequencer.specs.Calls.{took_note, noted, headed, clock_after, SendingResult, sent_now, if_fine, heard_check, heard_note, pass_check, passing_time, report_check, reported}
use Rattle.sequencer.proofs.NoteLaws.{noted-header}
use Rattle.sequencer.proofs.GrantLaws.{hearable, passable}

-- The words that a call reads and writes.
unfoldable pub first : List ℕ → List ℕ
first m = take memory_size m

-- What a call comes to, with the words past them cut off.
unfoldable pub cut : SendingResult → SendingResult
cut r = record { reply = r.reply; memory = first r.memory; room = r.room }

take-set : (n : ℕ) (l : List ℕ) (i a : ℕ) → take n (set l i a) ≡ set (take n l) i a
take-set zero l i a = refl
take-set (suc n) [] i a = refl
take-set (suc n) (x ∷ l) zero a = refl
take-set (suc n) (x ∷ l) (suc i) a = ap (λ (r : List ℕ). x ∷ r) (take-set n l i a)

set_first : (m : List ℕ) (i a : ℕ) → first (set m i a) ≡ set (first m) i a
unfolding first
set_first m i a = take-set memory_size m i a

word_first : (m : List ℕ) (i : ℕ) → i < memory_size → word_at (first m) i ≡ word_at m i
unfolding first
word_first m i h = get_or-take memory_size m i 0 h

read_first : (t : Places) (m : List ℕ) → t.outcomes ≤ memory_size → take t.outcomes (first m) ≡ take t.outcomes m
unfolding first
read_first t m below = take-take t.outcomes memory_size m below

-- ---- the steps of a heard note

took-first : (h n k : ℕ) (m : List ℕ) → first (took_note h n k m) ≡ took_note h n k (first m)
unfolding took_note
took-first h zero k m = refl
took-first h (suc n) k m = took-first h n (k + 1) (set m (taken_at + k) h) ∙ ap (took_note h n (k + 1)) (set_first m (taken_at + k) h)

writes-first : (b : ℕ) (cs : List Cue) (m : List ℕ) → first (write_all b cs m) ≡ write_all b cs (first m)
unfolding write_all
writes-first b [] m = refl
writes-first b (c ∷ cs) m = writes-first b cs _ ∙ ap (write_all b cs) (set_first m (b + c.place) (outcome_word c.outcome))

performed-first : (t : Places) (m : List ℕ) → t.outcomes ≤ memory_size → first (performed t m) ≡ performed t (first m)
unfolding performed
performed-first t m below =
    writes-first t.outcomes _ m ∙ rw (reading-alike t m (first m) (read_first t m below), items_alike t m (first m) (read_first t m below))

open-first : (m : List ℕ) (p : ℕ) → p < 2048 → is_open (first m) p ≡ is_open m p
unfolding is_open
open-first m p f = rw (word_first m (page_at + p) (omega arith), word_first m parts_at (omega arith), word_first m (slots_at + p) (omega arith))

settled-first : (clock n p : ℕ) (m : List ℕ) → p + n ≤ 2048 → first (settled clock n p m) ≡ settled clock n p (first m)
unfolding settled pick
settled-first clock zero p m f = refl
settled-first clock (suc n) p m f = settled-first clock n (p + 1) _ (omega arith) ∙ ap (settled clock n (p + 1)) step
  where
    either : (b : Bool) → first (pick b (set m (slots_at + p) (slot_by clock (word_at m (outcomes_at + p)))) m)
        ≡ pick b (set (first m) (slots_at + p) (slot_by clock (word_at m (outcomes_at + p)))) (first m)
    either true = set_first m (slots_at + p) _
    either false = refl

    step : first (pick (is_open m p) (set m (slots_at + p) (slot_by clock (word_at m (outcomes_at + p)))) m)
        ≡ pick (is_open (first m) p) (set (first m) (slots_at + p) (slot_by clock (word_at (first m) (outcomes_at + p)))) (first m)
    step = rw (open-first m p (omega arith), word_first m (outcomes_at + p) (omega arith)) (either (is_open m p))

noted-first : (h : ℕ) (m : List ℕ) → word_at m item_count_at ≤ 2048 → first (noted h m) ≡ noted h (first m)
unfolding noted
noted-first h m few =
    let m₁ = took_note h (h - word_at m last_at) (word_at m last_at + 1) m in
    settled-first (word_at m clock_at) (word_at m item_count_at) 0 _ (omega arith)
    ∙ ap (settled (word_at m clock_at) (word_at m item_count_at) 0) (performed-first (places_of m₁) m₁ (omega arith))
    ∙ rw (
      word_first m last_at (omega arith),
      word_first m clock_at (omega arith),
      word_first m item_count_at (omega arith),
      ← took-first h (h - word_at m last_at) (word_at m last_at + 1) m,
      word_first m₁ event_count_at (omega arith),
      word_first m₁ item_count_at (omega arith),
      word_first m₁ grace_at (omega arith),
    )

-- ---- what is sent

module _ (clock : ℕ) (m : List ℕ) (p : ℕ) (f : p < 2048) where
  is-due-first : is_due clock (word_at (first m) (slots_at + p)) ≡ is_due clock (word_at m (slots_at + p))
  is-due-first = ap (is_due clock) (word_first m (slots_at + p) (omega arith))

  message-first : message_at (first m) p ≡ message_at m p
  unfolding message_at
  message-first = rw (word_first m (slots_at + p) (omega arith), word_first m (page_at + p) (omega arith))

due-first : (clock r n p : ℕ) (m : List ℕ) → p + n ≤ 2048 → due_from clock r n p (first m) ≡ due_from clock r n p m
unfolding due_from
due-first clock zero n p m f = refl
due-first clock (suc r) zero p m f = refl
due-first clock (suc r) (suc n) p m f =
    go (is_due clock (word_at m (slots_at + p))) refl (due-first clock r n (p + 1) m (omega arith)) (due-first clock (suc r) n (p + 1) m (omega arith))
  where
    same : is_due clock (word_at (first m) (slots_at + p)) ≡ is_due clock (word_at m (slots_at + p))
    same = is-due-first clock m p (omega arith)

    go : (b : Bool) → is_due clock (word_at m (slots_at + p)) ≡ b → due_from clock r n (p + 1) (first m) ≡ due_from clock r n (p + 1) m
        → due_from clock (suc r) n (p + 1) (first m) ≡ due_from clock (suc r) n (p + 1) m → due_from clock (suc r) (suc n) p (first m) ≡ due_from clock (suc r) (suc n) p m
    go true e a b =
        due-cons clock (first m) r n p (same ∙ e) ∙ rw (message-first clock m p (omega arith), a) (sym (due-cons clock m r n p e))
    go false e a b = due-over clock (first m) r n p (same ∙ e) ∙ b ∙ sym (due-over clock m r n p e)

fired-first : (clock r n p : ℕ) (m : List ℕ) → p + n ≤ 2048 → first (fired_from clock r n p m) ≡ fired_from clock r n p (first m)
unfolding fired_from
fired-first clock zero n p m f = refl
fired-first clock (suc r) zero p m f = refl
fired-first clock (suc r) (suc n) p m f =
    go (is_due clock (word_at m (slots_at + p))) refl (fired-first clock r n (p + 1) (set m (slots_at + p) 2) (omega arith)) (fired-first clock (suc r) n (p + 1) m (omega arith))
  where
    same : is_due clock (word_at (first m) (slots_at + p)) ≡ is_due clock (word_at m (slots_at + p))
    same = is-due-first clock m p (omega arith)

    go : (b : Bool) → is_due clock (word_at m (slots_at + p)) ≡ b
        → first (fired_from clock r n (p + 1) (set m (slots_at + p) 2)) ≡ fired_from clock r n (p + 1) (first (set m (slots_at + p) 2))
        → first (fired_from clock (suc r) n (p + 1) m) ≡ fired_from clock (suc r) n (p + 1) (first m)
        → first (fired_from clock (suc r) (suc n) p m) ≡ fired_from clock (suc r) (suc n) p (first m)
    go true e a b =
        ap first (fired-cons clock m r n p e) ∙ a ∙ ap (fired_from clock r n (p + 1)) (set_first m (slots_at + p) 2) ∙ sym (fired-cons clock (first m) r n p (same ∙ e))
    go false e a b = ap first (fired-over clock m r n p e) ∙ b ∙ sym (fired-over clock (first m) r n p (same ∙ e))

headed-first : (clock tempo last total : ℕ) (m : List ℕ) → first (headed clock tempo last total m) ≡ headed clock tempo last total (first m)
unfolding headed
headed-first clock tempo last total m = simp set_first

sent-first : (clock tempo last : ℕ) (m room : List ℕ) → word_at m item_count_at ≤ 2048
    → sent_now clock tempo last (first m) room ≡ cut (sent_now clock tempo last m room)
unfolding sent_now cut sent_at fired_at
sent-first clock tempo last m room few =
    let n = word_at m item_count_at in
    rw (
      headed-first clock tempo last (word_at m total_at + length (sent_at clock m)) (fired_at clock m),
      fired-first clock most_sent n 0 m (omega arith),
      word_first m item_count_at (omega arith),
      word_first m total_at (omega arith),
      due-first clock most_sent n 0 m (omega arith),
    )

-- ---- the checks

long-first : (m : List ℕ) → leb memory_size (length (first m)) ≡ leb memory_size (length m)
unfolding first
long-first m = go (leb memory_size (length m)) refl
  where
    go : (b : Bool) → leb memory_size (length m) ≡ b → leb memory_size (length (first m)) ≡ b
    go true e = let h : memory_size ≤ length m = leb-true _ _ e in le-leb memory_size (length (first m)) (simp length-take (omega arith))
    go false e = let h : length m < memory_size = leb-false _ _ e in lt-leb memory_size (length (first m)) (simp length-take (omega arith))

session-first : (m : List ℕ) → is_session (first m) ≡ is_session m
unfolding is_session
session-first m =
    rw (
      word_first m mark_at (omega arith),
      word_first m event_count_at (omega arith),
      word_first m item_count_at (omega arith),
      word_first m parts_at (omega arith),
      word_first m grace_at (omega arith),
      word_first m clock_at (omega arith),
      word_first m tempo_at (omega arith),
      word_first m last_at (omega arith),
      word_first m total_at (omega arith),
    )

heard-check-first : (m room : List ℕ) (event tempo : ℕ) → heard_check (first m) room event tempo ≡ heard_check m room event tempo
unfolding heard_check
heard-check-first m room event tempo =
    rw (long-first m, session-first m, word_first m event_count_at (omega arith), word_first m last_at (omega arith))

clock-first : (m : List ℕ) (ms : ℕ) → clock_after (first m) ms ≡ clock_after m ms
unfolding clock_after
clock-first m ms = rw (word_first m clock_at (omega arith), word_first m tempo_at (omega arith))

pass-check-first : (m room : List ℕ) (ms : ℕ) → pass_check (first m) room ms ≡ pass_check m room ms
unfolding pass_check
pass-check-first m room ms = rw (long-first m, session-first m, clock-first m ms)

-- ---- the calls, on any memory

cut-either : (c : Check Refusal) (r r' : SendingResult) (m room : List ℕ) → (c ≡ fine → r' ≡ cut r) → if_fine c r' (first m) room ≡ cut (if_fine c r m room)
unfolding if_fine cut
cut-either fine r r' m room e = e refl
cut-either (refused x) r r' m room e = refl

pub heard-first : (m room : List ℕ) (event tempo : ℕ) → heard_note (first m) room event tempo ≡ cut (heard_note m room event tempo)
unfolding heard_note
heard-first m room event tempo =
    rw (heard-check-first m room event tempo, word_first m clock_at (omega arith))
    (cut-either (heard_check m room event tempo) _ _ m room
    (λ e.
    let g = hearable m room event tempo e in
    rw (← noted-first event m g.header.items)
    (sent-first (word_at m clock_at) tempo event (noted event m) room (noted-header m event g.long g.header g.last).items)))

pub pass-first : (m room : List ℕ) (ms : ℕ) → passing_time (first m) room ms ≡ cut (passing_time m room ms)
unfolding passing_time
pass-first m room ms =
    rw (pass-check-first m room ms, clock-first m ms, word_first m tempo_at (omega arith), word_first m last_at (omega arith))
    (cut-either (pass_check m room ms) _ _ m room
    (λ e. sent-first (clock_after m ms) (word_at m tempo_at) (word_at m last_at) m room (passable m room ms e).header.items))

pub report-first : (m : List ℕ) → reported (first m) ≡ reported m
unfolding reported report_check
report-first m =
    rw (long-first m, session-first m, word_first m clock_at (omega arith), word_first m tempo_at (omega arith), word_first m last_at (omega arith), word_first m total_at (omega arith))
