-- Each message once: what the calls of a run send, all together, is what has come due by the end, each as often as the page has it. By one call more: what had
-- come due before it, and what it sends, is what has come due after it.
-- Assumes nothing.
use mathlib.Core.Path.{◌≡◌, refl, ap, sym, ◌∙◌}
use Prim.Native.Nat.{ℕ, suc, ◌+◌, ◌*◌, ◌≤◌}
use mathlib.Core.Bool.{Bool, true, false}
use mathlib.Core.List.{List, [], ◌∷◌, ◌++◌}
use native.Mathlib.Omega.{arith}
use native.Mathlib.Nat.{le_refl}
use lib.Dec.{eqb}
use lib.ListN.{length}
use borrow.Author.Tests.{leb-true, le-leb, eqb-true, ne_eqb}
use Rattle.page.specs.declared.Item.{Item}
use Rattle.base.specs.Tests.{pick}
use Rattle.rules.specs.Terms.{Terms}
use Rattle.rules.specs.Rules.{reading_of, Outcome, played, dropped, undecided}
use Rattle.rules.specs.Page.{Entry, entries, Cue, cues}
use Rattle.rules.specs.Parts.{sounding_entries}
use Rattle.session.specs.declared.Refusal.{Refusal}
use Rattle.base.specs.Checks.{Check, fine, refused}
use Rattle.demands.specs.History.{Call, note, pass, report, look_up, Hearing, Now, start, heard_events, verdict, moved, kept, after}
use Rattle.demands.specs.Messages.{When, never, since, when_heard, reached, Sent, first_time, sends, firsts, sent_between}
use Rattle.demands.specs.Answers.{messages_of, if_granted, messages_by}
use Rattle.demands.specs.Demands.{after_all, sent_by, joined, tally, at_place}
use Rattle.demands.proofs.Ordered.{tally-order}
use Rattle.demands.proofs.Paged.{Past, none, one, Paged, empty, link}
use Rattle.demands.proofs.Reached.{sounding-paged}
use Rattle.demands.proofs.Outcomes.{heard-one-more, Becomes, holds, lost, waits, falls, begins, AllBecome, pass-becomes, note-becomes, UpToLast, start-up-to-last, granted-fits, below-note, after-up-to-last}
use Rattle.demands.proofs.Outcomes

-- What the clock has reached stays reached.
reached-on : (w : When) (d c e : ℕ) → c ≤ e → reached w d c ≡ true → reached w d e ≡ true
unfolding reached
reached-on never d c e l p = p
reached-on (since k) d c e l p = le-leb (k + 1000 * d) e (omega (arith, leb-true (k + 1000 * d) c p))

-- ---- the tallies: x had come due before, y is sent, z has come due

module _ (t : Sent → Bool) where
  bump-left : (b : Bool) (x y z : ℕ) → x + y ≡ z → pick b (suc x) x + y ≡ pick b (suc z) z
  unfolding pick
  bump-left true x y z e = omega arith
  bump-left false x y z e = e

  bump-right : (b : Bool) (x y z : ℕ) → x + y ≡ z → x + pick b (suc y) y ≡ pick b (suc z) z
  unfolding pick
  bump-right true x y z e = omega arith
  bump-right false x y z e = e

  two-firsts : (b n : Bool) (m : Sent) (x y z : List Sent) → (b ≡ true → n ≡ true) → tally t x + tally t y ≡ tally t z
      → tally t (first_time false b m x) + tally t (first_time b n m y) ≡ tally t (first_time false n m z)
  unfolding first_time tally
  two-firsts true true m x y z f e = bump-left (t m) _ _ _ e
  two-firsts true false m x y z f e = let q : false ≡ true = f refl in let w : ◌≡◌ {A = ℕ} 0 1 = cc in absurd (omega arith)
  two-firsts false true m x y z f e = bump-right (t m) _ _ _ e
  two-firsts false false m x y z f e = e

  new-first : (n : Bool) (m : Sent) (x y z : List Sent) → tally t x + tally t y ≡ tally t z → tally t x + tally t (first_time false n m y) ≡ tally t (first_time false n m z)
  unfolding first_time tally
  new-first true m x y z e = bump-right (t m) _ _ _ e
  new-first false m x y z e = e

  -- u are the terms of the opening
  module _ (u : Terms) (s n : Now) (later : s.clock ≤ n.clock) where
    abbrev cue_of : (place part message : ℕ) → Outcome → Cue
    cue_of a p m o = record { place = a; part = p; message = m; outcome = o }

    two-sends : (c a p m : ℕ) {o w : Outcome} (x y z : List Sent) → Becomes s.hearings n.hearings c o w → tally t x + tally t y ≡ tally t z
        → tally t (sends (start u) s (cue_of a p m o) o x) + tally t (sends s n (cue_of a p m w) w y) ≡ tally t (sends (start u) n (cue_of a p m w) w z)
    unfolding sends start when_heard reached
    two-sends c a p m x y z (holds {d = d} k q r) e = rw (q, r) (two-firsts _ _ _ x y z (reached-on (since k) d s.clock n.clock later) e)
    two-sends c a p m x y z lost e = e
    two-sends c a p m x y z waits e = e
    two-sends c a p m x y z falls e = e
    two-sends c a p m x y z (begins q r) e = rw (q, reached) (new-first _ _ x y z e)

    two-lists : {c : ℕ} {l k : List Cue} → AllBecome s.hearings n.hearings c l k
        → tally t (firsts (start u) s l) + tally t (firsts s n k) ≡ tally t (firsts (start u) n k)
    unfolding firsts tally
    two-lists Outcomes.none = refl
    two-lists {c} (Outcomes.one {x = x} {p = p} {m = m} g r) = two-sends c x p m _ _ _ g (two-lists r)

-- ---- one call

-- Nothing is reached where nothing moves.
still-first : (b : Bool) (x : Sent) (l : List Sent) → first_time b b x l ≡ l
unfolding first_time
still-first true x l = refl
still-first false x l = refl

still-sends : (s : Now) (c : Cue) (o : Outcome) (l : List Sent) → sends s s c o l ≡ l
unfolding sends
still-sends s c (played i d) l = still-first _ _ l
still-sends s c dropped l = refl
still-sends s c undecided l = refl

still-firsts : (s : Now) (l : List Cue) → firsts s s l ≡ []
unfolding firsts
still-firsts s [] = refl
still-firsts s (c ∷ l) = still-sends s c c.outcome (firsts s s l) ∙ still-firsts s l

module _ (ds : List ℕ) (es : List Entry) where
  abbrev page : Now → List Cue
  page s = cues (reading_of s.terms ds (heard_events s.hearings)) es

  -- From s to n: the clock does not go back, what is played stays with its clock reading, and what is newly played was not heard before.
  record Led (s n : Now) : Type 0 where
    later : s.clock ≤ n.clock
    all : AllBecome s.hearings n.hearings s.clock (page s) (page n)

  led-same : (s : Now) → Led s s
  led-same s = record { later = le_refl s.clock; all = pass-becomes s.terms ds s.hearings s.clock es }

  led-moved : (s : Now) (c : Call) → UpToLast s → verdict (length ds) s c ≡ fine → Led s (moved s c)
  unfolding moved
  led-moved s (note room h tempo) o e =
      let f = granted-fits (length ds) s room h tempo e in
      let x : Hearing = record { event = h; clock = s.clock } in
      let q = note-becomes s.terms ds s.hearings x f.few (below-note (length ds) s h o f) es in
      record { later = le_refl s.clock; all = rw (heard-one-more s.hearings x) q }
  led-moved s (pass room ms) o e = record { later = omega arith; all = pass-becomes s.terms ds s.hearings s.clock es }
  led-moved s report o e = led-same s
  led-moved s (look_up n) o e = led-same s

  -- What a call sends is reached between the moment before it and the moment after.
  record Next (s : Now) (c : Call) : Type 0 where
    led : Led s (after (length ds) s c)
    said : (t : Sent → Bool) → tally t (messages_by ds es s c) ≡ tally t (firsts s (after (length ds) s c) (page (after (length ds) s c)))

  said-granted : (s : Now) (c : Call) (t : Sent → Bool) → tally t (messages_of ds es s c) ≡ tally t (firsts s (moved s c) (page (moved s c)))
  unfolding messages_of sent_between moved
  said-granted s (note room h tempo) t = tally-order t _
  said-granted s (pass room ms) t = tally-order t _
  said-granted s report t = rw (still-firsts s (page s))
  said-granted s (look_up n) t = rw (still-firsts s (page s))

  next : (s : Now) (c : Call) → UpToLast s → Next s c
  unfolding after kept messages_by if_granted
  next s c o = go (verdict (length ds) s c) refl
    where
      go : (g : Check Refusal) → verdict (length ds) s c ≡ g → Next s c
      go fine e = record { led = rw (e, kept) (led-moved s c o e); said = λ t. rw (e, kept, if_granted) (said-granted s c t) }
      go (refused x) e = record { led = rw (e, kept) (led-same s); said = λ t. rw (e, kept, if_granted, still-firsts s (page s)) }

  -- ---- a list of calls

  module _ (t : Sent → Bool) where
    tally-none : tally t [] ≡ 0
    unfolding tally
    tally-none = refl

    tally-append : (l k : List Sent) → tally t (l ++ k) ≡ tally t l + tally t k
    unfolding tally
    tally-append [] k = omega arith
    tally-append (x ∷ l) k = sym (bump-left t (t x) (tally t l) (tally t k) _ (sym (tally-append l k)))

    due-on : (u : Terms) (s : Now) (cs : List Call) → UpToLast s
        → tally t (firsts (start u) s (page s)) + tally t (joined (sent_by ds es s cs)) ≡ tally t (firsts (start u) (after_all (length ds) s cs) (page (after_all (length ds) s cs)))
    unfolding after_all sent_by joined tally
    due-on u s [] o = omega arith
    due-on u s (c ∷ cs) o =
        let n = after (length ds) s c in
        let x = next s c o in
        let a = tally-append (messages_by ds es s c) (joined (sent_by ds es n cs)) in
        let b = two-lists t u s n x.led.later x.led.all in
        let d = due-on u n cs (after-up-to-last (length ds) s c o) in
        omega (arith, a, b, d, x.said t)

    -- The messages of all calls are those that have come due by their end, each as often: "sent at the first call [..] whose clock has reached the due date".
    pub sent-once : (u : Terms) (cs : List Call) → tally t (joined (sent_by ds es (start u) cs)) ≡ tally t (sent_between ds es (start u) (after_all (length ds) (start u) cs))
    unfolding sent_between
    sent-once u cs =
        let none_yet : tally t (firsts (start u) (start u) (page (start u))) ≡ 0 = ap (tally t) (still-firsts (start u) (page (start u))) ∙ tally-none in
        omega (arith, due-on u (start u) cs (start-up-to-last u), tally-order t (firsts (start u) (after_all (length ds) (start u) cs) (page (after_all (length ds) (start u) cs))))

-- ---- no page place twice

tally-past : (a : ℕ) {q : ℕ} {l : List Sent} → a ≤ q → Past q l → tally (at_place a) l ≡ 0
unfolding tally at_place pick
tally-past a h none = refl
tally-past a h (one {x = x} g r) = rw (ne_eqb x.place a (λ e. omega arith)) (tally-past a h r)

tally-paged : (a : ℕ) {l : List Sent} → Paged l → tally (at_place a) l ≤ 1
unfolding tally at_place pick
tally-paged a empty = omega arith
tally-paged a (link {x = x} {l = l} p r) = go (eqb x.place a) refl (tally-paged a r)
  where
    go : (b : Bool) → eqb x.place a ≡ b → tally (at_place a) l ≤ 1 → pick b (suc (tally (at_place a) l)) (tally (at_place a) l) ≤ 1
    go true e h = let q : x.place ≡ a = eqb-true _ _ e in omega (arith, tally-past a {q = x.place} (omega arith) p)
    go false e h = h

-- Of a table, whatever sounds: "one for each written action", and none a second time.
pub place-once : (S : ℕ → Bool) (ds : List ℕ) (is : List Item) (u : Terms) (cs : List Call) (p : ℕ)
    → tally (at_place p) (joined (sent_by ds (sounding_entries S (entries is)) (start u) cs)) ≤ 1
unfolding sent_between
place-once S ds is u cs p =
    let n = after_all (length ds) (start u) cs in
    let R = reading_of n.terms ds (heard_events n.hearings) in
    let es = sounding_entries S (entries is) in
    omega (arith, sent-once ds es (at_place p) u cs, tally-order (at_place p) (firsts (start u) n (cues R es)), tally-paged p (sounding-paged S R (start u) n is))
