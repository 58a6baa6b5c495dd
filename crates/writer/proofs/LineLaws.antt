-- A line's text by its pieces; the lines of items, whatever bounds the recursion and wherever on the page they stand.
-- By recursion on the bound. Assumes nothing.
use mathlib.Core.Path.{◌≡◌, refl, sym, ap, ◌∙◌}
use mathlib.Core.Bool.{Bool, true, false}
use mathlib.Core.List.{List, [], ◌∷◌, ◌++◌, append_assoc, append-nil}
use Prim.Native.Nat.{ℕ, zero, suc, ◌-◌, ◌≤◌}
use native.Mathlib.Omega.{arith}
use lib.ListN.{length, take, drop, get_or, length-take, length-drop}
use lib.Dec.{eqb}
use borrow.Author.Tests.{ne_eqb, eqb-true, eqb-false}
use Rattle.base.specs.Tests.{pick}
use Rattle.ascii.specs.Words.{newline}
use Rattle.ascii.specs.Text.{bytes_of}
use Rattle.ascii.specs.Decimals.{decimal}
use Rattle.page.specs.declared.Item.{Item}
use Rattle.text.specs.Grammar.{Line, message, event, part, send, group, close}
use Rattle.text.specs.Beats.{beats_text}
use Rattle.text.specs.Written.{synchrony_word, error_word, Spot, indent, remark, line_text, behind_line, text_of, item_lines}
use Rattle.text.proofs.BodyLaws.{lines-action}
use Rattle.writer.specs.Phrases.{joined, message_line, event_line, part_text, send_line, group_line, close_line}
use Rattle.writer.specs.Layouts.{within}

-- ---- lines by their pieces

module _ (ls : List (List ℕ)) (s : Spot) where
  pub message-line : (l : List ℕ) → line_text ls s (message l) ≡ message_line s.messages l
  unfolding line_text joined
  message-line l = rw (append-nil (decimal s.messages))

  pub line_of_event : (g : ℕ) → line_text ls s (event g) ≡ event_line g (suc s.events)
  unfolding line_text joined remark
  line_of_event g = rw (append-nil (decimal (suc s.events)))

  pub part-line : (p : ℕ) → line_text ls s (part p) ≡ part_text p
  unfolding line_text joined
  part-line p = rw (append-nil (decimal p))

  pub line_of_send : (d n : ℕ) → line_text ls s (send d n) ≡ send_line s.depth d n (get_or ls n [])
  unfolding line_text joined remark
  line_of_send d n = rw (
    append-nil (beats_text d),
    append-nil (decimal n),
    append-nil (get_or ls n [] ++ (newline ∷ [])),
    append_assoc (indent s.depth) (beats_text d) (bytes_of " send " ++ (decimal n ++ (bytes_of " # " ++ (get_or ls n [] ++ (newline ∷ []))))),
  )

  pub line_of_group : (d w v : ℕ) → line_text ls s (group d w v) ≡ group_line s.depth d w v
  unfolding line_text joined
  line_of_group d w v = rw (
    append-nil (beats_text d),
    append-nil (bytes_of " group " ++ (synchrony_word w ++ (bytes_of " " ++ (error_word v ++ bytes_of " {\n")))),
    append_assoc (indent s.depth) (beats_text d) (bytes_of " group " ++ (synchrony_word w ++ (bytes_of " " ++ (error_word v ++ bytes_of " {\n")))),
  )

  pub close-line : line_text ls s close ≡ close_line (s.depth - 1)
  unfolding line_text joined
  close-line = refl

-- ---- the lines of items, whatever bounds the recursion

pub lines-any : (n m : ℕ) (is : List Item) → length is ≤ n → length is ≤ m → item_lines n is ≡ item_lines m is
unfolding item_lines pick
lines-any zero zero is p q = refl
lines-any zero (suc m) [] p q = refl
lines-any zero (suc m) (i ∷ is) p q = absurd (omega arith)
lines-any (suc n) zero [] p q = refl
lines-any (suc n) zero (i ∷ is) p q = absurd (omega arith)
lines-any (suc n) (suc m) [] p q = refl
lines-any (suc n) (suc m) (i ∷ is) p q =
    let t = length-take i.last is in
    let d = length-drop i.last is in
    rw (
      lines-any n m is (omega arith) (omega arith),
      lines-any n m (take i.last is) (omega arith) (omega arith),
      lines-any n m (drop i.last is) (omega arith) (omega arith),
    )

pub lines-group : (n : ℕ) (i : Item) (is : List Item) → (i.kind ≡ 0 → ⊥)
    → item_lines (suc n) (i ∷ is) ≡ group i.delay.0 i.synchrony i.error ∷ (item_lines n (take i.last is) ++ (close ∷ item_lines n (drop i.last is)))
unfolding item_lines pick
lines-group n i is e = rw (ne_eqb i.kind 0 e)

-- ---- what stands behind them: they leave the page where it was, and only the depth shows in their text

module _ (ls : List (List ℕ)) where
  deep : Spot → Spot
  deep s = record { messages = s.messages; events = s.events; depth = suc s.depth }

  closed-again : (s : Spot) → behind_line close (deep s) ≡ s
  unfolding behind_line deep
  closed-again s = let z : suc s.depth - 1 ≡ s.depth = omega arith in rw z

  close-same : (s : Spot) → line_text ls (deep s) close ≡ close_line s.depth
  unfolding deep
  close-same s = let z : suc s.depth - 1 ≡ s.depth = omega arith in rw z at (close-line ls (deep s))

  nothing_said : (s : Spot) → text_of ls s [] ≡ []
  unfolding text_of
  nothing_said s = refl

  nothing_then : (s : Spot) (rest : List Line) → text_of ls s rest ≡ text_of ls (within s.depth) [] ++ text_of ls s rest
  unfolding text_of
  nothing_then s rest = refl

  action-then : (n : ℕ) (i : Item) (is : List Item) → i.kind ≡ 0 → (s : Spot) (rest : List Line)
      → text_of ls s (item_lines n is ++ rest) ≡ text_of ls (within s.depth) (item_lines n is) ++ text_of ls s rest
      → text_of ls s (item_lines (suc n) (i ∷ is) ++ rest) ≡ text_of ls (within s.depth) (item_lines (suc n) (i ∷ is)) ++ text_of ls s rest
  unfolding text_of behind_line
  action-then n i is e s rest next =
      let l = send_line s.depth i.delay.0 i.last (get_or ls i.last []) in
      rw (
        lines-action n i is e,
        line_of_send ls s i.delay.0 i.last,
        line_of_send ls (within s.depth) i.delay.0 i.last,
        next,
        append_assoc l (text_of ls (within s.depth) (item_lines n is)) (text_of ls s rest),
      )

  -- a group's lines and what is behind them, from what is known of its body and of what follows it
  group-then : (n : ℕ) (i : Item) (is : List Item) → (i.kind ≡ 0 → ⊥)
      → ((s : Spot) (rest : List Line) → text_of ls s (item_lines n (take i.last is) ++ rest) ≡ text_of ls (within s.depth) (item_lines n (take i.last is)) ++ text_of ls s rest)
      → ((s : Spot) (rest : List Line) → text_of ls s (item_lines n (drop i.last is) ++ rest) ≡ text_of ls (within s.depth) (item_lines n (drop i.last is)) ++ text_of ls s rest)
      → (s : Spot) (rest : List Line)
      → text_of ls s (item_lines (suc n) (i ∷ is) ++ rest)
      ≡ group_line s.depth i.delay.0 i.synchrony i.error
      ++ (text_of ls (within (suc s.depth)) (item_lines n (take i.last is))
      ++ (close_line s.depth ++ (text_of ls (within s.depth) (item_lines n (drop i.last is)) ++ text_of ls s rest)))
  unfolding text_of behind_line deep
  group-then n i is e body after s rest =
      let b = item_lines n (take i.last is) in
      let a = item_lines n (drop i.last is) in
      rw (
        lines-group n i is e,
        append_assoc b (close ∷ a) rest,
        line_of_group ls s i.delay.0 i.synchrony i.error,
        body (deep s) (close ∷ (a ++ rest)),
        close-same s,
        closed-again s,
        after s rest,
      )

  -- the same with nothing behind them
  pub group-alone : (n : ℕ) (i : Item) (is : List Item) → (i.kind ≡ 0 → ⊥)
      → ((s : Spot) (rest : List Line) → text_of ls s (item_lines n (take i.last is) ++ rest) ≡ text_of ls (within s.depth) (item_lines n (take i.last is)) ++ text_of ls s rest)
      → ((s : Spot) (rest : List Line) → text_of ls s (item_lines n (drop i.last is) ++ rest) ≡ text_of ls (within s.depth) (item_lines n (drop i.last is)) ++ text_of ls s rest)
      → (depth : ℕ)
      → text_of ls (within depth) (item_lines (suc n) (i ∷ is))
      ≡ group_line depth i.delay.0 i.synchrony i.error
      ++ (text_of ls (within (suc depth)) (item_lines n (take i.last is)) ++ (close_line depth ++ text_of ls (within depth) (item_lines n (drop i.last is))))
  group-alone n i is e body after depth =
      let a = text_of ls (within depth) (item_lines n (drop i.last is)) in
      let t = group-then n i is e body after (within depth) [] in
      rw (append-nil (item_lines (suc n) (i ∷ is)), nothing_said (within depth), append-nil a) at t

  pub items-then : (n : ℕ) (is : List Item) (s : Spot) (rest : List Line)
      → text_of ls s (item_lines n is ++ rest) ≡ text_of ls (within s.depth) (item_lines n is) ++ text_of ls s rest
  unfolding item_lines
  items-then zero is s rest = nothing_then s rest
  items-then (suc n) [] s rest = nothing_then s rest
  items-then (suc n) (i ∷ is) s rest = go (eqb i.kind 0) refl (items-then n is s rest) (items-then n (take i.last is)) (items-then n (drop i.last is)) where
    go : (t : Bool) → eqb i.kind 0 ≡ t
        → text_of ls s (item_lines n is ++ rest) ≡ text_of ls (within s.depth) (item_lines n is) ++ text_of ls s rest
        → ((s : Spot) (rest : List Line) → text_of ls s (item_lines n (take i.last is) ++ rest) ≡ text_of ls (within s.depth) (item_lines n (take i.last is)) ++ text_of ls s rest)
        → ((s : Spot) (rest : List Line) → text_of ls s (item_lines n (drop i.last is) ++ rest) ≡ text_of ls (within s.depth) (item_lines n (drop i.last is)) ++ text_of ls s rest)
        → text_of ls s (item_lines (suc n) (i ∷ is) ++ rest) ≡ text_of ls (within s.depth) (item_lines (suc n) (i ∷ is)) ++ text_of ls s rest
    go true e next body after = action-then n i is (eqb-true i.kind 0 e) s rest next
    go false e next body after =
        let ne = eqb-false i.kind 0 e in
        let g = group_line s.depth i.delay.0 i.synchrony i.error in
        let b = text_of ls (within (suc s.depth)) (item_lines n (take i.last is)) in
        let c = close_line s.depth in
        let a = text_of ls (within s.depth) (item_lines n (drop i.last is)) in
        let r = text_of ls s rest in
        group-then n i is ne body after s rest
        ∙ sym (ap (λ (l : List ℕ). l ++ r) (group-alone n i is ne body after s.depth)
        ∙ append_assoc g (b ++ (c ++ a)) r
        ∙ ap (λ (l : List ℕ). g ++ l) (append_assoc b (c ++ a) r ∙ ap (λ (l : List ℕ). b ++ l) (append_assoc c a r)))
