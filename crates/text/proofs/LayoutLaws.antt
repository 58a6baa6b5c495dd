-- Reading is a function of a text's meaning: blanks and comments between tokens change nothing but line and column.
-- Assumes nothing.
use Rattle.std.specs.Prelude.{Result, Ok, Err}
use mathlib.Core.Path.{◌≡◌, refl, sym, ap, ◌∙◌}
use mathlib.Core.Bool.{Bool, true, false}
use mathlib.Core.List.{List, [], ◌∷◌}
use Prim.Native.Nat.{ℕ, zero, suc, ◌-◌, ◌<◌}
use native.Mathlib.Omega.{arith}
use lib.Dec.{eqb, leb}
use lib.ListN.{length}
use Rattle.base.specs.Tests.{pick}
use Rattle.ascii.specs.Words.{newline}
use Rattle.tokens.specs.Bytes.{hash, is_blank}
use Rattle.tokens.specs.Tokens.{Read, got, past_blanks, blanks}
use Rattle.contents.specs.Limits.{longest_score}
use Rattle.score.specs.Piece.{Piece}
use Rattle.text.specs.declared.Stage.{Stage}
use Rattle.text.specs.declared.Stage.TheVariants.{Start}
use Rattle.text.specs.declared.TextError.{TextError}
use Rattle.text.specs.declared.TextError.TheVariants.{NoRoom, BadText, BadFile}
use Rattle.text.specs.Grammar.{Line, heading, message, event, part, send, group, close, after, is_over, Script, done, more, fault, follow, script}
use Rattle.text.specs.Said.{labels_of, durations_of, within, items_of, piece_of, Reading, piece, unread, told, said}
use Rattle.text.specs.Transcripts.{room_left, fault_at, answered, file_of, read_answer}
use Rattle.text.specs.Layout.{in_token, squeezed_from, squeezed, meaning, placeless}
use Rattle.text.proofs.ScriptLaws.{line-shorter, script-follow}
use Rattle.text.proofs.SqueezedTokens.{blanks-squeezed, Alike, alike, neither}
use Rattle.text.proofs.SqueezedLines.{line-alike}

-- ---- behind the blanks

-- A text that is over is over then too.
over-squeezed : (stage : Stage) (c : Bool) (bs : List ℕ) → is_over stage (squeezed_from in_token (past_blanks c bs)) ≡ is_over stage (past_blanks c bs)
unfolding is_over past_blanks squeezed_from pick
over-squeezed stage c [] = refl
over-squeezed stage true (b ∷ bs) = go (eqb b newline) (over-squeezed stage false bs) (over-squeezed stage true bs) where
  go : (t : Bool) → is_over stage (squeezed_from in_token (blanks bs)) ≡ is_over stage (blanks bs) → is_over stage (squeezed_from in_token (past_blanks true bs)) ≡ is_over stage (past_blanks true bs)
      → is_over stage (squeezed_from in_token (pick t (blanks bs) (past_blanks true bs))) ≡ is_over stage (pick t (blanks bs) (past_blanks true bs))
  go true p q = p
  go false p q = q
over-squeezed stage false (b ∷ bs) = go (is_blank b) (eqb b hash) refl refl (over-squeezed stage false bs) (over-squeezed stage true bs) where
  go : (t u : Bool) → is_blank b ≡ t → eqb b hash ≡ u
      → is_over stage (squeezed_from in_token (blanks bs)) ≡ is_over stage (blanks bs) → is_over stage (squeezed_from in_token (past_blanks true bs)) ≡ is_over stage (past_blanks true bs)
      → is_over stage (squeezed_from in_token (pick t (blanks bs) (pick u (past_blanks true bs) (b ∷ bs)))) ≡ is_over stage (pick t (blanks bs) (pick u (past_blanks true bs) (b ∷ bs)))
  go true u e f p q = p
  go false true e f p q = q
  go false false e f p q = rw (e, f)

blanks-twice : (c : Bool) (bs : List ℕ) → blanks (past_blanks c bs) ≡ past_blanks c bs
unfolding past_blanks pick
blanks-twice c [] = refl
blanks-twice true (b ∷ bs) = go (eqb b newline) (blanks-twice false bs) (blanks-twice true bs) where
  go : (t : Bool) → blanks (blanks bs) ≡ blanks bs → blanks (past_blanks true bs) ≡ past_blanks true bs → blanks (pick t (blanks bs) (past_blanks true bs)) ≡ pick t (blanks bs) (past_blanks true bs)
  go true p q = p
  go false p q = q
blanks-twice false (b ∷ bs) = go (is_blank b) (eqb b hash) refl refl (blanks-twice false bs) (blanks-twice true bs) where
  go : (t u : Bool) → is_blank b ≡ t → eqb b hash ≡ u → blanks (blanks bs) ≡ blanks bs → blanks (past_blanks true bs) ≡ past_blanks true bs
      → blanks (pick t (blanks bs) (pick u (past_blanks true bs) (b ∷ bs))) ≡ pick t (blanks bs) (pick u (past_blanks true bs) (b ∷ bs))
  go true u e f p q = p
  go false true e f p q = q
  go false false e f p q = rw (e, f)

script-blanks : (stage : Stage) (bs : List ℕ) → script stage (blanks bs) ≡ script stage bs
script-blanks stage bs = rw (script-follow stage (blanks bs), script-follow stage bs, blanks-twice false bs)

-- ---- the same lines, up to the end or to a fault

data Agree : Script → Script → Type 0 where
  both_done : Agree done done
  both_more : {l : Line} {s u : Script} → Agree s u → Agree (more l s) (more l u)
  both_fault : {left right : List ℕ} → Agree (fault left) (fault right)

pick-agree : (t : Bool) {s u v w : Script} → Agree s u → Agree v w → Agree (pick t s v) (pick t u w)
unfolding pick
pick-agree true p q = p
pick-agree false p q = q

follow-agree : {r s : Read Line} {f : Line → List ℕ → Script} (g : Line → List ℕ → Script) → Alike r s
    → ((l : Line) (left : List ℕ) → r ≡ got l left → Agree (f l left) (g l (squeezed_from in_token left))) → Agree (follow r f) (follow s g)
unfolding follow
follow-agree g (alike {a = l} {left = left}) h = both_more (h l left refl)
follow-agree g neither h = both_fault

agree : (n : ℕ) (stage : Stage) (bs : List ℕ) → length bs < n → Agree (script stage bs) (script stage (squeezed_from in_token bs))
agree zero stage bs p = absurd (omega arith)
agree (suc n) stage bs p =
    rw (script-follow stage bs, script-follow stage (squeezed_from in_token bs), blanks-squeezed bs, over-squeezed stage false bs)
    (pick-agree (is_over stage (blanks bs)) both_done
    (follow-agree (λ l left. script (after l stage) left) (line-alike stage (blanks bs))
    (λ l left e. agree n (after l stage) left (omega (arith, line-shorter stage bs l left e)))))

squeezed-agrees : (t : List ℕ) → Agree (script Start t) (script Start (squeezed t))
unfolding squeezed
squeezed-agrees t = let a = agree (suc (length (blanks t))) Start (blanks t) (omega arith) in rw (script-blanks Start t) at a

-- ---- the same piece

labels-same : {s u : Script} → Agree s u → labels_of u ≡ labels_of s
unfolding labels_of
labels-same both_done = refl
labels-same both_fault = refl
labels-same (both_more {l = heading} a) = labels-same a
labels-same (both_more {l = message name} a) = ap (λ (x : List (List ℕ)). name ∷ x) (labels-same a)
labels-same (both_more {l = event g} a) = labels-same a
labels-same (both_more {l = part p} a) = labels-same a
labels-same (both_more {l = send d n} a) = labels-same a
labels-same (both_more {l = group d w v} a) = labels-same a
labels-same (both_more {l = close} a) = labels-same a

durations-same : {s u : Script} → Agree s u → durations_of u ≡ durations_of s
unfolding durations_of
durations-same both_done = refl
durations-same both_fault = refl
durations-same (both_more {l = heading} a) = durations-same a
durations-same (both_more {l = message name} a) = durations-same a
durations-same (both_more {l = event g} a) = ap (λ (x : List ℕ). g ∷ x) (durations-same a)
durations-same (both_more {l = part p} a) = durations-same a
durations-same (both_more {l = send d n} a) = durations-same a
durations-same (both_more {l = group d w v} a) = durations-same a
durations-same (both_more {l = close} a) = durations-same a

within_same : (depth : ℕ) {s u : Script} → Agree s u → within depth u ≡ within depth s
unfolding within
within_same depth both_done = refl
within_same depth both_fault = refl
within_same depth (both_more {l = heading} a) = within_same depth a
within_same depth (both_more {l = message name} a) = within_same depth a
within_same depth (both_more {l = event g} a) = within_same depth a
within_same depth (both_more {l = part p} a) = within_same depth a
within_same depth (both_more {l = send d n} a) = ap (λ (x : ℕ). suc x) (within_same depth a)
within_same depth (both_more {l = group d w v} a) = ap (λ (x : ℕ). suc x) (within_same (suc depth) a)
within_same zero (both_more {l = close} a) = refl
within_same (suc depth) (both_more {l = close} a) = within_same depth a

items-same : (e p depth : ℕ) {s u : Script} → Agree s u → items_of e p depth u ≡ items_of e p depth s
unfolding items_of
items-same e p depth both_done = refl
items-same e p depth both_fault = refl
items-same e p depth (both_more {l = heading} a) = items-same e p depth a
items-same e p depth (both_more {l = message name} a) = items-same e p depth a
items-same e p depth (both_more {l = event g} a) = items-same (suc e) p depth a
items-same e p depth (both_more {l = part q} a) = items-same e q depth a
items-same e p depth (both_more {l = send d n} a) = rw (items-same e p depth a)
items-same e p depth (both_more {l = group d w v} a) = rw (within_same 0 a, items-same e p (suc depth) a)
items-same e p depth (both_more {l = close} a) = items-same e p (depth - 1) a

piece-same : {s u : Script} → Agree s u → piece_of u ≡ piece_of s
unfolding piece_of
piece-same a = rw (labels-same a, durations-same a, items-same 0 0 0 a)

told_same : (m n : ℕ) (p : Piece) {s u : Script} → Agree s u → meaning (told n p u) ≡ meaning (told m p s)
unfolding told meaning
told_same m n p both_done = refl
told_same m n p both_fault = refl
told_same m n p (both_more a) = told_same m n p a

-- A text means what it means without its layout.
pub squeezed-meaning : (t : List ℕ) → meaning (said (squeezed t)) ≡ meaning (said t)
unfolding said
squeezed-meaning t =
    let a = squeezed-agrees t in
    rw (piece-same a) (told_same (length t) (length (squeezed t)) (piece_of (script Start t)) a)

-- ---- what is made and answered follows from the meaning

file-same : (r s : Reading) → meaning r ≡ meaning s → file_of r ≡ file_of s
unfolding meaning file_of
file-same (piece p) (piece q) e = let z : p ≡ q = cc in rw z
file-same (piece p) (unread n) e = let z : ◌≡◌ {A = ℕ} 0 1 = cc in absurd (omega arith)
file-same (unread m) (piece q) e = let z : ◌≡◌ {A = ℕ} 0 1 = cc in absurd (omega arith)
file-same (unread m) (unread n) e = refl

answered-same : (t u : List ℕ) (r s : Reading) → meaning r ≡ meaning s → placeless (answered t r) ≡ placeless (answered u s)
unfolding meaning answered fault_at placeless
answered-same t u (piece p) (piece q) e = let z : p ≡ q = cc in rw z
answered-same t u (piece p) (unread n) e = let z : ◌≡◌ {A = ℕ} 0 1 = cc in absurd (omega arith)
answered-same t u (unread m) (piece q) e = let z : ◌≡◌ {A = ℕ} 0 1 = cc in absurd (omega arith)
answered-same t u (unread m) (unread n) e = refl

room-same : (x : Result ℕ TextError) (made m : List ℕ) → room_left (placeless x) made m ≡ room_left x made m
unfolding room_left placeless
room-same (Ok n) made m = refl
room-same (Err NoRoom) made m = refl
room-same (Err (BadText l c)) made m = refl
room-same (Err (BadFile x)) made m = refl

-- ---- texts that differ in blanks and comments only

module _ (t u : List ℕ) (relaid : squeezed t ≡ squeezed u) where
  -- They say the same piece, or each has a fault.
  pub same-meaning : meaning (said t) ≡ meaning (said u)
  same-meaning = sym (squeezed-meaning t) ∙ ap (λ (x : List ℕ). meaning (said x)) relaid ∙ squeezed-meaning u

  -- They make the same file.
  pub same-file : file_of (said t) ≡ file_of (said u)
  same-file = file-same (said t) (said u) same-meaning

  -- They are answered alike but for the line and column of a 16.
  pub same_answer : (room : ℕ) → placeless (read_answer room t) ≡ placeless (read_answer room u)
  unfolding read_answer pick
  same_answer room = go (leb longest_score room) where
    go : (b : Bool) → placeless (pick b (answered t (said t)) (Err NoRoom)) ≡ placeless (pick b (answered u (said u)) (Err NoRoom))
    go true = answered-same t u (said t) (said u) same-meaning
    go false = refl

  -- They leave the room the same, byte for byte.
  pub same-room : (m : List ℕ) → room_left (read_answer (length m) t) (file_of (said t)) m ≡ room_left (read_answer (length m) u) (file_of (said u)) m
  same-room m =
      sym (room-same (read_answer (length m) t) (file_of (said t)) m)
      ∙ rw (same_answer (length m), same-file) refl
      ∙ room-same (read_answer (length m) u) (file_of (said u)) m
