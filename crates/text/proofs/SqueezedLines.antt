-- Each line is read from a text and from the same text without its layout alike.
-- Assumes nothing.
use mathlib.Core.Path.{◌≡◌, refl}
use mathlib.Core.Bool.{Bool, true, false}
use mathlib.Core.List.{List, [], ◌∷◌}
use Prim.Native.Nat.{ℕ, zero, suc}
use native.Mathlib.Omega.{arith}
use lib.Dec.{eqb, ltb}
use borrow.Author.Tests.{eqb-true}
use Rattle.base.specs.Tests.{pick, every, between}
use Rattle.tokens.specs.Bytes.{opening, closing, is_letter, Stops, nothing, here}
use Rattle.tokens.specs.Tokens.{got, stop, onward, blanks, leading, behind, is_word, is_number, number}
use Rattle.tokens.specs.Beats.{beats}
use Rattle.text.specs.declared.Stage.{Stage}
use Rattle.text.specs.declared.Stage.TheVariants.{Start, Listing, Timed, Playing}
use Rattle.text.specs.Words.{messages_word, event_word, part_word, send_word, group_word, loose_word, tight_word, local_word, global_word, partial_word, causal_word, message_field, part_field, any_number}
use Rattle.text.specs.Grammar.{message, event, part, send, group, close, past_word, named, entry, timed, parted, sent, opened, synchrony_at, error_at, erring, grouped, action, item, closed, line}
use Rattle.text.specs.Layout.{in_token, squeezed_from}
use Rattle.text.proofs.SqueezedTokens.{blanks-squeezed, high-kept, stops-squeezed, word-squeezed, letters-squeezed, Alike, alike, neither, onward-alike, pick-alike, number-alike, beats-alike, label-alike}

-- ---- words

past-squeezed : (bs : List ℕ) → past_word (squeezed_from in_token bs) ≡ squeezed_from in_token (past_word bs)
unfolding past_word
past-squeezed bs = rw (letters-squeezed bs) (blanks-squeezed (behind is_letter bs))

synchrony-squeezed : (bs : List ℕ) → synchrony_at (squeezed_from in_token bs) ≡ synchrony_at bs
unfolding synchrony_at
synchrony-squeezed bs = rw (word-squeezed loose_word bs, word-squeezed tight_word bs)

error-squeezed : (bs : List ℕ) → error_at (squeezed_from in_token bs) ≡ error_at bs
unfolding error_at
error-squeezed bs = rw (word-squeezed local_word bs, word-squeezed global_word bs, word-squeezed partial_word bs, word-squeezed causal_word bs)

-- ---- number label

named-alike : (bs : List ℕ) → Alike (named bs) (named (squeezed_from in_token bs))
unfolding named
named-alike bs = onward-alike (λ l left. got (message l) left) (label-alike bs) (λ l left. alike)

entry-alike : (next : ℕ) (bs : List ℕ) → Alike (entry next bs) (entry next (squeezed_from in_token bs))
unfolding entry
entry-alike next bs =
    onward-alike (λ n left. pick (eqb n next) (named (blanks left)) (stop (squeezed_from in_token bs))) (number-alike any_number bs)
    (λ n left. rw (blanks-squeezed left) (pick-alike (eqb n next) (named-alike (blanks left)) neither))

-- ---- "event" beats, "part" number

timed-alike : (bs : List ℕ) → Alike (timed bs) (timed (squeezed_from in_token bs))
unfolding timed
timed-alike bs = onward-alike (λ g left. got (event g) left) (beats-alike bs) (λ g left. alike)

parted-alike : (bs : List ℕ) → Alike (parted bs) (parted (squeezed_from in_token bs))
unfolding parted
parted-alike bs = onward-alike (λ n left. got (part n) left) (number-alike part_field bs) (λ n left. alike)

-- ---- item

sent-alike : (delay : ℕ) (bs : List ℕ) → Alike (sent delay bs) (sent delay (squeezed_from in_token bs))
unfolding sent
sent-alike delay bs = onward-alike (λ n left. got (send delay n) left) (number-alike message_field bs) (λ n left. alike)

abbrev is_opening : ℕ → Bool
is_opening b = eqb b opening

none-opened : (delay w v : ℕ) (left : List ℕ) {xs : List ℕ} → Stops is_opening xs → Alike (stop left) (opened delay w v xs)
unfolding opened pick
none-opened delay w v left nothing = neither
none-opened delay w v left (here e) = rw e neither

opened-alike : (delay w v : ℕ) (bs : List ℕ) → Alike (opened delay w v bs) (opened delay w v (squeezed_from in_token bs))
unfolding opened squeezed_from pick
opened-alike delay w v [] = neither
opened-alike delay w v (b ∷ bs) = go (eqb b opening) refl where
  go : (t : Bool) → eqb b opening ≡ t → Alike (pick t (got (group delay w v) bs) (stop (b ∷ bs))) (opened delay w v (squeezed_from in_token (b ∷ bs)))
  go true e =
      let k : b ≡ opening = eqb-true b opening e in
      rw (high-kept b bs (omega arith), e) alike
  go false e = none-opened delay w v (b ∷ bs) (stops-squeezed is_opening refl b bs e)

erring-alike : (delay w : ℕ) (bs : List ℕ) → Alike (erring delay w bs) (erring delay w (squeezed_from in_token bs))
unfolding erring
erring-alike delay w bs =
    rw (error-squeezed bs, past-squeezed bs)
    (pick-alike (ltb (error_at bs) 4) (opened-alike delay w (error_at bs) (past_word bs)) (opened-alike delay w 0 bs))

grouped-alike : (delay : ℕ) (bs : List ℕ) → Alike (grouped delay bs) (grouped delay (squeezed_from in_token bs))
unfolding grouped
grouped-alike delay bs =
    rw (synchrony-squeezed bs, past-squeezed bs)
    (pick-alike (ltb (synchrony_at bs) 2) (erring-alike delay (synchrony_at bs) (past_word bs)) (erring-alike delay 0 bs))

action-alike : (delay : ℕ) (bs : List ℕ) → Alike (action delay bs) (action delay (squeezed_from in_token bs))
unfolding action
action-alike delay bs =
    rw (word-squeezed send_word bs, word-squeezed group_word bs, past-squeezed bs)
    (pick-alike (is_word send_word bs) (sent-alike delay (past_word bs)) (pick-alike (is_word group_word bs) (grouped-alike delay (past_word bs)) neither))

item-alike : (bs : List ℕ) → Alike (item bs) (item (squeezed_from in_token bs))
unfolding item
item-alike bs =
    onward-alike (λ delay left. action delay (blanks left)) (beats-alike bs)
    (λ delay left. rw (blanks-squeezed left) (action-alike delay (blanks left)))

abbrev is_closing : ℕ → Bool
is_closing b = eqb b closing

none-closed : {xs : List ℕ} → Stops is_closing xs → closed xs ≡ item xs
unfolding closed item beats number is_number leading between every onward pick
none-closed nothing = refl
none-closed (here e) = rw e

closed-alike : (bs : List ℕ) → Alike (closed bs) (closed (squeezed_from in_token bs))
unfolding closed squeezed_from pick
closed-alike [] = neither
closed-alike (b ∷ bs) = go (eqb b closing) refl where
  go : (t : Bool) → eqb b closing ≡ t → Alike (pick t (got close bs) (item (b ∷ bs))) (closed (squeezed_from in_token (b ∷ bs)))
  go true e =
      let k : b ≡ closing = eqb-true b closing e in
      rw (high-kept b bs (omega arith), e) alike
  go false e = rw (none-closed (stops-squeezed is_closing refl b bs e)) (item-alike (b ∷ bs))

-- ---- what may stand where

pub line-alike : (stage : Stage) (bs : List ℕ) → Alike (line stage bs) (line stage (squeezed_from in_token bs))
unfolding line
line-alike Start bs = rw (word-squeezed messages_word bs, letters-squeezed bs) (pick-alike (is_word messages_word bs) alike neither)
line-alike (Listing next) bs =
    rw (word-squeezed event_word bs, past-squeezed bs)
    (pick-alike (is_word event_word bs) (timed-alike (past_word bs)) (entry-alike next bs))
line-alike Timed bs =
    rw (word-squeezed event_word bs, word-squeezed part_word bs, past-squeezed bs)
    (pick-alike (is_word event_word bs) (timed-alike (past_word bs)) (pick-alike (is_word part_word bs) (parted-alike (past_word bs)) neither))
line-alike (Playing zero) bs =
    rw (word-squeezed event_word bs, word-squeezed part_word bs, past-squeezed bs)
    (pick-alike (is_word event_word bs) (timed-alike (past_word bs)) (pick-alike (is_word part_word bs) (parted-alike (past_word bs)) (item-alike bs)))
line-alike (Playing (suc depth)) bs = closed-alike bs
