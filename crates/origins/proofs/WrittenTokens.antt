-- A written line is one line: its indentation, what it was read from, and a newline, the only one. By the bytes of each kind of line.
-- Assumes nothing.
use mathlib.Core.Path.{◌≡◌, refl}
use mathlib.Core.Bool.{Bool, true, false}
use mathlib.Core.List.{List, [], ◌∷◌, ◌++◌, append_assoc}
use Prim.Native.Nat.{ℕ, zero, suc, ◌+◌, ◌-◌, ◌*◌, ◌<◌}
use native.Mathlib.Omega.{arith}
use lib.Dec.{eqb}
use lib.ListN.{replicate, get_or}
use Rattle.base.specs.Tests.{pick}
use Rattle.ascii.specs.Words.{newline, space}
use Rattle.ascii.specs.Text.{bytes_of}
use Rattle.ascii.specs.Decimals.{decimal}
use Rattle.tokens.specs.Bytes.{backslash, is_blank, is_plain, is_escaped, All, none, one}
use Rattle.tokens.specs.Tokens.{left_by, past_blanks, blanks}
use Rattle.tokens.specs.Quoted.{escaped, quoted}
use Rattle.tokens.proofs.TokenLaws.{digits-end, decimal-all, number_read}
use Rattle.text.specs.declared.Stage.{Stage}
use Rattle.text.specs.Words.{any_number}
use Rattle.text.specs.Grammar.{Line, heading, message, event, part, send, group, close}
use Rattle.text.specs.Beats.{denominator, numerator, over, beats_text}
use Rattle.text.specs.Written.{synchrony_word, error_word, Spot, indent, remark, line_text}
use Rattle.text.proofs.LineLaws.{decimal-led, beats-led, led-solid, indent-passed, digits-plain, May, may_head, may_list, may_time, may_part, may_send, may_group, may_close}
use Rattle.origins.specs.Origins.{token_in}
use Rattle.origins.proofs.PlaceLaws.{newlines, newlines-append, newlines-plain}

-- ---- what is written of numbers, beats, words and labels has no newline

decimal-flat : (n : ℕ) → newlines (decimal n) ≡ 0
decimal-flat n = newlines-plain (digits-plain (decimal-all n))

over-flat : (d : ℕ) → newlines (over d) ≡ 0
unfolding over newlines pick
over-flat d = go (eqb d 1) where
  go : (u : Bool) → newlines (pick u [] (47 ∷ decimal d)) ≡ 0
  go true = refl
  go false = decimal-flat d

beats-flat : (g : ℕ) → newlines (beats_text g) ≡ 0
unfolding beats_text
beats-flat g = omega (arith, newlines-append (decimal (numerator g)) (over (denominator g)), decimal-flat (numerator g), over-flat (denominator g))

spaces-flat : (n : ℕ) → newlines (replicate n space) ≡ 0
unfolding newlines pick
spaces-flat zero = refl
spaces-flat (suc n) = spaces-flat n

indent-flat : (depth : ℕ) → newlines (indent depth) ≡ 0
unfolding indent
indent-flat depth = spaces-flat (4 + 2 * depth)

synchrony-flat : (w : ℕ) → newlines (synchrony_word w) ≡ 0
unfolding synchrony_word newlines pick
synchrony-flat zero = refl
synchrony-flat (suc w) = refl

error-flat : (v : ℕ) → newlines (error_word v) ≡ 0
unfolding error_word newlines pick
error-flat zero = refl
error-flat (suc zero) = refl
error-flat (suc (suc zero)) = refl
error-flat (suc (suc (suc v))) = refl

escaped-plain : {l : List ℕ} → All is_plain l → All is_plain (escaped l)
unfolding escaped pick
escaped-plain none = one refl none
escaped-plain (one {b = b} {bs = bs} e a) = go (is_escaped b) (escaped-plain a) where
  go : (u : Bool) → All is_plain (escaped bs) → All is_plain (pick u (backslash ∷ b ∷ escaped bs) (b ∷ escaped bs))
  go true h = one refl (one e h)
  go false h = one e h

quoted-flat : {l : List ℕ} → All is_plain l → newlines (quoted l) ≡ 0
unfolding quoted
quoted-flat a = newlines-plain (one refl (escaped-plain a))

-- ---- a written line

-- What stands before its token, the token and what is behind it up to the newline, and that the token is found there.
pub record Laid (ls : List (List ℕ)) (s : Spot) (l : Line) : Type 0 where
  pub before : List ℕ
  pub token : List ℕ
  pub whole : line_text ls s l ≡ before ++ (token ++ (newline ∷ []))
  pub flat_before : newlines before ≡ 0
  pub flat : newlines token ≡ 0
  pub there : (rest : List ℕ) → token_in l (blanks (before ++ (token ++ (newline ∷ rest)))) ≡ token ++ (newline ∷ rest)

-- A message's quote stands behind its number, an item's delay behind its indentation.
quote-there : (l : List ℕ) (n : ℕ) (ys : List ℕ) → n < any_number → token_in (message l) (blanks (bytes_of "  " ++ (decimal n ++ (space ∷ (quoted l ++ ys))))) ≡ quoted l ++ ys
unfolding token_in left_by quoted past_blanks is_blank pick
quote-there l n ys p =
    rw (led-solid (decimal-led n (space ∷ (quoted l ++ ys))), number_read any_number n {ys = space ∷ (quoted l ++ ys)} p p (digits-end _))

beats-there : (depth g : ℕ) (ys zs : List ℕ) → blanks (indent depth ++ ((beats_text g ++ ys) ++ zs)) ≡ (beats_text g ++ ys) ++ zs
beats-there depth g ys zs = rw (indent-passed depth ((beats_text g ++ ys) ++ zs), append_assoc (beats_text g) ys zs) (led-solid (beats-led g (ys ++ zs)))

module _ (ls : List (List ℕ)) where
  heading-laid : (s : Spot) → Laid ls s heading
  unfolding line_text newlines token_in past_blanks is_blank pick
  heading-laid s = record { before = []; token = bytes_of "messages"; whole = refl; flat_before = refl; flat = refl; there = λ rest. refl }

  message-laid : (s : Spot) (l : List ℕ) → s.messages < any_number → All is_plain l → Laid ls s (message l)
  unfolding line_text newlines pick
  message-laid s l p a =
      let n = decimal s.messages in
      record {
        before = bytes_of "  " ++ (n ++ bytes_of " ");
        token = quoted l;
        whole = rw (append_assoc n (bytes_of " ") (quoted l ++ bytes_of "\n"));
        flat_before = omega (arith, newlines-append n (bytes_of " "), decimal-flat s.messages);
        flat = quoted-flat a;
        there = λ rest. rw (append_assoc n (bytes_of " ") (quoted l ++ (newline ∷ rest))) (quote-there l s.messages (newline ∷ rest) p);
      }

  event-laid : (s : Spot) (g : ℕ) → Laid ls s (event g)
  unfolding line_text remark newlines token_in past_blanks is_blank pick
  event-laid s g =
      let n = decimal (suc s.events) in
      record {
        before = [];
        token = bytes_of "event " ++ (beats_text g ++ (bytes_of " # " ++ n));
        whole = rw (append_assoc (beats_text g) (bytes_of " # " ++ n) (newline ∷ []));
        flat_before = refl;
        flat = omega (arith, newlines-append (beats_text g) (bytes_of " # " ++ n), beats-flat g, decimal-flat (suc s.events));
        there = λ rest. refl;
      }

  part-laid : (s : Spot) (p : ℕ) → Laid ls s (part p)
  unfolding line_text newlines token_in past_blanks is_blank pick
  part-laid s p = record { before = bytes_of "  "; token = bytes_of "part " ++ decimal p; whole = refl; flat_before = refl; flat = decimal-flat p; there = λ rest. refl }

  send-laid : (s : Spot) (g n : ℕ) → All is_plain (get_or ls n []) → Laid ls s (send g n)
  unfolding line_text remark newlines token_in pick
  send-laid s g n a =
      let behind = bytes_of " send " ++ (decimal n ++ (bytes_of " # " ++ get_or ls n [])) in
      record {
        before = indent s.depth;
        token = beats_text g ++ behind;
        whole = rw (append_assoc (beats_text g) behind (newline ∷ []), append_assoc (decimal n) (bytes_of " # " ++ get_or ls n []) (newline ∷ []));
        flat_before = indent-flat s.depth;
        flat = omega (arith, newlines-append (beats_text g) behind, newlines-append (decimal n) (bytes_of " # " ++ get_or ls n []), beats-flat g, decimal-flat n, newlines-plain a);
        there = λ rest. beats-there s.depth g behind (newline ∷ rest);
      }

  group-laid : (s : Spot) (g w v : ℕ) → Laid ls s (group g w v)
  unfolding line_text newlines token_in pick
  group-laid s g w v =
      let last = error_word v ++ bytes_of " {" in
      let behind = bytes_of " group " ++ (synchrony_word w ++ (bytes_of " " ++ last)) in
      record {
        before = indent s.depth;
        token = beats_text g ++ behind;
        whole =
            rw (
              append_assoc (beats_text g) behind (newline ∷ []),
              append_assoc (synchrony_word w) (bytes_of " " ++ last) (newline ∷ []),
              append_assoc (error_word v) (bytes_of " {") (newline ∷ []),
            );
        flat_before = indent-flat s.depth;
        flat =
            omega (
              arith,
              newlines-append (beats_text g) behind,
              newlines-append (synchrony_word w) (bytes_of " " ++ last),
              newlines-append (error_word v) (bytes_of " {"),
              beats-flat g,
              synchrony-flat w,
              error-flat v,
            );
        there = λ rest. beats-there s.depth g behind (newline ∷ rest);
      }

  close-laid : (s : Spot) → Laid ls s close
  unfolding line_text newlines token_in past_blanks is_blank pick
  close-laid s =
      record {
        before = indent (s.depth - 1);
        token = bytes_of "}";
        whole = refl;
        flat_before = indent-flat (s.depth - 1);
        flat = refl;
        there = λ rest. indent-passed (s.depth - 1) (bytes_of "}" ++ (newline ∷ rest));
      }

  -- Wherever it may stand.
  pub may-laid : {stage : Stage} {s : Spot} {l : Line} → May ls stage s l → Laid ls s l
  may-laid (may_head {s = s}) = heading-laid s
  may-laid (may_list {s = s} {l = l} e p a) = message-laid s l (omega arith) a
  may-laid (may_time {s = s} {g = g} o p) = event-laid s g
  may-laid (may_part {s = s} {p = p} w q) = part-laid s p
  may-laid (may_send {s = s} {g = g} {n = n} p q a) = send-laid s g n a
  may-laid (may_group {s = s} {g = g} {w = w} {v = v} p q r) = group-laid s g w v
  may-laid (may_close {s = s}) = close-laid s
