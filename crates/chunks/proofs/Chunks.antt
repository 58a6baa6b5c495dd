-- Whatever the chunks that the input comes in, and though only the first bytes of a line are kept, what is printed is what the whole input prints.
-- By induction over the bytes: what is kept is the beginning of the line so far. Assumes nothing.
use mathlib.Core.Path.{◌≡◌, refl, sym, ap, ◌∙◌}
use mathlib.Core.Bool.{Bool, true, false}
use mathlib.Core.List.{List, [], ◌∷◌, ◌++◌, append_assoc}
use Prim.Native.Nat.{ℕ, ◌+◌}
use lib.ListN.{take}
use lib.Dec.{eqb}
use Rattle.base.proofs.TestLaws.{pick_true, pick-false}
use Rattle.ascii.specs.Words.{newline}
use Rattle.lines.specs.Input.{kept_bytes}
use Rattle.lines.proofs.KeptLaws.{command-of-kept, take_again}
use Rattle.lines.specs.Lines.{last_line, lines_from, lines_of}
use Rattle.playing.specs.Printed.{Stand, Carried, carried, ending, printed_from, outset, printed}
use Rattle.chunks.specs.Reading.{Reading, ReadOn, line_read, byte_kept, bytes_read, last_read, end_read, nothing_read, chunks_read, input_of}
use Rattle.chunks.proofs.ReadingLaws.{reading-in-pieces, output-in-pieces, newline-read, other-read}

-- ---- what is kept decides what a line does

pub carried-of-kept : (f : List ℕ) (g n : ℕ) (s : Stand) (l : List ℕ) → carried f g n s (take kept_bytes l) ≡ carried f g n s l
unfolding carried
carried-of-kept f g n s l = rw (command-of-kept l)

-- the line that is left at the input's end, if any is, and the end
end-of-kept : (f : List ℕ) (g n : ℕ) (s : Stand) (l : List ℕ)
    → end_read f (record { stand = s; lines = n; kept = take kept_bytes l; grace = g }) ≡ printed_from f g (n + 1) s (last_line l)
unfolding end_read last_read line_read last_line printed_from
end-of-kept f g n s [] = refl
end-of-kept f g n s (b ∷ bs) = ap (λ (c : Carried). c.output ++ ending c.stand.memory) (carried-of-kept f g (n + 1) s (b ∷ bs))

-- ---- the bytes that come, and the end after them

-- What is printed at these bytes, and at the end.
abbrev at_all : (file : List ℕ) → Reading → List ℕ → List ℕ
at_all f r bs = (bytes_read f r bs).output ++ end_read f (bytes_read f r bs).reading

module _ (f : List ℕ) (r : Reading) (b : ℕ) (bs : List ℕ) where
  all-after-newline : eqb b newline ≡ true → at_all f r (b ∷ bs) ≡ (line_read f r).output ++ at_all f (line_read f r).reading bs
  all-after-newline e =
      let y : ReadOn = bytes_read f (line_read f r).reading bs in
      ap (λ (x : ReadOn). x.output ++ end_read f x.reading) (newline-read f r b bs e) ∙ append_assoc (line_read f r).output y.output (end_read f y.reading)

  all-after-other : eqb b newline ≡ false → at_all f r (b ∷ bs) ≡ at_all f (byte_kept r b).reading bs
  all-after-other e = ap (λ (x : ReadOn). x.output ++ end_read f x.reading) (other-read f r b bs e)

-- The line so far has begun with these bytes.
abbrev begun_with : (grace : ℕ) → Stand → ℕ → List ℕ → Reading
begun_with g s n begun = record { stand = s; lines = n; kept = take kept_bytes begun; grace = g }

module _ (f : List ℕ) (g : ℕ) where
  abbrev Begun : Stand → ℕ → (begun bs : List ℕ) → Type 0
  Begun s n begun bs = at_all f (begun_with g s n begun) bs ≡ printed_from f g (n + 1) s (lines_from begun bs)

  line-ended : (s : Stand) (n : ℕ) (begun : List ℕ) (b : ℕ) (bs : List ℕ) → eqb b newline ≡ true → Begun (carried f g (n + 1) s begun).stand (n + 1) [] bs → Begun s n begun (b ∷ bs)
  unfolding line_read lines_from printed_from
  line-ended s n begun b bs e r =
      let c : Carried = carried f g (n + 1) s begun in
      let l : lines_from begun (b ∷ bs) ≡ begun ∷ lines_from [] bs = sym (pick_true _ _ _ _ e refl) in
      all-after-newline f (begun_with g s n begun) b bs e
      ∙ ap (λ (x : Carried). x.output ++ at_all f (record { stand = x.stand; lines = n + 1; kept = []; grace = g }) bs) (carried-of-kept f g (n + 1) s begun)
      ∙ ap (λ (o : List ℕ). c.output ++ o) r
      ∙ ap (λ (ls : List (List ℕ)). printed_from f g (n + 1) s ls) (sym l)

  line-goes-on : (s : Stand) (n : ℕ) (begun : List ℕ) (b : ℕ) (bs : List ℕ) → eqb b newline ≡ false → Begun s n (begun ++ (b ∷ [])) bs → Begun s n begun (b ∷ bs)
  unfolding byte_kept lines_from
  line-goes-on s n begun b bs e r =
      let l : lines_from begun (b ∷ bs) ≡ lines_from (begun ++ (b ∷ [])) bs = sym (pick-false _ _ _ _ e refl) in
      all-after-other f (begun_with g s n begun) b bs e
      ∙ ap (λ (k : List ℕ). at_all f (record { stand = s; lines = n; kept = k; grace = g }) bs) (take_again kept_bytes begun (b ∷ []))
      ∙ r
      ∙ ap (λ (ls : List (List ℕ)). printed_from f g (n + 1) s ls) (sym l)

  all_from : (s : Stand) (n : ℕ) (begun bs : List ℕ) → Begun s n begun bs
  unfolding bytes_read lines_from
  all_from s n begun [] = end-of-kept f g n s begun
  all_from s n begun (b ∷ bs) = go (eqb b newline) refl (all_from (carried f g (n + 1) s begun).stand (n + 1) [] bs) (all_from s n (begun ++ (b ∷ [])) bs) where
    go : (t : Bool) → eqb b newline ≡ t → Begun (carried f g (n + 1) s begun).stand (n + 1) [] bs → Begun s n (begun ++ (b ∷ [])) bs → Begun s n begun (b ∷ bs)
    go true e p q = line-ended s n begun b bs e p
    go false e p q = line-goes-on s n begun b bs e q

-- Bytes that come at once.
pub bytes-printed : (f : List ℕ) (g : ℕ) (input : List ℕ)
    → (bytes_read f (nothing_read g) input).output ++ end_read f (bytes_read f (nothing_read g) input).reading ≡ printed f g input
unfolding nothing_read printed lines_of
bytes-printed f g input = all_from f g outset 0 [] input

-- ---- chunks one after the other

pub chunks-reading : (f : List ℕ) (r : Reading) (cs : List (List ℕ)) → (chunks_read f r cs).reading ≡ (bytes_read f r (input_of cs)).reading
unfolding chunks_read bytes_read input_of
chunks-reading f r [] = refl
chunks-reading f r (c ∷ cs) = chunks-reading f (bytes_read f r c).reading cs ∙ sym (reading-in-pieces f r c (input_of cs))

pub chunks-output : (f : List ℕ) (r : Reading) (cs : List (List ℕ)) → (chunks_read f r cs).output ≡ (bytes_read f r (input_of cs)).output
unfolding chunks_read bytes_read input_of
chunks-output f r [] = refl
chunks-output f r (c ∷ cs) =
    ap (λ (o : List ℕ). (bytes_read f r c).output ++ o) (chunks-output f (bytes_read f r c).reading cs) ∙ sym (output-in-pieces f r c (input_of cs))

pub whatever-the-chunks : (f : List ℕ) (g : ℕ) (chunks : List (List ℕ))
    → (chunks_read f (nothing_read g) chunks).output ++ end_read f (chunks_read f (nothing_read g) chunks).reading ≡ printed f g (input_of chunks)
whatever-the-chunks f g chunks = rw (chunks-reading f (nothing_read g) chunks, chunks-output f (nothing_read g) chunks) (bytes-printed f g (input_of chunks))
