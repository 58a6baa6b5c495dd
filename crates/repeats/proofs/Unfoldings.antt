-- Demands 2 and 3 of a score that was unfolded: its file is accepted and says the unfolded score, so the theorems of files are theorems of extended scores.
-- Assumes nothing.
use mathlib.Core.Path.{◌≡◌, ap, sym, ◌∙◌}
use Prim.Native.Nat.{ℕ, ◌+◌, ◌*◌, ◌≤◌, ◌<◌}
use mathlib.Core.Bool.{true, false}
use mathlib.Core.List.{List, map}
use lib.ListN.{length, get_or}
use Rattle.std.specs.Prelude.{Ok}
use Rattle.score.specs.Piece.{Piece, decode}
use Rattle.rules.specs.Terms.{Terms}
use Rattle.rules.specs.Page.{entries}
use Rattle.rules.specs.Parts.{sounding_items, sounding_entries}
use Rattle.session.specs.Layout.{room_size}
use Rattle.session.specs.Parts.{sounds}
use Rattle.opening.specs.Opening.{opened}
use Rattle.demands.specs.History.{Call, start}
use Rattle.demands.specs.Answers.{message_of, sounding_in, run_of}
use Rattle.demands.specs.Memory.{Openable, answers_in, run_in}
use Rattle.demands.specs.Texts.{Opens}
use Rattle.demands.specs.Demands.{sent_by, messages_in, whole_piece, next_messages, sent_in, with_parts, every_part, only_parts, merge_all}
use Rattle.demands.proofs.Demand2.{demand-2, demand-2-room}
use Rattle.demands.proofs.Demand2Sent.{demand-2-fits}
use Rattle.demands.proofs.Demand3.{demand-3-c, demand-3-a-memory, demand-3-b-memory}
use Rattle.unfolding.specs.Extended.{extended_of}
use Rattle.unfolding.specs.Sizes.{score_of}
use Rattle.unfolding.specs.Answers.{unfolded_file, unfold_answer}
use Rattle.unfolding.proofs.GrantedLaws.{granted}
use Rattle.unfolding.specs.Pieces.{piece_of}
use Rattle.unfolding.proofs.FileLaws.{unfolded-says}

-- ---- an extended score whose unfolding is granted

module _ (room : ℕ) (f : List ℕ) (n : ℕ) (made : unfold_answer room f ≡ Ok n) where
  pub unfold-openable : (m : List ℕ) (o : Terms) → Opens m o → Openable (unfolded_file f) m o
  unfold-openable m o c = record { accepted = (granted room f n made).accepted; long = c.long; sixteen = c.sixteen; speed = c.speed; graced = c.graced }

  -- Demand 2: the answers over session memory are those of the history,
  pub unfold-demand-2 : (m : List ℕ) (o : Terms) → Opens m o → (cs : List Call) → run_in (unfolded_file f) m o cs ≡ run_of (unfolded_file f) o cs
  unfold-demand-2 m o c cs = demand-2 (unfolded_file f) m o (unfold-openable m o c) cs

  -- and the messages in the send room are those that the rules give the unfolded score, its bytes being bytes.
  pub unfold-demand-2-room : ((i : ℕ) → get_or f i 0 < 256) → (m : List ℕ) (o : Terms) → Opens m o → (cs : List Call)
      → map sent_in (answers_in (unfolded_file f) (opened m (unfolded_file f) o).memory cs)
      ≡ map (map message_of) (sent_by (piece_of (score_of (extended_of f))).durations (sounding_entries (sounds o.parts) (entries (piece_of (score_of (extended_of f))).items)) (start o) cs)
  unfolding messages_in sounding_in
  unfold-demand-2-room bytes m o c cs =
      demand-2-room (unfolded_file f) m o (unfold-openable m o c) cs
      ∙ ap (λ (q : Piece). map (map message_of) (sent_by q.durations (sounding_entries (sounds o.parts) (entries q.items)) (start o) cs))
      (unfolded-says f bytes (granted room f n made).within)

  pub unfold-demand-2-fits : (o : Terms) (cs : List Call) (c : Call) → 2 * length (next_messages (unfolded_file f) o cs c) ≤ room_size
  unfold-demand-2-fits o cs c = demand-2-fits (unfolded_file f) (granted room f n made).accepted o cs c

  -- Demand 3 (a): some parts send the whole piece's messages with the others' struck out, and all sixteen the whole piece's.
  pub unfold-demand-3-a : (m k : List ℕ) (o : Terms) → Opens m o → Opens k (with_parts every_part o) → (cs : List Call)
      → (map sent_in (answers_in (unfolded_file f) (opened m (unfolded_file f) o).memory cs) ≡ map (map message_of) (map (only_parts (sounds o.parts)) (whole_piece (unfolded_file f) o cs)))
      × (map sent_in (answers_in (unfolded_file f) (opened k (unfolded_file f) (with_parts every_part o)).memory cs) ≡ map (map message_of) (whole_piece (unfolded_file f) o cs))
  unfold-demand-3-a m k o c d cs = demand-3-a-memory (unfolded_file f) m k o (unfold-openable m o c) (unfold-openable k (with_parts every_part o) d) cs

  -- (b): two sets with no part in common send what each sends alone, merged.
  pub unfold-demand-3-b : (m : List ℕ) (A B : ℕ) → ((p : ℕ) → sounds A p ≡ true → sounds B p ≡ false) → (o : Terms) → Opens m (with_parts (A + B) o) → (cs : List Call)
      → map sent_in (answers_in (unfolded_file f) (opened m (unfolded_file f) (with_parts (A + B) o)).memory cs)
      ≡ map (map message_of) (merge_all (messages_in (unfolded_file f) (with_parts A o) cs) (messages_in (unfolded_file f) (with_parts B o) cs))
  unfold-demand-3-b m A B apart o c cs = demand-3-b-memory (unfolded_file f) m A B apart o (unfold-openable m (with_parts (A + B) o) c) cs

-- (c): two extended scores that unfold to the same events, the same labels and the same items of the sounding parts are performed alike, look-ups included.
module _ (room other : ℕ) (f g : List ℕ) (n k : ℕ) (made : unfold_answer room f ≡ Ok n) (made' : unfold_answer other g ≡ Ok k) (bytes : (i : ℕ) → get_or f i 0 < 256)
    (bytes' : (i : ℕ) → get_or g i 0 < 256) (o : Terms) (durations : (piece_of (score_of (extended_of f))).durations ≡ (piece_of (score_of (extended_of g))).durations)
    (labels : (piece_of (score_of (extended_of f))).labels ≡ (piece_of (score_of (extended_of g))).labels)
    (items : sounding_items (sounds o.parts) (piece_of (score_of (extended_of f))).items ≡ sounding_items (sounds o.parts) (piece_of (score_of (extended_of g))).items) where
  pub unfold-demand-3-c : (cs : List Call) → run_of (unfolded_file f) o cs ≡ run_of (unfolded_file g) o cs
  unfold-demand-3-c cs =
      let a : decode (unfolded_file f) ≡ piece_of (score_of (extended_of f)) = unfolded-says f bytes (granted room f n made).within in
      let b : decode (unfolded_file g) ≡ piece_of (score_of (extended_of g)) = unfolded-says g bytes' (granted other g k made').within in
      demand-3-c (unfolded_file f) (unfolded_file g) (granted room f n made).accepted (granted other g k made').accepted o (rw (a, b) durations) (rw (a, b) labels) (rw (a, b) items) cs

  pub unfold-demand-3-c-memory : (m l : List ℕ) → Opens m o → Opens l o → (cs : List Call) → run_in (unfolded_file f) m o cs ≡ run_in (unfolded_file g) l o cs
  unfold-demand-3-c-memory m l c d cs = unfold-demand-2 room f n made m o c cs ∙ unfold-demand-3-c cs ∙ sym (unfold-demand-2 other g k made' l o d cs)
