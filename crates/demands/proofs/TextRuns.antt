-- Demands 2 and 3 of a score that was read from its text: the file that the text makes is accepted and says what the text says, so the theorems of files are
-- theorems of texts. And texts that make the same file are performed alike. Assumes nothing.
use Rattle.std.specs.Prelude.{Ok}
use mathlib.Core.Path.{◌≡◌, ap, sym, ◌∙◌}
use Prim.Native.Nat.{ℕ, ◌+◌, ◌*◌, ◌≤◌, ◌<◌}
use mathlib.Core.Bool.{true, false}
use mathlib.Core.List.{List, map}
use lib.ListN.{length, get_or}
use Rattle.score.specs.Piece.{Piece, decode}
use Rattle.score.specs.File.{Accepted}
use Rattle.text.specs.Said.{piece, said}
use Rattle.text.specs.Written.{written}
use Rattle.text.specs.Transcripts.{file_of, read_answer}
use Rattle.text.specs.Layout.{squeezed}
use Rattle.text.proofs.GrantedLaws.{granted-accepted, granted-decoded, granted-again}
use Rattle.text.proofs.LayoutLaws.{same-file}
use Rattle.text.proofs.RoundTrip.{reading-written}
use Rattle.rules.specs.Terms.{Terms}
use Rattle.rules.specs.Page.{entries}
use Rattle.rules.specs.Parts.{sounding_items, sounding_entries}
use Rattle.session.specs.Layout.{room_size}
use Rattle.session.specs.Parts.{sounds}
use Rattle.opening.specs.Opening.{opened}
use Rattle.demands.specs.History.{Call, start}
use Rattle.demands.specs.Answers.{message_of, sounding_in, run_of}
use Rattle.demands.specs.Memory.{Openable, answers_in, run_in}
use Rattle.demands.specs.Texts.{Opens}
use Rattle.demands.specs.Demands.{sent_by, messages_in, whole_piece, next_messages, sent_in, with_parts, every_part, only_parts, merge_all}
use Rattle.demands.proofs.Demand2.{demand-2, demand-2-room}
use Rattle.demands.proofs.Demand2Sent.{demand-2-fits}
use Rattle.demands.proofs.Demand3.{demand-3-c, demand-3-a-memory, demand-3-b-memory}

-- ---- a text whose reading is granted

module _ (room : ℕ) (text : List ℕ) (n : ℕ) (granted : read_answer room text ≡ Ok n) where
  pub read-openable : (m : List ℕ) (o : Terms) → Opens m o → Openable (file_of (said text)) m o
  read-openable m o c = record { accepted = granted-accepted room text n granted; long = c.long; sixteen = c.sixteen; speed = c.speed; graced = c.graced }

  -- Demand 2: the answers over session memory are those of the history,
  pub read-demand-2 : (m : List ℕ) (o : Terms) → Opens m o → (cs : List Call) → run_in (file_of (said text)) m o cs ≡ run_of (file_of (said text)) o cs
  read-demand-2 m o c cs = demand-2 (file_of (said text)) m o (read-openable m o c) cs

  -- and the messages in the send room are those that the rules give the piece that the text says.
  pub read-demand-2-room : (m : List ℕ) (o : Terms) → Opens m o → (cs : List Call) (p : Piece) → said text ≡ piece p
      → map sent_in (answers_in (file_of (said text)) (opened m (file_of (said text)) o).memory cs)
      ≡ map (map message_of) (sent_by p.durations (sounding_entries (sounds o.parts) (entries p.items)) (start o) cs)
  unfolding messages_in sounding_in
  read-demand-2-room m o c cs p e =
      demand-2-room (file_of (said text)) m o (read-openable m o c) cs
      ∙ ap (λ (q : Piece). map (map message_of) (sent_by q.durations (sounding_entries (sounds o.parts) (entries q.items)) (start o) cs))
      (granted-decoded room text n granted p e)

  pub read-demand-2-fits : (o : Terms) (cs : List Call) (c : Call) → 2 * length (next_messages (file_of (said text)) o cs c) ≤ room_size
  read-demand-2-fits o cs c = demand-2-fits (file_of (said text)) (granted-accepted room text n granted) o cs c

  -- Demand 3 (a): some parts send the whole piece's messages with the others' struck out, and all sixteen the whole piece's.
  pub read-demand-3-a : (m k : List ℕ) (o : Terms) → Opens m o → Opens k (with_parts every_part o) → (cs : List Call)
      → (map sent_in (answers_in (file_of (said text)) (opened m (file_of (said text)) o).memory cs)
      ≡ map (map message_of) (map (only_parts (sounds o.parts)) (whole_piece (file_of (said text)) o cs)))
      × (map sent_in (answers_in (file_of (said text)) (opened k (file_of (said text)) (with_parts every_part o)).memory cs)
      ≡ map (map message_of) (whole_piece (file_of (said text)) o cs))
  read-demand-3-a m k o c d cs = demand-3-a-memory (file_of (said text)) m k o (read-openable m o c) (read-openable k (with_parts every_part o) d) cs

  -- (b): two sets with no part in common send what each sends alone, merged.
  pub read-demand-3-b : (m : List ℕ) (A B : ℕ) → ((p : ℕ) → sounds A p ≡ true → sounds B p ≡ false) → (o : Terms) → Opens m (with_parts (A + B) o) → (cs : List Call)
      → map sent_in (answers_in (file_of (said text)) (opened m (file_of (said text)) (with_parts (A + B) o)).memory cs)
      ≡ map (map message_of) (merge_all (messages_in (file_of (said text)) (with_parts A o) cs) (messages_in (file_of (said text)) (with_parts B o) cs))
  read-demand-3-b m A B apart o c cs = demand-3-b-memory (file_of (said text)) m A B apart o (read-openable m (with_parts (A + B) o) c) cs

-- (c): two texts that say the same events, the same messages and the same items of the sounding parts are performed alike, look-ups included.
module _ (room other : ℕ) (t u : List ℕ) (n k : ℕ) (granted : read_answer room t ≡ Ok n) (granted' : read_answer other u ≡ Ok k)
    (p q : Piece) (says : said t ≡ piece p) (says' : said u ≡ piece q) (o : Terms)
    (durations : p.durations ≡ q.durations) (labels : p.labels ≡ q.labels)
    (items : sounding_items (sounds o.parts) p.items ≡ sounding_items (sounds o.parts) q.items) where
  pub read-demand-3-c : (cs : List Call) → run_of (file_of (said t)) o cs ≡ run_of (file_of (said u)) o cs
  read-demand-3-c cs =
      let a = granted-decoded room t n granted p says in
      let b = granted-decoded other u k granted' q says' in
      demand-3-c (file_of (said t)) (file_of (said u)) (granted-accepted room t n granted) (granted-accepted other u k granted') o
      (rw (a, b) durations) (rw (a, b) labels) (rw (a, b) items) cs

  pub read-demand-3-c-memory : (m l : List ℕ) → Opens m o → Opens l o → (cs : List Call) → run_in (file_of (said t)) m o cs ≡ run_in (file_of (said u)) l o cs
  read-demand-3-c-memory m l c d cs =
      read-demand-2 room t n granted m o c cs ∙ read-demand-3-c cs ∙ sym (read-demand-2 other u k granted' l o d cs)

-- ---- texts that make the same file

-- Blanks and comments are never heard.
pub relaid-run : (t u : List ℕ) → squeezed t ≡ squeezed u → (m : List ℕ) (o : Terms) (cs : List Call) → run_in (file_of (said t)) m o cs ≡ run_in (file_of (said u)) m o cs
relaid-run t u e m o cs = ap (λ (f : List ℕ). run_in f m o cs) (same-file t u e)

-- An accepted file that is written and read again, and a text that is read, written and read again, are performed as before.
pub written-run : (f : List ℕ) → ((i : ℕ) → get_or f i 0 < 256) → Accepted f → (m : List ℕ) (o : Terms) (cs : List Call)
    → run_in (file_of (said (written (decode f)))) m o cs ≡ run_in f m o cs
written-run f bytes a m o cs = ap (λ (g : List ℕ). run_in g m o cs) (reading-written f bytes a)

pub reread-run : (room : ℕ) (t : List ℕ) (n : ℕ) → read_answer room t ≡ Ok n → (m : List ℕ) (o : Terms) (cs : List Call)
    → run_in (file_of (said (written (decode (file_of (said t)))))) m o cs ≡ run_in (file_of (said t)) m o cs
reread-run room t n granted m o cs = ap (λ (f : List ℕ). run_in f m o cs) (granted-again room t n granted)
