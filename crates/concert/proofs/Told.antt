-- What `play` prints is what the rules give. From a granted opening on: line by line the session's words say the history, so a call answers as the history does, and
-- the send room holds the history's messages. Assumes nothing.
use mathlib.Core.Path.{◌≡◌, refl, ap, sym, ◌∙◌}
use Prim.Native.Nat.{ℕ, ◌+◌, ◌≤◌, ◌<◌}
use mathlib.Core.Bool.{true, false}
use mathlib.Core.List.{List, [], ◌∷◌, ◌++◌}
use native.Mathlib.Omega.{arith}
use lib.Dec.{eqb}
use lib.ListN.{length}
use borrow.Author.Tests.{le-leb, ne_eqb}
use Rattle.base.specs.Tests.{pick, between}
use Rattle.base.specs.Checks.{Check, fine, refused}
use Rattle.score.specs.File.{Accepted}
use Rattle.score.specs.Piece.{decode}
use Rattle.rules.specs.Terms.{Terms}
use Rattle.rules.specs.Page.{Entry}
use Rattle.session.specs.declared.Refusal.{Refusal}
use Rattle.session.specs.Layout.{memory_size, room_size, most_tempo, most_grace}
use Rattle.session.specs.Parts.{sounds, sounding_below}
use Rattle.opening.specs.Opening.{zeros, opening_check, opened}
use Rattle.opening.specs.Replies.{opening_reply}
use Rattle.opening.proofs.ClearedLaws.{zeros-length}
use Rattle.opening.proofs.Opened.{opened-accepted, opened-tempo, opened-grace, opened-sounding}
use Rattle.sequencer.specs.declared.Figures.{Figures}
use Rattle.sequencer.specs.Replies.{sending_reply, report_reply}
use Rattle.sequencer.specs.Calls.{SendingResult, heard_note, passing_time}
use Rattle.demands.specs.History.{Call, note, pass, report, Now, start, verdict, moved, after}
use Rattle.demands.specs.Answers.{Answer, opening, sending, reporting, looking, sending_answer, messages_of, messages_by, answer, sounding_in}
use Rattle.demands.specs.Memory.{answer_in, memory_after}
use Rattle.demands.proofs.Room.{few-sent}
use Rattle.demands.proofs.MemoryAndHistory.Holds.{Holds}
use Rattle.demands.proofs.MemoryAndHistory.Answers.{call-answers, call-leaves}
use Rattle.demands.proofs.MemoryAndHistory.Opened.{granted, opened-holds}
use Rattle.std.specs.Prelude.{Option, Some, None}
use Rattle.lines.specs.declared.Command.{Command}
use Rattle.lines.specs.declared.Command.TheVariants.{Open, Hear, Pass}
use Rattle.lines.specs.Lines.{lines_of}
use Rattle.lines.specs.Commands.{most_parts, command_of, in_turn}
use Rattle.lines.specs.Output.{open_line, bad_line}
use Rattle.lines.proofs.PartsLaws.{command-parts}
use Rattle.playing.specs.Printed.{Stand, figures_of, sending_lines, carried_opening, carried_sending, carried_by, carried, ending, printed_from, outset, printed}
use Rattle.chunks.specs.Reading.{end_read, nothing_read, chunks_read, input_of}
use Rattle.chunks.proofs.Chunks.{whatever-the-chunks}
use Rattle.concert.specs.Told.{sending_told, call_told, call, none, asked_by, told_from, opening_told, first_told, lines_told, told}
use Rattle.concert.proofs.MessageNumbers.{messages-small}
use Rattle.concert.proofs.AnswerTold.{answer-told, room-stays}
use Rattle.concert.proofs.Unopened.{printed-line, heard-first, passed_first, bad-first, refused-first, unopened-all}

-- ---- two calls that differ in their send rooms alone

record Alike (ds : List ℕ) (es : List Entry) (s : Now) (c d : Call) : Type 0 where
  checked : verdict (length ds) s c ≡ verdict (length ds) s d
  leads : moved s c ≡ moved s d
  sends : messages_of ds es s c ≡ messages_of ds es s d

module _ {ds : List ℕ} {es : List Entry} {s : Now} {c d : Call} (a : Alike ds es s c d) where
  alike-told : (f : List ℕ) → call_told f ds es s c ≡ call_told f ds es s d
  unfolding call_told
  alike-told f = rw (a.checked, a.sends) (ap (λ (t : Now). sending_told f (verdict (length ds) s d) t.clock (messages_of ds es s d)) a.leads)

  alike-sent : messages_by ds es s c ≡ messages_by ds es s d
  unfolding messages_by
  alike-sent = rw (a.checked, a.sends)

  alike-after : after (length ds) s c ≡ after (length ds) s d
  unfolding after
  alike-after = rw (a.checked, a.leads)

module _ (ds : List ℕ) (es : List Entry) (s : Now) (room room' : List ℕ) (wide : room_size ≤ length room) (wide' : room_size ≤ length room') where
  notes-alike : (h tempo : ℕ) → Alike ds es s (note room h tempo) (note room' h tempo)
  unfolding verdict moved messages_of
  notes-alike h tempo = record { checked = rw (le-leb room_size (length room) wide, le-leb room_size (length room') wide'); leads = refl; sends = refl }

  passes-alike : (ms : ℕ) → Alike ds es s (pass room ms) (pass room' ms)
  unfolding verdict moved messages_of
  passes-alike ms = record { checked = rw (le-leb room_size (length room) wide, le-leb room_size (length room') wide'); leads = refl; sends = refl }

zeros-wide : room_size ≤ length (zeros room_size)
zeros-wide = omega (arith, zeros-length room_size)

-- ---- a line carried out

abbrev standing : (m room : List ℕ) → Stand
standing m room = record { memory = m; room = room; opened = true }

module _ (f : List ℕ) (g n : ℕ) (m room l : List ℕ) where
  heard-line : (h tempo : ℕ) → command_of l ≡ Some (Hear h tempo) → carried f g n (standing m room) l ≡ carried_sending f true (heard_note m room h tempo)
  unfolding carried carried_by in_turn pick
  heard-line h tempo e = rw e

  passed-line : (ms : ℕ) → command_of l ≡ Some (Pass ms) → carried f g n (standing m room) l ≡ carried_sending f true (passing_time m room ms)
  unfolding carried carried_by in_turn pick
  passed-line ms e = rw e

  bad-line : command_of l ≡ None → carried f g n (standing m room) l ≡ record { stand = standing m room; output = bad_line n }
  unfolding carried carried_by in_turn
  bad-line e = rw e

  late-line : (parts tempo : ℕ) → 2 ≤ n → command_of l ≡ Some (Open parts tempo) → carried f g n (standing m room) l ≡ record { stand = standing m room; output = bad_line n }
  unfolding carried carried_by in_turn pick
  late-line parts tempo two e = let other : eqb n 1 ≡ false = ne_eqb n 1 (λ z. omega arith) in rw (e, other)

module _ (f ds : List ℕ) (es : List Entry) (n total : ℕ) (s : Now) (l : List ℕ) (ls : List (List ℕ)) where
  told-call : (k : Option Command) (c : Call) → command_of l ≡ k → asked_by k ≡ call c
      → told_from f ds es n total s (l ∷ ls)
      ≡ call_told f ds es s c ++ told_from f ds es (n + 1) (total + length (messages_by ds es s c)) (after (length ds) s c) ls
  unfolding told_from
  told-call k c e a = rw (e, a, told_from)

  told-bad : (k : Option Command) → command_of l ≡ k → asked_by k ≡ none → told_from f ds es n total s (l ∷ ls) ≡ bad_line n ++ told_from f ds es (n + 1) total s ls
  unfolding told_from
  told-bad k e a = rw (e, a, told_from)

-- ---- a session that says what a history comes to

module _ (f : List ℕ) (accepted : Accepted f) (o : Terms) where
  abbrev ds : List ℕ
  ds = (decode f).durations

  abbrev es : List Entry
  es = sounding_in f (sounds o.parts)

  figures_in : Answer → Figures
  figures_in (opening r) = record { clock = 0; tempo = 0; last = 0; total = 0 }
  figures_in (sending r room) = record { clock = 0; tempo = 0; last = 0; total = 0 }
  figures_in (reporting r) = r.figures
  figures_in (looking r label) = record { clock = 0; tempo = 0; last = 0; total = 0 }

  -- What the report gives.
  figures-told : (total : ℕ) (s : Now) (m : List ℕ) → Holds f o total s m → figures_of m ≡ record { clock = s.clock; tempo = s.tempo; last = s.last; total = total }
  unfolding figures_of answer_in answer report_reply figures_in
  figures-told total s m holds = ap figures_in (call-answers f accepted o total s m holds report)

  -- ---- a call: r is what it comes to, and d the same call with another send room

  module _ (n total : ℕ) (s : Now) (room : List ℕ) (c d : Call) (r : SendingResult) (ls : List (List ℕ))
      (answers : sending (sending_reply r.reply) r.room ≡ sending_answer (verdict (length ds) s c) (messages_of ds es s c) room)
      (leaves : Holds f o (total + length (messages_by ds es s c)) (after (length ds) s c) r.memory)
      (alike : Alike ds es s c d) where
    sent-told : sending_lines f r.memory r.room r.reply ≡ call_told f ds es s c
    unfolding call_told after
    sent-told =
        answer-told f room r.room s (moved s c) r.memory r.reply (verdict (length ds) s c) (messages_of ds es s c) (messages-small f accepted (sounds o.parts) ds s c) answers
        (ap (λ (x : Figures). x.clock) (figures-told _ _ _ leaves))

    still-wide : room_size ≤ length room → room_size ≤ length r.room
    unfolding messages_by
    still-wide wide =
        room-stays room r.room (sending_reply r.reply) (verdict (length ds) s c) (messages_of ds es s c) wide (few-sent f accepted (sounds o.parts) ds s c) answers

    sending-told : printed_from f o.grace (n + 1) (standing r.memory r.room) ls ≡ told_from f ds es (n + 1) (total + length (messages_by ds es s c)) (after (length ds) s c) ls
        → (carried_sending f true r).output ++ printed_from f o.grace (n + 1) (carried_sending f true r).stand ls
        ≡ call_told f ds es s d ++ told_from f ds es (n + 1) (total + length (messages_by ds es s d)) (after (length ds) s d) ls
    unfolding carried_sending
    sending-told rest = rw (← alike-told alike f, ← alike-sent alike, ← alike-after alike, sent-told, rest)

  -- ---- a line, where those after it are printed as they are told

  module _ (n total : ℕ) (s : Now) (m room : List ℕ) (holds : Holds f o total s m) (wide : room_size ≤ length room) (l : List ℕ) (ls : List (List ℕ))
      (later : (total : ℕ) (s : Now) (m room : List ℕ) → Holds f o total s m → room_size ≤ length room
      → printed_from f o.grace (n + 1) (standing m room) ls ≡ told_from f ds es (n + 1) total s ls) where
    hear-told : (h tempo : ℕ) → command_of l ≡ Some (Hear h tempo) → printed_from f o.grace n (standing m room) (l ∷ ls) ≡ told_from f ds es n total s (l ∷ ls)
    unfolding answer_in answer memory_after asked_by
    hear-told h tempo e =
        let c : Call = note room h tempo in
        let r : SendingResult = heard_note m room h tempo in
        let answers = call-answers f accepted o total s m holds c in
        let leaves = call-leaves f accepted o total s m holds c in
        let alike = notes-alike ds es s room (zeros room_size) wide zeros-wide h tempo in
        printed-line f o.grace n (standing m room) l ls _ (heard-line f o.grace n m room l h tempo e)
        ∙ (sending-told n total s room c (note (zeros room_size) h tempo) r ls answers leaves alike
        (later _ _ r.memory r.room leaves (still-wide n total s room c (note (zeros room_size) h tempo) r ls answers leaves alike wide))
        ∙ sym (told-call f ds es n total s l ls (Some (Hear h tempo)) (note (zeros room_size) h tempo) e refl))

    pass-told : (ms : ℕ) → command_of l ≡ Some (Pass ms) → printed_from f o.grace n (standing m room) (l ∷ ls) ≡ told_from f ds es n total s (l ∷ ls)
    unfolding answer_in answer memory_after asked_by
    pass-told ms e =
        let c : Call = pass room ms in
        let r : SendingResult = passing_time m room ms in
        let answers = call-answers f accepted o total s m holds c in
        let leaves = call-leaves f accepted o total s m holds c in
        let alike = passes-alike ds es s room (zeros room_size) wide zeros-wide ms in
        printed-line f o.grace n (standing m room) l ls _ (passed-line f o.grace n m room l ms e)
        ∙ (sending-told n total s room c (pass (zeros room_size) ms) r ls answers leaves alike
        (later _ _ r.memory r.room leaves (still-wide n total s room c (pass (zeros room_size) ms) r ls answers leaves alike wide))
        ∙ sym (told-call f ds es n total s l ls (Some (Pass ms)) (pass (zeros room_size) ms) e refl))

    bad-told : (k : Option Command) → command_of l ≡ k → asked_by k ≡ none → carried f o.grace n (standing m room) l ≡ record { stand = standing m room; output = bad_line n }
        → printed_from f o.grace n (standing m room) (l ∷ ls) ≡ told_from f ds es n total s (l ∷ ls)
    bad-told k e a c =
        printed-line f o.grace n (standing m room) l ls _ c ∙ (ap (λ (t : List ℕ). bad_line n ++ t) (later total s m room holds wide) ∙ sym (told-bad f ds es n total s l ls k e a))

    line-told : 2 ≤ n → (k : Option Command) → command_of l ≡ k → printed_from f o.grace n (standing m room) (l ∷ ls) ≡ told_from f ds es n total s (l ∷ ls)
    unfolding asked_by
    line-told two (Some (Open parts tempo)) e = bad-told (Some (Open parts tempo)) e refl (late-line f o.grace n m room l parts tempo two e)
    line-told two (Some (Hear h tempo)) e = hear-told h tempo e
    line-told two (Some (Pass ms)) e = pass-told ms e
    line-told two None e = bad-told None e refl (bad-line f o.grace n m room l e)

  lines-told : (ls : List (List ℕ)) (n total : ℕ) (s : Now) (m room : List ℕ) → 2 ≤ n → Holds f o total s m → room_size ≤ length room
      → printed_from f o.grace n (standing m room) ls ≡ told_from f ds es n total s ls
  unfolding printed_from told_from ending
  lines-told [] n total s m room two holds wide = rw (figures-told total s m holds)
  lines-told (l ∷ ls) n total s m room two holds wide =
      line-told n total s m room holds wide l ls (λ total' s' m' room' holds' wide'. lines-told ls (n + 1) total' s' m' room' (omega arith) holds' wide') two (command_of l) refl

-- ---- from the opening on

zeros-long : memory_size ≤ length (zeros memory_size)
zeros-long = omega (arith, zeros-length memory_size)

module _ (f : List ℕ) (o : Terms) (accepted : Accepted f) (sixteen : o.parts < 65536) (speed : between 1 most_tempo o.tempo ≡ true)
    (graced : o.grace ≤ most_grace) where
  -- The first line opens the session.
  opening-line : (first : List ℕ) → command_of first ≡ Some (Open o.parts o.tempo)
      → carried f o.grace 1 outset first
      ≡ record { stand = standing (opened (zeros memory_size) f o).memory (zeros room_size); output = open_line 0 (sounding_below o.parts 16) }
  unfolding carried carried_by in_turn pick outset carried_opening opening_reply
  opening-line first e =
      rw (e, opened-sounding (zeros memory_size) f o (granted f (zeros memory_size) o accepted zeros-long sixteen speed graced) sixteen)

  -- Whatever the lines after it are.
  granted-told : (first : List ℕ) (rest : List (List ℕ)) → command_of first ≡ Some (Open o.parts o.tempo)
      → printed_from f o.grace 1 outset (first ∷ rest)
      ≡ open_line 0 (sounding_below o.parts 16) ++ told_from f (decode f).durations (sounding_in f (sounds o.parts)) 2 0 (start o) rest
  granted-told first rest e =
      printed-line f o.grace 1 outset first rest _ (opening-line first e)
      ∙ ap (λ (t : List ℕ). open_line 0 (sounding_below o.parts 16) ++ t)
      (lines-told f accepted o rest 2 0 (start o) (opened (zeros memory_size) f o).memory (zeros room_size) (omega arith)
      (opened-holds f (zeros memory_size) o accepted zeros-long sixteen speed graced) zeros-wide)

-- ---- the whole input

module _ (f l : List ℕ) (ls : List (List ℕ)) where
  opening-told : (o : Terms) → command_of l ≡ Some (Open o.parts o.tempo) → (v : Check Refusal) → opening_check (zeros memory_size) f o ≡ v
      → printed_from f o.grace 1 outset (l ∷ ls) ≡ opening_told f o v ls
  unfolding opening_told
  opening-told o e fine g =
      let few : o.parts ≤ most_parts = command-parts o.parts o.tempo l e in
      granted-told f o (opened-accepted (zeros memory_size) f o g) (omega arith) (opened-tempo (zeros memory_size) f o g) (opened-grace (zeros memory_size) f o g) l ls e
  opening-told o e (refused x) g = refused-first f o.grace l ls o x refl e g

  first-told : (g : ℕ) (c : Option Command) → command_of l ≡ c → printed_from f g 1 outset (l ∷ ls) ≡ first_told f g c l ls
  unfolding first_told
  first-told g (Some (Open parts tempo)) e = opening-told (record { parts = parts; tempo = tempo; grace = g }) e _ refl
  first-told g (Some (Hear event tempo)) e = heard-first f g l ls event tempo e
  first-told g (Some (Pass ms)) e = passed_first f g l ls ms e
  first-told g None e = bad-first f g l ls e

every-told : (f : List ℕ) (g : ℕ) (ls : List (List ℕ)) → printed_from f g 1 outset ls ≡ lines_told f g ls
unfolding lines_told
every-told f g [] = unopened-all f g
every-told f g (l ∷ ls) = first-told f l ls g (command_of l) refl

-- What is printed is what the rules give, whatever the bytes of the score file and of the input are, and the grace.
pub printed-told : (f : List ℕ) (g : ℕ) (input : List ℕ) → printed f g input ≡ told f g input
unfolding printed told
printed-told f g input = every-told f g (lines_of input)

-- So are the outputs joined, whatever the chunks in which an input comes.
pub chunks-told : (f : List ℕ) (g : ℕ) (chunks : List (List ℕ))
    → (chunks_read f (nothing_read g) chunks).output ++ end_read f (chunks_read f (nothing_read g) chunks).reading ≡ told f g (input_of chunks)
chunks-told f g chunks = whatever-the-chunks f g chunks ∙ printed-told f g (input_of chunks)
