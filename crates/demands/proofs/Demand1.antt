-- Demand 1, of every call: "a refusal carries its number exactly when the table says, and leaves session memory and send room as they came", words past 8,192 are
-- never read or changed, and no second outcome satisfies a call's contract. Each contract is one equation for all that a call comes to, so two outcomes are both
-- what it says. Assumes nothing.
use Rattle.std.specs.Prelude.{Result}
use mathlib.Core.Path.{◌≡◌, refl, sym, ap, ◌∙◌}
use mathlib.Core.List.{List}
use Prim.Native.Nat.{ℕ, ◌*◌}
use native.Mathlib.Omega.{arith}
use lib.ListN.{length, drop}
use denote.Ref.{Bor}
use Rattle.std.specs.Prelude.{Result, Ok, Err}
use Rattle.base.specs.Checks.{Check, fine, refused}
use Rattle.contents.specs.declared.Fault.{Fault}
use Rattle.contents.specs.Replies.{verdict_of}
use Rattle.score.specs.Piece.{decode}
use Rattle.score.specs.File.{checked}
use Rattle.score.specs.LookUp.{label_reply, label_span, granted, Part}
use Rattle.text.specs.declared.TextError.{TextError}
use Rattle.text.specs.Said.{said}
use Rattle.text.specs.Written.{written}
use Rattle.text.specs.Transcripts.{room_left, file_of, read_answer, write_answer}
use Rattle.rules.specs.Terms.{Terms}
use Rattle.session.specs.declared.Refusal.{Refusal}
use Rattle.session.specs.Layout.{memory_size}
use Rattle.session.specs.Replies.{refusal_row}
use Rattle.opening.specs.Replies.{opening_reply}
use Rattle.opening.specs.Opening.{opening_check, OpeningResult, opened}
use Rattle.opening.proofs.Opened.{refused-kept}
use Rattle.sequencer.specs.declared.Figures.{Figures}
use Rattle.sequencer.specs.Replies.{sending_reply, report_reply}
use Rattle.sequencer.specs.Calls.{SendingResult, sent_now, if_fine, heard_check, heard_note, pass_check, passing_time, reported}
use Rattle.sequencer.proofs.CallsKeep.{heard-keeps, pass-keeps}
use Rattle.sequencer.proofs.FirstWords.{first, cut, heard-first, pass-first, report-first}

-- ---- "A refusal sends nothing and changes no lent word."

pub refused-opening : (m f : List ℕ) (o : Terms) (x : Refusal) → opening_check m f o ≡ refused x → opened m f o ≡ record { reply = Err x; memory = m }
refused-opening = refused-kept

refused-either : (c : Check Refusal) (clock tempo last : ℕ) (m₁ m room : List ℕ) (x : Refusal) → (if_fine c (sent_now clock tempo last m₁ room) m room).reply ≡ Err x
    → if_fine c (sent_now clock tempo last m₁ room) m room ≡ record { reply = Err x; memory = m; room = room }
unfolding if_fine sent_now
refused-either fine clock tempo last m₁ m room x e = let z : ◌≡◌ {A = ℕ} 0 1 = cc in absurd (omega arith)
refused-either (refused y) clock tempo last m₁ m room x e = let p : y ≡ x = cc in rw p

pub refused-note : (m room : List ℕ) (event tempo : ℕ) (x : Refusal) → (heard_note m room event tempo).reply ≡ Err x
    → heard_note m room event tempo ≡ record { reply = Err x; memory = m; room = room }
unfolding heard_note
refused-note m room event tempo x e = refused-either (heard_check m room event tempo) _ _ _ _ m room x e

pub refused-passing : (m room : List ℕ) (ms : ℕ) (x : Refusal) → (passing_time m room ms).reply ≡ Err x
    → passing_time m room ms ≡ record { reply = Err x; memory = m; room = room }
unfolding passing_time
refused-passing m room ms x e = refused-either (pass_check m room ms) _ _ _ _ m room x e

-- "a refused one hands back an empty part at the file's start"
pub refused-look-up : (f : List ℕ) (n : ℕ) (x : Fault) → label_reply f n ≡ refused x → label_span f n ≡ record { start = 0; size = 0 }
unfolding label_span granted
refused-look-up f n x e = rw e

-- ---- "Beside number and place, every figure in its reply is 0."

module _ (x : Refusal) where
  pub no-parts : opening_reply (Err x) ≡ record { number = (refusal_row x).number; place = (refusal_row x).place; parts = 0 }
  unfolding opening_reply
  no-parts = refl

  pub no-count : sending_reply (Err x) ≡ record { number = (refusal_row x).number; place = (refusal_row x).place; count = 0 }
  unfolding sending_reply
  no-count = refl

  pub no-figures : report_reply (Err x)
      ≡ record { number = (refusal_row x).number; place = (refusal_row x).place; figures = record { clock = 0; tempo = 0; last = 0; total = 0 } }
  unfolding report_reply
  no-figures = refl

-- ---- "Words past 8,192 are never read or changed", on any memory: where the first 8,192 words are the same, reply, room and first 8,192 words after the call are

module _ (m k : List ℕ) (same : first m ≡ first k) where
  pub unread-note : (room : List ℕ) (event tempo : ℕ) → cut (heard_note m room event tempo) ≡ cut (heard_note k room event tempo)
  unread-note room event tempo =
      sym (heard-first m room event tempo) ∙ ap (λ (l : List ℕ). heard_note l room event tempo) same ∙ heard-first k room event tempo

  pub unread-passing : (room : List ℕ) (ms : ℕ) → cut (passing_time m room ms) ≡ cut (passing_time k room ms)
  unread-passing room ms = sym (pass-first m room ms) ∙ ap (λ (l : List ℕ). passing_time l room ms) same ∙ pass-first k room ms

  pub unread-report : reported m ≡ reported k
  unread-report = sym (report-first m) ∙ ap reported same ∙ report-first k

pub unchanged-note : (m room : List ℕ) (event tempo : ℕ) → drop memory_size (heard_note m room event tempo).memory ≡ drop memory_size m
unchanged-note m room event tempo = (heard-keeps m room event tempo).words.past

pub unchanged-passing : (m room : List ℕ) (ms : ℕ) → drop memory_size (passing_time m room ms).memory ≡ drop memory_size m
unchanged-passing m room ms = (pass-keeps m room ms).words.past

-- ---- "The first 2c words of the send room then hold [..]; the rest is unchanged."

pub rest-note : (m room : List ℕ) (event tempo c : ℕ) → (heard_note m room event tempo).reply ≡ Ok c
    → drop (2 * c) (heard_note m room event tempo).room ≡ drop (2 * c) room
rest-note m room event tempo c e = (heard-keeps m room event tempo).after c e

pub rest-passing : (m room : List ℕ) (ms c : ℕ) → (passing_time m room ms).reply ≡ Ok c → drop (2 * c) (passing_time m room ms).room ≡ drop (2 * c) room
rest-passing m room ms c e = (pass-keeps m room ms).after c e

-- ---- no second outcome, call by call: the premises are the call's contract, of two outcomes

-- `check_file`
pub one-check : (f : List ℕ) (r s : Result (Unit {0}) Fault) → r ≡ verdict_of (checked f) → s ≡ verdict_of (checked f) → r ≡ s
one-check f r s p q = p ∙ sym q

-- `label_reply`
pub one-look-up : (f : List ℕ) (n : ℕ) (r s : Result (Unit {0}) Fault) → r ≡ verdict_of (label_reply f n) → s ≡ verdict_of (label_reply f n) → r ≡ s
one-look-up f n r s p q = p ∙ sym q

-- `label`: where the part lies, and its bytes. The ghost name of a borrow is no part of an outcome.
pub one_label : (f r s : Bor (List ℕ)) (n : ℕ) → Part f r (label_span f.now n) → Part f s (label_span f.now n) → (r.ref_ptr ≡ s.ref_ptr) × (r.now ≡ s.now)
one_label f r s n p q = (p.place ∙ sym q.place, p.bytes ∙ sym q.bytes)

-- `open_session`: r and s are a reply with the memory that it leaves.
pub one-opening : (m f : List ℕ) (o : Terms) (r s : OpeningResult) → opened m f o ≡ r → opened m f o ≡ s → r ≡ s
one-opening m f o r s p q = sym p ∙ q

-- `hear`: r and s are a reply with the memory and the room that it leaves.
pub one-note : (m room : List ℕ) (event tempo : ℕ) (r s : SendingResult) → heard_note m room event tempo ≡ r → heard_note m room event tempo ≡ s → r ≡ s
one-note m room event tempo r s p q = sym p ∙ q

-- `pass`
pub one-passing : (m room : List ℕ) (ms : ℕ) (r s : SendingResult) → passing_time m room ms ≡ r → passing_time m room ms ≡ s → r ≡ s
one-passing m room ms r s p q = sym p ∙ q

-- `read_report`
pub one-report : (m : List ℕ) (r s : Result Figures Refusal) → r ≡ reported m → s ≡ reported m → r ≡ s
one-report m r s p q = p ∙ sym q

-- a reply, and the room that it leaves of what was made
one-room : (w r s : Result ℕ TextError) (made room m k : List ℕ) → r ≡ w → m ≡ room_left r made room → s ≡ w → k ≡ room_left s made room → (r ≡ s) × (m ≡ k)
one-room w r s made room m k p a q b = (p ∙ sym q, a ∙ ap (λ (x : Result ℕ TextError). room_left x made room) (p ∙ sym q) ∙ sym b)

-- `read_text`: r and s are the replies, m and k the room as each leaves it.
pub one-reading : (text room : List ℕ) (r s : Result ℕ TextError) (m k : List ℕ)
    → r ≡ read_answer (length room) text → m ≡ room_left r (file_of (said text)) room
    → s ≡ read_answer (length room) text → k ≡ room_left s (file_of (said text)) room
    → (r ≡ s) × (m ≡ k)
one-reading text room r s m k p a q b = one-room _ r s _ room m k p a q b

-- `write_text`
pub one-writing : (f room : List ℕ) (r s : Result ℕ TextError) (m k : List ℕ)
    → r ≡ write_answer (length room) f → m ≡ room_left r (written (decode f)) room
    → s ≡ write_answer (length room) f → k ≡ room_left s (written (decode f)) room
    → (r ≡ s) × (m ≡ k)
one-writing f room r s m k p a q b = one-room _ r s _ room m k p a q b
