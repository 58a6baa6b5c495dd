-- What a call answered, printed: its messages or its number, the opening's reply, the end.
-- Assumes nothing.
use mathlib.Core.Path.{◌≡◌, refl}
use mathlib.Core.Bool.{true}
use mathlib.Core.List.{List}
use Prim.Native.Nat.{ℕ, ◌*◌, ◌≤◌}
use native.Mathlib.Omega.{arith}
use lib.ListN.{length}
use borrow.Author.Rules.{rules}
use Rattle.std.specs.Prelude.{Result, Ok, Err}
use Rattle.base.specs.Checks.{Check, fine, refused}
use Rattle.ascii.specs.Laying.{Laid}
use Rattle.contents.specs.declared.Reply.{Reply}
use Rattle.session.specs.declared.Refusal.{Refusal}
use Rattle.session.specs.Layout.{room_size, most_sent, clock_at, tempo_at, last_at, word_at}
use Rattle.session.specs.Replies.{refusal_row}
use Rattle.sending.specs.Room.{pairs_in}
use Rattle.sending.specs.Sending.{sent_at}
use Rattle.sending.proofs.SentLaws.{sent-few, filled-length}
use Rattle.sequencer.specs.declared.Figures.{Figures}
use Rattle.sequencer.specs.declared.ReportReply.{ReportReply}
use Rattle.sequencer.specs.Replies.{report_reply}
use Rattle.sequencer.specs.Calls.{SendingResult, heard_check, pass_check, noted, clock_after, sent_now, if_fine, heard_note, passing_time, reported}
use Rattle.sequencer.proofs.GrantLaws.{hearable, passable}
use Rattle.lines.specs.Output.{no_line, end_line}
use Rattle.playing.specs.Printed.{figures_of, sent_lines, sending_lines, carried_sending, ending}
use Rattle.playing.specs.Inner.{Fits, Carries}

-- ---- the send room holds what a call says that it sent

refused-fits : (x : Refusal) (room : List ℕ) → Fits (Err x) room
refused-fits x room =
    record {
      few = λ c e. let z : ◌≡◌ {A = ℕ} 0 1 = cc in absurd (omega arith);
      within = λ c e. let z : ◌≡◌ {A = ℕ} 0 1 = cc in absurd (omega arith);
    }

granted-fits : (clock tempo last : ℕ) (m room : List ℕ) → room_size ≤ length room → Fits (sent_now clock tempo last m room).reply (sent_now clock tempo last m room).room
unfolding sent_now
granted-fits clock tempo last m room l =
    record {
      few = λ c e. let z : length (sent_at clock m) ≡ c = cc in omega (arith, sent-few clock m);
      within = λ c e. let z : length (sent_at clock m) ≡ c = cc in omega (arith, sent-few clock m, filled-length (sent_at clock m) room (omega (arith, sent-few clock m)));
    }

checked-fits : (v : Check Refusal) (g : SendingResult) (m room : List ℕ) → (v ≡ fine → Fits g.reply g.room) → Fits (if_fine v g m room).reply (if_fine v g m room).room
unfolding if_fine
checked-fits fine g m room f = f refl
checked-fits (refused x) g m room f = refused-fits x room

note-fits : (m room : List ℕ) (event tempo : ℕ) → Fits (heard_note m room event tempo).reply (heard_note m room event tempo).room
unfolding heard_note
note-fits m room event tempo =
    checked-fits (heard_check m room event tempo) (sent_now (word_at m clock_at) tempo event (noted event m) room) m room
    (λ e. granted-fits (word_at m clock_at) tempo event (noted event m) room (hearable m room event tempo e).wide)

passing-fits : (m room : List ℕ) (ms : ℕ) → Fits (passing_time m room ms).reply (passing_time m room ms).room
unfolding passing_time
passing-fits m room ms =
    checked-fits (pass_check m room ms) (sent_now (clock_after m ms) (word_at m tempo_at) (word_at m last_at) m room) m room
    (λ e. granted-fits (clock_after m ms) (word_at m tempo_at) (word_at m last_at) m room (passable m room ms e).wide)

module _ (m room m' room' : List ℕ) (s : Result ℕ Refusal) where
  pub heard-fits : (event tempo : ℕ) → heard_note m room event tempo ≡ record { reply = s; memory = m'; room = room' } → Fits s room'
  heard-fits event tempo e = rw e at (note-fits m room event tempo)

  pub pass_fits : (ms : ℕ) → passing_time m room ms ≡ record { reply = s; memory = m'; room = room' } → Fits s room'
  pass_fits ms e = rw e at (passing-fits m room ms)

pub fits-few : (s : Result ℕ Refusal) (room : List ℕ) (c : ℕ) → Fits s room → s ≡ Ok c → c ≤ most_sent
fits-few s room c f e = f.few c e

pub fits-within : (s : Result ℕ Refusal) (room : List ℕ) (c : ℕ) → Fits s room → s ≡ Ok c → 2 * c ≤ length room
fits-within s room c f e = f.within c e

-- ---- the report's figures

pub figures-told : (m : List ℕ) (a : Result Figures Refusal) (r : ReportReply) → a ≡ reported m → r ≡ report_reply a → r.figures ≡ figures_of m
unfolding figures_of
figures-told m a r ea er = rw (er, ea)

pub ruleset reports = (figures-told, rules)

-- ---- what it prints

module _ (f m room out new : List ℕ) (s : Result ℕ Refusal) (n : ℕ) where
  pub sent-laid : (x : Figures) (c : ℕ) → x ≡ figures_of m → s ≡ Ok c → Laid out 0 (sent_lines f x.clock (pairs_in c 0 room)) new n → Laid out 0 (sending_lines f m room s) new n
  unfolding sending_lines
  sent-laid x c ex es laid = rw es (rw ex at laid)

  pub refused-laid : (x : Refusal) (r : Reply) → r ≡ refusal_row x → s ≡ Err x → Laid out 0 (no_line r.number) new n → Laid out 0 (sending_lines f m room s) new n
  unfolding sending_lines
  refused-laid x r er es laid = rw es (rw er at laid)

pub ruleset answers = (fits-few, fits-within, sent-laid, refused-laid, rules)

pub sending-carries : (f m' room' out new : List ℕ) (s : Result ℕ Refusal) (n : ℕ) (x : SendingResult) → x ≡ record { reply = s; memory = m'; room = room' }
    → Laid out 0 (sending_lines f m' room' s) new n → Carries (carried_sending f true x) out m' room' new true n
unfolding carried_sending
sending-carries f m' room' out new s n x e laid = rw e (record { memory = refl; room = refl; opened = refl; output = laid })

pub ruleset calls = (heard-fits, pass_fits, sending-carries, rules)

-- ---- the end

pub end-laid : (m out new : List ℕ) (n : ℕ) (x : Figures) → x ≡ figures_of m → Laid out 0 (end_line x.clock x.total) new n → Laid out 0 (ending m) new n
unfolding ending
end-laid m out new n x e laid = rw e at laid

pub ruleset ends = (end-laid, rules)
