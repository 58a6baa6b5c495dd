-- The answers of a run do not hang on the numbers of the page places: sequences that are alike but for those give the same answers, where the look-ups agree.
-- Assumes nothing.
use mathlib.Core.Path.{◌≡◌, refl, ap, sym, ◌∙◌}
use Prim.Native.Nat.{ℕ, ◌+◌}
use mathlib.Core.Bool.{Bool, true, false}
use mathlib.Core.List.{List, [], ◌∷◌, map}
use lib.ListN.{length, length-map}
use Rattle.score.specs.LookUp.{label_reply, label_bytes}
use Rattle.rules.specs.Rules.{reading_of, Outcome, played, dropped, undecided}
use Rattle.rules.specs.Page.{Entry, Cue, cues}
use Rattle.rules.specs.Parts.{placeless}
use Rattle.rules.proofs.Placeless.{bare_entries, cues-bare}
use Rattle.sending.specs.Room.{Message}
use Rattle.session.specs.declared.Refusal.{Refusal}
use Rattle.base.specs.Checks.{Check, fine, refused}
use Rattle.demands.specs.History.{Call, note, pass, report, look_up, Now, heard_events, verdict, after}
use Rattle.demands.specs.Messages.{Sent, first_time, sends, firsts, insert, order, sent_between}
use Rattle.demands.specs.Answers.{Answer, message_of, sending_answer, messages_of, if_granted, messages_by, answer, answers}
use Rattle.demands.proofs.Ordered.{insert-ahead, insert-behind, Place, ahead, behind, place}

-- ---- messages without their page places

bare : Sent → Sent
bare x = record { due = x.due; place = 0; part = x.part; message = x.message }

bares : List Sent → List Sent
bares [] = []
bares (x ∷ l) = bare x ∷ bares l

-- ---- in what is sent

first-bare : (b n : Bool) (x : Sent) (l : List Sent) → first_time b n (bare x) (bares l) ≡ bares (first_time b n x l)
unfolding first_time bares
first-bare true n x l = refl
first-bare false true x l = refl
first-bare false false x l = refl

bare_cue : Cue → Cue
bare_cue c = record { place = 0; part = c.part; message = c.message; outcome = c.outcome }

sends-bare : (s n : Now) (c : Cue) (o : Outcome) (l : List Sent) → sends s n (bare_cue c) o (bares l) ≡ bares (sends s n c o l)
unfolding sends bare_cue bare
sends-bare s n c (played i d) l = first-bare _ _ (record { due = _; place = c.place; part = c.part; message = c.message }) l
sends-bare s n c dropped l = refl
sends-bare s n c undecided l = refl

firsts-bare : (s n : Now) (l : List Cue) → firsts s n (placeless l) ≡ bares (firsts s n l)
unfolding firsts placeless bares bare_cue
firsts-bare s n [] = refl
firsts-bare s n (c ∷ l) = rw (firsts-bare s n l) (sends-bare s n c c.outcome (firsts s n l))

insert-bare : (x : Sent) (l : List Sent) → insert (bare x) (bares l) ≡ bares (insert x l)
unfolding insert bares bare
insert-bare x [] = refl
insert-bare x (y ∷ l) = go (place x y) (insert-bare x l)
  where
    go : Place x y → insert (bare x) (bares l) ≡ bares (insert x l) → insert (bare x) (bare y ∷ bares l) ≡ bares (insert x (y ∷ l))
    go (ahead h) ih = rw (insert-ahead x y l h) (insert-ahead (bare x) (bare y) (bares l) h)
    go (behind h) ih = rw (insert-behind x y l h, insert-behind (bare x) (bare y) (bares l) h, ih)

order-bare : (l : List Sent) → order (bares l) ≡ bares (order l)
unfolding order bares
order-bare [] = refl
order-bare (x ∷ l) = rw (order-bare l) (insert-bare x (order l))

between-bare : (ds : List ℕ) (es : List Entry) (s n : Now) → sent_between ds (bare_entries es) s n ≡ bares (sent_between ds es s n)
unfolding sent_between
between-bare ds es s n =
    let R = reading_of n.terms ds (heard_events n.hearings) in
    rw (cues-bare R es, firsts-bare s n (cues R es)) (order-bare _)

words-bare : (l : List Sent) → map message_of (bares l) ≡ map message_of l
unfolding bares bare message_of
words-bare [] = refl
words-bare (x ∷ l) = ap (λ (k : List Message). message_of x ∷ k) (words-bare l)

-- ---- in the answers

module _ (ds : List ℕ) (es fs : List Entry) (alike : bare_entries es ≡ bare_entries fs) where
  between-alike : (s n : Now) → map message_of (sent_between ds es s n) ≡ map message_of (sent_between ds fs s n)
  between-alike s n =
      sym (words-bare (sent_between ds es s n))
      ∙ (ap (map message_of) (sym (between-bare ds es s n) ∙ (ap (λ (k : List Entry). sent_between ds k s n) alike ∙ between-bare ds fs s n))
      ∙ words-bare (sent_between ds fs s n))

  messages-alike : (s : Now) (c : Call) → map message_of (messages_of ds es s c) ≡ map message_of (messages_of ds fs s c)
  unfolding messages_of
  messages-alike s (note room h tempo) = between-alike s _
  messages-alike s (pass room ms) = between-alike s _
  messages-alike s report = refl
  messages-alike s (look_up n) = refl

  lengths : (l k : List Sent) → map message_of l ≡ map message_of k → length l ≡ length k
  lengths l k e = sym (length-map l message_of) ∙ (ap length e ∙ length-map k message_of)

  total-alike : (s : Now) (c : Call) → length (messages_by ds es s c) ≡ length (messages_by ds fs s c)
  unfolding messages_by if_granted
  total-alike s c = go (verdict (length ds) s c)
    where
      go : (g : Check Refusal) → length (if_granted g (messages_of ds es s c)) ≡ length (if_granted g (messages_of ds fs s c))
      go fine = lengths (messages_of ds es s c) (messages_of ds fs s c) (messages-alike s c)
      go (refused x) = refl

  sending-alike : (g : Check Refusal) (l k : List Sent) (room : List ℕ) → map message_of l ≡ map message_of k → sending_answer g l room ≡ sending_answer g k room
  unfolding sending_answer
  sending-alike fine l k room e = rw (e, lengths l k e)
  sending-alike (refused x) l k room e = refl

  module _ (f g : List ℕ) (found : (n : ℕ) → label_reply f n ≡ label_reply g n) (bytes : (n : ℕ) → label_bytes f n ≡ label_bytes g n) where
    answer-alike : (total : ℕ) (s : Now) (c : Call) → answer f ds es total s c ≡ answer g ds fs total s c
    unfolding answer
    answer-alike total s (note room h tempo) = sending-alike _ _ _ room (messages-alike s (note room h tempo))
    answer-alike total s (pass room ms) = sending-alike _ _ _ room (messages-alike s (pass room ms))
    answer-alike total s report = refl
    answer-alike total s (look_up n) = rw (found n, bytes n)

    pub answers-alike : (total : ℕ) (s : Now) (cs : List Call) → answers f ds es total s cs ≡ answers g ds fs total s cs
    unfolding answers
    answers-alike total s [] = refl
    answers-alike total s (c ∷ cs) =
        rw (answer-alike total s c, total-alike s c)
        (ap (λ (l : List Answer). answer g ds fs total s c ∷ l) (answers-alike (total + length (messages_by ds fs s c)) (after (length ds) s c) cs))
