-- What the demands speak of: the messages of a whole run of calls, those of some of the parts, and two lists of messages merged.
use Rattle.std.specs.Prelude.{◌≡◌, ℕ, suc, ◌+◌, Bool, true, false, eqb, ltb, length}
use mathlib.Core.List.{List, [], ◌∷◌, ◌++◌, Memᴰ}
use Rattle.base.specs.Tests.{pick}
use Rattle.base.specs.Only.{only}
use Rattle.score.specs.Piece.{decode}
use Rattle.rules.specs.Terms.{Terms}
use Rattle.rules.specs.Page.{Entry, entries}
use Rattle.session.specs.Parts.{sounds}
use Rattle.sending.specs.Room.{Message, pairs_in}
use Rattle.demands.specs.History.{Call, Now, start, after}
use Rattle.demands.specs.Messages.{Sent, sent_between}
use Rattle.demands.specs.Answers.{Answer, opening, sending, reporting, looking, messages_by, sounding_in}

-- ---- the messages of a run

-- Where a list of calls leads.
unfoldable pub after_all : (events : ℕ) → Now → List Call → Now
after_all n s [] = s
after_all n s (c ∷ cs) = after_all n (after n s c) cs

-- What each call sends, one after the other.
unfoldable pub sent_by : (durations : List ℕ) → List Entry → Now → List Call → List (List Sent)
sent_by ds es s [] = []
sent_by ds es s (c ∷ cs) = messages_by ds es s c ∷ sent_by ds es (after (length ds) s c) cs

-- A run of a file, from its opening on these terms: what each call sends.
unfoldable pub messages_in : (file : List ℕ) → Terms → List Call → List (List Sent)
messages_in f o cs = sent_by (decode f).durations (sounding_in f (sounds o.parts)) (start o) cs

-- The whole piece's: no part is struck out.
unfoldable pub whole_piece : (file : List ℕ) → Terms → List Call → List (List Sent)
whole_piece f o cs = sent_by (decode f).durations (entries (decode f).items) (start o) cs

-- The moment after all of its calls.
unfoldable pub end_of : (file : List ℕ) → Terms → List Call → Now
end_of f o cs = after_all (length (decode f).durations) (start o) cs

-- What one more call sends.
unfoldable pub next_messages : (file : List ℕ) → Terms → List Call → Call → List Sent
next_messages f o cs c = messages_by (decode f).durations (sounding_in f (sounds o.parts)) (end_of f o cs) c

-- What has come due of the sounding parts from the opening on: the messages whose event was heard and whose due date the clock has reached.
unfoldable pub come_due : (file : List ℕ) → Terms → List Call → List Sent
come_due f o cs = sent_between (decode f).durations (sounding_in f (sounds o.parts)) (start o) (end_of f o cs)

-- Of all calls together.
unfoldable pub joined : List (List Sent) → List Sent
joined [] = []
joined (l ∷ ls) = l ++ joined ls

-- How many of them pass a test. Two lists have the same messages, each as often, where any test tells so.
unfoldable pub tally : (Sent → Bool) → List Sent → ℕ
tally t [] = 0
tally t (x ∷ l) = pick (t x) (suc (tally t l)) (tally t l)

-- The message of the action at this page place.
unfoldable pub at_place : ℕ → Sent → Bool
at_place p x = eqb x.place p

-- The messages that the send room holds after a call.
unfoldable pub sent_in : Answer → List Message
sent_in (opening r) = []
sent_in (sending r room) = pairs_in r.count 0 room
sent_in (reporting r) = []
sent_in (looking r label) = []

-- ---- counts

-- The count in a call's reply.
unfoldable pub count_in : Answer → ℕ
count_in (opening r) = 0
count_in (sending r room) = r.count
count_in (reporting r) = 0
count_in (looking r label) = 0

unfoldable pub sum_of : List ℕ → ℕ
sum_of [] = 0
sum_of (n ∷ l) = n + sum_of l

-- ---- parts

-- The same terms with other part bits.
abbrev pub with_parts : ℕ → Terms → Terms
with_parts bits o = record { parts = bits; tempo = o.tempo; grace = o.grace }

-- "sixteen part bits": all of them.
abbrev pub every_part : ℕ
every_part = 65535

-- The parts of either set.
unfoldable pub either : (S U : ℕ → Bool) → ℕ → Bool
either S U p = pick (S p) true (U p)

-- The other parts' messages struck out.
abbrev pub only_parts : (ℕ → Bool) → List Sent → List Sent
only_parts S l = only (λ x. S x.part) l

-- ---- "by due date and then page place"

unfoldable pub comes_before : Sent → Sent → Bool
comes_before x y = pick (eqb x.due y.due) (ltb x.place y.place) (ltb x.due y.due)

-- Each comes before all that follow it.
pub data InOrder : List Sent → Type 0 where
  no_more : InOrder []
  then : {x : Sent} {l : List Sent} → ((y : Sent) → Memᴰ y l → comes_before x y ≡ true) → InOrder l → InOrder (x ∷ l)

-- Those of the second list that come before x, then x, then rest makes one list of what is left.
unfoldable pub weave : Sent → (rest : List Sent → List Sent) → List Sent → List Sent
weave x rest [] = x ∷ rest []
weave x rest (y ∷ b) = elim (comes_before x y) [ true ↦ x ∷ rest (y ∷ b) | false ↦ y ∷ weave x rest b ]

-- Two lists merged: of their first messages the one that comes before the other goes first.
unfoldable pub merge : List Sent → List Sent → List Sent
merge [] b = b
merge (x ∷ a) b = weave x (merge a) b

-- Call by call.
unfoldable pub merge_all : List (List Sent) → List (List Sent) → List (List Sent)
merge_all [] bs = bs
merge_all (a ∷ l) [] = a ∷ l
merge_all (a ∷ l) (b ∷ bs) = merge a b ∷ merge_all l bs
