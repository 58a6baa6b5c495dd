-- Other items for the silent parts change no answer: two accepted files with the same durations, the same labels and the same items of the sounding parts answer
-- every call alike.
-- Assumes nothing.
use mathlib.Core.Path.{◌≡◌, ap, sym, ◌∙◌}
use Prim.Native.Nat.{ℕ}
use mathlib.Core.Bool.{Bool}
use mathlib.Core.List.{List}
use Rattle.page.specs.declared.Item.{Item}
use Rattle.score.specs.Piece.{decode}
use Rattle.score.specs.File.{Accepted}
use Rattle.rules.specs.Terms.{Terms}
use Rattle.rules.specs.Page.{entries}
use Rattle.rules.specs.Parts.{sounding_entries, sounding_items}
use Rattle.rules.proofs.Placeless.{bare_entries}
use Rattle.rules.proofs.OwnItems.{own-entries}
use Rattle.session.specs.Parts.{sounds}
use Rattle.demands.specs.History.{Call, start}
use Rattle.demands.specs.Answers.{answers_of, sounding_in}
use Rattle.demands.proofs.Unplaced.{answers-alike}
use Rattle.demands.proofs.Labels.{same-reply, same_bytes}
use Rattle.demands.proofs.Table.{accepted-stands}

-- The sounding parts' items of an accepted file, read by themselves, are the sequences of the sounding parts, but for page places: the rules' law of own part.
sounding-read : (S : ℕ → Bool) (f : List ℕ) → Accepted f
    → bare_entries (sounding_entries S (entries (decode f).items)) ≡ bare_entries (entries (sounding_items S (decode f).items))
sounding-read S f a = sym (own-entries S (decode f).items (accepted-stands f a))

-- So other items for the silent parts change no answer.
pub same-run : (f g : List ℕ) → Accepted f → Accepted g → (o : Terms)
    → (decode f).durations ≡ (decode g).durations → (decode f).labels ≡ (decode g).labels
    → sounding_items (sounds o.parts) (decode f).items ≡ sounding_items (sounds o.parts) (decode g).items
    → (cs : List Call) → answers_of f o cs ≡ answers_of g o cs
unfolding answers_of sounding_in
same-run f g a b o d l i cs =
    let S = sounds o.parts in
    let alike : bare_entries (sounding_entries S (entries (decode f).items)) ≡ bare_entries (sounding_entries S (entries (decode g).items)) =
    sounding-read S f a ∙ (ap (λ (is : List Item). bare_entries (entries is)) i ∙ sym (sounding-read S g b)) in
    rw d (answers-alike (decode g).durations _ _ alike f g (same-reply f g a b l) (same_bytes f g a b l) 0 (start o) cs)
