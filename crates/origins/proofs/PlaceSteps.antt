-- From an entry to its line and column, in the code's own terms: what is looked for by the aim of an entry is its origin.
-- Assumes nothing.
use Rattle.std.specs.Prelude.{Option, Some, None, Result, Ok, Err}
use mathlib.Core.Path.{◌≡◌, refl, sym, ap, ◌∙◌}
use mathlib.Core.Bool.{Bool, true, false}
use mathlib.Core.List.{List, [], ◌∷◌}
use Prim.Native.Nat.{ℕ, zero, suc, ◌-◌, ◌≤◌}
use native.Mathlib.Omega.{arith}
use lib.Dec.{eqb, ltb}
use lib.ListN.{length, take, drop, get_or, length-drop}
use lib.Seq.{length-take-le}
use borrow.Author.Rules.{rules}
use Rattle.base.specs.Tests.{pick}
use Rattle.contents.specs.declared.Counts.{Counts}
use Rattle.contents.specs.declared.entries.Entry.{Entry}
use Rattle.contents.specs.declared.entries.Entry.TheVariants as entry
use Rattle.contents.specs.Limits.{most_events}
use Rattle.contents.specs.Entries.{entry_at}
use Rattle.tokens.specs.declared.Place.{Place}
use Rattle.tokens.specs.Places.{place_behind}
use Rattle.text.specs.declared.Stage.TheVariants.{Start}
use Rattle.text.specs.Grammar.{script}
use Rattle.text.specs.Said.{Reading, piece, unread, said}
use Rattle.script.specs.Tallies.{tally_of}
use Rattle.script.proofs.BalancedLaws.{counted-said, counts-said}
use Rattle.origins.specs.declared.aims.Table.{Table}
use Rattle.origins.specs.declared.aims.Table.TheVariants.{Events}
use Rattle.origins.specs.declared.aims.Aim.{Aim}
use Rattle.origins.specs.declared.aims.Aim.TheVariants.{Nothing, TextEnd, ListEnd, Past}
use Rattle.origins.specs.Origins.{Placed, placed_lines, adds, count_of, token_in, is_listed, Origin, unmade, from, passing, list_end, contents_origins, origin_in, origin_of, place_of, place_in_text}
use Rattle.origins.specs.Aims.{no_place, Says, event_aim, field_aims, aim_at, share_of, hits_in, aim_behind, ended_as, sought_in, origin_as, Lies, lies_nothing, lies_at, Finds}

-- ---- what is looked for among the lines, by its case

seek-nothing : (e : List ℕ) (ps : List Placed) → sought_in Nothing e ps ≡ unmade
unfolding sought_in ended_as hits_in aim_behind pick
seek-nothing e [] = refl
seek-nothing e (p ∷ ps) = seek-nothing (pick (is_listed p.line) p.left e) ps

seek-text-end : (e : List ℕ) (ps : List Placed) → sought_in TextEnd e ps ≡ from []
unfolding sought_in ended_as hits_in aim_behind pick
seek-text-end e [] = refl
seek-text-end e (p ∷ ps) = seek-text-end (pick (is_listed p.line) p.left e) ps

seek-list-end : (e : List ℕ) (ps : List Placed) → sought_in ListEnd e ps ≡ from (list_end e ps)
unfolding sought_in ended_as hits_in aim_behind list_end pick
seek-list-end e [] = refl
seek-list-end e (p ∷ ps) = seek-list-end (pick (is_listed p.line) p.left e) ps

seek-past : (k : Table) (n : ℕ) (e : List ℕ) (ps : List Placed) → sought_in (Past k n) e ps ≡ passing k n ps
unfolding sought_in ended_as hits_in aim_behind share_of passing
seek-past k n e [] = refl
seek-past k n e (p ∷ ps) = ap (λ (o : Origin). pick (ltb n (count_of k (adds p.line))) (from (token_in p.line p.from)) o) (seek-past k (n - count_of k (adds p.line)) (pick (is_listed p.line) p.left e) ps)

module _ (t : List ℕ) (c : Counts) (ps : List Placed) where
  seek-events : sought_in (event_aim c.events) t ps ≡ pick (eqb c.events 0) (from []) (passing Events most_events ps)
  unfolding event_aim pick
  seek-events = go (eqb c.events 0) where
    go : (b : Bool) → sought_in (pick b TextEnd (Past Events most_events)) t ps ≡ pick b (from []) (passing Events most_events ps)
    go true = seek-text-end t ps
    go false = seek-past Events most_events t ps

  seek-field : (k : ℕ) → sought_in (get_or (field_aims c) k Nothing) t ps ≡ get_or (contents_origins t c ps) k unmade
  unfolding field_aims contents_origins
  seek-field zero = seek-nothing t ps
  seek-field (suc zero) = seek-events
  seek-field (suc (suc zero)) = seek-nothing t ps
  seek-field (suc (suc (suc zero))) = seek-past _ _ t ps
  seek-field (suc (suc (suc (suc zero)))) = seek-nothing t ps
  seek-field (suc (suc (suc (suc (suc zero))))) = seek-past _ _ t ps
  seek-field (suc (suc (suc (suc (suc (suc zero)))))) = seek-list-end t ps
  seek-field (suc (suc (suc (suc (suc (suc (suc zero))))))) = seek-past _ _ t ps
  seek-field (suc (suc (suc (suc (suc (suc (suc (suc k)))))))) = seek-nothing t ps

  -- What is looked for by the aim of an entry is its origin.
  seek-entry : (e : Entry) → sought_in (aim_at c e) t ps ≡ origin_in t c ps e
  unfolding aim_at origin_in
  seek-entry entry.Nowhere = seek-nothing t ps
  seek-entry (entry.Contents k) = seek-field k
  seek-entry (entry.Event n) = seek-past Events (n - 1) t ps
  seek-entry (entry.Item n) = seek-past _ n t ps
  seek-entry (entry.Message n) = seek-past _ n t ps

-- ---- what was found

module _ (t : List ℕ) (f : Option ℕ) where
  pub place-nothing : (r : Place) → f ≡ None → r ≡ no_place → r ≡ place_of t (origin_as t f)
  unfolding place_of origin_as
  place-nothing r e p = rw e p

  module _ (k : ℕ) (e : f ≡ Some k) (lies : Lies t f) where
    pub found_within : k ≤ length t
    found_within = go lies e where
      go : {g : Option ℕ} → Lies t g → g ≡ Some k → k ≤ length t
      go lies_nothing q = let z : ◌≡◌ {A = ℕ} 0 1 = cc in absurd (omega arith)
      go (lies_at {k = m} p) q = let z : m ≡ k = cc in rw z at p

    pub place-there : (r : Place) → r ≡ place_behind (take k t) → r ≡ place_of t (origin_as t f)
    unfolding place_of origin_as
    place-there r p = let z : length t - length (drop k t) ≡ k = omega (arith, length-drop k t, found_within) in rw (e, z) p

pub ruleset placing = (place-nothing, found_within, place-there, length-take-le, rules)

-- ---- the whole

pub place_found : (t : List ℕ) (c : Counts) (place : ℕ) (e : Entry) (a : Aim) (f : Option ℕ) (r : Place) → Says t c → e ≡ entry_at c place → a ≡ aim_at c e
    → Finds t (sought_in a t (placed_lines Start t (script Start t))) f → r ≡ place_of t (origin_as t f) → r ≡ place_in_text t place
unfolding place_in_text origin_of
place_found t c place e a f r says p q found told =
    let o : origin_as t f ≡ origin_in t c (placed_lines Start t (script Start t)) (entry_at c place) = rw (← p, ← seek-entry t c (placed_lines Start t (script Start t)) e, ← q) found.says in
    rw (says.says, ← says.counts, ← o) told

pub find-lies : (t : List ℕ) (what : Origin) (f : Option ℕ) → Finds t what f → Lies t f
find-lies t what f p = p.lies

pub ruleset finding = (place_found, find-lies, rules)

module _ (t : List ℕ) (tally : Result Counts ℕ) (told : tally ≡ tally_of (said t)) where
  pub text_says : (c : Counts) → tally ≡ Ok c → Says t c
  text_says c e = let z : Ok c ≡ tally_of (said t) = sym e ∙ told in record { says = counted-said t c z; counts = counts-said t c z }

  pub text-faulty : (at place : ℕ) (r : Place) → tally ≡ Err at → r ≡ no_place → r ≡ place_in_text t place
  unfolding place_in_text origin_of place_of tally_of
  text-faulty at place r e p = go (said t) refl where
    go : (s : Reading) → said t ≡ s → r ≡ place_of t (origin_of t (said t) place)
    go (unread k) q = rw q p
    go (piece x) q = let z : Err at ≡ tally_of (piece x) = sym e ∙ rw q at told in let y : ◌≡◌ {A = ℕ} 0 1 = cc in absurd (omega arith)

pub ruleset telling = (text_says, text-faulty, rules)
