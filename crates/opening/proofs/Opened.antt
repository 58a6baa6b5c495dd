-- What holds after an opening: a granted one leaves a session that says what the file says, and none touches the words past 8,192.
-- A grant says that every check passed, and so the words are those of a new session. Assumes nothing.
use mathlib.Core.Path.{◌≡◌, refl, sym}
use mathlib.Core.Bool.{true, false}
use mathlib.Core.List.{List}
use Prim.Native.Nat.{ℕ, ◌<◌, ◌≤◌}
use native.Mathlib.Omega.{arith}
use lib.ListN.{length, get_or, drop}
use borrow.Author.Tests.{leb-true, ne_eqb}
use Rattle.std.specs.Prelude.{Ok, Err}
use Rattle.base.specs.Tests.{between}
use Rattle.base.specs.Checks.{Check, fine, refused}
use Rattle.base.proofs.TestLaws.{between-low, between-high, every-stop}
use Rattle.base.proofs.CheckLaws.{first_head, first_rest, first_holds, renamed-fine}
use Rattle.score.specs.File.{Accepted}
use Rattle.score.specs.Piece.{decode}
use Rattle.rules.specs.Terms.{Terms}
use Rattle.session.specs.declared.Refusal.{Refusal}
use Rattle.session.specs.declared.Refusal.TheVariants.{File}
use Rattle.session.specs.Layout.{memory_size, most_tempo, most_grace, mark_at, mark}
use Rattle.session.specs.Parts.{sounding_below}
use Rattle.session.specs.Session.{is_session}
use Rattle.session.proofs.SoundingParts.{ones-sounding}
use Rattle.opening.specs.Opening.{zeros, opening_check, opened}
use Rattle.opening.proofs.ClearedLaws.{zeros-at}
use Rattle.opening.proofs.Fitting.{Fits, accepted-fits}
use Rattle.opening.proofs.Fresh.{Fresh, new-fresh, fresh-session}

-- ---- a granted opening

module _ (m f : List ℕ) (o : Terms) (granted : opening_check m f o ≡ fine) where
  pub opened-long : memory_size ≤ length m
  unfolding opening_check
  opened-long = leb-true _ _ (first_holds _ _ _ granted)

  pub opened-accepted : Accepted f
  unfolding opening_check
  opened-accepted = record { fine = renamed-fine File _ (first_head _ _ (first_rest _ _ granted)) }

  pub opened-tempo : between 1 most_tempo o.tempo ≡ true
  unfolding opening_check
  opened-tempo = first_holds _ _ _ (first_rest _ _ (first_rest _ _ granted))

  pub opened-grace : o.grace ≤ most_grace
  unfolding opening_check
  opened-grace = leb-true _ _ (first_holds _ _ _ (first_rest _ _ (first_rest _ _ (first_rest _ _ granted))))

  pub opened-fits : Fits (decode f)
  opened-fits = accepted-fits f opened-accepted

  -- The session says what the file says: header, starts, page, and nothing heard or sent.
  pub opened-fresh : Fresh (decode f) o m (opened m f o).memory
  unfolding opened
  opened-fresh = rw (granted, opened) (new-fresh (decode f) o m opened-fits opened-long)

  -- "Every opened session satisfies it"
  pub opened-session : o.parts < 65536 → is_session (opened m f o).memory ≡ true
  opened-session sixteen =
      fresh-session (decode f) o m _ opened-fits opened-fresh sixteen (between-low _ _ _ opened-tempo) (between-high _ _ _ opened-tempo) opened-grace

  -- "replies with the number of sounding parts"
  pub opened-sounding : o.parts < 65536 → (opened m f o).reply ≡ Ok (sounding_below o.parts 16)
  unfolding opened
  opened-sounding sixteen = rw (granted, opened, ones-sounding o.parts sixteen)

-- ---- any opening, granted or refused

-- "A refusal sends nothing and changes no lent word."
pub refused-kept : (m f : List ℕ) (o : Terms) (x : Refusal) → opening_check m f o ≡ refused x → opened m f o ≡ record { reply = Err x; memory = m }
unfolding opened
refused-kept m f o x e = rw (e, opened)

opened-or : (P : List ℕ → Type 0) (m f : List ℕ) (o : Terms) (c : Check Refusal) → opening_check m f o ≡ c
    → (opening_check m f o ≡ fine → P (opened m f o).memory) → P m → P (opened m f o).memory
opened-or P m f o fine e new old = new e
opened-or P m f o (refused x) e new old = rw (refused-kept m f o x e) old

-- "Words past 8,192 are never read or changed."
pub opened-past : (m f : List ℕ) (o : Terms) → drop memory_size (opened m f o).memory ≡ drop memory_size m
opened-past m f o = opened-or (λ (l : List ℕ). drop memory_size l ≡ drop memory_size m) m f o _ refl (λ e. (opened-fresh m f o e).past) refl

pub opened-length : (m f : List ℕ) (o : Terms) → length (opened m f o).memory ≡ length m
opened-length m f o = opened-or (λ (l : List ℕ). length l ≡ length m) m f o _ refl (λ e. (opened-fresh m f o e).long) refl

-- ---- no opening

-- "8,192 zero words don't."
pub zeros-no-session : is_session (zeros memory_size) ≡ false
unfolding is_session
zeros-no-session =
    let none : get_or (zeros memory_size) mark_at 0 ≡ 0 = zeros-at memory_size mark_at in
    sym (every-stop _ _ (ne_eqb _ mark (λ (e : get_or (zeros memory_size) mark_at 0 ≡ mark). absurd (omega arith))))
