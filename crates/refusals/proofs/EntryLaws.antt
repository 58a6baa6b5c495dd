-- The entry at fault, by the refusal's place and the counts that the file itself gives.
-- Assumes nothing.
use mathlib.Core.Path.{◌≡◌}
use mathlib.Core.Bool.{Bool, true, false}
use mathlib.Core.List.{List}
use Prim.Native.Nat.{ℕ, ◌<◌, ◌≤◌}
use lib.ListN.{length}
use borrow.Author.Rules.{rules}
use borrow.Author.Tests.{le-leb, lt-leb, not-true, not-false}
use Rattle.base.specs.Tests.{pick}
use Rattle.contents.specs.declared.Counts.{Counts}
use Rattle.contents.specs.declared.Reply.{Reply}
use Rattle.contents.specs.Limits.{contents_size}
use Rattle.contents.specs.Contents.{counts_of}
use Rattle.contents.specs.Entries.{entry_at}
use Rattle.session.specs.declared.Refusal.{Refusal}
use Rattle.session.specs.Replies.{refusal_row}
use Rattle.contents.specs.declared.entries.Entry.{Entry}
use Rattle.contents.specs.declared.entries.Entry.TheVariants.{Nowhere}
use Rattle.wording.specs.Words.{placed}
use Rattle.refusals.specs.Entries.{entry_of}

-- ---- a refusal and the file

module _ (f : List ℕ) (x : Refusal) (t : Bool) (e : t ≡ placed x) where
  pub of-no-place : t ≡ false → Nowhere ≡ entry_of f x
  unfolding entry_of pick
  of-no-place p = rw (← e, p)

  pub of-short : t ≡ true → length f < contents_size → Nowhere ≡ entry_of f x
  unfolding entry_of pick
  of-short p q = rw (← e, p, lt-leb contents_size (length f) q)

  pub of-place : (r : Entry) (row : Reply) (c : Counts) → t ≡ true → contents_size ≤ length f → c ≡ counts_of f → row ≡ refusal_row x → r ≡ entry_at c row.place → r ≡ entry_of f x
  unfolding entry_of pick
  of-place r row c p q h k l = rw (← e, p, le-leb contents_size (length f) q, ← h, ← k) l

pub ruleset placing = (of-no-place, of-short, of-place, not-true, not-false, rules)
