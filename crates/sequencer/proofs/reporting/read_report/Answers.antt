-- The checks in their order, then the four words of the header.
-- Assumes nothing.
use mathlib.Core.Path.{◌≡◌}
use Prim.Native.Nat.{ℕ}
use mathlib.Core.List.{List}
use Rattle.std.specs.Prelude.{Ok, Err}
use Rattle.session.specs.declared.Refusal.{Refusal}
use Rattle.session.specs.Layout.{clock_at, tempo_at, last_at, total_at, word_at}
use Rattle.base.specs.Checks.{fine, refused}
use Rattle.sequencer.specs.Calls.{report_check, if_known, reported}
use Rattle.base.proofs.CheckLaws.{checks}
use borrow.Author.Rules.{rules}
use Rattle.sequencer.proofs.reporting.read_report.Goals as goal

report-granted : (m : List ℕ) → fine ≡ report_check m
    → Ok (record { clock = word_at m clock_at; tempo = word_at m tempo_at; last = word_at m last_at; total = word_at m total_at }) ≡ reported m
unfolding reported if_known
report-granted m e = rw (← e)

report-refused : (m : List ℕ) (x : Refusal) → refused x ≡ report_check m → Err x ≡ reported m
unfolding reported if_known
report-refused m x e = rw (← e)

ruleset steps = (report-granted, report-refused, checks)

pub returns-then-mem-lt-MEMORY_SIZE : goal.returns-then-mem-lt-MEMORY_SIZE
unfolding report_check
returns-then-mem-lt-MEMORY_SIZE c = search steps

pub returns-then-not-is_session : goal.returns-then-not-is_session
unfolding report_check
returns-then-not-is_session c = search steps

pub returns : goal.returns
unfolding report_check
returns c = search steps
