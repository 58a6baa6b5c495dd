-- What each part told, in the order of the checks; the first fault is the answer.
-- Assumes nothing.
use mathlib.Core.Path.{◌≡◌}
use borrow.Author.Rules.{rules}
use Rattle.std.specs.Prelude.{Err}
use Rattle.score.proofs.FileSteps.{files}
use Rattle.score.proofs.check_file.Goals as goal

pub returns-then-file-lt-CONTENTS_SIZE : goal.returns-then-file-lt-CONTENTS_SIZE
returns-then-file-lt-CONTENTS_SIZE c = search files

pub check_layout-requires : goal.check_layout-requires
check_layout-requires c = search (files, c.in_ok-check_counts.was)

pub check_bodies-requires : goal.check_bodies-requires
check_bodies-requires c = search (files, c.in_ok-check_counts.was, c.in_ok-check_layout.was)

pub returns-in_err-check_counts : goal.returns-in_err-check_counts
returns-in_err-check_counts c =
    let e : c.from_residual.result ≡ Err c.in_err-check_counts.field-0.0 = search rules in
    search (files, e, c.in_err-check_counts.was)

pub returns-in_err-check_layout : goal.returns-in_err-check_layout
returns-in_err-check_layout c =
    let e : c.from_residual-in_err-check_layout.result ≡ Err c.in_err-check_layout.field-0.0 = search rules in
    search (files, e, c.in_ok-check_counts.was, c.in_err-check_layout.was)

pub returns : goal.returns
returns c = search (files, c.in_ok-check_counts.was, c.in_ok-check_layout.was)
