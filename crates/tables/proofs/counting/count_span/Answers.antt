-- A span has as many values as steps.
-- Assumes nothing.
use Rattle.tables.proofs.CurveCounts.{counting}
use Rattle.tables.proofs.counting.count_span.Goals as goal

pub span_at-requires : goal.span_at-requires
span_at-requires c = search counting

pub nonzero_div-result : goal.nonzero_div-result
nonzero_div-result c = search counting

pub returns : goal.returns
returns c = search counting
