-- The first place of the byte, by the chain's clause.
-- Assumes nothing.
use Rattle.std.proofs.Common.{rules}
use Rattle.std.proofs.lemmas.Iterator.{YieldsList-from_slice}
use Rattle.std.proofs.lemmas.Iterator.Search.{position_from_yields_List}
use borrow.Author.Tests.{tests}
use lib.Dec.{eqb}
use Rattle.ascii.proofs.WordSteps.{before-found_or}
use Rattle.ascii.proofs.words.bytes_before.Goals as goal

pub returns : goal.returns
returns c =
    let found = position_from_yields_List (λ b. eqb b c.args.stop) _ _ c.position.result c.position.ensures.ran (YieldsList-from_slice c.args.bytes.now cc) (λ x b q k. search (rules, tests)) in
    before-found_or c.args.stop c.args.bytes.now c.position.result _ found c.unwrap_or.ensures
