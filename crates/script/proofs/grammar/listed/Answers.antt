use Rattle.script.proofs.GrammarSteps.{listing}
use Rattle.script.proofs.grammar.listed.Goals as goal

pub past_word-duration-requires : goal.past_word-duration-requires
past_word-duration-requires c = search listing

pub returns-then-is_word : goal.returns-then-is_word
returns-then-is_word c = search listing

pub returns : goal.returns
returns c = search listing
