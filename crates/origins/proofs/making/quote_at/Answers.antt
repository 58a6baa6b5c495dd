use Rattle.origins.proofs.LineSteps.{quoting}
use Rattle.origins.proofs.making.quote_at.Goals as goal

pub past_blanks-requires : goal.past_blanks-requires
past_blanks-requires c = search quoting

pub past_blanks-requires-in-Err : goal.past_blanks-requires-in-Err
past_blanks-requires-in-Err c = search quoting

pub returns-in-Ok : goal.returns-in-Ok
returns-in-Ok c = search quoting

pub returns-in-Err : goal.returns-in-Err
returns-in-Err c = search quoting
