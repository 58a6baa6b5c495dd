-- What came of the file decides which number grows.
-- Assumes nothing.
use Rattle.checking.proofs.RunLaws.{tallies}
use Rattle.checking.proofs.run.count_file.Goals as goal

pub returns-in-Accepted : goal.returns-in-Accepted
returns-in-Accepted c = search tallies

pub returns-in-Refused : goal.returns-in-Refused
returns-in-Refused c = search tallies

pub returns-in-Unread : goal.returns-in-Unread
returns-in-Unread c = search tallies
