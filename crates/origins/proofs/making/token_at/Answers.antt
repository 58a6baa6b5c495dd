use Rattle.origins.proofs.LineSteps.{tokening}
use Rattle.origins.proofs.making.token_at.Goals as goal

pub returns-in-Heading : goal.returns-in-Heading
returns-in-Heading c = search tokening

pub returns-in-Message : goal.returns-in-Message
returns-in-Message c = search tokening

pub returns-in-Event : goal.returns-in-Event
returns-in-Event c = search tokening

pub returns-in-Part : goal.returns-in-Part
returns-in-Part c = search tokening

pub returns-in-Send : goal.returns-in-Send
returns-in-Send c = search tokening

pub returns-in-Group : goal.returns-in-Group
returns-in-Group c = search tokening

pub returns-in-Close : goal.returns-in-Close
returns-in-Close c = search tokening
