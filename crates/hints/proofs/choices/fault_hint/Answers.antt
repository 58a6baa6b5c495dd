use Rattle.hints.proofs.ChoiceSteps.{cases}
use Rattle.hints.proofs.choices.fault_hint.Goals as goal

pub returns-in-BadItem : goal.returns-in-BadItem
returns-in-BadItem c = search cases

pub returns-in_default : goal.returns-in_default
returns-in_default c = search (cases, c.in_default.not-BadItem)
