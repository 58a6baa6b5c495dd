use Rattle.hints.proofs.ChoiceSteps.{cases}
use Rattle.hints.proofs.choices.rule_hint.Goals as goal

pub returns-in-Message : goal.returns-in-Message
returns-in-Message c = search cases

pub returns-in_default : goal.returns-in_default
returns-in_default c = search (cases, c.in_default.not-Message)
