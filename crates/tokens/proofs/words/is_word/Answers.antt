use Rattle.tokens.proofs.WordSteps.{word-no-letter, wording}
use Rattle.tokens.proofs.words.is_word.Goals.{then-rest-i-via-then-rest-i, then-rest-i-via-else-rest-i+then-not-is_letter, then-rest-i-via-else-rest-i+else-not-is_letter+then-w-text}
use Rattle.tokens.proofs.words.is_word.Goals as goal

pub loop-i-init : goal.loop-i-init
loop-i-init c = search wording

pub returns-then-rest-i : goal.returns-then-rest-i
returns-then-rest-i c =
    elim c.then-rest-i.branch [
      | then-rest-i-via-then-rest-i w ↦ search wording
      | then-rest-i-via-else-rest-i+then-not-is_letter w ↦
          word-no-letter _ _ _ _ c.loop-i.invariant c.loop-i-test.true w.if-rest-i.false _ w.is_letter.ensures w.if-not-is_letter.true
      | then-rest-i-via-else-rest-i+else-not-is_letter+then-w-text w ↦ search wording
    ]

pub loop-i-preserved : goal.loop-i-preserved
loop-i-preserved c = search wording

pub returns-then-rest-word : goal.returns-then-rest-word
returns-then-rest-word c = search wording

pub returns-else-rest-word : goal.returns-else-rest-word
returns-else-rest-word c = search wording
