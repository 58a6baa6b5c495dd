use Rattle.hints.proofs.FractionSteps.{mixed-first, mixing}
use Rattle.hints.proofs.fractions.is_mixed.Goals.{then-at-lt2-via-then-at-lt2, then-at-lt2-via-else-at-lt2+then-text-at-ne-SPACE, then-at-lt2-via-else-at-lt2+else-text-at-ne-SPACE+then-not-is_digit}
use Rattle.hints.proofs.fractions.is_mixed.Goals as goal

pub returns-then-at-lt2 : goal.returns-then-at-lt2
returns-then-at-lt2 c =
    elim c.then-at-lt2.branch [
      | then-at-lt2-via-then-at-lt2 w ↦ search mixing
      | then-at-lt2-via-else-at-lt2+then-text-at-ne-SPACE w ↦ search mixing
      | then-at-lt2-via-else-at-lt2+else-text-at-ne-SPACE+then-not-is_digit w ↦
          mixed-first _ _ w.if-at-lt2.false w.if-text-at-ne-SPACE.false _ w.is_digit.ensures w.if-not-is_digit.true
    ]

pub returns-then-is_fractional : goal.returns-then-is_fractional
returns-then-is_fractional c = search mixing

pub returns-else-is_fractional : goal.returns-else-is_fractional
returns-else-is_fractional c = search mixing
