-- An unfolded score read as the rules' sequence, its places in page order.
use Rattle.std.specs.Prelude.{ℕ, ◌+◌}
use Rattle.rules.specs.Words.{synchrony_of, error_of}
use Rattle.rules.specs.Score.{Seq, end, action, group}
use Rattle.unfolding.specs.Unfolded.{Unfolded, end as nothing-more, action as send, group as held, items}

-- The first item stands at page place p. "For a group last is how many following items lie within it, deeper ones too".
unfoldable pub sequence : (p : ℕ) → Unfolded → Seq
sequence p nothing-more = end
sequence p (send i rest) = action i.delay.0 i.last p (sequence (p + 1) rest)
sequence p (held i body rest) =
    group i.delay.0 (synchrony_of i.synchrony) (error_of i.error) (sequence (p + 1) body) (sequence (p + 1 + items body) rest)
