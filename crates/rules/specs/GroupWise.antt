-- Document 01's rules as they stand there, group by group, as equations of whatever yields triples: P i d x are those of the sequence x from (i, d), S is how a missed
-- group is split, and G i j d the delay with which a missed global group is heard at j. With both as document 02 has them (`split_of`, `global_delay`), the rules item by
-- item keep to them, and nothing else does (GroupWiseLaws).
use Rattle.std.specs.Prelude.{◌≡◌, ℕ, zero, suc, ◌+◌, ◌-◌, List, [], ◌∷◌, ◌++◌}
use Rattle.rules.specs.Words.{Synchrony, loose, tight, ErrorWord, local, global, partial, causal}
use Rattle.rules.specs.Score.{Seq, end, action, group}
use Rattle.rules.specs.Heard.{heard, missed, unsettled}
use Rattle.rules.specs.Rules.{Reading, Triple, triple}
use Rattle.rules.specs.Groups.{Split, slice}

-- "Each k that receives items gets a loose group with the same error word, at k with delay 0": those of the events 1 to n.
unfoldable pub sliced : Reading → ((i d : ℕ) → Seq → List Triple) → ErrorWord → (n b : ℕ) → Seq → List Triple
sliced R P e zero b x = []
sliced R P e (suc k) b x = sliced R P e k b x ++ P (suc k) 0 (group 0 loose e (slice R (suc k) b x) end)

-- E(i) is R.start i, M(i) the j of `missed j`, and there are n events.
pub record GroupWise (R : Reading) (S : Split) (G : (i j d : ℕ) → ℕ) (n : ℕ) (P : (i d : ℕ) → Seq → List Triple) : Type 0 where
  -- "Delays add up along a sequence; a group's own delay counts for what follows it, its body's delays don't."
  pub no_items : (i s : ℕ) → P i s end ≡ []
  pub action_first : (i s d m p : ℕ) (rest : Seq) → P i s (action d m p rest) ≡ P i 0 (action (s + d) m p end) ++ P i (s + d) rest
  pub group_first : (i s d : ℕ) (y : Synchrony) (e : ErrorWord) (x rest : Seq) →
      P i s (group d y e x rest) ≡ P i 0 (group (s + d) y e x end) ++ P i (s + d) rest
  -- "without one, i yields nothing yet"
  pub nothing_yet : (i s : ℕ) (x : Seq) → R.became i ≡ unsettled → P i s x ≡ []
  -- "Heard, action: (i, d, a), with d the summed delay."
  pub heard_action : (i d m p : ℕ) → R.became i ≡ heard → P i 0 (action d m p end) ≡ triple i d m ∷ []
  -- "Heard, loose group: its body as a sequence from (i, d)."
  pub heard_loose : (i d : ℕ) (e : ErrorWord) (x : Seq) → R.became i ≡ heard → P i 0 (group d loose e x end) ≡ P i d x
  -- "Heard, tight group: sliced. [..] It runs by these rules, k heard or missed."
  pub heard_tight : (i d : ℕ) (e : ErrorWord) (x : Seq) → R.became i ≡ heard → P i 0 (group d tight e x end) ≡ sliced R P e n (R.start i + d) x
  -- "Missed, action: (j, max(0, E(i) + d - E(j)), a), with j = M(i)."
  pub missed_action : (i j d m p : ℕ) → R.became i ≡ missed j → P i 0 (action d m p end) ≡ triple j (R.start i + d - R.start j) m ∷ []
  -- "Missed, local: nothing."
  pub missed_local : (i j d : ℕ) (y : Synchrony) (x : Seq) → R.became i ≡ missed j → P i 0 (group d y local x end) ≡ []
  -- "Missed, global: the whole group is heard at j with delay" G i j d.
  pub missed_global : (i j d : ℕ) (y : Synchrony) (x : Seq) → R.became i ≡ missed j → P i 0 (group d y global x end) ≡ P j 0 (group (G i j d) y global x end)
  -- "Missed, causal: the items starting before E(j) are past, the others future. Past items run as missed, at their own delays; the future ones are a heard
  -- causal group of the same synchrony at j, their dates less E(j)."
  pub missed_causal : (i j d : ℕ) (y : Synchrony) (x : Seq) → R.became i ≡ missed j →
      P i 0 (group d y causal x end)
      ≡ P i 0 (S.items j (R.start i + d) (R.start i) x) ++ P j 0 (group 0 y causal (S.future j (R.start i + d) x) end)
  -- "Missed, partial: as causal, but past actions are dropped and the future ones stay a partial group; past groups run as missed by their own words."
  pub missed_partial : (i j d : ℕ) (y : Synchrony) (x : Seq) → R.became i ≡ missed j →
      P i 0 (group d y partial x end)
      ≡ P i 0 (S.groups j (R.start i + d) (R.start i) x) ++ P j 0 (group 0 y partial (S.future j (R.start i + d) x) end)
