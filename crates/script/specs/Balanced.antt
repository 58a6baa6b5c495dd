-- Lines without a fault, whose braces match.
use Rattle.std.specs.Prelude.{ℕ, suc, ◌≡◌, true, List}
use Rattle.text.specs.declared.Stage.{Stage}
use Rattle.text.specs.declared.Stage.TheVariants.{Start, Listing, Timed, Playing}
use Rattle.text.specs.Grammar.{heading, message, event, part, send, group, close, may_end, Script, done, more}

-- Where an event may stand: behind the list, an event and the items of a part.
pub data BeforeEvent : Stage → Type 0 where
  behind_list : {next : ℕ} → BeforeEvent (Listing next)
  behind_event : BeforeEvent Timed
  behind_items : BeforeEvent (Playing 0)

-- Where a part may stand: behind an event and the items of a part.
pub data BeforePart : Stage → Type 0 where
  first_part : BeforePart Timed
  next_part : BeforePart (Playing 0)

pub data Balanced : Stage → Script → Type 0 where
  ends : {stage : Stage} → may_end stage ≡ true → Balanced stage done
  heads : {s : Script} → Balanced (Listing 0) s → Balanced Start (more heading s)
  lists : {next : ℕ} {l : List ℕ} {s : Script} → Balanced (Listing (suc next)) s → Balanced (Listing next) (more (message l) s)
  times : {stage : Stage} {g : ℕ} {s : Script} → BeforeEvent stage → Balanced Timed s → Balanced stage (more (event g) s)
  parts : {stage : Stage} {n : ℕ} {s : Script} → BeforePart stage → Balanced (Playing 0) s → Balanced stage (more (part n) s)
  sends : {depth d n : ℕ} {s : Script} → Balanced (Playing depth) s → Balanced (Playing depth) (more (send d n) s)
  opens : {depth d w v : ℕ} {s : Script} → Balanced (Playing (suc depth)) s → Balanced (Playing depth) (more (group d w v) s)
  closes : {depth : ℕ} {s : Script} → Balanced (Playing depth) s → Balanced (Playing (suc depth)) (more close s)
