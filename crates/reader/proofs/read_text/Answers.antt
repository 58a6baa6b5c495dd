use Rattle.reader.proofs.MakeSteps.{readings}
use Rattle.reader.proofs.read_text.Goals as goal

pub judge-requires : goal.judge-requires
judge-requires c = search readings

pub fault-requires : goal.fault-requires
fault-requires c = search readings

pub returns-in-Ok-clause-value : goal.returns-in-Ok-clause-value
returns-in-Ok-clause-value c = search readings

pub returns-in-Err-clause-value : goal.returns-in-Err-clause-value
returns-in-Err-clause-value c = search readings

pub returns-in-Err-clause-room_after : goal.returns-in-Err-clause-room_after
returns-in-Err-clause-room_after c = search readings

pub returns-then-room-lt-LONGEST_SCORE : goal.returns-then-room-lt-LONGEST_SCORE
returns-then-room-lt-LONGEST_SCORE c = search readings
