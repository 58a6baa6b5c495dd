-- The reply table: number and place of every refusal.
use Rattle.contents.specs.declared.Reply.{Reply}
use Rattle.contents.specs.Replies.{fault_row}
use Rattle.session.specs.declared.Refusal.{Refusal}
use Rattle.session.specs.declared.Refusal.TheVariants.{MemoryShort, RoomShort, File, BadTempo, BadGrace, NoSession, NoEvent, NotAfter, BadMillis, ClockFull}

-- "No. | When | Place"
unfoldable pub refusal_row : Refusal → Reply
refusal_row MemoryShort = record { number = 1; place = 0 }
refusal_row RoomShort = record { number = 2; place = 0 }
refusal_row (File x) = fault_row x
refusal_row BadTempo = record { number = 9; place = 0 }
refusal_row BadGrace = record { number = 19; place = 0 }
refusal_row NoSession = record { number = 10; place = 0 }
refusal_row NoEvent = record { number = 11; place = 0 }
refusal_row NotAfter = record { number = 12; place = 0 }
refusal_row BadMillis = record { number = 13; place = 0 }
refusal_row ClockFull = record { number = 14; place = 0 }
