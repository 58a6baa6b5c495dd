-- Laws of settling and sending, for the proofs of several functions and for the layers above.
pub mod SlotLaws
pub mod BehindLaws
pub mod PlaceLaws
pub mod RoomLaws
pub mod DueLaws
pub mod SendLaws
pub mod SentLaws
pub mod KeptLaws
