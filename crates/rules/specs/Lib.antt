-- The rules of performance, as document 01 has them: events and their dates, what was heard, the rules item by item, and a whole page under them; small scores; and
-- what the laws speak of.
pub mod Terms
pub mod Words
pub mod Score
pub mod Heard
pub mod Rules
pub mod Page
pub mod Small
pub mod SmallMore
pub mod SmallGrace
pub mod SmallGlobal
pub mod Groups
pub mod GroupWise
pub mod Document01
pub mod Settled
pub mod Written
pub mod Parts
