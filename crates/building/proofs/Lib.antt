-- Laws of building. For the crates above: the sizes of numbered items by their shapes, the least that they are, and the items that a table's rows stand for.
pub mod ShapeLaws
pub mod KindLaws
pub mod LeastLaws
pub mod RowLaws
mod NumberedLaws
pub mod PageLaws
mod PieceSteps
mod TableSteps
mod ItemSteps
mod PassSteps
mod BuildSteps
