-- Lemmas of the flat lists.
pub mod PoolLaws
pub mod ShiftLaws
pub mod ExpressionLaws
pub mod LayoutLaws
pub mod MarkLaws
