pub mod Preconditions
pub mod SheetRange
