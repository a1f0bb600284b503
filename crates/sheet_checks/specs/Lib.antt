pub mod Check
pub mod Sheets
