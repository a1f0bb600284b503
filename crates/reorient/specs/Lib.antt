pub mod Reorient
