pub mod Element
pub mod Maps
