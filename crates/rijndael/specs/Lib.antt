pub mod Element
pub mod Node
