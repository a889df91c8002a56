pub mod Shapes
pub mod Spares
pub mod Sights
