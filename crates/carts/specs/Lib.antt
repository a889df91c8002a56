pub mod Carts
pub mod Meant
pub mod Aisle
pub mod Worked
