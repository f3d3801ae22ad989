pub mod Maps
pub mod Lifts
pub mod Products
