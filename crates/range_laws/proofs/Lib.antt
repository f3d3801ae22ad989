pub mod Parts
mod Products
mod Extended
mod Nulls
pub mod Members
