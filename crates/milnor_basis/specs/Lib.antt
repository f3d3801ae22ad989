pub mod Exponents
pub mod Front
pub mod Basis
pub mod Product
pub mod Text
pub mod Inside
