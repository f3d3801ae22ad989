mod Cochains
mod Parities
pub mod Products
mod Units
mod Linear
mod Composites
mod Associative
