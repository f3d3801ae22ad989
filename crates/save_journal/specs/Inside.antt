-- What only contracts of private functions speak of.
pub mod Held
