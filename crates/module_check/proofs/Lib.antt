mod Adem
mod Fronts
mod FirstIn
pub mod Sides
mod Entries
mod Accepted
pub mod Powers
