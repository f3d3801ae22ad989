pub mod Null
mod Contracted
pub mod Dots
mod Combined
pub mod Vectors
mod Coset
pub mod Members
pub mod HasMember
mod UnitRow
mod Examples
