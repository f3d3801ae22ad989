mod Chosen
mod Covered
pub mod Complex
mod Exact
pub mod Generators
mod Late
mod Minimal
pub mod NewGenerators
pub mod Rows
pub mod Squares
mod TableIsMinimal
pub mod TableIsUnique
pub mod StartLaws
pub mod Shapes
pub mod StartTables
