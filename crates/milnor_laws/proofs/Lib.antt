pub mod SumsModTwo
pub mod BinomialSums
pub mod Powers
pub mod Coproduct
mod Fillings
pub mod Coefficients
pub mod Associative
pub mod RightUnit
pub mod Vectors
pub mod FreeModules
pub mod LinearMaps
pub mod UnitActs
pub mod Indecomposables
