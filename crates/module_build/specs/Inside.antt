-- Words of the contracts of private functions.
pub mod Splittings
pub mod Construction
pub mod Written
