-- Words that only contracts of private functions and a model cite: no public contract stands on them.
pub mod Counted
pub mod FreeRows
pub mod Padding
pub mod Walk
