-- What private contracts cite.
pub mod Opened
pub mod Roles
