pub mod Resolution
pub mod Start
pub mod Exactness
pub mod Covered
