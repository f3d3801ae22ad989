pub mod Choose
pub mod Steps
pub mod Tables
