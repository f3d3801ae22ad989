mod Growing
pub mod Layouts
mod Places
mod Same
mod There
mod Told
