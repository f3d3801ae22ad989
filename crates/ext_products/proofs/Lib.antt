pub mod Factors
pub mod Loops
pub mod OneEach
pub mod SphereTables
pub mod Transport
pub mod Answers
pub mod Several
pub mod Near
pub mod OneProduct
mod OneLine
