mod ClapCommands
mod ClapLevels
mod ClapParts
mod ClapReads
mod ClapUses
mod ClapWords
mod CommandNames
mod Digits
mod Factors
mod Strays
pub mod Unasked
