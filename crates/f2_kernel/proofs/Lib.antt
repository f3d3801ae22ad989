mod Cleared
mod Solved
mod Relations
mod ByForm
mod Steps
mod Alone
mod Words
mod Blocked
mod AtMarks
mod CommonOnes
pub mod Basis
mod Split
mod Numbers
mod Marks
pub mod Tested
