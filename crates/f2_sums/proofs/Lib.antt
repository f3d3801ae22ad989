pub mod Numbers
mod Sums
mod WithinWords
