mod Generators
mod Values
