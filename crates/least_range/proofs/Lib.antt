mod Least
mod Values
