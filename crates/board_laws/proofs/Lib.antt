mod Agreement
mod Copies
mod Existence
mod Kept
mod Runs
