mod Texts
mod Opened
mod Kept
