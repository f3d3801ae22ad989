mod Padded
mod NotMet
mod Parts
mod InStems
mod Steps
mod Examples
