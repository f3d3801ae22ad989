mod Joined
mod Sums
