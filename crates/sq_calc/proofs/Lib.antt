mod Products
mod Fronts
mod Counts
mod Walk
mod Order
