mod Filters
mod Products
mod Shapes
mod Cosets
mod Places
mod Texts
