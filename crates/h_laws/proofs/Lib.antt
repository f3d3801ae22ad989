mod Parity
mod Squares
mod Sphere
mod Decomposable
mod RowOne
mod ReadOff
mod OnClasses
