mod LastTwo
mod NoSquares
mod NumbersMore
mod NoneOut
