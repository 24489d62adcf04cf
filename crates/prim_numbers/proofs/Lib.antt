mod Computing
mod Remainders
mod Digits
mod AtOnce
