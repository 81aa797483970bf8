mod AsBox
mod EventAsBox
mod Answering
mod Reaching
mod Checking
