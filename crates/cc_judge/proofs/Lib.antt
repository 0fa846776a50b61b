mod Blocking
mod Counting
mod Going
mod Passing
mod Placing
mod Spelling
mod Within
