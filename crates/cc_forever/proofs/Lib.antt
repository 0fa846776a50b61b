mod Accepting
mod Giving
mod Lines
mod Proving
mod Runs
mod Searching
