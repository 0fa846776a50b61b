mod Fitting
mod Inducing
mod Kept
mod Later
mod Sought
mod Stepping
