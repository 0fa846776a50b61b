mod Accepting
mod Answering
mod AtomLines
pub mod EventsGrow
mod Fitting
mod Giving
pub mod HandingOut
mod Opening
mod Refusing
mod Runs
pub mod Saying
mod Stepping
mod Told
