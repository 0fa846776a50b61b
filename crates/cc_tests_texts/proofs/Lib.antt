mod Deciding
mod Finite
mod Telling
