mod Plain
mod Reading
mod Taken
