mod Each
mod Having
mod Nothing
mod Behind
mod Right
mod Positions
