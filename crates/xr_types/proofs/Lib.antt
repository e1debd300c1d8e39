pub mod Wrapping
mod Numbers
