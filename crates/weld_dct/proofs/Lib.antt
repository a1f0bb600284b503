-- What a caller in another language knows of a number that is returned.
pub mod Numbers
