pub mod Rowed
pub mod Fitting
pub mod Numbers
pub mod Objects
