pub mod Texts
pub mod Firsts
pub mod Written
pub mod Moved
