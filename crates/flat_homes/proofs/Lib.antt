pub mod Left
pub mod Rises
pub mod Arrives
pub mod Fits
pub mod Deeds
pub mod ComesHome
pub mod Few
