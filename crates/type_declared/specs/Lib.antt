pub mod FunctionNames
pub mod ObjectFits
pub mod Gathering
pub mod ResultTypes
pub mod AliasFits
