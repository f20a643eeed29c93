pub mod CodeStatements
pub mod CodeRows
pub mod CodeVariables
pub mod CodeFiles
pub mod CodeTexts
