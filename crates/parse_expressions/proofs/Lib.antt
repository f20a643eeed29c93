pub mod CodeLoops
pub mod CodeChoices
pub mod CodeLists
pub mod CodeLevels
pub mod CodeReads
pub mod CodeSpecs
