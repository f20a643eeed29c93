pub mod Defining
mod ParamLaws
mod HeadLaws
pub mod TypeNames
