pub mod Syntax
pub mod SyntaxViews
pub mod Typed
pub mod TypedViews
pub mod TypedLayout
pub mod TypedPrinting
pub mod TypedForm
pub mod TypedRows
