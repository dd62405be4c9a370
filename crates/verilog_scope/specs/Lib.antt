pub mod Fails
pub mod Folds
pub mod Ranges
pub mod Standing
pub mod Decls
pub mod Scopes
