pub mod Literals
pub mod Clauses
pub mod Formulas
pub mod Derivations
pub mod NewClauses
pub mod Effects
pub mod Assignments
pub mod Tables
