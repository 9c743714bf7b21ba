pub mod Loops
pub mod StatementEquations
