pub mod ContradictionLaws
pub mod LostLaws
pub mod Offered
pub mod Orders
pub mod Passing
pub mod Restoring
pub mod States
pub mod Turn
