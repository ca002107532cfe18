pub mod RunLaws
pub mod Runs
pub mod SlotLaws
pub mod Slots
