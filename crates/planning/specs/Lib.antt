pub mod AnySize
pub mod Planning
pub mod PlanningLaws
pub mod Refusals
