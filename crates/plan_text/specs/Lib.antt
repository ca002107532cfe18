pub mod PlanText
pub mod PlanTextLaws
