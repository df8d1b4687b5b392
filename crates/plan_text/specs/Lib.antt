-- the text of a plan
pub mod PlanText
pub mod GuardText
pub mod PlanNames
