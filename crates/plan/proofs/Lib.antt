pub mod PlanBounds
mod PlanLaws
pub mod PlanPassing
