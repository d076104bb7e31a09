pub mod Plans
pub mod PlanModel
pub mod PagePlans
pub mod inner
