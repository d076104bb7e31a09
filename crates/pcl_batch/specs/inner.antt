-- What only contracts of private functions cite.
pub mod Jobs
pub mod Reports
