-- What the contracts cite beside meaning's definitions: the simulated stack, one reduction, a state's action, the marks, and what the planners ask and answer.
pub mod Simulated
pub mod Reducing
pub mod Actions
pub mod Marks
pub mod Planning
pub mod Filling
pub mod Following
