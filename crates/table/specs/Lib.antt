-- What the contracts cite beside meaning's definitions: the answers, what the inner functions ask and say, and what callers may rely on.
pub mod Belonging
pub mod Answers
pub mod Records
pub mod Kinds
pub mod Bounds
