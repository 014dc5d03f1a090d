-- Laws of recovery: its first stage, its second, and both.
pub mod LookingPops
pub mod LookingOne
pub mod LookingAll
pub mod AgainStays
pub mod AgainTerms
pub mod AgainTurns
pub mod AgainWays
pub mod RecoversEnds
pub mod Recovers
