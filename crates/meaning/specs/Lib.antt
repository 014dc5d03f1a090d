-- The rules of the reading machine as definitions, section by section; docs/RULES.md tells them in words.
-- Theorems about them stand in proofs/. Read in this order: what stands below builds on what stands above, except that
-- Feeding ends in Recovery and says so.

-- tools: choices, lists, numbers in bytes
pub mod Basics
pub mod Bytes
-- the rules
pub mod Limits
pub mod Answers
pub mod TableFile
pub mod TableRight
pub mod Kinds
pub mod Readings
pub mod Chains
pub mod Walk
pub mod Applying
pub mod Outcome
pub mod Recovery
pub mod Feeding
pub mod Questions
pub mod Calls
-- what is proved of them: the third demand, the bounds, identities, the known runs
pub mod Demand3
pub mod Bounds
pub mod Identities
pub mod KnownTables
pub mod KnownRuns
