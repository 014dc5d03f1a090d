-- The laws: of the loops, and that the diagnosis agrees with the check.
mod LoopLaws
mod Agreeing
