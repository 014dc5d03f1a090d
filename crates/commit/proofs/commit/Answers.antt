-- `commit::commit` meets its contract. Assumes nothing.
use mathlib.Core.Path.{◌≡◌}
use Prim.Native.Nat.{◌-◌}
use native.Mathlib.Omega.{arith}
use Rattle.commit.proofs.Results.{from_end, from_more, ready_one, ready_more}
use Rattle.commit.proofs.Promise.{ready_first, commits}
use Rattle.commit.proofs.commit.Goals as goal

pub loop-i-init : goal.loop-i-init
loop-i-init c = let u : c.args.count - 0 ≡ c.args.count = omega arith in record { ready = search (ready_first); rest = rw u }

pub commit_one-used-requires : goal.commit_one-used-requires
commit_one-used-requires c = search (ready_one)

pub loop-i-preserved : goal.loop-i-preserved
loop-i-preserved c = record { ready = search (ready_more); rest = search (from_more) }

pub returns : goal.returns
returns c = search (commits, from_end)
