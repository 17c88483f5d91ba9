-- `tasks::table` meets its contract: call by call. Assumes nothing.
use Rattle.tasks.proofs.Splitting.{spread_back, above_back, above_part, followed}
use lib.ListN.{length}
use Prim.Native.Nat.{◌+◌, ◌-◌, ◌*◌, ◌≤◌}
use Rattle.areas.proofs.Parts.{holds_copied}
use Rattle.areas.proofs.Tail.{tail_length}
use mathlib.Core.Path.{◌≡◌}
use native.Mathlib.Omega.{arith}
use Rattle.tasks.proofs.table.Goals as goal

pub begins-requires : goal.begins-requires
begins-requires c = rw (tail_length (c.args.supernodes.now.number + 1) c.loads.new.to (omega (arith, c.requires, c.loads.auto))) (omega (arith, c.requires, c.loads.auto))

pub returns : goal.returns
returns c = let w = c.loads.new.to in
    let long = (let z : 3 * c.args.supernodes.now.number + 3 ≤ length w = omega (arith, c.requires, c.loads.auto) in z) in
    let ly = (let z : length c.begins.new.to ≡ length w - (c.args.supernodes.now.number + 1) = omega (arith, c.begins.auto, tail_length (c.args.supernodes.now.number + 1) w (omega (arith, long))) in z) in record { spread = (λ S g. spread_back c.args.supernodes.now.number w _ _ long ly S (c.loads.ensures S g) (c.begins.ensures S g.tree) (holds_copied _ g.tree.are (followed _ c.copy.ensures.after))); above = above_back c.args.supernodes.now.number w c.begins.new.to _ long ly (above_part _ c.args.supernodes.now.above (followed _ c.copy.ensures.after)) }
