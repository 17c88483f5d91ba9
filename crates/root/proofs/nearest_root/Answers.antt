-- `root::nearest_root` meets its contract, by whichever passes. Assumes nothing.
use Rattle.root.proofs.nearest_root.Goals as goal

pub returns-then-is_nearest : goal.returns-then-is_nearest
returns-then-is_nearest c =
    let is-nearest' = c.is_nearest in
    let if1' = c.if-is_nearest in
    is-nearest'.ensures if1'.true

pub returns-then-is_nearest-2 : goal.returns-then-is_nearest-2
returns-then-is_nearest-2 c =
    let is-nearest2' = c.is_nearest-2 in
    let if2' = c.if-is_nearest-2 in
    is-nearest2'.ensures if2'.true

pub returns-then-is_nearest-3 : goal.returns-then-is_nearest-3
returns-then-is_nearest-3 c =
    let is-nearest3' = c.is_nearest-3 in
    let if3' = c.if-is_nearest-3 in
    is-nearest3'.ensures if3'.true
