-- `panels::diagonal` meets its contract. The search at A's column j. Assumes nothing.
use Rattle.panels.proofs.diagonal.Goals as goal

pub find-requires : goal.find-requires
find-requires c = let v = c.args.lower.now.valid in (v.rise c.args.j c.requires.j_lt_n, v.in_rows c.args.j c.requires.j_lt_n, v.in_values c.args.j c.requires.j_lt_n)
