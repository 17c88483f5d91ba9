-- `spread::subtract_rising` meets its contract. Through the positions, or as a run where they follow each other. Assumes nothing.
use native.Mathlib.Omega.{arith}
use lib.ListN.{get_or}
use lib.Ieee.{nan, binary64, sub}
use Rattle.spread.specs.Spread.{Run}
use Rattle.spread.proofs.Runs as runs
use Rattle.spread.proofs.subtract_rising.Goals as goal

pub offset_bounds-place-r : goal.offset_bounds-place-r
offset_bounds-place-r c = let s = c in omega (arith, runs.known_first _ _ _ _ s.requires.rising.rises)

pub bounds-place-r : goal.bounds-place-r
bounds-place-r c = let s = c in runs.known_first _ _ _ _ s.requires.rising.rises

pub overflow_add-base : goal.overflow_add-base
overflow_add-base c =
    let run : let a = c.args in Run a.place.now a.rows.now a.at a.n = c.is_run.ensures.0 c.if-is_run.true in let t = c.before.before.before in omega (arith, runs.room t.requires.rising (run))

pub subtract_run-requires : goal.subtract_run-requires
subtract_run-requires c =
    let run : let a = c.args in Run a.place.now a.rows.now a.at a.n = c.is_run.ensures.0 c.if-is_run.true in
    let t = c.before.before.before in
    let s = t in
    (s.requires.n_in_bounds, runs.room s.requires.rising (run))

pub subtract_through-requires : goal.subtract_through-requires
subtract_through-requires c = let s = c in record { spread = runs.spread_of s.requires.rising; n_in_bounds = s.requires.n_in_bounds }

pub returns-then-is_run : goal.returns-then-is_run
returns-then-is_run c =
    let run : let a = c.args in Run a.place.now a.rows.now a.at a.n = c.is_run.ensures.0 c.if-is_run.true in
    let t = c in
    let s = t in
    let a = s.args in
    runs.as_run s.requires.rising (run) (λ i x. sub binary64 x (get_or a.work.now i nan)) _ _ c.subtract_run.ensures
