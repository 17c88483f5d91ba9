-- `spread::product_rising` meets its contract. Through the positions, or as a run where they follow each other. Assumes nothing.
use native.Mathlib.Omega.{arith}
use lib.Ieee.{binary64, sub}
use Rattle.statement.specs.Input.{+0}
use Rattle.products.specs.Products.{plus}
use Rattle.spread.specs.Spread.{Run}
use Rattle.spread.proofs.Runs as runs
use Rattle.spread.proofs.product_rising.Goals as goal

pub offset_bounds-place-r : goal.offset_bounds-place-r
offset_bounds-place-r c = let s = c in omega (arith, runs.known_first _ _ _ _ s.requires.rising.rises)

pub bounds-place-r : goal.bounds-place-r
bounds-place-r c = let s = c in runs.known_first _ _ _ _ s.requires.rising.rises

pub overflow_add-base : goal.overflow_add-base
overflow_add-base c =
    let run : let a = c.args in Run a.place.now a.rows.now a.at a.n = c.is_run.ensures.0 c.if-is_run.true in let t = c.before.before.before in omega (arith, runs.room t.requires.rising (run))

pub subtract_product-requires : goal.subtract_product-requires
subtract_product-requires c =
    let run : let a = c.args in Run a.place.now a.rows.now a.at a.n = c.is_run.ensures.0 c.if-is_run.true in
    let t = c.before.before.before in
    let s = t in
    (s.requires.rising.rises.some, omega (arith, s.requires.n_bound), runs.room s.requires.rising (run))

pub product_through-requires : goal.product_through-requires
product_through-requires c = let s = c in record { spread = runs.spread_of s.requires.rising; n_nonzero = (s.requires.rising.rises.some, s.requires.n_bound) }

pub returns-then-is_run : goal.returns-then-is_run
returns-then-is_run c =
    let run : let a = c.args in Run a.place.now a.rows.now a.at a.n = c.is_run.ensures.0 c.if-is_run.true in
    let t = c in
    let s = t in
    let a = s.args in
    runs.as_run s.requires.rising (run) (λ i x. sub binary64 x (plus a.own.now a.src i +0)) _ _ c.subtract_product.ensures
