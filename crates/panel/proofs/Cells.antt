-- A column among w, its length, and its rows. Assumes nothing.
use mathlib.Core.Path.{◌≡◌, ◌∙◌}
use mathlib.Core.List.{List}
use Prim.Native.Nat.{ℕ, suc, ◌-◌, ◌≤◌, ◌<◌}
use native.Mathlib.Omega.{arith}
use lib.ListN.{length, get_or, drop, length-drop}
use lib.Seq.{length-take-le, get_or-take, get_or-drop}
use lib.Ieee.{Float, nan}
use Rattle.statement.specs.Shape.{trapezoid}
use Rattle.laws.proofs.Entry.{trap_suc, trap_mono}
use Rattle.panel.specs.View.{column_of, cell, Within}

pub within : (m : ℕ) (s : List Float) (c w : ℕ) → c < w → w ≤ m → m ≤ 32768 → trapezoid m w ≤ length s → Within m s c
within m s c w h l f r = record { inside = omega arith; few = f; room = omega (arith, trap_suc m c, trap_mono m (suc c) w h) }

pub column_length : {m : ℕ} {s : List Float} {c : ℕ} → Within m s c → length (column_of m s c) ≡ m - c
column_length {m} {s} {c} h = length-take-le (m - c) (drop (trapezoid m c) s) (simp length-drop (omega (arith, h.room)))

pub cell_in : (m : ℕ) (s : List Float) (p c : ℕ) → c ≤ p → p < m → get_or (column_of m s c) (p - c) nan ≡ cell m s p c
cell_in m s p c h l = get_or-take (m - c) (drop (trapezoid m c) s) (p - c) nan (omega arith) ∙ get_or-drop (trapezoid m c) s (p - c) nan
