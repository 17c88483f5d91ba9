-- What holds of the columns of a matrix holds of the matrix. Assumes nothing.
use mathlib.Core.Path.{subst, sym}
use mathlib.Core.List.{List}
use Prim.Native.Nat.{ℕ}
use Rattle.views.specs.declared.Matrix.{Matrix}
use Rattle.views.specs.declared.Columns.{Columns}
use Rattle.views.specs.Shown.{ColumnsOf}

pub carried : {m : Matrix} {c : Columns} → ColumnsOf m c → (F : ℕ → List ℕ → List ℕ → Type 0) → F c.n c.starts.now c.rows.now → F m.n m.starts.now m.rows.now
carried {m} {c} e F f = subst (λ r. F m.n m.starts.now r) e.rows (subst (λ s. F m.n s c.rows.now) e.starts (subst (λ n. F n c.starts.now c.rows.now) e.n f))

pub carried_back : {m : Matrix} {c : Columns} → ColumnsOf m c → (F : ℕ → List ℕ → List ℕ → Type 0) → F m.n m.starts.now m.rows.now → F c.n c.starts.now c.rows.now
carried_back {m} {c} e F f = subst (λ r. F c.n c.starts.now r) (sym e.rows) (subst (λ s. F c.n s m.rows.now) (sym e.starts) (subst (λ n. F n m.starts.now m.rows.now) (sym e.n) f))
