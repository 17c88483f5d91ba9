-- A structure's lists at the start of the areas that hold them. Definitions only.
use Rattle.std.specs.Prelude.{◌≡◌, List, ◌++◌, ℕ}
use Rattle.statement.specs.Shape.{Shape}
use Rattle.statement.specs.Supernodes.{updates, update_starts}
use Rattle.statement.specs.declared.Update.{Update}

-- first columns, row starts, rows, update starts and updates, each with what stands after it
pub record Laid (S : Shape) (firsts starts rows groups : List ℕ) (upd : List Update) : Type 0 where
  pub firsts_rest : List ℕ
  pub starts_rest : List ℕ
  pub rows_rest : List ℕ
  pub groups_rest : List ℕ
  pub upd_rest : List Update
  pub firsts_are : firsts ≡ S.firsts ++ firsts_rest
  pub starts_are : starts ≡ S.starts ++ starts_rest
  pub rows_are : rows ≡ S.rows ++ rows_rest
  pub groups_are : groups ≡ update_starts S ++ groups_rest
  pub upd_are : upd ≡ updates S ++ upd_rest
