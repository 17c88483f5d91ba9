-- What any call says of a refusal. Assumes nothing.
use mathlib.Core.Path.{◌≡◌}
use mathlib.Core.Option.{Option, some}
use Rattle.statement.specs.Record.{empty_record}
use Rattle.statement.specs.Areas.{Areas}
use Rattle.statement.specs.Calls.{settled, cleared}
use Rattle.statement.specs.declared.Answer.{Answer}
use Rattle.statement.specs.declared.Outcome.{Outcome}
use Rattle.statement.specs.declared.Record.{Record}
use Rattle.statement.specs.declared.Room.{Room}

module _ (r : Room) (f : Option Answer) (R : Record) (X : Areas) {a : Answer} (q : f ≡ some a) where
  -- what is returned with a
  pub refused_out : {x : Outcome} → x.answer ≡ a → x.«record» ≡ empty_record → x ≡ (settled r f R X).returned
  unfolding settled
  refused_out e k = rw q (λ i. record { answer = e i; «record» = k i })

  -- and the areas are cleared
  pub refused_areas : (settled r f R X).areas ≡ cleared r
  unfolding settled
  refused_areas = rw q
