-- A contract that asks nothing, and that a function has it. Definitions only.
use Rattle.std.specs.Prelude.{◌≡◌}
use seplogic.Ra.Ura.{Ura}
use base.Logic.{SProp, emp}
use contract.Lifetimes.{Lfts}
use contract.Monad.{Fun, fact}
use contract.Running.{Running}
use denote.Triple.Clauses.{Ended, AtExit}
use denote.Triple.Entry.{Args, Res}
use denote.Triple.Spec.{Spec, Meets, exits}
use types.Logic.{Logic}
use prog.Memory.{Memory}
use prog.Model.{Model}
use prog.Routine.{Routine}
use prog.Wired.{Code, Wired}
use mir.Syntax.{Callee}

-- what a function promises of its arguments on entry, its result, and its arguments at exit
abbrev pub Promise : Ended → Type 1
Promise T = (κs : Lfts T.signature.lifetimes) → Args T.signature κs → Res T.signature κs → AtExit T κs → Type 0

-- the promise as a contract: a caller has nothing to choose and nothing to bring, so that none need test first; at exit the promise is all that it is told
abbrev pub asks_nothing : {M : Type 1} {𝓤 : Ura M} (𝓛 : Logic 𝓤) (T : Ended) → Promise T → Spec 𝓤 T.signature
asks_nothing {𝓤 = 𝓤} 𝓛 T P κs a = record { ghost = Unit {0}; requires = λ g. emp 𝓤; ensures = λ g x. exits 𝓛 T.signature T.kept κs a (λ e. fact 𝓤 (P κs a x e)) }

pub record Pinned (T : Ended) (c : (M : Type 1) (𝓤 : Ura M) → (𝓛 : Logic 𝓤) → (Memory → SProp 𝓤) → (Routine → Fun 𝓤) → Spec 𝓤 T.signature) (f : Callee) (code : Code) (P : Promise T) : Type 2 where
  -- the contract in the source is the promise, and asks nothing
  pub is : (M : Type 1) (𝓤 : Ura M) (𝓛 : Logic 𝓤) (mem : Memory → SProp 𝓤) (run : Routine → Fun 𝓤) → c M 𝓤 𝓛 mem run ≡ asks_nothing 𝓛 T P
  -- the code that was proved meets it, wherever its name and the names that it calls stand for that code
  pub kept : (M : Type 1) (𝓤 : Ura M) (𝓛 : Logic 𝓤) (𝓜 : Model 𝓤 𝓛.H) (𝓡 : Running 𝓤 𝓛.H 𝓜) → Wired 𝓡.env code → Meets 𝓛 T.signature (𝓡.run (𝓡.env f)) (asks_nothing 𝓛 T P)
