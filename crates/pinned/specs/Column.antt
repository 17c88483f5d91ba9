-- What `solve::column` promises, its parameters named in the order of the source. Definitions only.
use Rattle.statement.specs.Solve.{Views}
use Rattle.solve.specs.contracts.column as f
use Rattle.solve.proofs.column.Symbol.{code, name}
use Rattle.pinned.specs.Contract.{Promise, Pinned}

abbrev pub promise : Promise f.ended
promise κs entry x exit =
    let (R, (permutation, (firsts, (starts, (rows, (values, (q, _))))))) = entry in
    Views R (record { permutation = permutation.now; firsts = firsts.now; starts = starts.now; rows = rows.now; values = values.now }) q x.now

abbrev pub Claim : Type 2
Claim = Pinned f.ended (λ M 𝓤 𝓛 mem run. f.spec 𝓛 mem run) name code promise
