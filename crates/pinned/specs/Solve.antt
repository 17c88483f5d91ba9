-- What `solve::solve` promises, its parameters named in the order of the source. Definitions only.
use Rattle.std.specs.Prelude.{length}
use Rattle.statement.specs.Solve.{Solves}
use Rattle.solve.specs.contracts.solve as f
use Rattle.solve.proofs.solve.Symbol.{code, name}
use Rattle.pinned.specs.Contract.{Promise, Pinned}

abbrev pub promise : Promise f.ended
promise κs entry x exit =
    let (R, (permutation, (firsts, (starts, (rows, (values, (words, (floats, (sides, (b, _)))))))))) = entry in
    let (_, (_, (_, (_, (_, (_, (words', (floats', (_, (b', _)))))))))) = exit in
    Solves
    R
    (record { permutation = permutation.now; firsts = firsts.now; starts = starts.now; rows = rows.now; values = values.now })
    sides
    b.now
    (length words.now)
    (length floats.now)
    (record { answer = x; b = b'.now; words = words'.now; floats = floats'.now })

abbrev pub Claim : Type 2
Claim = Pinned f.ended (λ M 𝓤 𝓛 mem run. f.spec 𝓛 mem run) name code promise
