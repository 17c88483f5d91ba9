-- What `factor::factor` promises, its parameters named in the order of the source. Definitions only.
use Rattle.std.specs.Prelude.{length}
use Rattle.statement.specs.Input.{matrix}
use Rattle.statement.specs.Calls.{Factors}
use Rattle.factor.specs.contracts.factor as f
use Rattle.factor.proofs.factor.Symbol.{code, name}
use Rattle.pinned.specs.Contract.{Promise, Pinned}

abbrev pub promise : Promise f.ended
promise κs entry x exit =
    let (n, (input_starts, (input_rows, (input-values, (cap, (order, (list, (stop, (permutation, (firsts, (starts, (groups, (tasks, (top, (words, (floats, (rows, (updates, (values, _))))))))))))))))))) = entry in
    let (_, (_, (_, (_, (_, (_, (_, (_, (permutation', (firsts', (starts', (groups', (tasks', (top', (words', (floats', (rows', (updates', (values', _))))))))))))))))))) = exit in
    Factors
    (matrix n input_starts.now input_rows.now input-values.now)
    cap
    order
    list.now
    stop
    (record {
      permutation = length permutation.now;
      firsts = length firsts.now;
      starts = length starts.now;
      groups = length groups.now;
      tasks = length tasks.now;
      top = length top.now;
      words = length words.now;
      floats = length floats.now;
      rows = length rows.now;
      updates = length updates.now;
      values = length values.now;
    })
    (record {
      returned = x;
      areas = record {
        permutation = permutation'.now;
        firsts = firsts'.now;
        starts = starts'.now;
        groups = groups'.now;
        tasks = tasks'.now;
        top = top'.now;
        words = words'.now;
        floats = floats'.now;
        rows = rows'.now;
        updates = updates'.now;
        values = values'.now;
      };
    })

abbrev pub Claim : Type 2
Claim = Pinned f.ended (λ M 𝓤 𝓛 mem run. f.spec 𝓛 mem run) name code promise
