-- What `analyse::analyse` promises, its parameters named in the order of the source. Definitions only.
use Rattle.std.specs.Prelude.{[], length}
use Rattle.statement.specs.Input.{matrix}
use Rattle.statement.specs.Calls.{Analyses}
use Rattle.analyse.specs.contracts.analyse as f
use Rattle.analyse.proofs.analyse.Symbol.{code, name}
use Rattle.pinned.specs.Contract.{Promise, Pinned}

-- areas 8 and 11 are not lent
abbrev pub promise : Promise f.ended
promise κs entry x exit =
    let (n, (input_starts, (input_rows, (input-values, (cap, (permutation, (firsts, (starts, (groups, (tasks, (top, (words, (rows, (updates, _)))))))))))))) = entry in
    let (_, (_, (_, (_, (_, (permutation', (firsts', (starts', (groups', (tasks', (top', (words', (rows', (updates', _)))))))))))))) = exit in
    Analyses
    (matrix n input_starts.now input_rows.now input-values.now)
    cap
    (record {
      permutation = length permutation.now;
      firsts = length firsts.now;
      starts = length starts.now;
      groups = length groups.now;
      tasks = length tasks.now;
      top = length top.now;
      words = length words.now;
      floats = 0;
      rows = length rows.now;
      updates = length updates.now;
      values = 0;
    })
    (record {
      returned = x;
      areas = record {
        permutation = permutation'.now;
        firsts = firsts'.now;
        starts = starts'.now;
        groups = groups'.now;
        tasks = tasks'.now;
        top = top'.now;
        words = words'.now;
        floats = [];
        rows = rows'.now;
        updates = updates'.now;
        values = [];
      };
    })

abbrev pub Claim : Type 2
Claim = Pinned f.ended (λ M 𝓤 𝓛 mem run. f.spec 𝓛 mem run) name code promise
