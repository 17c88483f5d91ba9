-- What `jobs::run_job` promises, its parameters named in the order of the source. Definitions only.
use Rattle.statement.specs.Job.{Works}
use Rattle.jobs.specs.contracts.run_job as f
use Rattle.jobs.proofs.run_job.Symbol.{code, name}
use Rattle.pinned.specs.Contract.{Promise, Pinned}

abbrev pub promise : Promise f.ended
promise κs entry x exit =
    let (text, (out, _)) = entry in
    let (_, (out', _)) = exit in
    Works text.now out.now (record { out = out'.now; bytes = x })

abbrev pub Claim : Type 2
Claim = Pinned f.ended (λ M 𝓤 𝓛 mem run. f.spec 𝓛 mem run) name code promise
