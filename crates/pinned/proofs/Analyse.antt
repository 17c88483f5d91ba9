-- `analyse::analyse` has its promise for a contract. Assumes nothing.
use mathlib.Core.Path.{refl}
use Rattle.analyse.proofs.analyse.Met.{met}
use Rattle.pinned.specs.Analyse.{Claim}

pub claim : Claim
claim = record { is = λ M 𝓤 𝓛 mem run. refl; kept = λ M 𝓤 𝓛 𝓜 𝓡. met 𝓤 𝓛 𝓜 𝓡 }
