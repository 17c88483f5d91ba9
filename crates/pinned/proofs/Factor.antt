-- `factor::factor` has its promise for a contract. Assumes nothing.
use mathlib.Core.Path.{refl}
use Rattle.factor.proofs.factor.Met.{met}
use Rattle.pinned.specs.Factor.{Claim}

pub claim : Claim
claim = record { is = λ M 𝓤 𝓛 mem run. refl; kept = λ M 𝓤 𝓛 𝓜 𝓡. met 𝓤 𝓛 𝓜 𝓡 }
