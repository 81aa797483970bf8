-- The bounds of what an operator asks of transactions, by those of what he set.
use Rattle.std.proofs.Common.{ℕ, List, arith}
use Rattle.gate_register.specs.declared.Setting.TheVariants.{AncestorCount, AncestorSize, DescendantCount, DescendantSize, RelayRate, IncrementalRate, ExpiryHours, SigopSize, DustRate, DataSize, DataOutputs, LeastSize}
use Rattle.gate_register.specs.Policies.{IsPolicy as IsSet}
use Rattle.gate_admit.specs.Policies.{IsPolicy, policy_of}

pub bounds_of : (set : List ℕ) → IsSet set → IsPolicy (policy_of set)
bounds_of set is = record {
  ancestors = is.least AncestorCount;
  ancestors_most = is.most AncestorCount;
  ancestors_size = omega (arith, is.least AncestorSize);
  ancestors_size_most = omega (arith, is.most AncestorSize);
  descendants = is.least DescendantCount;
  descendants_most = is.most DescendantCount;
  descendants_size = omega (arith, is.least DescendantSize);
  descendants_size_most = omega (arith, is.most DescendantSize);
  relay_rate = is.most RelayRate;
  incremental_rate = is.most IncrementalRate;
  stay = omega (arith, is.least ExpiryHours);
  stay_most = omega (arith, is.most ExpiryHours);
  sigop_size = is.least SigopSize;
  sigop_size_most = is.most SigopSize;
  standards = record {
    dust_rate = is.most DustRate;
    data_size = is.most DataSize;
    data_outputs = is.most DataOutputs;
    least_size = is.least LeastSize;
    least_size_most = is.most LeastSize;
  };
}
