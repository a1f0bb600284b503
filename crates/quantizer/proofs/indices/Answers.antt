-- `indices` meets its contract: the 64 constants are computed from the walk, all at once.
use Rattle.integers.specs.Kit.{refl}
use Rattle.integers.specs.Search.{first}
use Rattle.quantizer.specs.ZigZag.{place_at, index_of}
use Rattle.quantizer.proofs.indices.Goals as goal

pub returns : goal.returns
unfolding place_at index_of first
returns c = refl
