-- What the way back returns where no block has the elements: the code looks for cause 4 only once it knows that there is none.
use Rattle.std.specs.Prelude.{◌∷◌}
use Rattle.integers.specs.Kit.{List, [], ℤ}
use Rattle.limits.specs.Limits.{magnitudes_limit, places}
use Rattle.answers.specs.Answer.{Returned, lowest, answered}
use Rattle.element_sets.specs.Sets.{above_limit}

-- causes 4 and 5, in this order, where no block has the elements
abbrev pub refused_returned : List ℤ → Returned
refused_returned e = answered (lowest places (above_limit magnitudes_limit e) 4 ∷ []) (record { number = 5; place = 0 })
