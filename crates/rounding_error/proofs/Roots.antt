-- The seven roots are 01's cosines: each is the root of 2, or of 2 plus or minus another, as its square in the ring says too.
use Rattle.std.specs.Prelude.{◌≡◌}
use Rattle.integers.specs.Kit.{refl, pos}
use Rattle.ring.specs.Element.{integer, cosine, basis_product, mul}
use Rattle.rounding_error.specs.Root.{root_2, root, squared, PlusRoot, MinusRoot}

-- c_4; "c_2, c_1, c_3 when p²-2 lies below c_4, c_2, c_6"; "c_6, c_7, c_5 when 2-p² lies above c_4, c_2, c_6"
pub roots : ((root 4 ≡ root_2) × (squared 4 ≡ integer (pos 2))) × ((PlusRoot 2 4 × (PlusRoot 1 2 × PlusRoot 3 6)) × (MinusRoot 6 4 × (MinusRoot 7 2 × MinusRoot 5 6)))
unfolding root mul cosine basis_product
roots = ((refl, refl), (((refl, refl), ((refl, refl), (refl, refl))), ((refl, refl), ((refl, refl), (refl, refl)))))
