-- `product_back` meets its contract: the transpose of the products of a row's halves.
use Rattle.back_passes.proofs.Rows.{room_halves, row-from_halves}
use Rattle.back_passes.proofs.product_back.Goals as goal

pub row_back-requires : goal.row_back-requires
row_back-requires c =
    let all = room_halves c.requires.limited c.args.u c.args.k c.requires.u_bound c.half_product.ensures c.half_product-2.ensures in
    record { room = all.0; room_2 = all.1 }

pub returns : goal.returns
returns c = row-from_halves _ c.args.u c.args.k c.half_product.ensures c.half_product-2.ensures c.row_back.ensures
