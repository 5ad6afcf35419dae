use Rattle.std.proofs.Common.{◌≡◌, ◌∙◌, ◌≤◌, ℕ, ap, map, take, arith}
use Rattle.aria_base.proofs.Orders.{key_cmp_total, key_cmp-IsAntisymmetric}
use Rattle.row_batons.proofs.Fronts.{enough_writes, front_rows}
use Rattle.row_batons.proofs.windows.rows_back.Goals as goal

pub take_back-requires : goal.take_back-requires
take_back-requires c =
    let many = enough_writes key_cmp_total key_cmp-IsAntisymmetric c.args.keys.now c.requires.apart c.args.touched.now c.args.window.noted.writes
    c.requires.front in
    let same = c.requires.rows in
    omega arith

pub returns : goal.returns
returns c =
    c.take_back.ensures
    ∙ ap (λ (n : ℕ). map (λ w. w.1) (take n c.args.window.noted.writes)) c.requires.rows
    ∙ front_rows key_cmp_total key_cmp-IsAntisymmetric c.args.keys.now c.requires.apart c.args.touched.now c.args.window.noted.writes c.args.window.base
    c.requires.once c.requires.front
