use Rattle.std.proofs.Common.{rules, sym, ◌∙◌, ap}
use Rattle.carts.specs.Carts.{layered}
use Rattle.carts.proofs.Loading.{holds}
use Rattle.exports.specs.Readings.{whole_cart, read_patched}
use Rattle.exports.proofs.Loads.{loads_dump, accepted, refused}
use Rattle.exports.proofs.reading.read_cart.Goals as goal

pub returns-in-Ok : goal.returns-in-Ok
returns-in-Ok c =
    let loads = loads_dump _ 64 c.args.dump.now _ _ _ (search rules) c.load_lime.ensures.loads in
    let extents = holds _ _ _ _ loads in
    let pile = c.layer.ensures ∙ ap (layered c.cr3_in.result) c.new.ensures.means in
    let read = accepted _ _ _ (read_patched (whole_cart c.args.dump.now c.args.root.now) c.args.file.now c.args.first c.args.into.now) (sym loads.answers ∙ c.in-Ok.is) in
    rw (read, ← extents, ← c.cr3_in.ensures, ← pile) c.read_either_way.ensures

pub returns-in-Err : goal.returns-in-Err
returns-in-Err c =
    let loads = loads_dump _ 64 c.args.dump.now _ _ _ (search rules) c.load_lime.ensures.loads in
    let read = refused _ _ _ (read_patched (whole_cart c.args.dump.now c.args.root.now) c.args.file.now c.args.first c.args.into.now) (sym loads.answers ∙ c.in-Err.is) in
    rw read (record { is = c.refused.ensures; buffer = search rules })
