use Rattle.std.proofs.Common.{rules, sym, ◌∙◌, ap}
use Rattle.exports.specs.Loading.{told_by}
use Rattle.exports.proofs.Loads.{loads_dump}
use Rattle.exports.proofs.loading.aisle_load.Goals as goal

pub returns-in-Ok : goal.returns-in-Ok
returns-in-Ok c =
    let loads = loads_dump _ c.args.room c.args.dump.now _ _ _ (search rules) c.load_lime.ensures.loads in
    let told = ap told_by (sym c.in-Ok.is ∙ loads.answers) in
    let done = c.done.ensures in cc

pub returns-in-Err : goal.returns-in-Err
returns-in-Err c =
    let loads = loads_dump _ c.args.room c.args.dump.now _ _ _ (search rules) c.load_lime.ensures.loads in
    let told = ap told_by (sym c.in-Err.is ∙ loads.answers) in
    let refused = c.refused.ensures in cc
