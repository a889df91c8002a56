use Rattle.std.proofs.Common.{◌≡◌, Ok, sym, ◌∙◌, rules, arith}
use Rattle.std.proofs.lemmas.Grind.{common_steps}
use Rattle.carts.specs.Carts.{image_of}
use Rattle.carts.proofs.Loading.{loads_dump, holds, accepted, refused}
use Rattle.carts.proofs.cart.load_image.Goals as goal

pub returns-in_err-map_err : goal.returns-in_err-map_err
returns-in_err-map_err c =
    let loads = loads_dump _ _ c.args.dump.now _ _ _ (search rules) c.counted-file.ensures c.load_lime.ensures.loads in
    grind (arith, common_steps, refused)

pub returns : goal.returns
returns c =
    let loads = loads_dump _ _ c.args.dump.now _ _ _ (search rules) c.counted-file.ensures c.load_lime.ensures.loads in
    let answer : c.load_lime.result ≡ Ok c.in_ok-map_err.field-0 = search (rules, c.map_err.ensures.cases) in
    let extents = holds _ _ _ _ loads in
    let pile = accepted _ _ _ (image_of c.args.dump.now) (sym loads.answers ∙ answer) in cc
