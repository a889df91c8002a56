use Rattle.std.proofs.Common.{◌≡◌, ◌*◌, ◌/◌, length, None, ◌∙◌, sym, arith}
use Rattle.patchfiles.proofs.Forms.{formed, marks_there}
use Rattle.patchfiles.proofs.Answering.{fault_applies, run_applies}
use Rattle.patchfiles.proofs.applying.apply.Goals as goal

pub returns-in-Some : goal.returns-in-Some
returns-in-Some g c = let whole : length c.args.file.now ≡ 16 * (length c.args.file.now / 16) = omega (arith, c.as_chunks.ensures.back_len) in
    fault_applies _ _ _ _ whole c.as_chunks.ensures.front _ (formed _ _ (sym c.malformed.ensures ∙ c.in-Some.is))

pub returns : goal.returns
returns g c = let whole : length c.args.file.now ≡ 16 * (length c.args.file.now / 16) = omega (arith, c.as_chunks.ensures.back_len) in
    let t = marks_there c.as_chunks.result.0.now 0 (formed c.as_chunks.result.0.now None (sym c.malformed.ensures ∙ c.in_default-malformed.is)) in
    run_applies _ _ _ _ whole c.as_chunks.ensures.front _ _ t.0 t.1 (c.run.ensures t.0 t.1)
