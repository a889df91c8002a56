use Rattle.spaces.proofs.Sequences.{left_by}
use Rattle.paging.proofs.Showing.{page_missing, page_there}
use Rattle.paging.proofs.layer.Paging.translate.Goals as goal

pub returns-in_err-page : goal.returns-in_err-page
returns-in_err-page g c = page_missing _ _ _ g.met.P.Scheme.sound _ _ _ (left_by _ _ c.from_residual.ensures.1) c.in_err-page.ensures.is

pub returns : goal.returns
returns g c = page_there _ _ _ g.met.P.Scheme.sound _ _ _ c.on.ensures c.in_ok-page.ensures.is
