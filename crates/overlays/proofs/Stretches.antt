use Rattle.std.proofs.Common.{◌≡◌, ℕ, zero, suc, ◌+◌, ◌<◌, ◌≤◌, List, [], ◌∷◌, ◌++◌, length, take, Some, None, Ok, Option, refl, sym, subst, ap, ◌∙◌, arith}
use Rattle.std.specs.Option.{unwrap_or}
use Rattle.std.proofs.lemmas.Grind.{common_steps}
use Rattle.std.proofs.lemmas.List.{length-take-le, take-append-drop}
use Rattle.std.proofs.lemmas.Slice.{take-put_mid, take-put_mid_below, drop-put_mid}
use borrow.Rule.Slice.PartMut.{put_mid, mid_of, same_len_mid}
use Rattle.spaces.specs.declared.fault.Fault.{Fault}
use Rattle.spaces.specs.Maps.{Map, raised}
use Rattle.spaces.specs.Reads.{span, got, most, Fills}
use Rattle.spaces.specs.Patches.{Patches, lookup}
use Rattle.spaces.specs.Piles.{Pile, on, overlay, shown}
use Rattle.spaces.proofs.Spans.{whole}
use Rattle.spaces.proofs.Filling.{Filled, Placed, placed, behind, more, stopped, part_long}
use Rattle.overlays.proofs.Laying.{length_laid_over}
use Rattle.overlays.specs.Tables.{laid_over}

-- What an overlay shows of a stretch of addresses that the space below has filled.
module _ (ps : Patches) (below : Pile) where
  abbrev pub layer : Map
  layer = shown (on (overlay ps) below)

  -- what the space below has, as it comes up
  abbrev pub under : Map
  under = λ a. raised (shown below a)

  pub shows_patch : (a b : ℕ) → Some b ≡ lookup ps a → layer a ≡ Ok b
  shows_patch a b e = grind arith

  pub shows_under : (a : ℕ) → None ≡ lookup ps a → layer a ≡ under a
  shows_under a e = grind arith

  shows_over : (a b : ℕ) → under a ≡ Ok b → layer a ≡ Ok (unwrap_or (lookup ps a) b)
  shows_over a b e = grind arith

  -- where the space below has all bytes, the patches lie over them
  got_laid : (a k : ℕ) (bs : List ℕ) → got under (span a k) ≡ whole bs → got layer (span a k) ≡ whole (laid_over ps a bs)
  got_laid a zero bs e = grind arith
  got_laid a (suc k) [] e = grind arith
  got_laid a (suc k) (b ∷ bs) e =
      let ih = got_laid (suc a) k bs in
      let here = shows_over a b in
      grind arith

  -- A part of k bytes is filled by the space below, and the patches are laid over what it placed.
  module _ (first n k j : ℕ) (before now part laid : List ℕ) (r : ℕ × Option Fault) (so : Filled layer first n before now) (fits : n + k ≤ most first before)
      (f : Fills under (first + n) (mid_of n k now) part r) (count : j ≡ r.0) where
    abbrev after : List ℕ
    after = put_mid n k now part

    p : Placed under (first + n) (mid_of n k now) part r
    p = placed under (first + n) (mid_of n k now) part r f

    pub stretch_filled : laid ≡ laid_over ps (first + n) (mid_of n j after) → Filled layer first (n + r.0) before (put_mid n j after laid)
    stretch_filled e =
        let few = p.few in
        let long = p.long in
        let same = so.long in
        let room = part_long layer first n before now so k fits in
        let after_long = same_len_mid n k now part p.long in
        let taken : mid_of n j after ≡ take r.0 part = grind (arith, common_steps) in
        let mid : length (mid_of n j after) ≡ r.0 = ap length taken ∙ length-take-le r.0 part (omega arith) in
        let laid_long : length laid ≡ r.0 = ap length e ∙ length_laid_over ps (first + n) (mid_of n j after) ∙ mid in
        let bytes : got layer (span (first + n) r.0) ≡ whole laid = rw (e, taken) (got_laid (first + n) r.0 (take r.0 part) p.bytes) in
        more layer first n before now so r.0 laid (put_mid n j after laid) (omega arith) bytes
        (same_len_mid n j after laid (laid_long ∙ sym mid) ∙ after_long)
        (take-put_mid n j after laid (n + r.0) (omega arith) (omega arith) ∙ ap (λ xs. xs ++ laid) (take-put_mid_below n k now part n (omega arith) (omega arith)))
        (drop-put_mid n j after laid (n + r.0) (omega arith) (omega arith) (omega arith) ∙ behind under (first + n) n k now part r p (omega arith))

    -- where it placed less, it has no byte behind them
    pub stretch_stopped : laid ≡ laid_over ps (first + n) (mid_of n j after) → r.0 < k → None ≡ lookup ps (first + (n + r.0)) → Fills layer first before (put_mid n j after laid) (n + r.0, r.1)
    stretch_stopped e h none =
        let room = part_long layer first n before now so k fits in
        let (fault, is, there) = p.ends (omega arith) in
        let place : first + n + r.0 ≡ first + (n + r.0) = omega arith in
        rw is (stopped layer first (n + r.0) before (put_mid n j after laid) (stretch_filled e) fault (omega arith) (shows_under (first + (n + r.0)) none ∙ ap under (sym place) ∙ there))

  -- where it placed none, the first address has no byte, and the buffer is as it was
  pub stretch_empty : (first n k : ℕ) (before now part : List ℕ) (r : ℕ × Option Fault) (so : Filled layer first n before now) (fits : n + k ≤ most first before)
      (f : Fills under (first + n) (mid_of n k now) part r) → r.0 ≡ 0 → 0 < k → None ≡ lookup ps (first + n) → Fills layer first before (put_mid n k now part) (n, r.1)
  stretch_empty first n k before now part r so fits f z h none =
      let after = put_mid n k now part in
      let place : n + r.0 ≡ n = omega arith in
      let same : put_mid n 0 after [] ≡ after = take-append-drop n after in
      let there : None ≡ lookup ps (first + (n + r.0)) = rw place none in
      let t = stretch_stopped first n k 0 before now part [] r so fits f (sym z) refl (omega arith) there in
      subst (λ (xs : List ℕ). Fills layer first before xs (n, r.1)) same (subst (λ (i : ℕ). Fills layer first before (put_mid n 0 after []) (i, r.1)) place t)
