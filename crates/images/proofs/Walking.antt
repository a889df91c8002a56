use Rattle.std.proofs.Common.{◌≡◌, ℕ, zero, suc, ◌+◌, ◌≤◌, Bool, true, false, ◌⊎◌, inl, inr, List, [], ◌∷◌, ◌++◌, length, Some, None, Option, refl, arith}
use Rattle.std.proofs.lemmas.Grind.{common_steps}
use Rattle.std.proofs.lemmas.Bool.Decides.{nat_tests}
use Rattle.extents.specs.Bounds.{Bounds}
use Rattle.extents.specs.Tables.{overlaps_any}
use Rattle.images.specs.declared.refusal.LoadRefusal.{LoadRefusal}
use Rattle.images.specs.Images.{Apart}
use Rattle.images.specs.Loads.{Load}
use Rattle.images.specs.Steps.{NextHeader, no_header, refused_header, header_of, addition_refusal, load_by, load_from}
use Rattle.images.proofs.Loading.{Free, onward, step}
use Rattle.images.proofs.Separate.{apart_push}

-- What a load of any kind of extents has read.
module _ {E : Type 0} (bounds : E → Bounds) (header : ℕ → NextHeader E) where
  -- these extents stand one behind the other, from a place up to another
  pub data Follow : ℕ → List E → ℕ → Type 0 where
    here : {place : ℕ} → Follow place [] place
    then : {place behind stop : ℕ} {e : E} {es : List E} → header place ≡ header_of e behind → Follow behind es stop → Follow place (e ∷ es) stop

  follow_push : {place from behind : ℕ} {es : List E} {e : E} → Follow place es from → header from ≡ header_of e behind → Follow place (es ++ (e ∷ [])) behind
  follow_push here q = then q here
  follow_push (then p f) q = then p (follow_push f q)

  module _ (room : ℕ) where
    -- a load ends at a place behind these extents: nothing more is there, or a header is refused, or its extent is not added
    abbrev pub RefusedAt : List E → ℕ → LoadRefusal → Type 0
    RefusedAt es stop refusal = (header stop ≡ refused_header refusal)
        ⊎ ((e : E) × (behind : ℕ) × (header stop ≡ header_of e behind) × (addition_refusal bounds room es e ≡ Some refusal))

    abbrev pub Ends : List E → ℕ → Option (LoadRefusal × ℕ) → Type 0
    Ends es stop None = header stop ≡ no_header
    Ends es stop (Some (refusal, place)) = (place ≡ stop) × RefusedAt es stop refusal

    pub record Reads (start : ℕ) (load : Load E) : Type 0 where
      pub stop : ℕ
      pub follow : Follow start load.extents stop
      pub few : length load.extents ≤ room
      pub apart : Apart bounds load.extents
      pub ends : Ends load.extents stop load.refused

    module _ (start place : ℕ) (before : List E) (f : Follow start before place) (few : length before ≤ room) (s : Apart bounds before) where
      ends_here : (o : Option (LoadRefusal × ℕ)) → Ends before place o → Reads start (record { extents = before; refused = o })
      ends_here o e = record { stop = place; follow = f; few = few; apart = s; ends = e }

      -- from there on, where one extent more may be there
      reads_on : (n : ℕ) → ((e : E) (behind : ℕ) → header place ≡ header_of e behind → Free bounds before e → Reads start (onward bounds header n place before e behind))
          → Reads start (load_from bounds header n place before)
      reads_on n more = rw (step bounds header n place before) (by_header (header place) refl)
        where
          by_overlap : (e : E) (behind : ℕ) → header place ≡ header_of e behind → (b : Bool) → overlaps_any bounds before (bounds e) ≡ b
              → Reads start (load_by bounds (header_of e behind) place before (onward bounds header n place before))
          by_overlap e behind q true o = rw o (ends_here _ (refl, inr (e, behind, q, rw o refl)))
          by_overlap e behind q false o = rw o (more e behind q o)

          by_header : (w : NextHeader E) → header place ≡ w → Reads start (load_by bounds w place before (onward bounds header n place before))
          by_header no_header q = ends_here None q
          by_header (refused_header r) q = ends_here _ (refl, inl q)
          by_header (header_of e behind) q = by_overlap e behind q (overlaps_any bounds before (bounds e)) refl

    reads_from : (start n place : ℕ) (before : List E) → Follow start before place → Apart bounds before → length before + n ≡ room → Reads start (load_from bounds header n place before)
    reads_from start zero place before f s k = reads_on start place before f (omega arith) s zero (λ e behind q o.
        ends_here start place before f (omega arith) s _ (refl, inr (e, behind, q, grind (arith, nat_tests))))
    reads_from start (suc n) place before f s k = reads_on start place before f (omega arith) s (suc n) (λ e behind q o.
        reads_from start n behind (before ++ (e ∷ [])) (follow_push f q) (apart_push bounds before e s o) (grind (arith, common_steps)))

    pub reads : (start : ℕ) → Reads start (load_from bounds header room start [])
    reads start = reads_from start room start [] here (grind arith) (omega arith)
