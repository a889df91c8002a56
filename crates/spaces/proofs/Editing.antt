use Rattle.std.proofs.Common.{◌≡◌, ℕ, ◌+◌, ◌-◌, ◌≤◌, [], ◌∷◌, length, Some, None, arith}
use Rattle.std.proofs.lemmas.List.{length-append, nil_from_length}
use Rattle.std.proofs.lemmas.Bool.Decides.{nat_tests}
use Rattle.spaces.specs.Patches.{Patches, Ascending, lookup, before, from, LawfulPatches}
use Rattle.spaces.specs.Edits.{Edit, setting, clearing, first_of, count_of, bytes_of, edit, judged, unless, Outcome, outcome, EditsPatches}
use Rattle.spaces.specs.EditLaws.{Touches, Touched, EditLaws, ClearLaw}
use Rattle.spaces.proofs.Ascents.{ascending_replaced, replaced_none}
use Rattle.spaces.proofs.Finding.{changes}
use Rattle.spaces.proofs.Places.{exactly_edited}

ascending_edit : (e : Edit) (ps : Patches) → Ascending 0 ps → Ascending 0 (edit e ps)
ascending_edit e ps h = ascending_replaced (first_of e) (first_of e + count_of e) (bytes_of e) ps (grind arith) h

empty_edit : (e : Edit) (ps : Patches) → Ascending 0 ps → count_of e ≡ 0 → edit e ps ≡ ps
empty_edit e ps h z = grind (arith, replaced_none 0 (first_of e) ps h, nil_from_length (bytes_of e))

-- accepted edits keep patches lawful
pub lawful_edit : (e : Edit) (ps : Patches) → judged (Some ps) e ≡ None → LawfulPatches ps → LawfulPatches (edit e ps)
lawful_edit e ps h k = record { ascending = ascending_edit e ps k.ascending; few = grind (arith, nat_tests) }

-- what an edit does where it touches
touches_so : (e : Edit) (ps : Patches) (a : ℕ) → Touches e (lookup ps) a → Touched e (lookup ps) (lookup (edit e ps)) a
touches_so (setting first bytes) ps a t =
    let q : first + (a - first) ≡ a = omega (arith, t.0) in
    let c = (changes (setting first bytes) ps).inside (a - first) (omega (arith, t.0, t.1)) in
    grind (arith, rw q at c)
touches_so (clearing first count) ps a (t, p) =
    let q : first + (a - first) ≡ a = omega (arith, t.0) in
    let c = (changes (clearing first count) ps).inside (a - first) (omega (arith, t.0, t.1)) in
    (p, rw q at c)

-- the laws of an edit of an overlay
pub edit_laws : (e : Edit) (old : Patches) → LawfulPatches old → EditLaws e old (unless (judged (Some old) e) old (edit e old)) (outcome (judged (Some old) e))
edit_laws e old law = record {
  accepted = λ q. grind (arith, nat_tests, changes e old);
  touched = λ q. grind (arith, nat_tests, touches_so e old);
  refused = λ n q. grind (arith, nat_tests);
  empty = λ z. grind (arith, empty_edit e old law.ascending z);
  past = λ h. grind (arith, nat_tests);
  weighed = λ h. record {
    afterwards = length (edit e old);
    exact = exactly_edited e old (edit e old) (ascending_edit e old law.ascending) (changes e old);
    too_many = λ k. grind (arith, nat_tests);
    accepted = λ k. grind (arith, nat_tests);
  };
  few = grind (arith, nat_tests);
}

pub laws_of : (e : Edit) (old new : Patches) (r : Outcome) → LawfulPatches old → EditsPatches old new e r → EditLaws e old new r
laws_of e old new r law d = rw (d.answer, d.patches) (edit_laws e old law)

-- taking back leaves no more than there were
fewer : (a b : ℕ) (ps : Patches) → a ≤ b → length (before a ps) + length (from b ps) ≤ length ps
fewer a b [] h = omega arith
fewer a b (p ∷ ps) h = grind (arith, nat_tests, fewer a b ps h)

pub clear_law : (first count : ℕ) (old : Patches) (r : Outcome) → LawfulPatches old → r ≡ outcome (judged (Some old) (clearing first count)) → ClearLaw first count r
clear_law first count old r law e h = grind (arith, nat_tests, length-append, fewer first (first + count) old (omega arith))
