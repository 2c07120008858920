-- Outputs that are copied in the order of their names.
use Rattle.std.proofs.Common.{◌≡◌, true, List, [], ◌∷◌, ◌++◌, append_assoc, map, refl, ap, ◌∙◌, String}
use Rattle.std.proofs.lemmas.List.{map_push}
use Rattle.std.specs.BTreeMap.{insert_entry}
use Rattle.std.specs.Cmp.Lexicographic.{slice_cmp}
use Rattle.std.specs.List.{AllByRecursion, list_all}
use Rattle.std.specs.List.Sorted.{IsStrictlySortedBy}
use Rattle.std.specs.Map.{keys_of}
use Rattle.std.specs.Ordering.{is_lt, nat_cmp}
use Rattle.std.specs.String.{string_bytes, string_cmp, string_cmp_total}
use Rattle.std.specs.declared.alloc.Global.{Global}
use Rattle.std.specs.declared.cmp.Ordering.TheVariants.{Less}
use Rattle.cck_path.proofs.LastLemmas.{insert_last}
use Rattle.cck_compiler.specs.Arguments.{Output}
use Rattle.cck_compiler.specs.Seen.{output_of}
use Rattle.cck_compiler.specs.declared.arguments.ArtifactDescriptor.{ArtifactDescriptor}

abbrev Named : Type 0
Named = String Global × ArtifactDescriptor

same_first : (o p : Output) (os ps : List Output) → ◌≡◌ {A = List Output} (o ∷ os) (p ∷ ps) → o ≡ p
same_first o p os ps e = cc

same_rest : (o p : Output) (os ps : List Output) → ◌≡◌ {A = List Output} (o ∷ os) (p ∷ ps) → os ≡ ps
same_rest o p os ps e = cc

nothing : (o : Output) (os : List Output) → ◌≡◌ {A = List Output} (o ∷ os) [] → ⊥
nothing o os e = cc

-- a name below all names of a list is below the one that is in it after others
below_one : (name : String Global) (front : List Named) (o : Named) (following : List Output) (es : List Named)
    → AllByRecursion (λ y. string_cmp name y ≡ Less) (keys_of es) → map output_of front ++ output_of o ∷ following ≡ map output_of es
    → string_cmp name (o.0) ≡ Less
below_one name [] o following [] h e = absurd (nothing _ _ e)
below_one name [] o following (x ∷ es) h e =
    ap (λ (p : Output). slice_cmp nat_cmp (string_bytes name) p.name) (same_first _ _ _ _ e) ∙ h.0
below_one name (f ∷ front) o following [] h e = absurd (nothing _ _ e)
below_one name (f ∷ front) o following (x ∷ es) h e = below_one name front o following es h.1 (same_rest _ _ _ _ e)

-- in a list in order, the names before that of an output are below it
front_is_below : (front : List Named) (o : Named) (following : List Output) (es : List Named) → IsStrictlySortedBy string_cmp (keys_of es)
    → map output_of front ++ output_of o ∷ following ≡ map output_of es → list_all (λ e. is_lt (string_cmp (e.0) (o.0))) front ≡ true
unfolding IsStrictlySortedBy
front_is_below [] o following es h e = refl
front_is_below (f ∷ front) o following [] h e = absurd (nothing _ _ e)
front_is_below (f ∷ front) o following (x ∷ es) h e =
    let rest = same_rest _ _ _ _ e in
    let less : string_cmp (f.0) (o.0) ≡ Less =
    ap (λ (p : Output). slice_cmp nat_cmp p.name (string_bytes (o.0))) (same_first _ _ _ _ e) ∙ below_one (x.0) front o following es h.0 rest
    in rw (less, front_is_below front o following es h.1 rest) refl

-- the copies with another output copied
pub copied_more : (es copies : List Named) (o : Named) (left : List Named) (name : String Global) (copy : ArtifactDescriptor) → IsStrictlySortedBy string_cmp (keys_of es)
    → map output_of copies ++ map output_of (o ∷ left) ≡ map output_of es → output_of (name, copy) ≡ output_of o
    → map output_of (insert_entry string_cmp copies name copy) ++ map output_of left ≡ map output_of es
copied_more es copies o left name copy ordered so_far same =
    let with_copy : map output_of copies ++ output_of (name, copy) ∷ map output_of left ≡ map output_of es =
    ap (λ (p : Output). map output_of copies ++ p ∷ map output_of left) same ∙ so_far
    in
    rw (insert_last string_cmp_total copies name copy (front_is_below copies (name, copy) (map output_of left) es ordered with_copy), map_push output_of copies (name, copy))
    (append_assoc (map output_of copies) (output_of (name, copy) ∷ []) (map output_of left) ∙ with_copy)
