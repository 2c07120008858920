-- The parts of the material of a name, and paths of a base directory.
use Rattle.std.proofs.Common.{◌≡◌, ◌≢◌, ℕ, List, [], ◌∷◌, ◌++◌, Bool, true, false, Some, codes, refl, sym, ap, ◌∙◌, append_assoc, append-nil, length-append, arith}
use Rattle.std.proofs.Math.Seq.{drop-append_seam}
use Rattle.std.proofs.lemmas.Bool.{eq-eqb}
use Rattle.std.proofs.lemmas.Bool.Decides.{Decides-eqb}
use Rattle.std.proofs.lemmas.Slice.Eq.{starts_is}
use Rattle.std.specs.List.{starts_with}
use Rattle.std.specs.Prelude.{nat_eq, length, drop}
use Rattle.cck_digest.specs.Frames.{frame, framed_list}
use Rattle.cck_digest.proofs.FrameLemmas.{frame_reads_back, framed_list_reads_back}
use Rattle.cck_cache_rules.proofs.FrontCodingLemmas.{front_bytes_read_back, front_coded_tells}
use Rattle.cck_cache_rules.specs.FrontCoding.{framed_front_coded, front_bytes, front_coded}
use Rattle.cck_cache_rules.specs.ObjectName.{MaterialTellsObject, ObjectParts, after_base, is_inside, object_material}

-- the material, nested to the right
material-nested : (p : ObjectParts) → object_material p
    ≡ frame p.key ++ (frame p.input ++ (framed_list frame p.outside ++ (framed_list frame p.inside ++ (framed_front_coded p.tests_outside ++ framed_front_coded p.tests_inside))))
material-nested p =
    parted (frame p.key) (frame p.input) (framed_list frame p.outside) (framed_list frame p.inside) (framed_front_coded p.tests_outside)
    (framed_front_coded p.tests_inside)
  where
    parted : (a b c d e f : List ℕ) → a ++ b ++ c ++ d ++ e ++ f ≡ a ++ (b ++ (c ++ (d ++ (e ++ f))))
    parted a b c d e f = simp append_assoc

parts_from_material : (p q : ObjectParts) → object_material p ≡ object_material q → p ≡ q
parts_from_material p q same =
    let (keys, after_key) = frame_reads_back p.key q.key _ _ (sym (material-nested p) ∙ (same ∙ material-nested q)) in
    let (inputs, after_input) = frame_reads_back p.input q.input _ _ after_key in
    let (outside, after_outside) = framed_list_reads_back frame frame_reads_back p.outside q.outside _ _ after_input in
    let (inside, after_inside) = framed_list_reads_back frame frame_reads_back p.inside q.inside _ _ after_outside in
    let (parts_outside, after_tests) = framed_list_reads_back front_bytes front_bytes_read_back (front_coded [] p.tests_outside) (front_coded [] q.tests_outside) _ _ after_inside in
    let (parts_inside, _) =
    framed_list_reads_back front_bytes front_bytes_read_back (front_coded [] p.tests_inside) (front_coded [] q.tests_inside) [] []
    (append-nil (framed_front_coded p.tests_inside) ∙ (after_tests ∙ sym (append-nil (framed_front_coded q.tests_inside))))
    in
    let tests_outside = front_coded_tells [] p.tests_outside q.tests_outside parts_outside in
    let tests_inside = front_coded_tells [] p.tests_inside q.tests_inside parts_inside in
    λ n. record {
      key = keys n;
      input = inputs n;
      outside = outside n;
      inside = inside n;
      tests_outside = tests_outside n;
      tests_inside = tests_inside n;
    }

pub material_tells_object : MaterialTellsObject
material_tells_object p q = (parts_from_material p q, ap object_material)

-- what begins in what is after a base directory
begins_after : (base rest word : List ℕ) → starts_with nat_eq rest word ≡ starts_with nat_eq (base ++ rest) (base ++ word)
begins_after [] rest word = refl
begins_after (b ∷ base) rest word = let same = eq-eqb b b refl in rw same (begins_after base rest word)

-- a path that begins with the base directory
module _ (path base rest : List ℕ) (is : path ≡ base ++ rest) where
  inside_by_rest : is_inside (Some base) path ≡ starts_with nat_eq (rest ++ codes "/") (codes "/")
  inside_by_rest =
      ap (λ (p : List ℕ). starts_with nat_eq p (base ++ codes "/")) (ap (λ (p : List ℕ). p ++ codes "/") is ∙ append_assoc base rest (codes "/"))
      ∙ sym (begins_after base (rest ++ codes "/") (codes "/"))

  pub rest_of : rest ≡ after_base (Some base) path
  rest_of = sym (ap (λ (p : List ℕ). drop (length base) p) is ∙ drop-append_seam base rest)

  -- and ends there
  pub inside_at_end : length rest ≡ 0 → is_inside (Some base) path ≡ true
  inside_at_end e = inside_by_rest ∙ ended rest e
    where
      ended : (r : List ℕ) → length r ≡ 0 → starts_with nat_eq (r ++ codes "/") (codes "/") ≡ true
      ended [] e = refl
      ended (x ∷ r) e = absurd (omega (arith, e))

  -- or goes on
  pub inside_by_slash : (slash : Bool) → length rest ≢ 0 → slash ≡ starts_with nat_eq rest (codes "/") → is_inside (Some base) path ≡ slash
  inside_by_slash slash more begins = inside_by_rest ∙ (first rest more ∙ sym begins)
    where
      first : (r : List ℕ) → length r ≢ 0 → starts_with nat_eq (r ++ codes "/") (codes "/") ≡ starts_with nat_eq r (codes "/")
      first [] more = absurd (more refl)
      first (x ∷ r) more = refl

-- a path with a slash begins with a base directory with one only if it begins with the base directory
front : (base path rest : List ℕ) → path ++ codes "/" ≡ (base ++ codes "/") ++ rest → (after : List ℕ) × (path ≡ base ++ after)
front [] path rest e = (path, refl)
front (b ∷ base) [] rest e = let sizes = ap length e in absurd (omega (arith, sizes, length-append base (codes "/"), length-append (base ++ codes "/") rest))
front (b ∷ base) (p ∷ path) rest e =
    let first : p ≡ b = cc in
    let later : path ++ codes "/" ≡ (base ++ codes "/") ++ rest = cc in
    let (after, is) = front base path rest later in
    (after, λ n. first n ∷ is n)

is_false : (b : Bool) → (b ≡ true → ⊥) → b ≡ false
is_false true never = absurd (never refl)
is_false false never = refl

-- a path that does not begin with the base directory
pub outside_other : (path base : List ℕ) → ((rest : List ℕ) → path ≢ base ++ rest) → is_inside (Some base) path ≡ false
outside_other path base other =
    is_false (is_inside (Some base) path) (λ inside.
    let begins = (starts_is Decides-eqb (path ++ codes "/") (base ++ codes "/") (is_inside (Some base) path) refl).0 inside in
    let (rest, is) = front base path (drop (length (base ++ codes "/")) (path ++ codes "/")) begins in
    other rest is)

-- a path inside is the base directory and what follows it
pub of_inside : (base path : List ℕ) → is_inside (Some base) path ≡ true → path ≡ base ++ after_base (Some base) path
of_inside base path inside =
    let begins = (starts_is Decides-eqb (path ++ codes "/") (base ++ codes "/") (is_inside (Some base) path) refl).0 inside in
    let (rest, is) = front base path (drop (length (base ++ codes "/")) (path ++ codes "/")) begins in
    is ∙ ap (λ (r : List ℕ). base ++ r) (rest_of path base rest is)
