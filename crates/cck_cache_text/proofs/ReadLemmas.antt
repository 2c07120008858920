-- The names of files that a program read, beside those of a text.
use Rattle.std.proofs.Common.{◌≡◌, ℕ, ◌≤◌, inl, inr, Bool, true, false, cond, ◌==◌, List, [], ◌∷◌, IsTrue, length, map, refl, sym, ap, subst, ◌∙◌, arith}
use Rattle.std.specs.Global.{Vec}
use Rattle.std.specs.List.{list_all, list_any}
use Rattle.std.specs.Str.{bytes_eq}
use Rattle.std.proofs.lemmas.Bool.{and_from, and_parts, or_cases, or_left, or_right}
use Rattle.std.proofs.lemmas.Slice.Eq.{bytes_eq-Decides}
use Rattle.cck_include.specs.Marks.{Mark}
use Rattle.cck_cache_text.specs.Names.{AreNames, directory_of}
use Rattle.cck_cache_text.specs.ReadFiles.{AreListed, AreNamesOf, IsNameOf, is_name_of, without_dots}
use Rattle.cck_cache_text.specs.Rule.{IsRule}
use Rattle.cck_cache_text.specs.Sets.{has_key}
use Rattle.cck_cache_rules.proofs.ReadingLemmas.{empty}
use Rattle.cck_cache_text.specs.declared.names.Named.{Named}

-- a directory of a name is no longer than the name
pub directory_within : (name : List ℕ) → length (directory_of name) ≤ length name
directory_within [] = omega arith
directory_within (byte ∷ name) = go (list_any (λ b. b == 47) (byte ∷ name)) (directory_within name)
  where
    go : (b : Bool) → length (directory_of name) ≤ length name → length (cond b (byte ∷ directory_of name) []) ≤ length (byte ∷ name)
    go true within = omega arith
    go false within = omega arith

-- a name of a list that is this one without its dots
dotted : (keys : List (Vec ℕ)) (name : List ℕ) → IsTrue (list_any (λ k. bytes_eq (without_dots k.items) name) keys) → (of : List ℕ) × IsTrue (list_any (λ k. bytes_eq of k.items) keys) × (name ≡ without_dots of)
dotted [] name h = cc
dotted (k ∷ keys) name h =
    elim (or_cases (bytes_eq (without_dots k.items) name) (list_any (λ k. bytes_eq (without_dots k.items) name) keys) h) [
      | inl here ↦ (k.items, or_left _ _ ((bytes_eq-Decides k.items k.items).1 refl), sym ((bytes_eq-Decides (without_dots k.items) name).0 here))
      | inr later ↦ (let more = dotted keys name later in (more.0, or_right _ _ more.1, more.2))
    ]

undotted : (keys : List (Vec ℕ)) (name of : List ℕ) → IsTrue (list_any (λ k. bytes_eq of k.items) keys) → name ≡ without_dots of → IsTrue (list_any (λ k. bytes_eq (without_dots k.items) name) keys)
undotted [] name of h is = cc
undotted (k ∷ keys) name of h is =
    elim (or_cases (bytes_eq of k.items) (list_any (λ k. bytes_eq of k.items) keys) h) [
      | inl here ↦ or_left _ _ ((bytes_eq-Decides (without_dots k.items) name).1 (ap without_dots (sym ((bytes_eq-Decides of k.items).0 here)) ∙ sym is))
      | inr later ↦ or_right _ _ (undotted keys name of later is)
    ]

module _ (marks : List Mark) (named : Named) (are : AreNames marks named) where
  is_name : (name : List ℕ) → IsTrue (is_name_of named.names name) → IsNameOf marks name
  is_name name h =
      elim (or_cases (has_key named.names name) (list_any (λ k. bytes_eq (without_dots k.items) name) named.names.keys) h) [
        | inl has ↦ inl (sym (are.names name) ∙ has)
        | inr some ↦ (let of = dotted named.names.keys name some in inr (of.0, sym (are.names of.0) ∙ of.1, of.2))
      ]

  name_is : (name : List ℕ) → IsNameOf marks name → IsTrue (is_name_of named.names name)
  name_is name (inl is) = or_left _ _ (are.names name ∙ is)
  name_is name (inr (of, is, same)) = or_right _ _ (undotted named.names.keys name of (are.names of ∙ is) same)

  -- the names that the set has are those of the marks
  pub are_names : (read : List (Vec ℕ)) → list_all (λ name. is_name_of named.names name.items) read ≡ true → AreNamesOf marks (map (λ name. name.items) read)
  are_names [] h = tt
  are_names (name ∷ read) h =
      let both = and_parts (is_name_of named.names name.items) (list_all (λ name. is_name_of named.names name.items) read) h in
      (is_name name.items both.0, are_names read both.1)

  pub names_are : (read : List (Vec ℕ)) → AreNamesOf marks (map (λ name. name.items) read) → list_all (λ name. is_name_of named.names name.items) read ≡ true
  names_are [] h = refl
  names_are (name ∷ read) h =
      and_from (is_name_of named.names name.items) (list_all (λ name. is_name_of named.names name.items) read) (name_is name.items h.0) (names_are read h.1)

-- a rule has one list of names
pub only_names : (P : List (List ℕ) → Type 0) (names found : List (List ℕ)) → names ≡ found → P names → P found
only_names P names found same is = subst P same is

-- an empty rule
pub listed_none : (rule : List ℕ) → (length rule == 0) ≡ true → AreListed rule []
listed_none rule e = subst (λ (r : List ℕ). AreListed r []) (sym (empty rule e)) refl

-- another one
pub listed_rule : (rule : List ℕ) (names : List (List ℕ)) → (rule ≡ [] → ⊥) → IsRule rule names → AreListed rule names
listed_rule [] names some is = absurd (some refl)
listed_rule (byte ∷ rule) names some is = is

pub rule_listed : (rule : List ℕ) (names : List (List ℕ)) → (rule ≡ [] → ⊥) → AreListed rule names → IsRule rule names
rule_listed [] names some are = absurd (some refl)
rule_listed (byte ∷ rule) names some are = are
