-- What an argument does, by its parts.
use Rattle.std.proofs.Common.{◌≡◌, ◌≢◌, ℕ, ◌+◌, inl, inr, Bool, true, false, not, List, ◌∷◌, ◌++◌, Option, Some, None, is_some, length, take, drop, nat_eq, refl, sym, ap, subst, ◌∙◌, arith, codes, length-append}
use Rattle.std.specs.Bool.{Decides}
use Rattle.std.specs.List.{All, IsAnyAnswer}
use Rattle.std.proofs.Math.Seq.{drop-append_seam, take-append_seam}
use Rattle.std.proofs.lemmas.Bool.{eqb-false, eqb-true, false_from_ne_true, false≢true, not_from_false}
use Rattle.std.proofs.lemmas.List.{append_cancel_left, take-append-drop}
use Rattle.memchr.specs.Find.{FindsNeedle, OccursAt}
use Rattle.memchr.proofs.lemmas.MatchLemmas.{OccursAt-from_part, OccursAt-split}
use Rattle.cck_cache_rules.specs.Argument.{IsMapOfBase, IsPortable, MapsBase, ShowsPaths}
use Rattle.cck_digest.specs.TimeMacros.{Has}

-- a part of a text is at a place of it
pub occurs : (text word before after : List ℕ) → text ≡ before ++ (word ++ after) → OccursAt text word (length before)
occurs text word before after is =
    let whole = ap length is in
    OccursAt-from_part text word (length before) (omega (arith, length-append before (word ++ after), length-append word after))
    (rw (is, drop-append_seam before (word ++ after)) (take-append_seam word after))

-- the parts of a text at a place of a word
pub parts : (text word : List ℕ) (k : ℕ) → OccursAt text word k → text ≡ take k text ++ (word ++ drop (k + length word) text)
parts text word k at = sym (take-append-drop k text) ∙ ap (λ x. take k text ++ x) (OccursAt-split text word k at)

-- a search finds a word exactly if it is a part of the text
pub Has-found : (text word : List ℕ) (r : Option ℕ) → FindsNeedle text word 0 r → Decides (is_some r) (Has text word)
Has-found text word (Some k) found = (λ q. (take k text, drop (k + length word) text, parts text word k found.1), λ q. refl)
Has-found text word None none = (
  λ q. absurd (false≢true q),
  λ (before, after, is).
      let at = occurs text word before after is in
      let fits = at.fits in
      absurd (none (length before) (omega arith) (omega arith) at),
)

-- a search for `=`
no_equals : (name : List ℕ) (r : Bool) → IsAnyAnswer (λ y t. nat_eq y 61 ≡ t) name r → Decides (not r) (All (λ byte. byte ≢ 61) name)
no_equals name true (k, within, at) = (λ q. absurd (false≢true q), λ all. absurd (all k 0 within (eqb-true _ 61 (at 0))))
no_equals name false none = (λ q k d within. eqb-false _ 61 (none k d (omega arith) within), λ all. refl)

-- an argument with this after the option, and this after the base directory
module _ (argument option base mapped rest : List ℕ) (first : argument ≡ option ++ mapped) where
  pub mapped_is : (m : MapsBase argument option base) → mapped ≡ base ++ 61 ∷ m.name
  mapped_is m = append_cancel_left option _ _ (sym first ∙ m.is)

  module _ (second : mapped ≡ base ++ rest) where
    pub rest_is : (m : MapsBase argument option base) → rest ≡ 61 ∷ m.name
    rest_is m = append_cancel_left base _ _ (sym second ∙ mapped_is m)

    -- a name after `=`
    module _ (name : List ℕ) (third : rest ≡ 61 ∷ name) where
      name_is : (m : MapsBase argument option base) → m.name ≡ name
      name_is m = let both : 61 ∷ m.name ≡ 61 ∷ name = sym (rest_is m) ∙ third in cc

      -- that has another `=`
      pub unmapped : (equals : Bool) → IsAnyAnswer (λ y t. nat_eq y 61 ≡ t) name equals → equals ≡ true → ¬ MapsBase argument option base
      unmapped true searched e m = false≢true ((no_equals name true searched).1 (subst (All (λ byte. byte ≢ 61)) (name_is m) m.one_map))
      unmapped false searched e m = false≢true e

      -- that has none
      pub mapped_decided : (equals has : Bool) → IsAnyAnswer (λ y t. nat_eq y 61 ≡ t) name equals → equals ≡ false → Decides has (Has name base)
          → Decides (not has) (MapsBase argument option base)
      mapped_decided true has searched e found = absurd (false≢true (sym e))
      mapped_decided false true searched e found = (
        λ q. absurd (false≢true q),
        λ m. absurd (m.hidden (subst (λ n. Has n base) (sym (name_is m)) (found.0 refl))),
      )
      mapped_decided false false searched e found = (
        λ q. record {
          name = name;
          is = first ∙ ap (λ x. option ++ x) (second ∙ ap (λ x. base ++ x) third);
          one_map = (no_equals name false searched).0 refl;
          hidden = λ h. false≢true (found.1 h);
        },
        λ m. refl,
      )

-- an option that maps the base directory has the word of all such options
IsMapOfBase-word : (argument base : List ℕ) → IsMapOfBase argument base → Has argument (codes "-prefix-map")
IsMapOfBase-word argument base (inl (inl m)) = (codes "-ffile", 61 ∷ (base ++ 61 ∷ m.name), m.is)
IsMapOfBase-word argument base (inl (inr m)) = (codes "-fdebug", 61 ∷ (base ++ 61 ∷ m.name), m.is)
IsMapOfBase-word argument base (inr m) = (codes "-fmacro", 61 ∷ (base ++ 61 ∷ m.name), m.is)

-- an argument that shows no path and maps nothing
pub unmapped_decided : (argument base : List ℕ) (has : Bool) → ¬ ShowsPaths argument → ¬ Has argument (codes "-prefix-map")
    → Decides has (Has argument base) → Decides (not has) (IsPortable argument base)
unmapped_decided argument base has shown word found = (
  λ q. (shown, inr (word, λ h. let is = found.1 h in cc)),
  λ portable. elim portable.1 [
    | inl maps ↦ absurd (word (IsMapOfBase-word argument base maps))
    | inr names ↦ not_from_false has (false_from_ne_true has (λ q. names.1 (found.0 q)))
  ],
)
