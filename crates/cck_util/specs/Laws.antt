-- what equal key materials and equal keys mean
use Rattle.std.specs.Prelude.{◌≡◌, ◌↔◌, ℕ, List, map}
use Rattle.cck_strip.specs.Argument.{stripped_argument}
use Rattle.cck_strip.specs.Text.{stripped_text}
use Rattle.cck_util.specs.Key.{KeyParts, Params, material, object_key}

-- two key materials are equal exactly if their parts are equal
abbrev pub MaterialTellsParts : Type 0
MaterialTellsParts = (p q : KeyParts) → material p ≡ material q ↔ (p ≡ q)

-- If arguments and texts are equal without their base directories, and all else is equal, then the keys are equal.
abbrev pub EqualWithoutBasedirs : Type 0
EqualWithoutBasedirs =
    (hash : List ℕ → List ℕ) (p : Params) (basedirs arguments : List (List ℕ)) (output : List ℕ)
    → map (stripped_argument basedirs) arguments ≡ map (stripped_argument p.basedirs) p.arguments
    → stripped_text basedirs output ≡ stripped_text p.basedirs p.preprocessor_output
    → object_key hash (record p { basedirs = basedirs; arguments = arguments; preprocessor_output = output }) ≡ object_key hash p
