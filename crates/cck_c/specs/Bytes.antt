-- byte texts and variables, as a caller passes them
use Rattle.std.specs.Prelude.{ℕ, List, All, IsUtf8, map}
use Rattle.cck_path.specs.Variables.{Variable}
use Rattle.cck_c.specs.declared.bytes.Bytes.{Bytes}
use Rattle.cck_c.specs.declared.bytes.Variable.{Variable as PassedVariable}

-- the bytes of each text
abbrev pub texts_of : List Bytes → List (List ℕ)
texts_of all = map (λ one. one.bytes.now) all

-- the bytes of each name and value
abbrev pub passed_variables : List PassedVariable → List Variable
passed_variables all = map (λ one. (one.name.now, one.value.now)) all

-- each text is UTF-8
abbrev pub AreUtf8 : List Bytes → Type 0
AreUtf8 all = All (λ one. IsUtf8 one.bytes.now) all
