-- escaped bytes in quotation marks
use Rattle.std.specs.Prelude.{[], ◌∷◌, ◌++◌}
use Rattle.cck_path.specs.Bytes.{Bytes}
use Rattle.cck_path.specs.Escape.{escaped}

-- the escape of these bytes between quotation marks
abbrev pub quoted : Bytes → Bytes
quoted bytes = 34 ∷ (escaped bytes ++ 34 ∷ [])
