-- results: keys, and the files that each included
use Rattle.std.specs.Prelude.{◌≡◌, ℕ, ◌<◌, ◌^◌, List, length, IfSome, String, true, FitsSigned}
use Rattle.std.specs.Global.{Vec}
use Rattle.std.specs.declared.alloc.Global.{Global}
use Rattle.std.specs.Int.{w64}
use Rattle.std.specs.List.{AllByRecursion}
use Rattle.std.specs.Str.{is_utf8}
use Rattle.std.specs.String.{string_bytes}
use Rattle.cck_include.specs.Include.{Include, includes_in}
use Rattle.cck_path.specs.Timestamp.{IsMoment, Moment}
use Rattle.cck_include.specs.declared.include.IncludeEntry.{IncludeEntry}

-- a result: its key, and the files that it included
abbrev pub KeyResult : Type 0
KeyResult = List ℕ × List Include

abbrev pub result_in : String Global × Vec IncludeEntry → KeyResult
result_in r = (string_bytes r.0, includes_in r.1.items)

-- Bytes can represent a time whose seconds fit 8 bytes,
abbrev pub FitsMoment : Moment → Type 0
FitsMoment t = FitsSigned w64 t.seconds × IsMoment t

-- an include whose lengths and size fit 8 bytes, and whose digest is a text,
pub record Fits (i : Include) : Type 0 where
  pub path : length i.path < 2 ^ 64
  pub digest : length i.digest < 2 ^ 64
  pub digest_text : is_utf8 i.digest ≡ true
  pub size : i.size < 2 ^ 64
  pub modified : IfSome i.modified FitsMoment
  pub changed : IfSome i.changed FitsMoment

-- and a result of such includes, whose count fits too, and whose key is a text.
pub record FitsResult (r : KeyResult) : Type 0 where
  pub key : length (r.0) < 2 ^ 64
  pub key_text : is_utf8 (r.0) ≡ true
  pub count : length (r.1) < 2 ^ 64
  pub includes : AllByRecursion Fits (r.1)
