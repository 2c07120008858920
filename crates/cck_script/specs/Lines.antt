-- what a line of a script says
use Rattle.std.specs.Prelude.{ℕ, ℤ, List, [], ◌∷◌, Option, unwrap_or}
use Rattle.cck_path.specs.Bytes.{Bytes}
use Rattle.cck_path.specs.Timestamp.{Moment}

-- what a line says; the words after a call time are the arguments of a call, the input first
pub data Line : Type 0 where
  Zone : ℤ → Line
  Basedir : Bytes → Line
  StoreForget : ℕ → Line
  StoreFail : ℕ → Line
  File : Bytes → Option Moment → Option Moment → Bytes → Line
  Folder : Bytes → Line
  Gone : Bytes → Line
  Variable : Bytes → Bytes → Line
  Clear : Line
  Compile : Moment → List Bytes → Line
  Recache : Moment → List Bytes → Line

-- the value of the first of these lines that has one, or else the given value
abbrev pub first_or : {A : Type 0} → A → (Line → Option A) → List Line → A
first_or other says [] = other
first_or other says (line ∷ lines) = unwrap_or (says line) (first_or other says lines)
