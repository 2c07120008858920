-- a table of options
use Rattle.std.specs.Prelude.{ℕ, Bool, true, false, cond, ◌&&◌, ◌==◌, List, [], ◌∷◌, Option, Some, None, option_map, codes, fold, map, flat_map, length, nat_eq, nat_lt}
use Rattle.std.specs.List.{starts_with, slice_split}
use Rattle.std.specs.Str.{bytes_eq}
use Rattle.cck_cache_options.specs.declared.table.Cause.{Cause}
use Rattle.cck_cache_options.specs.declared.table.Cause.TheVariants.{Mode, DependencyList, PreprocessorOption, AssemblerOption, Inputs, LinkTimeOptimization, Native, Profile, Precompiled, FurtherOutput, RecordedSwitches, OtherPrograms}
use Rattle.cck_cache_options.specs.declared.table.Class.{Class}
use Rattle.cck_cache_options.specs.declared.table.Class.TheVariants.{Text, Definition, Code, Message, CompilerMessage, Directory, Language, Nothing, Compile, Output, Dependencies, Rule, Target, DependencyFile, PreprocessorDependencyFile, PreprocessorTarget, Passed}
use Rattle.cck_cache_options.specs.declared.table.Form.{Form}
use Rattle.cck_cache_options.specs.declared.table.Form.TheVariants.{Alone, Joined, Separate, Either, Equals}
use Rattle.cck_cache_options.specs.declared.table.Row.{Row}

-- an option: its name, where its value is, and what it decides
pub record Entry : Type 0 where
  pub name : List ℕ
  pub form : Form
  pub class : Class

abbrev pub entry : Row → Entry
entry row = record { name = row.name.now; form = row.form; class = row.class }

abbrev pub entries : List Row → List Entry
entries rows = map entry rows

-- the rest of an argument after a name with which it begins
abbrev pub after_name : List ℕ → List ℕ → Option (List ℕ)
after_name [] argument = Some argument
after_name (n ∷ name) [] = None
after_name (n ∷ name) (byte ∷ argument) = cond (nat_eq n byte) (after_name name argument) None

abbrev pub is_empty : List ℕ → Bool
is_empty [] = true
is_empty (byte ∷ bytes) = false

abbrev pub has_bytes : List ℕ → Bool
has_bytes [] = false
has_bytes (byte ∷ bytes) = true

-- the rest of an argument after an option's name is one that this form allows
abbrev pub form_fits : Form → List ℕ → Bool
form_fits Alone rest = is_empty rest
form_fits Joined rest = has_bytes rest
form_fits Separate rest = is_empty rest
form_fits Either rest = true
form_fits Equals rest = starts_with nat_eq rest (codes "=")

abbrev pub rest_fits : Form → Option (List ℕ) → Bool
rest_fits form None = false
rest_fits form (Some rest) = form_fits form rest

-- an argument is this option
abbrev pub fits : Entry → List ℕ → Bool
fits option argument = rest_fits option.form (after_name option.name argument)

abbrev pub is_longer : Entry → Option Entry → Bool
is_longer option None = true
is_longer option (Some best) = nat_lt (length best.name) (length option.name)

abbrev pub better : List ℕ → Option Entry → Entry → Option Entry
better argument best option = cond (fits option argument && is_longer option best) (Some option) best

-- the option with the longest name that an argument is
abbrev pub longest : List Entry → List ℕ → Option Entry
longest table argument = fold (better argument) None table

abbrev pub form_named : List ℕ → Option Form
form_named name =
    cond (bytes_eq name (codes "alone")) (Some Alone)
    (cond (bytes_eq name (codes "joined")) (Some Joined)
    (cond (bytes_eq name (codes "separate")) (Some Separate)
    (cond (bytes_eq name (codes "either")) (Some Either)
    (cond (bytes_eq name (codes "equals")) (Some Equals) None))))

-- the classes of options that calls which are cached may have
abbrev pub kept_class_named : List ℕ → Option Class
kept_class_named name =
    cond (bytes_eq name (codes "code")) (Some Code)
    (cond (bytes_eq name (codes "text")) (Some Text)
    (cond (bytes_eq name (codes "message")) (Some Message)
    (cond (bytes_eq name (codes "definition")) (Some Definition)
    (cond (bytes_eq name (codes "compiler-message")) (Some CompilerMessage)
    (cond (bytes_eq name (codes "directory")) (Some Directory)
    (cond (bytes_eq name (codes "nothing")) (Some Nothing)
    (cond (bytes_eq name (codes "compile")) (Some Compile)
    (cond (bytes_eq name (codes "output")) (Some Output)
    (cond (bytes_eq name (codes "dependencies")) (Some Dependencies)
    (cond (bytes_eq name (codes "rule")) (Some Rule)
    (cond (bytes_eq name (codes "target")) (Some Target)
    (cond (bytes_eq name (codes "dependency-file")) (Some DependencyFile)
    (cond (bytes_eq name (codes "preprocessor-dependency-file")) (Some PreprocessorDependencyFile)
    (cond (bytes_eq name (codes "preprocessor-target")) (Some PreprocessorTarget)
    (cond (bytes_eq name (codes "language")) (Some Language) None)))))))))))))))

abbrev pub cause_named : List ℕ → Option Cause
cause_named name =
    cond (bytes_eq name (codes "passed-mode")) (Some Mode)
    (cond (bytes_eq name (codes "passed-dependencies")) (Some DependencyList)
    (cond (bytes_eq name (codes "passed-preprocessor-option")) (Some PreprocessorOption)
    (cond (bytes_eq name (codes "passed-assembler-option")) (Some AssemblerOption)
    (cond (bytes_eq name (codes "passed-inputs")) (Some Inputs)
    (cond (bytes_eq name (codes "passed-link-time-optimization")) (Some LinkTimeOptimization)
    (cond (bytes_eq name (codes "passed-native")) (Some Native)
    (cond (bytes_eq name (codes "passed-profile")) (Some Profile)
    (cond (bytes_eq name (codes "passed-precompiled")) (Some Precompiled)
    (cond (bytes_eq name (codes "passed-further-output")) (Some FurtherOutput)
    (cond (bytes_eq name (codes "passed-recorded-switches")) (Some RecordedSwitches)
    (cond (bytes_eq name (codes "passed-other-programs")) (Some OtherPrograms) None)))))))))))

abbrev pub class_by : Option Class → List ℕ → Option Class
class_by (Some class) name = Some class
class_by None name = option_map Passed (cause_named name)

abbrev pub class_named : List ℕ → Option Class
class_named name = class_by (kept_class_named name) name

abbrev pub split_at : ℕ → List ℕ → List (List ℕ)
split_at separator text = slice_split (λ byte. byte == separator) text

-- the pieces of a text that is cut at its first separator, or has none
abbrev pub pieces_of : ℕ → List ℕ → Option (List ℕ × List ℕ) → List (List ℕ)
pieces_of separator text None = text ∷ []
pieces_of separator text (Some (front, rest)) = front ∷ split_at separator rest

abbrev pub entry_with : List ℕ → Option Form → Option Class → Option Entry
entry_with name (Some form) (Some class) = Some (record { name = name; form = form; class = class })
entry_with name (Some form) None = None
entry_with name None class = None

-- the option of a line with these fields
abbrev pub entry_of_line : List (List ℕ) → Option Entry
entry_of_line (name ∷ form ∷ class ∷ []) = entry_with name (form_named form) (class_named class)
entry_of_line _ = None

abbrev pub listed : Option Entry → List Entry
listed None = []
listed (Some option) = option ∷ []

abbrev pub entry_in : List ℕ → List Entry
entry_in line = listed (entry_of_line (split_at 32 line))

abbrev pub entries_of_lines : List (List ℕ) → List Entry
entries_of_lines lines = flat_map entry_in lines

-- the options of a text: one for each line of three fields, a name, a form and a class
abbrev pub table_of : List ℕ → List Entry
table_of text = entries_of_lines (split_at 10 text)
