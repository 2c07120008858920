-- Files and variables after one more line.
use Rattle.std.proofs.Common.{ℕ, Option, ◌≡◌, List, [], ◌∷◌, refl, ◌∙◌, ap, Result, Ok, Err, OnOk, false, Some, None}
use Rattle.std.specs.Global.{Vec}
use Rattle.cck_files.specs.FileMap.{FileNode}
use Rattle.cck_files.specs.FileState.{with_place, without_place}
use Rattle.cck_path.specs.Bytes.{Bytes, variables_of}
use Rattle.cck_path.specs.Path.{components, normal}
use Rattle.cck_path.specs.Timestamp.{Moment}
use Rattle.cck_script.specs.Surroundings.{AreAfter, ArePlacesOf, is_clear, place_of_command, variable_of_command, variables, with_variable}
use Rattle.cck_script.specs.Lines.{Line}
use Rattle.cck_script.specs.Lines as line
use Rattle.cck_script.specs.Seen.{line_of}
use Rattle.cck_script.specs.declared.command.Command.{Command}
use Rattle.cck_script.specs.declared.command.Command.TheVariants as command
use Rattle.cck_script.specs.declared.surroundings.Surroundings.{Surroundings}
use Rattle.cck_script.proofs.FileLemmas.{files_gone, files_put, files_stay}
use Rattle.cck_script.proofs.VariableLemmas.{variable_set, variables_stay}

-- a line that puts a file or a directory
after_put : (lines : List Line) (line : Line) (old new : Surroundings) (named : Bytes) (n : FileNode)
    → place_of_command line ≡ Some (named, Some n) → variable_of_command line ≡ None → is_clear line ≡ false → AreAfter lines old
    → new.files ≡ record old.files { files = with_place old.files.files (components named) n (normal (components named)) } → new.variables ≡ old.variables → new.places ≡ old.places
    → AreAfter (line ∷ lines) new
after_put lines line old new named n place no_variable go_on are set same known = record {
  files = rw set (files_put lines line old.files.files named n place are.files);
  no_faults = rw set are.no_faults;
  unarmed = rw set are.unarmed;
  variables_are = rw same are.variables_are ∙ variables_stay lines line no_variable go_on;
  places_are = rw (same, known) are.places_are;
}

-- a line that takes a path away
pub after_gone : (lines : List Line) (line : Line) (old new : Surroundings) (named : Bytes)
    → place_of_command line ≡ Some (named, None) → variable_of_command line ≡ None → is_clear line ≡ false → AreAfter lines old
    → new.files ≡ record old.files { files = without_place old.files.files (components named) } → new.variables ≡ old.variables → new.places ≡ old.places
    → AreAfter (line ∷ lines) new
after_gone lines line old new named place no_variable go_on are set same known = record {
  files = rw set (files_gone lines line old.files.files named place are.files);
  no_faults = rw set are.no_faults;
  unarmed = rw set are.unarmed;
  variables_are = rw same are.variables_are ∙ variables_stay lines line no_variable go_on;
  places_are = rw (same, known) are.places_are;
}

-- a variable is set, where the places are those of the variables
abbrev IsSet : Bytes → Bytes → Surroundings → Surroundings → Type 0
IsSet name value old new = ArePlacesOf old.variables.items old.places
    → (variables_of new.variables.items ≡ with_variable name value (variables_of old.variables.items)) × ArePlacesOf new.variables.items new.places

-- a line that sets a variable
after_set : (lines : List Line) (name value : Bytes) (old new : Surroundings) → AreAfter lines old → new.files ≡ old.files
    → IsSet name value old new → AreAfter (line.Variable name value ∷ lines) new
after_set lines name value old new are same set = record {
  files = rw same (files_stay lines (line.Variable name value) old.files.files refl are.files);
  no_faults = rw same are.no_faults;
  unarmed = rw same are.unarmed;
  variables_are = (set are.places_are).0 ∙ ap (with_variable name value) are.variables_are ∙ variable_set lines name value;
  places_are = (set are.places_are).1;
}

-- the line that clears the variables
pub after_clear : (lines : List Line) (old new : Surroundings) → AreAfter lines old → new.files ≡ old.files → new.variables.items ≡ [] → new.places.entries ≡ [] → AreAfter (line.Clear ∷ lines) new
unfolding variables
after_clear lines old new are same none no_name = record {
  files = rw same (files_stay lines line.Clear old.files.files refl are.files);
  no_faults = rw same are.no_faults;
  unarmed = rw same are.unarmed;
  variables_are = ap variables_of none;
  places_are = λ name. rw (none, no_name) refl;
}

-- a line that says nothing of files and variables
after_other : (lines : List Line) (line : Line) (old : Surroundings) → place_of_command line ≡ None → variable_of_command line ≡ None → is_clear line ≡ false → AreAfter lines old → AreAfter (line ∷ lines) old
after_other lines line old no_place no_variable go_on are = record {
  files = files_stay lines line old.files.files no_place are.files;
  no_faults = are.no_faults;
  unarmed = are.unarmed;
  variables_are = are.variables_are ∙ variables_stay lines line no_variable go_on;
  places_are = are.places_are;
}

-- the same of a call that may have returned an error
pub put_ok : {X E : Type 0} (r : Result X E) (line : Line) (old new : Surroundings) (named : Bytes) (n : FileNode)
    → place_of_command line ≡ Some (named, Some n) → variable_of_command line ≡ None → is_clear line ≡ false
    → OnOk r (new.files ≡ record old.files { files = with_place old.files.files (components named) n (normal (components named)) }) → new.variables ≡ old.variables → new.places ≡ old.places
    → OnOk r ((lines : List Line) → AreAfter lines old → AreAfter (line ∷ lines) new)
put_ok (Ok x) line old new named n place no_variable go_on set same known = λ lines are. after_put lines line old new named n place no_variable go_on are set same known
put_ok (Err e) line old new named n place no_variable go_on set same known = tt

pub set_ok : {X E : Type 0} (r : Result X E) (name value : Bytes) (old new : Surroundings) → new.files ≡ old.files
    → OnOk r (IsSet name value old new)
    → OnOk r ((lines : List Line) → AreAfter lines old → AreAfter (line.Variable name value ∷ lines) new)
set_ok (Ok x) name value old new same set = λ lines are. after_set lines name value old new are same set
set_ok (Err e) name value old new same set = tt

-- a command that is none of those that say something of files and variables
pub after_rest : (c : Command) (lines : List Line) (old : Surroundings)
    → ((path : Vec ℕ) (modified changed : Option Moment) (contents : Vec ℕ) → c ≡ command.File path modified changed contents → ⊥)
    → ((path : Vec ℕ) → c ≡ command.Folder path → ⊥) → ((path : Vec ℕ) → c ≡ command.Gone path → ⊥)
    → ((name value : Vec ℕ) → c ≡ command.Variable name value → ⊥) → (c ≡ command.Clear → ⊥)
    → AreAfter lines old → AreAfter (line_of c ∷ lines) old
after_rest (command.Zone offset) lines old f d g v r are = after_other lines _ old refl refl refl are
after_rest (command.Basedir text) lines old f d g v r are = after_other lines _ old refl refl refl are
after_rest (command.StoreForget n) lines old f d g v r are = after_other lines _ old refl refl refl are
after_rest (command.StoreFail n) lines old f d g v r are = after_other lines _ old refl refl refl are
after_rest (command.File path modified changed contents) lines old f d g v r are = absurd (f path modified changed contents refl)
after_rest (command.Folder path) lines old f d g v r are = absurd (d path refl)
after_rest (command.Gone path) lines old f d g v r are = absurd (g path refl)
after_rest (command.Variable name value) lines old f d g v r are = absurd (v name value refl)
after_rest command.Clear lines old f d g v r are = absurd (r refl)
after_rest (command.Compile moment arguments) lines old f d g v r are = after_other lines _ old refl refl refl are
after_rest (command.Recache moment arguments) lines old f d g v r are = after_other lines _ old refl refl refl are
