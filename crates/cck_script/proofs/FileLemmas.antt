-- Files after a line that says what is at a path.
use Rattle.std.proofs.Common.{◌≡◌, List, [], ◌∷◌, refl, ap, sym, ◌∙◌, Bool, true, false, Option, Some, None, cond}
use Rattle.std.specs.FinMap as finite
use Rattle.std.specs.Option.{option_map, unwrap_or}
use Rattle.std.specs.Ordering.{eq_by_cmp}
use Rattle.cck_files.specs.FileMap.{FileMap, FileNode}
use Rattle.cck_files.specs.FileState.{no_files, with_place, without_place}
use Rattle.cck_path.specs.Bytes.{Bytes}
use Rattle.cck_path.specs.Path.{Path, components, normal, path_cmp, path_cmp_total}
use Rattle.cck_path.proofs.TestLemmas.{tied}
use Rattle.cck_script.specs.Surroundings.{AreFiles, executable, executable_path, if_names, place_of_command, present, element_is_first}
use Rattle.cck_script.specs.Lines.{Line}
use Rattle.cck_script.specs.Lines.{first_or}

-- the node after a line that names a path, or else the node before it
abbrev over : Path → Path → Option FileNode → Option FileNode → Option FileNode
over p named new old = cond (eq_by_cmp path_cmp p named) new old

if_over : (b : Bool) (new old : Option FileNode) → unwrap_or (cond b (Some new) None) old ≡ cond b new old
if_over true new old = refl
if_over false new old = refl

is_next : (lines : List Line) (line : Line) (named : Bytes) (new : Option FileNode) (p : Path) → place_of_command line ≡ Some (named, new) → present (line ∷ lines) p ≡ over p (components named) new (present lines p)
unfolding present
is_next lines line named new p e =
    ap (λ s. unwrap_or (if_names p s) (first_or (element_is_first p) (λ l. if_names p (place_of_command l)) lines)) e
    ∙ if_over (eq_by_cmp path_cmp p (components named)) new (first_or (element_is_first p) (λ l. if_names p (place_of_command l)) lines)

exists_as_before : (lines : List Line) (line : Line) (p : Path) → place_of_command line ≡ None → present (line ∷ lines) p ≡ present lines p
unfolding present
exists_as_before lines line p e = ap (λ s. unwrap_or (if_names p s) (first_or (element_is_first p) (λ l. if_names p (place_of_command l)) lines)) e

path_over : (b : Bool) (k p : Path) (n : FileNode) (old : Option FileNode) → (b ≡ true → p ≡ k) → cond b (Some (normal k)) (option_map (λ _. normal p) old) ≡ option_map (λ _. normal p) (cond b (Some n) old)
path_over true k p n old same = ap (λ q. Some (normal q)) (sym (same refl))
path_over false k p n old same = refl

none_over : (b : Bool) (p : Path) (old : Option FileNode) → cond b None (option_map (λ _. normal p) old) ≡ option_map (λ _. normal p) (cond b None old)
none_over true p old = refl
none_over false p old = refl

-- a path that is put
pub files_put : (lines : List Line) (line : Line) (files : FileMap) (named : Bytes) (n : FileNode) → place_of_command line ≡ Some (named, Some n) → AreFiles lines files
    → AreFiles (line ∷ lines) (with_place files (components named) n (normal (components named)))
files_put lines line files named n e are = record {
  nodes = λ p. finite.get-insert path_cmp_total files.nodes (components named) n p
      ∙ ap (over p (components named) (Some n)) (are.nodes p) ∙ sym (is_next lines line named (Some n) p e);
  canonicals = λ p. finite.get-insert path_cmp_total files.canonicals (components named) (normal (components named)) p
      ∙ ap (cond (eq_by_cmp path_cmp p (components named)) (Some (normal (components named)))) (are.canonicals p)
      ∙ path_over (eq_by_cmp path_cmp p (components named)) (components named) p n (present lines p) (tied p (components named))
      ∙ ap (option_map (λ _. normal p)) (sym (is_next lines line named (Some n) p e));
}

-- a path that is taken away
pub files_gone : (lines : List Line) (line : Line) (files : FileMap) (named : Bytes) → place_of_command line ≡ Some (named, None) → AreFiles lines files
    → AreFiles (line ∷ lines) (without_place files (components named))
files_gone lines line files named e are = record {
  nodes = λ p. finite.get-remove path_cmp_total files.nodes (components named) p
      ∙ ap (over p (components named) None) (are.nodes p) ∙ sym (is_next lines line named None p e);
  canonicals = λ p. finite.get-remove path_cmp_total files.canonicals (components named) p
      ∙ ap (cond (eq_by_cmp path_cmp p (components named)) None) (are.canonicals p)
      ∙ none_over (eq_by_cmp path_cmp p (components named)) p (present lines p)
      ∙ ap (option_map (λ _. normal p)) (sym (is_next lines line named None p e));
}

-- a line that names no path
pub files_stay : (lines : List Line) (line : Line) (files : FileMap) → place_of_command line ≡ None → AreFiles lines files → AreFiles (line ∷ lines) files
files_stay lines line files e are = record {
  nodes = λ p. are.nodes p ∙ sym (exists_as_before lines line p e);
  canonicals = λ p. are.canonicals p ∙ ap (option_map (λ _. normal p)) (sym (exists_as_before lines line p e));
}

-- no files, and then the executable
pub files_first : (named : Bytes) (n : FileNode) → named ≡ executable_path → n ≡ executable → AreFiles [] (with_place no_files (components named) n (normal (components named)))
unfolding present
files_first named n e same = record {
  nodes = λ p. finite.get-insert path_cmp_total finite.empty (components named) n p
      ∙ ap (over p (components named) (Some n)) (finite.get-empty path_cmp p)
      ∙ (λ i. over p (components (e i)) (Some (same i)) None);
  canonicals = λ p. finite.get-insert path_cmp_total finite.empty (components named) (normal (components named)) p
      ∙ ap (cond (eq_by_cmp path_cmp p (components named)) (Some (normal (components named)))) (finite.get-empty path_cmp p)
      ∙ path_over (eq_by_cmp path_cmp p (components named)) (components named) p n None (tied p (components named))
      ∙ (λ i. option_map (λ _. normal p) (over p (components (e i)) (Some (same i)) None));
}
