-- A whole text, from its input's file and lines.
use Rattle.std.proofs.Common.{◌≡◌, ℤ, [], ◌++◌, ap, sym, ◌∙◌, Option, Some, None, IsSomeAnd}
use Rattle.cck_files.specs.FileMap.{FileMap}
use Rattle.cck_path.specs.Bytes.{Bytes}
use Rattle.cck_path.specs.Text.{join_path}
use Rattle.cck_path.specs.Timestamp.{Moment}
use Rattle.cck_command.specs.MiniPrinted.{Macros, both, input_text, lines_in, lines_text, macros_of, marker, printed_input, file_text_at}
use Rattle.cck_command.specs.MiniErrors.{IsPrintError}
use Rattle.cck_command.specs.declared.mini.error.PrintError.{PrintError}
use Rattle.cck_command.specs.declared.mini.error.PrintError.TheVariants.{Fault, Failed, Memory}

-- a text and what was appended to it make both
pub both_done : (front out : Bytes) (rest : Option Bytes) → IsSomeAnd rest (λ text. out ≡ front ++ text) → both (Some front) rest ≡ Some out
both_done front out None h = absurd h
both_done front out (Some text) h = ap Some (sym h)

module _ (zone : ℤ) (moment : Moment) (map : FileMap) (folder input path : Bytes) (is_path : path ≡ join_path folder input) where
  abbrev whole : Option Bytes
  whole = printed_input zone moment map folder input

  printed_is : whole ≡ input_text zone moment map folder path (file_text_at map path)
  unfolding printed_input
  printed_is = ap (λ p. input_text zone moment map folder p (file_text_at map p)) (sym is_path)

  -- the input is no regular file
  pub no_input : (F : Type 0) (e : PrintError) → IsPrintError (file_text_at map path) F e → IsPrintError whole F e
  no_input F Fault r = r
  no_input F Failed r = printed_is ∙ ap (input_text zone moment map folder path) r
  no_input F Memory r = tt

  abbrev lines_of : Macros → Bytes → Option Bytes
  lines_of m contents = lines_text zone moment map folder path m 2 (lines_in contents)

  printed_by : (contents : Bytes) (modified : Option Moment) (m : Macros) → file_text_at map path ≡ Some (contents, modified) → m ≡ macros_of zone moment modified
      → whole ≡ both (Some (marker 1 path [])) (lines_of m contents)
  printed_by contents modified m text is =
      printed_is ∙ ap (input_text zone moment map folder path) text ∙ ap (λ n. both (Some (marker 1 path [])) (lines_of n contents)) (sym is)

  -- one of its lines isn't printed
  pub no_lines : (contents : Bytes) (modified : Option Moment) (m : Macros) → file_text_at map path ≡ Some (contents, modified) → m ≡ macros_of zone moment modified
      → (F G : Type 0) (e : PrintError) → (F → G) → IsPrintError (lines_of m contents) F e → IsPrintError whole G e
  no_lines contents modified m text is F G Fault f r = f r
  no_lines contents modified m text is F G Failed f r = printed_by contents modified m text is ∙ ap (both (Some (marker 1 path []))) r
  no_lines contents modified m text is F G Memory f r = tt

  -- the marker and the lines are printed
  pub all_printed : (contents : Bytes) (modified : Option Moment) (m : Macros) (front out : Bytes) → file_text_at map path ≡ Some (contents, modified) → m ≡ macros_of zone moment modified
      → front ≡ marker 1 path [] → IsSomeAnd (lines_of m contents) (λ text. out ≡ front ++ text) → whole ≡ Some out
  all_printed contents modified m front out text is first h =
      printed_by contents modified m text is ∙ ap (λ f. both (Some f) (lines_of m contents)) (sym first) ∙ both_done front out (lines_of m contents) h
