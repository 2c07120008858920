use Rattle.std.proofs.Common.{◌≡◌, ◌∙◌, ◌++◌, [], Some, IsSomeAnd, w32}
use Rattle.std.proofs.lemmas.Int.{to_z-of_z}
use Rattle.std.proofs.lemmas.Result.{err_from_is_err_and}
use Rattle.cck_files.specs.Calls.{Rose}
use Rattle.cck_files.proofs.CallsLemmas.{rose_earlier}
use Rattle.cck_command.specs.MiniPrinted.{lines_in, lines_text, macros_of, marker, file_text_at}
use Rattle.cck_command.specs.MiniErrors.{IsPrintError}
use Rattle.cck_command.specs.MiniSeen.{macros_seen}
use Rattle.cck_command.proofs.InputLemmas.{all_printed, no_input, no_lines}
use Rattle.cck_command.proofs.mini.printing.print_input.Goals as goal

pub returns-in_err-file-clause-outcome : goal.returns-in_err-file-clause-outcome
returns-in_err-file-clause-outcome g c =
    let F = g.F.Files in
    let p = err_from_is_err_and c.from_residual-in_err-file.result c.from_residual-in_err-file.ensures.1 in
    rw (p.1, p.2) (no_input c.args.zone_offset c.args.moment (F.file_map c.args.files.now) c.args.cwd.now c.args.input.now c.in_ok-path.path.items c.in_ok-path.ensures
    (Rose (F.faults c.args.files.now) (F.faults c.read_file.new.files)) c.in_err-file.field-0.0 (rw c.deref.ensures.value at c.in_err-file.ensures.outcome))

pub returns-in_err-print_lines-clause-outcome : goal.returns-in_err-print_lines-clause-outcome
returns-in_err-print_lines-clause-outcome g c =
    let F = g.F.Files in
    let map = F.file_map c.args.files.now in
    let path = c.in_ok-path.path.items in
    let file = c.in_ok-file.file in
    let m = macros_seen c.in_ok-macros.macros in
    let p = err_from_is_err_and c.from_residual-in_err-print_lines.result c.from_residual-in_err-print_lines.ensures.1 in
    let z = to_z-of_z w32 c.args.zone_offset c.ranges.zone_offset in
    let text : file_text_at map path ≡ Some (file.contents.items, file.modified) = rw c.deref.ensures.value at c.in_ok-file.ensures.outcome in
    let macros : m ≡ macros_of c.args.zone_offset c.args.moment file.modified = rw z at c.in_ok-macros.ensures in
    let R = Rose (F.faults c.read_file.new.files) (F.faults c.print_lines.new.files) in
    let S = Rose (F.faults c.args.files.now) (F.faults c.print_lines.new.files) in
    let refused : IsPrintError (lines_text c.args.zone_offset c.args.moment map c.args.cwd.now path m 2 (lines_in file.contents.items)) R c.in_err-print_lines.field-0.0 =
    rw (c.in_ok-file.ensures.keeps.same_map, c.deref-3.ensures.value, c.deref-4.ensures.value, z) at c.in_err-print_lines.ensures.outcome in
    rw (p.1, p.2) (no_lines c.args.zone_offset c.args.moment map c.args.cwd.now c.args.input.now path c.in_ok-path.ensures
    file.contents.items file.modified m text macros R S c.in_err-print_lines.field-0.0
    (rose_earlier _ _ _ c.in_ok-file.ensures.keeps.not_lower) refused)

pub returns-clause-outcome : goal.returns-clause-outcome
returns-clause-outcome g c =
    let F = g.F.Files in
    let map = F.file_map c.args.files.now in
    let path = c.in_ok-path.path.items in
    let file = c.in_ok-file.file in
    let m = macros_seen c.in_ok-macros.macros in
    let z = to_z-of_z w32 c.args.zone_offset c.ranges.zone_offset in
    let text : file_text_at map path ≡ Some (file.contents.items, file.modified) = rw c.deref.ensures.value at c.in_ok-file.ensures.outcome in
    let macros : m ≡ macros_of c.args.zone_offset c.args.moment file.modified = rw z at c.in_ok-macros.ensures in
    let printed : c.print_marker.new.out.items ≡ marker 1 path [] = rw (c.new-out.ensures.items, c.deref-2.ensures.value) at c.in_ok-print_marker.ensures in
    let first : c.reserve.new.self.items ≡ marker 1 path [] = c.reserve.ensures.items ∙ printed in
    let lines : IsSomeAnd (lines_text c.args.zone_offset c.args.moment map c.args.cwd.now path m 2 (lines_in file.contents.items)) (λ text. c.print_lines.new.out.items ≡ c.reserve.new.self.items ++ text) =
    rw (c.in_ok-file.ensures.keeps.same_map, c.deref-3.ensures.value, c.deref-4.ensures.value, z) at c.in_ok-print_lines.ensures.outcome in
    all_printed c.args.zone_offset c.args.moment map c.args.cwd.now c.args.input.now path c.in_ok-path.ensures
    file.contents.items file.modified m c.reserve.new.self.items c.print_lines.new.out.items text macros first lines
