-- marks and the rest of a text, as a caller stores them
use Rattle.std.specs.Prelude.{ℕ, List, [], not, nat_eq, if◌then◌else◌}
use Rattle.std.specs.Int.{from_bool}
use Rattle.cck_include.specs.Marks as marks
use Rattle.cck_include.specs.Markers.{Unread}
use Rattle.cck_c.specs.declared.marks.CMark.{CMark}
use Rattle.cck_c.specs.declared.marks.UnreadText.{UnreadText}

-- the value of a mark, by its kind
abbrev pub mark_in : CMark → marks.Mark
mark_in mark =
    if nat_eq mark.kind 0 then marks.Name mark.name.now (not (nat_eq mark.is_system 0)) else
    if nat_eq mark.kind 1 then marks.Refusal else marks.Malformed

-- the fields of a mark as it is stored: its name, its kind, and whether it is of a system header
abbrev pub stored_mark : marks.Mark → List ℕ × ℕ × ℕ
stored_mark (marks.Name name is_system) = (name, 0, from_bool is_system)
stored_mark marks.Refusal = ([], 1, 0)
stored_mark marks.Malformed = ([], 2, 0)

-- the same, of what is stored
abbrev pub mark_fields : CMark → List ℕ × ℕ × ℕ
mark_fields mark = (mark.name.now, mark.kind, mark.is_system)

-- the rest of a text, and whether a line starts there
abbrev pub unread_in : UnreadText → Unread
unread_in unread = record { starts_line = not (nat_eq unread.starts_line 0); text = unread.text.now }
