-- Texts that are written out, and their marks.
use Rattle.std.proofs.Common.{true, false, List, [], ◌∷◌, codes, refl}
use Rattle.cck_path.specs.Bytes.{Bytes}
use Rattle.cck_include.specs.Marks.{Mark, Name, Refusal, Malformed, Marks, is_hidden, is_inclusion, is_marker, what}
use Rattle.c_cache_keys.proofs.MarksRead.{are_marks}
use Rattle.c_cache_keys.specs.Witness.{printed_text}

-- an input whose first line includes a header, preprocessed
abbrev pub header_text : Bytes
header_text = printed_text

abbrev pub input_mark : Mark
input_mark = Name (codes "/w/a.c") false

abbrev pub header_mark : Mark
header_mark = Name (codes "/w/h.h") false

abbrev pub header_marks : List Mark
header_marks = input_mark ∷ header_mark ∷ input_mark ∷ []

pub header_text_marks : Marks true header_text header_marks
unfolding what is_marker is_hidden is_inclusion
header_text_marks = are_marks header_text header_marks refl

pub two_lines_marks : Marks true (codes "# 1 \"a\"\n# 1 \"b\"") (Name (codes "a") false ∷ Name (codes "b") false ∷ [])
unfolding what is_marker is_hidden is_inclusion
two_lines_marks = are_marks (codes "# 1 \"a\"\n# 1 \"b\"") _ refl

pub one_name_marks : Marks true (codes "# 1 \"x\"") (Name (codes "x") false ∷ [])
unfolding what is_marker is_hidden is_inclusion
one_name_marks = are_marks (codes "# 1 \"x\"") _ refl

-- a name without its closing quote
pub open_name_marks : Marks true (codes "# 1 \"xy") (Name (codes "xy") false ∷ [])
unfolding what is_marker is_hidden is_inclusion
open_name_marks = are_marks (codes "# 1 \"xy") _ refl

-- a name that goes on in the next line
pub long_name_marks : Marks true (codes "# 1 \"a\nb\"") (Name (codes "a\nb") false ∷ [])
unfolding what is_marker is_hidden is_inclusion
long_name_marks = are_marks (codes "# 1 \"a\nb\"") _ refl

pub system_header_marks : Marks true (codes "# 1 \"s.h\" 1 3 4\n") (Name (codes "s.h") true ∷ [])
unfolding what is_marker is_hidden is_inclusion
system_header_marks = are_marks (codes "# 1 \"s.h\" 1 3 4\n") _ refl

pub precompiled_header_marks : Marks true (codes "#pragma GCC pch_preprocess \"p.gch\"") (Name (codes "p.gch") false ∷ [])
unfolding what is_marker is_hidden is_inclusion
precompiled_header_marks = are_marks (codes "#pragma GCC pch_preprocess \"p.gch\"") _ refl

-- too few bytes for a marker
pub short_text_marks : Marks true (codes "# 1 \"") []
unfolding what is_marker is_hidden is_inclusion
short_text_marks = are_marks (codes "# 1 \"") _ refl

pub last_quote_marks : Marks true (codes "# 123 \"") (Malformed ∷ [])
unfolding what is_marker is_hidden is_inclusion
last_quote_marks = are_marks (codes "# 123 \"") _ refl

pub no_quote_marks : Marks true (codes "#line 1") (Malformed ∷ [])
unfolding what is_marker is_hidden is_inclusion
no_quote_marks = are_marks (codes "#line 1") _ refl

pub no_name_marks : Marks true (codes "#line 1\nint x;") []
unfolding what is_marker is_hidden is_inclusion
no_name_marks = are_marks (codes "#line 1\nint x;") _ refl

pub hidden_line_marks : Marks true (codes "__________Using distcc") []
unfolding what is_marker is_hidden is_inclusion
hidden_line_marks = are_marks (codes "__________Using distcc") _ refl

pub hidden_inclusion_marks : Marks true (codes "__________ .incbin \"f\"") []
unfolding what is_marker is_hidden is_inclusion
hidden_inclusion_marks = are_marks (codes "__________ .incbin \"f\"") _ refl

pub nine_underscores_marks : Marks true (codes "_________ .incbin \"f\"") (Refusal ∷ [])
unfolding what is_marker is_hidden is_inclusion
nine_underscores_marks = are_marks (codes "_________ .incbin \"f\"") _ refl

pub inclusion_marks : Marks true (codes "x .incbin \"f\"") (Refusal ∷ [])
unfolding what is_marker is_hidden is_inclusion
inclusion_marks = are_marks (codes "x .incbin \"f\"") _ refl

pub missing_header_marks : Marks true (codes "# 1 \"missing.h\"") (Name (codes "missing.h") false ∷ [])
unfolding what is_marker is_hidden is_inclusion
missing_header_marks = are_marks (codes "# 1 \"missing.h\"") _ refl

-- the same input where the header holds the time of day, five seconds after midnight one hour east
abbrev pub timed_text : Bytes
timed_text = codes "# 1 \"/w/a.c\"\n# 1 \"/w/h.h\" 1\n3605\n# 2 \"/w/a.c\" 2\nint x;\n"

pub timed_text_marks : Marks true timed_text header_marks
unfolding what is_marker is_hidden is_inclusion
timed_text_marks = are_marks timed_text header_marks refl
