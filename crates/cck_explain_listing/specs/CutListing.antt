-- the lines of cuts
use Rattle.std.specs.Prelude.{List, [], ◌∷◌, ◌++◌, codes, drop, length, take}
use Rattle.std.specs.Fmt.{decimal}
use Rattle.std.specs.List.{flat_map}
use Rattle.cck_explain_listing.specs.Quoted.{quoted}
use Rattle.cck_path.specs.Bytes.{Bytes}
use Rattle.cck_strip.specs.Argument.{argument_site}
use Rattle.cck_strip.specs.Text.{text_site}
use Rattle.cck_strip.specs.CutList.{cuts_of}
use Rattle.cck_strip.specs.declared.cut_list.Cut.{Cut}

-- the bytes of a text that are cut out
abbrev pub cut_bytes : Bytes → Cut → Bytes
cut_bytes text cut = take cut.length (drop cut.offset text)

-- the line of a cut of the text with this name
abbrev pub cut_line : Bytes → Bytes → Cut → Bytes
cut_line name text cut =
    codes "cut " ++ decimal cut.offset ++ codes " " ++ decimal cut.length ++ codes " " ++ name ++ codes " " ++ quoted (cut_bytes text cut) ++ 10 ∷ []

-- the lines of these cuts
abbrev pub cut_lines : Bytes → Bytes → List Cut → Bytes
cut_lines name text cuts = flat_map (cut_line name text) cuts

-- a line for each base directory that is cut out of a preprocessed text, in ascending order
unfoldable pub text_cut_lines : List Bytes → Bytes → Bytes → Bytes
text_cut_lines basedirs name text = cut_lines name text (cuts_of (text_site basedirs text) (length text))

-- the same of an argument
unfoldable pub argument_cut_lines : List Bytes → Bytes → Bytes → Bytes
argument_cut_lines basedirs name argument = cut_lines name argument (cuts_of (argument_site basedirs argument) (length argument))
