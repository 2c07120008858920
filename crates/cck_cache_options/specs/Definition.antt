-- arguments that define macros, and how the preprocessor shows macros in its text
use Rattle.std.specs.Prelude.{ℕ, Bool, true, false, not, ◌&&◌, ◌||◌, ◌==◌, nat_eq, nat_le, List, codes, drop, take, length, ◌+◌, ◌-◌, if◌then◌else◌}
use Rattle.std.specs.Char.{is_ascii_alphanumeric}
use Rattle.std.specs.List.{ends_with, list_all, list_any, starts_with, take_while}
use Rattle.cck_cache_options.specs.Call.{KeyedArgument}
use Rattle.cck_cache_options.specs.declared.table.Class.{Class}
use Rattle.cck_cache_options.specs.declared.table.Class.TheVariants.{Definition}

-- an option of this class defines or undefines a macro
abbrev pub is_definition : Class → Bool
is_definition Definition = true
is_definition _ = false

-- a byte of the name of a macro
abbrev pub is_macro_name_byte : ℕ → Bool
is_macro_name_byte byte = is_ascii_alphanumeric byte || byte == 95

-- a byte of a value that is read without a warning: of a name or a number, `.`, `-`, `+` or a parenthesis
abbrev pub is_value_byte : ℕ → Bool
is_value_byte byte = is_macro_name_byte byte || (byte == 46 || byte == 45 || byte == 43 || byte == 40 || byte == 41)

-- a byte of a string that is read without a warning: a visible one of ASCII or a space, at which no quote, trigraph or escape begins
abbrev pub is_string_byte : ℕ → Bool
is_string_byte byte = nat_le 32 byte && (nat_le byte 126 && not (byte == 34 || byte == 63 || byte == 92))

-- bytes of such a string, and after them the quote that ends it
abbrev pub ends_string : List ℕ → Bool
ends_string text = if ends_with nat_eq text (codes "\"") then list_all is_string_byte (take (length text - 1) text) else false

abbrev pub is_string : List ℕ → Bool
is_string text = if starts_with nat_eq text (codes "\"") then ends_string (drop 1 text) else false

-- the preprocessor reads the value of a macro without a warning
abbrev pub is_value_without_warning : List ℕ → Bool
is_value_without_warning value = list_all is_value_byte value || is_string value

-- an argument without the option at its front
abbrev pub without_option : List ℕ → List ℕ
without_option argument = if starts_with nat_eq argument (codes "-D") || starts_with nat_eq argument (codes "-U") then drop 2 argument else argument

-- the name of a macro ends before an equals sign
abbrev pub macro_name_length : List ℕ → ℕ
macro_name_length text = length (take_while (λ byte. not (byte == 61)) text)

abbrev pub macro_name : List ℕ → List ℕ
macro_name text = take (macro_name_length text) text

-- what follows the name and an equals sign
abbrev pub macro_value : List ℕ → List ℕ
macro_value text = drop (macro_name_length text + 1) text

-- The preprocessor reads a definition without a warning, where the macro is not used: a name, or a name, an equals sign and such a value. The option
-- and its value may be two arguments.
abbrev pub is_definition_without_warning : List ℕ → Bool
is_definition_without_warning argument =
    let text = without_option argument in
    list_all is_macro_name_byte (macro_name text) && is_value_without_warning (macro_value text)

-- an argument may ask for debug information with all macros, as `-g3` does
abbrev pub has_debug_macros : List ℕ → Bool
has_debug_macros argument = starts_with nat_eq argument (codes "-g") && list_any (λ byte. nat_eq byte 51) argument

-- a text that shows the macros that are used shows all that an argument does by macros
abbrev pub is_shown_by_use : KeyedArgument → Bool
is_shown_by_use keyed = if is_definition keyed.class then is_definition_without_warning keyed.argument else not (has_debug_macros keyed.argument)

abbrev pub are_shown_by_use : List KeyedArgument → Bool
are_shown_by_use arguments = list_all is_shown_by_use arguments

-- the option with which a text shows the macros that are used, or where that is not enough all macros
abbrev pub macro_option : List KeyedArgument → List ℕ
macro_option arguments = if are_shown_by_use arguments then codes "-dU" else codes "-dD"
