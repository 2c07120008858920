-- files of arguments that an argument may name
use Rattle.std.specs.Prelude.{ℕ, ◌<◌, Bool, ◌&&◌, ◌||◌, ◌==◌, IsTrue, codes, get_or, length, nat_eq, take}
use Rattle.std.specs.Char.{is_ascii_alphabetic}
use Rattle.std.specs.List.{ends_with, list_all, starts_with}
use Rattle.cck_path.specs.Bytes.{Bytes}

-- a letter, `-` or `,`
abbrev pub is_name_byte : ℕ → Bool
is_name_byte byte = is_ascii_alphabetic byte || byte == 45 || byte == 44

-- a path goes on with a component; or all bytes may be the name of an option; or they are a long one with its `=`
abbrev pub may_begin : Bytes → Bool
may_begin front =
    ends_with nat_eq front (codes "/") || list_all is_name_byte front || (starts_with nat_eq front (codes "--") && ends_with nat_eq front (codes "="))

-- an `@` is at this place, where an argument of another program may begin
abbrev pub begins_arguments : Bytes → ℕ → Bool
begins_arguments argument place = get_or argument place 0 == 64 && may_begin (take place argument)

abbrev pub MayNameArguments : Bytes → Type 0
MayNameArguments argument = (place : ℕ) × (place < length argument) × IsTrue (begins_arguments argument place)
