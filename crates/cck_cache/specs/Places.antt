-- where an object may be put
use Rattle.std.specs.Prelude.{Bool, not, ◌&&◌, ◌+◌, nat_eq, nat_le, length}
use Rattle.std.specs.List.{list_any}
use Rattle.cck_cache_text.specs.Names.{directory_of}
use Rattle.cck_path.specs.Bytes.{Bytes}

-- clang can make a temporary file beside an object at this path: no percent sign is in its directory, and its name has at most 242 bytes
abbrev pub has_room_beside : Bytes → Bool
has_room_beside path = not (list_any (λ byte. nat_eq byte 37) (directory_of path)) && nat_le (length path) (length (directory_of path) + 242)
