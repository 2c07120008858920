use Rattle.std.proofs.Common.{◌≡◌, map, string_bytes}
use Rattle.cck_cache_files.specs.Programs.{absolute, place_in}
use Rattle.cck_cache_files.proofs.programs.places_of.Given as goal

-- the places so far are those of the elements so far
abbrev pub invariant-loop-element : goal.invariant-loop-element
invariant-loop-element l = map string_bytes l.places.items ≡ map (λ element. absolute l.directory (place_in element l.name)) (map (λ e. e.now) l.yielded)
