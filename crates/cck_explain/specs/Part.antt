-- the value of a `Part`
use Rattle.std.specs.Prelude.{string_bytes}
use Rattle.std.specs.Cow.{cow_slice_items}
use Rattle.cck_explain.specs.Listing as listing
use Rattle.cck_explain.specs.declared.part.Part.TheInside.{Inside}

-- the values of its fields, whoever owns the bytes
abbrev pub part_of : Inside → listing.Part
part_of p = record { name = string_bytes p.name; bytes = cow_slice_items p.bytes }
