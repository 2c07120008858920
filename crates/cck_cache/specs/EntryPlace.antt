-- which entry files are written at one place
use Rattle.std.specs.Prelude.{◌≡◌}
use Rattle.cck_cache_rules.specs.Files.{EntryFields}

-- two entry files have the same entry and the same tests of paths
abbrev pub HasSameEntry : EntryFields → EntryFields → Type 0
HasSameEntry a b = (a.entry ≡ b.entry) × (a.tests ≡ b.tests)
