-- the cuts of a text with their lengths
use Rattle.std.specs.Prelude.{ℕ, List, map}
use Rattle.cck_strip.specs.Cuts.{cuts_below}
use Rattle.cck_strip.specs.declared.cut_list.Cut.{Cut}

-- the cut at a place, which is as long as the site there
abbrev pub cut_at : (ℕ → ℕ) → ℕ → Cut
cut_at site k = record { offset = k; length = site k }

-- all cuts of a text of n bytes, in ascending order: those that `stripped` takes out
abbrev pub cuts_of : (ℕ → ℕ) → ℕ → List Cut
cuts_of site n = map (cut_at site) (cuts_below site n)
