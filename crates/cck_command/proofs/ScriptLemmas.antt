-- The lines of a script, one after another.
use Rattle.std.proofs.Common.{◌≡◌, ℕ, ◌+◌, List, [], ◌∷◌, ◌++◌, map, ap, sym, ◌∙◌, append_assoc, Option, Some}
use Rattle.std.specs.List.{filter_map}
use Rattle.cck_path.specs.Bytes.{Bytes}
use Rattle.cck_command.specs.ScriptLines.{Reading, Wrong, Skipped, Says, read}
use Rattle.cck_script.specs.Lines.{Line}
use Rattle.cck_command.specs.Script.{line_in, wrong_from}
use Rattle.cck_command.specs.ScriptWords.{cut}
use Rattle.cck_command.proofs.WordLemmas.{parts_left, split_cut}

-- the lines that are left after an LF, if there is one
abbrev pub readings_left : Option Bytes → List Reading
readings_left rest = map read (parts_left 10 rest)

readings_next : (s front : Bytes) (rest : Option Bytes) → (front, rest) ≡ cut 10 s → readings_left (Some s) ≡ read front ∷ readings_left rest
readings_next s front rest e =
    ap (map read) (split_cut 10 s) ∙ ap (λ (p : Bytes × Option Bytes). read p.0 ∷ readings_left p.1) (sym e)

-- a wrong line has the number that is counted from
pub wrong_here : (w : Option ℕ) (n : ℕ) (s front : Bytes) (rest : Option Bytes) → (front, rest) ≡ cut 10 s → Wrong ≡ read front
    → w ≡ wrong_from n (readings_left (Some s)) → w ≡ Some n
wrong_here w n s front rest e here h = h ∙ ap (wrong_from n) (readings_next s front rest e ∙ ap (λ r. r ∷ readings_left rest) (sym here))

-- after a line that isn't wrong, lines are counted from one more
pub skipped_here : (w : Option ℕ) (n : ℕ) (s front : Bytes) (rest : Option Bytes) → (front, rest) ≡ cut 10 s → Skipped ≡ read front
    → w ≡ wrong_from n (readings_left (Some s)) → w ≡ wrong_from (n + 1) (readings_left rest)
skipped_here w n s front rest e here h = h ∙ ap (wrong_from n) (readings_next s front rest e ∙ ap (λ r. r ∷ readings_left rest) (sym here))

pub here_of_command : (w : Option ℕ) (n : ℕ) (s front : Bytes) (rest : Option Bytes) (line : Line) → (front, rest) ≡ cut 10 s → Says line ≡ read front
    → w ≡ wrong_from n (readings_left (Some s)) → w ≡ wrong_from (n + 1) (readings_left rest)
here_of_command w n s front rest line e here h = h ∙ ap (wrong_from n) (readings_next s front rest e ∙ ap (λ r. r ∷ readings_left rest) (sym here))

-- the lines so far, and those that are left
pub lines_skipped : (all lines : List Line) (s front : Bytes) (rest : Option Bytes) → (front, rest) ≡ cut 10 s → Skipped ≡ read front
    → all ≡ lines ++ filter_map line_in (readings_left (Some s)) → all ≡ lines ++ filter_map line_in (readings_left rest)
lines_skipped all lines s front rest e here h =
    h ∙ ap (λ rs. lines ++ filter_map line_in rs) (readings_next s front rest e ∙ ap (λ r. r ∷ readings_left rest) (sym here))

pub lines_more : (all lines : List Line) (s front : Bytes) (rest : Option Bytes) (line : Line) → (front, rest) ≡ cut 10 s → Says line ≡ read front
    → all ≡ lines ++ filter_map line_in (readings_left (Some s)) → all ≡ (lines ++ line ∷ []) ++ filter_map line_in (readings_left rest)
lines_more all lines s front rest line e here h =
    h ∙ ap (λ rs. lines ++ filter_map line_in rs) (readings_next s front rest e ∙ ap (λ r. r ∷ readings_left rest) (sym here))
    ∙ sym (append_assoc lines (line ∷ []) (filter_map line_in (readings_left rest)))
