-- the programs of a compiler that a store keeps
use Rattle.std.specs.Prelude.{◌≡◌, ◌≢◌, ◌==◌, ◌⊎◌, ◌<◌, ◌^◌, ℕ, List, [], ◌∷◌, ◌++◌, Bool, true, false, not, cond, Option, Some, None, EachIndex, slice_index, length, bit_and, codes, map, string_bytes}
use Rattle.std.specs.Fmt.{decimal}
use Rattle.std.specs.List.{AllZip, slice_split}
use Rattle.cck_digest.specs.Stream.{concatenation}
use Rattle.cck_cache_files.specs.Compiler.{IsStatusLine}
use Rattle.cck_cache_files.specs.declared.programs.Listed.{Listed}
use Rattle.cck_cache_files.specs.declared.programs.SearchVariables.{SearchVariables}

-- no byte of a text is this one
abbrev pub Lacks : ℕ → List ℕ → Type 0
Lacks byte text = EachIndex text (λ k. slice_index text k ≢ byte)

-- a text without a line feed
abbrev pub IsLine : List ℕ → Type 0
IsLine text = Lacks 10 text

-- a path, from a working directory
abbrev pub absolute : List ℕ → List ℕ → List ℕ
absolute directory path = cond (slice_index path 0 == 47) path (directory ++ codes "/" ++ path)

-- the path of a name in an element of PATH, of which an empty one is the working directory
abbrev pub place_in : List ℕ → List ℕ → List ℕ
place_in element name = cond (length element == 0) (codes ".") element ++ codes "/" ++ name

-- The paths at which a shell looks for a program: a name with a slash is a path, and another one is looked for in each element of PATH.
pub record ArePlaces (directory path name : List ℕ) (places : List (List ℕ)) : Type 0 where
  pub plain : Lacks 47 name → places ≡ map (λ element. absolute directory (place_in element name)) (slice_split (λ b. b == 58) path)
  pub path_is : ¬ (Lacks 47 name) → places ≡ absolute directory name ∷ []

-- a mode has one of these bits
abbrev pub has_bit : ℕ → ℕ → Bool
has_bit mode bits = not (bit_and mode bits == 0)

-- both may, or neither; it is not known where one of them may
abbrev pub both_may : Bool → Bool → Option Bool
both_may true true = Some true
both_may false false = Some false
both_may true false = None
both_may false true = None

-- whether a user may execute a file of this mode, by whether the user is root, and by whether it is the owner
abbrev pub may_execute : ℕ → Bool → Bool → Option Bool
may_execute mode true owner = Some (has_bit mode 0o111)
may_execute mode false true = Some (has_bit mode 0o100)
may_execute mode false false = both_may (has_bit mode 0o010) (has_bit mode 0o001)

-- lines, each with its line feed
abbrev pub lines_text : List (List ℕ) → List ℕ
lines_text [] = []
lines_text (line ∷ lines) = line ++ 10 ∷ lines_text lines

-- none of these has a line feed
abbrev pub AreLines : List (List ℕ) → Type 0
AreLines [] = Unit {0}
AreLines (line ∷ lines) = IsLine line × AreLines lines

-- for which calls a list counts: the path of the compiler, that of the assembler, and the variables
abbrev pub context_lines : List ℕ → List ℕ → SearchVariables → List (List ℕ)
context_lines compiler assembler v = compiler ∷ assembler ∷ string_bytes v.path ∷ string_bytes v.library_path ∷ string_bytes v.preload ∷ []

-- the text of these lines, or none where one of them has a line feed
abbrev pub IsContext : List ℕ → List ℕ → SearchVariables → Option (List ℕ) → Type 0
IsContext compiler assembler v None = ¬ (AreLines (context_lines compiler assembler v))
IsContext compiler assembler v (Some text) = AreLines (context_lines compiler assembler v) × (text ≡ lines_text (context_lines compiler assembler v))

-- a name is what follows the last slash of a path, or the whole path
pub record IsLastPart (path name : List ℕ) : Type 0 where
  pub no_slash : Lacks 47 name
  pub last : (path ≡ name) ⊎ ((front : List ℕ) × (path ≡ front ++ 47 ∷ name))

-- the path of a list in a store
abbrev pub list_path : List ℕ → List ℕ → ℕ → List ℕ
list_path store name size = store ++ codes "/compilers/" ++ name ++ codes "-" ++ decimal size

-- the path of the list of a compiler that is called by this name, whose first lines have this length
abbrev pub IsListPath : List ℕ → List ℕ → ℕ → List ℕ → Type 0
IsListPath store compiler size path = (name : List ℕ) × IsLastPart compiler name × (path ≡ list_path store name size)

-- a text begins with this line, and the rest follows its line feed
pub record StartsLine (text line rest : List ℕ) : Type 0 where
  pub line_is : IsLine line
  pub text_is : text ≡ line ++ 10 ∷ rest

-- lines, each with its line feed, before a text
abbrev pub lines_before : List (List ℕ) → List ℕ → List ℕ
lines_before [] rest = rest
lines_before (line ∷ lines) rest = line ++ 10 ∷ lines_before lines rest

-- a text is these lines after the first ones, before the rest
pub record HasLines (first text : List ℕ) (lines : List (List ℕ)) (rest : List ℕ) : Type 0 where
  pub lines_are : AreLines lines
  pub text_is : text ≡ first ++ lines_before lines rest

-- A list with these first lines has three more: the file that the compiler is, the paths on which the list depends, and the programs. What the system said of the
-- paths is the rest. No other text is one.
abbrev pub IsListRead : List ℕ → List ℕ → Option Listed → Type 0
IsListRead first text None = (file paths programs statuses : List ℕ) → HasLines first text (file ∷ paths ∷ programs ∷ []) statuses → ⊥
IsListRead first text (Some listed) = HasLines first text (listed.file.now ∷ listed.paths.now ∷ listed.programs.now ∷ []) listed.statuses.now

-- what a list has of a path: the line of its status, or nothing
abbrev pub IsKeptLine : List ℕ → List ℕ → Type 0
IsKeptLine path line = IsStatusLine path line ⊎ (line ≡ [])

-- what a list has of these paths, which have colons between them
abbrev pub AreKept : List ℕ → List ℕ → Type 0
AreKept paths text = (lines : List (List ℕ)) × AllZip IsKeptLine (slice_split (λ b. b == 58) paths) lines × (text ≡ concatenation lines)

-- in one store two lists have one path only if their names and lengths are the same
abbrev pub ListPathsDiffer : Type 0
ListPathsDiffer = (store m n : List ℕ) (i j : ℕ) → i < 2 ^ 64 → j < 2 ^ 64 → list_path store m i ≡ list_path store n j → (m ≡ n) × (i ≡ j)
