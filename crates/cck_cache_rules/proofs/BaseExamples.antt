-- The definitions at literal arguments, words and texts.
use Rattle.std.proofs.Common.{◌≡◌, ◌≢◌, ℕ, zero, suc, ◌≤◌, inl, inr, Bool, true, false, ◌||◌, ◌&&◌, cond, List, [], ◌∷◌, ◌++◌, Some, None, nat_eq, length, codes, append_assoc, refl, sym, ap, subst, ◌∙◌, arith}
use Rattle.std.specs.List.{ends_with, starts_with}
use Rattle.std.proofs.lemmas.Bool.{and_parts, false≢true, or_left, or_right}
use Rattle.std.proofs.lemmas.Bool.Decides.{not_from_Decides}
use Rattle.std.proofs.lemmas.List.Elements.{All-cons, All-nil}
use Rattle.std.proofs.lemmas.List.{append-nil, append_cancel_left}
use Rattle.cck_cache_rules.specs.Argument.{AsksForDebug, Begins, IsMapOfBase, IsPortable, MapsBase, ShowsPaths}
use Rattle.cck_digest.specs.TimeMacros.{Has}
use Rattle.cck_cache_rules.specs.Base.{BaseOf, IsBelow, IsPlain, MapDebug, IsPlainByte, WordLists}
use Rattle.cck_cache_rules.specs.Shown.{ShowsBase}
use Rattle.cck_cache_rules.specs.Text.{AreBases, IsDirectoryMarker, IsPortableText}
use Rattle.cck_cache_rules.proofs.ListLemmas.{ends_decided, starts_decided}

-- a text does not begin with a word
no_beginning : (text word : List ℕ) → starts_with nat_eq text word ≡ false → ¬ Begins text word
no_beginning text word e = not_from_Decides (starts_with nat_eq text word) (starts_decided text word (starts_with nat_eq text word) refl) e

-- a test for a part of a text
abbrev has : List ℕ → List ℕ → Bool
has [] word = starts_with nat_eq [] word
has (byte ∷ text) word = starts_with nat_eq (byte ∷ text) word || has text word

has_if : (text word : List ℕ) → Has text word → has text word ≡ true
has_if [] word ([], after, is) = (starts_decided [] word (starts_with nat_eq [] word) refl).1 (after, is)
has_if [] word (byte ∷ before, after, is) = absurd (cc)
has_if (byte ∷ text) word ([], after, is) = or_left _ (has text word) ((starts_decided (byte ∷ text) word (starts_with nat_eq (byte ∷ text) word) refl).1 (after, is))
has_if (byte ∷ text) word (first ∷ before, after, is) = or_right (starts_with nat_eq (byte ∷ text) word) _ (has_if text word (before, after, cc))

no_part : (text word : List ℕ) → has text word ≡ false → ¬ Has text word
no_part text word e h = false≢true (sym e ∙ has_if text word h)

-- the line marker of a directory is here, by two tests
abbrev is_marker : List ℕ → List ℕ → List ℕ → Bool
is_marker before after directory = ends_with nat_eq before (codes "\n# 1 \"") && starts_with nat_eq after (directory ++ codes "//\"\n")

marker : (before after directory : List ℕ) → is_marker before after directory ≡ true → IsDirectoryMarker before after directory
marker before after directory e =
    let both = and_parts _ _ e in (
      (ends_decided before (codes "\n# 1 \"") _ refl).0 both.0,
      (starts_decided after (directory ++ codes "//\"\n") _ refl).0 both.1,
    )

-- a test of each place of a base directory in a text, after the bytes in front of it
abbrev all_marked : List ℕ → List ℕ → List ℕ → List ℕ → Bool
all_marked base directory front [] = true
all_marked base directory front (byte ∷ text) =
    cond (starts_with nat_eq (byte ∷ text) base) (is_marker front (byte ∷ text) directory) true && all_marked base directory (front ++ byte ∷ []) text

module _ (first : ℕ) (rest directory : List ℕ) where
  abbrev base : List ℕ
  base = first ∷ rest

  each_marked : (front text : List ℕ) → all_marked base directory front text ≡ true → (before after : List ℕ) → text ≡ before ++ (base ++ after)
      → IsDirectoryMarker (front ++ before) (base ++ after) directory
  each_marked front [] e [] after is = absurd (cc)
  each_marked front [] e (byte ∷ before) after is = absurd (cc)
  each_marked front (byte ∷ text) e [] after is =
      let both = and_parts _ _ e in
      let here : starts_with nat_eq (byte ∷ text) base ≡ true = (starts_decided (byte ∷ text) base _ refl).1 (after, is) in
      let test : is_marker front (byte ∷ text) directory ≡ true = subst (λ b. cond b (is_marker front (byte ∷ text) directory) true ≡ true) here both.0 in
      subst (λ f. IsDirectoryMarker f (base ++ after) directory) (sym (append-nil front))
      (subst (λ t. IsDirectoryMarker front t directory) is (marker front (byte ∷ text) directory test))
  each_marked front (byte ∷ text) e (other ∷ before) after is =
      let same : byte ≡ other = cc in
      let later : text ≡ before ++ (base ++ after) = cc in
      let both = and_parts _ _ e in
      let there = each_marked (front ++ byte ∷ []) text both.1 before after later in
      subst (λ f. IsDirectoryMarker f (base ++ after) directory) (append_assoc front (byte ∷ []) before ∙ ap (λ b. front ++ b ∷ before) same) there

  portable_text : (text : List ℕ) → all_marked base directory [] text ≡ true → IsPortableText text base directory
  portable_text text e before after is = each_marked [] text e before after is

no_path : (argument : List ℕ) → starts_with nat_eq argument (codes "-fsanitize") ≡ false → starts_with nat_eq argument (codes "-gz") ≡ false
    → starts_with nat_eq argument (codes "-flto") ≡ false → ¬ ShowsPaths argument
no_path argument sanitize compress optimize (inl begins) = no_beginning argument (codes "-fsanitize") sanitize begins
no_path argument sanitize compress optimize (inr (inl begins)) = no_beginning argument (codes "-gz") compress begins
no_path argument sanitize compress optimize (inr (inr begins)) = no_beginning argument (codes "-flto") optimize begins

no_map : (argument base : List ℕ) → starts_with nat_eq argument (codes "-f") ≡ false → ¬ IsMapOfBase argument base
no_map argument base e (inl (inl m)) = no_beginning argument (codes "-f") e (codes "file-prefix-map=" ++ (base ++ 61 ∷ m.name), m.is)
no_map argument base e (inl (inr m)) = no_beginning argument (codes "-f") e (codes "debug-prefix-map=" ++ (base ++ 61 ∷ m.name), m.is)
no_map argument base e (inr m) = no_beginning argument (codes "-f") e (codes "macro-prefix-map=" ++ (base ++ 61 ∷ m.name), m.is)

-- an argument with no path
debug_information : IsPortable (codes "-g") (codes "/a")
debug_information = (no_path (codes "-g") refl refl refl, inr (no_part (codes "-g") (codes "-prefix-map") refl, no_part (codes "-g") (codes "/a") refl))

-- a sanitizer's messages have paths
sanitizer : ¬ IsPortable (codes "-fsanitize=address") (codes "/a")
sanitizer portable = portable.0 (inl (codes "=address", refl))

-- code for link-time optimization has the working directory
link_time : ¬ IsPortable (codes "-flto=auto") (codes "/a")
link_time portable = portable.0 (inr (inr (codes "=auto", refl)))

-- a directory of headers below the base directory
header_directory : ¬ IsPortable (codes "-I/a/include") (codes "/a")
header_directory portable = elim portable.1 [
  | inl map ↦ no_map (codes "-I/a/include") (codes "/a") refl map
  | inr names ↦ names.1 (codes "-I", codes "/include", refl)
]

-- the base directory with the name `.`
mapped : MapsBase (codes "-ffile-prefix-map=/a=.") (codes "-ffile-prefix-map=") (codes "/a")
mapped = record {
  name = codes ".";
  is = refl;
  one_map = All-cons (λ byte. byte ≢ 61) 46 [] (omega arith) (All-nil (λ byte. byte ≢ 61));
  hidden = no_part (codes ".") (codes "/a") refl;
}

-- the name has the base directory
mapped_to_itself : ¬ MapsBase (codes "-ffile-prefix-map=/a=/a") (codes "-ffile-prefix-map=") (codes "/a")
mapped_to_itself m =
    let name : m.name ≡ codes "/a" = append_cancel_left (codes "-ffile-prefix-map=/a=") _ _ (sym m.is) in
    m.hidden ([], [], name)

asked : AsksForDebug (codes "-gdwarf-4")
asked = ((codes "dwarf-4", refl), λ same. let sizes = ap length same in omega arith)

not_asked : ¬ AsksForDebug (codes "-g0")
not_asked asks = asks.1 refl

plain : IsPlain (codes "/a")
plain = record {
  absolute = (codes "a", refl);
  ended = not_from_Decides false (ends_decided (codes "/a") (codes "/") false refl) refl;
  bytes = All-cons IsPlainByte 47 (97 ∷ []) (byte 47 (omega arith) (omega arith) (omega arith) (omega arith) (omega arith))
      (All-cons IsPlainByte 97 [] (byte 97 (omega arith) (omega arith) (omega arith) (omega arith) (omega arith)) (All-nil IsPlainByte));
}
  where
    byte : (b : ℕ) → 33 ≤ b → b ≤ 126 → b ≢ 61 → b ≢ 34 → b ≢ 92 → IsPlainByte b
    byte b low high equals quote backslash = record { from = low; up_to = high; no_equals = equals; no_quote = quote; no_backslash = backslash }

root : ¬ IsPlain (codes "/")
root is = is.ended ([], refl)

below : IsBelow (codes "/a/b") (codes "/a")
below = inr (codes "b", refl)

sibling : ¬ IsBelow (codes "/ab") (codes "/a")
sibling (inl same) = let sizes = ap length same in omega arith
sibling (inr on) = no_beginning (codes "/ab") (codes "/a/") refl on

-- words with debug information that has another name in place of the base directory
abbrev words : WordLists
words = record { base = Some (codes "/a"); directory = codes "/a/b"; arguments = codes "-ffile-prefix-map=/a=." ∷ codes "-g" ∷ [] }

portable : BaseOf words (Some (codes "/a"))
portable = record {
  given = refl;
  plain = plain;
  below = below;
  arguments = All-cons IsPart (codes "-ffile-prefix-map=/a=.") (codes "-g" ∷ []) (no_path (codes "-ffile-prefix-map=/a=.") refl refl refl, inl (inl (inl mapped)))
      (All-cons IsPart (codes "-g") [] debug_information (All-nil IsPart));
  hidden = λ asks. (0, codes "-ffile-prefix-map=/a=.", omega arith, refl, inl mapped);
}
  where
    IsPart : List ℕ → Type 0
    IsPart argument = IsPortable argument (codes "/a")

-- the same without the map
unmapped : BaseOf (record words { arguments = codes "-g" ∷ [] }) None
unmapped base are =
    none (are.hidden (0, codes "-g", omega arith, refl, (([], refl), λ same. let sizes = ap length same in omega arith)))
  where
    none : ¬ MapDebug (codes "-g" ∷ []) base
    none (zero, argument, within, is, maps) = no_map argument base (ap (λ a. starts_with nat_eq a (codes "-f")) (sym is)) (inl maps)
    none (suc k, argument, within, is, maps) = absurd (omega arith)

-- a text with the base directory in the marker of the working directory alone
abbrev text : List ℕ
text = codes "# 1 \"x.c\"\n# 1 \"/a/b//\"\nint x;\n"

cut : AreBases words text (codes "/a" ∷ [])
cut = (portable, portable_text 47 (codes "a") (codes "/a/b") text refl)

-- a text with the base directory in the marker of a header
kept : AreBases words (codes "# 1 \"/a/x.h\"\n") []
kept base are is =
    let same : base ≡ codes "/a" = let both : Some (codes "/a") ≡ Some base = are.given in cc in
    let here = subst (λ b. IsPortableText (codes "# 1 \"/a/x.h\"\n") b (codes "/a/b")) same is (codes "# 1 \"") (codes "/x.h\"\n") refl in
    no_beginning (codes "/a/x.h\"\n") (codes "/a/b//\"\n") refl here.1

shown : ShowsBase (codes "/b" ∷ codes "/a" ∷ []) (codes "x/a/b")
shown = (1, codes "/a", omega arith, refl, (codes "x", codes "/b", refl))
