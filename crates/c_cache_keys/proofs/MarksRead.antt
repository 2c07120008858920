-- The marks of a text that is written out, read by computing.
use Rattle.std.proofs.Common.{◌≡◌, ◌≢◌, ℕ, zero, suc, Bool, true, false, ◌||◌, ◌==◌, List, [], ◌∷◌, ◌++◌, length, Option, Some, None, option_map, refl, sym, ap, ◌∙◌, subst}
use Rattle.std.specs.Prelude.{All, if◌then◌else◌}
use Rattle.std.proofs.lemmas.Bool.Decides.{Decides-eqb}
use Rattle.std.proofs.lemmas.List.{append-nil}
use Rattle.std.proofs.lemmas.List.Elements.{All-nil, All-cons}
use Rattle.std.proofs.lemmas.Bool.{false≢true, or_parts}
use Rattle.cck_include.proofs.OneList.{no_stop, not_both, stop_same, some_nothing}
use Rattle.cck_include.specs.Marks.{Mark, Name, Refusal, Malformed, Marks, What, Short, Marker, Hidden, Inclusion, Plain, what, IsClosed, IsFree, Named, is_system, at_end, unnamed, named, malformed, hidden, hidden_to_end, refused, plain}

-- the bytes before the first that stops, and the others
abbrev before : (ℕ → Bool) → List ℕ → List ℕ
before stops [] = []
before stops (x ∷ s) = if stops x then [] else x ∷ before stops s

abbrev following : (ℕ → Bool) → List ℕ → List ℕ
following stops [] = []
following stops (x ∷ s) = if stops x then x ∷ s else following stops s

together : (stops : ℕ → Bool) (s : List ℕ) → s ≡ before stops s ++ following stops s
together stops [] = refl
together stops (x ∷ s) = by (stops x) (together stops s)
  where
    by : (b : Bool) → s ≡ before stops s ++ following stops s → x ∷ s ≡ (if b then [] else x ∷ before stops s) ++ (if b then x ∷ s else following stops s)
    by true e = refl
    by false e = ap (λ (t : List ℕ). x ∷ t) e

pub all_before : (P : ℕ → Type 0) (stops : ℕ → Bool) → ((x : ℕ) → stops x ≡ false → P x) → (s : List ℕ) → All P (before stops s)
all_before P stops pass [] = All-nil P
all_before P stops pass (x ∷ s) = by (stops x) refl (all_before P stops pass s)
  where
    by : (b : Bool) → stops x ≡ b → All P (before stops s) → All P (if b then [] else x ∷ before stops s)
    by true e h = All-nil P
    by false e h = All-cons P x (before stops s) (pass x e) h

pub differs : (x y : ℕ) → (x == y) ≡ false → x ≢ y
differs x y e = λ same. false≢true (sym e ∙ (Decides-eqb x y).1 same)

pub is : (x y : ℕ) → (x == y) ≡ true → x ≡ y
is x y e = (Decides-eqb x y).0 e

abbrev is_quote : ℕ → Bool
is_quote x = x == 34

abbrev is_line_end : ℕ → Bool
is_line_end x = x == 10

abbrev is_stop : ℕ → Bool
is_stop x = (x == 34) || (x == 10)

pub free_before : (s : List ℕ) → IsFree (before is_stop s)
free_before s = all_before (λ x. (x ≢ 34) × (x ≢ 10)) is_stop (λ x e. let both = or_parts (x == 34) (x == 10) e in (differs x 34 both.0, differs x 10 both.1)) s

-- all of a text, if no byte of it stops
pub whole : (stops : ℕ → Bool) (s : List ℕ) → following stops s ≡ [] → before stops s ≡ s
whole stops s e = sym (together stops s ∙ ap (λ (t : List ℕ). before stops s ++ t) e ∙ append-nil (before stops s))

pub cut_at : (stops : ℕ → Bool) (s : List ℕ) (t : List ℕ) → following stops s ≡ t → s ≡ before stops s ++ t
cut_at stops s t e = together stops s ∙ ap (λ (u : List ℕ). before stops s ++ u) e

-- marks that a text has, if they could be read
abbrev Found : Bool → List ℕ → Type 0
Found start s = Option ((marks : List Mark) × Marks start s marks)

abbrev Reader : Type 0
Reader = (start : Bool) (s : List ℕ) → Found start s

abbrev one_byte : Reader → (start : Bool) (s : List ℕ) → what start s ≡ Plain → Found start s
one_byte more start [] e = None
one_byte more start (x ∷ s) e = option_map (λ f. (f.0, plain e x s refl f.1)) (more (x == 10) s)

abbrev hidden_by : Reader → (start : Bool) (s : List ℕ) → what start s ≡ Hidden → (x : ℕ) (rest : List ℕ) → following is_line_end s ≡ x ∷ rest → (b : Bool) → (x == 10) ≡ b → Found start s
hidden_by more start s e x rest r false d = None
hidden_by more start s e x rest r true d =
    option_map (λ f. (f.0, hidden e (before is_line_end s) rest (cut_at is_line_end s (x ∷ rest) r ∙ ap (λ v. before is_line_end s ++ v ∷ rest) (is x 10 d)) (all_before (λ v. v ≢ 10) is_line_end (λ v h. differs v 10 h) s) f.1)) (more true rest)

abbrev hidden_line : Reader → (start : Bool) (s : List ℕ) → what start s ≡ Hidden → (t : List ℕ) → following is_line_end s ≡ t → Found start s
hidden_line more start s e [] r =
    Some ([], hidden_to_end e (subst (All (λ v. v ≢ 10)) (whole is_line_end s r) (all_before (λ v. v ≢ 10) is_line_end (λ v h. differs v 10 h) s)) refl)
hidden_line more start s e (x ∷ rest) r = hidden_by more start s e x rest r (x == 10) refl

-- a marker whose line has neither
pub no_end : (start : Bool) (s : List ℕ) → what start s ≡ Marker → following is_stop s ≡ [] → Marks start s (Malformed ∷ [])
no_end start s e r =
    let free = subst IsFree (whole is_stop s r) (free_before s) in
    malformed e (λ u. no_stop 10 s u.front u.rest (λ k d l. (free k d l).1) u.is) (λ n. no_stop 34 s n.front (n.name ++ n.rest) (λ k d l. (free k d l).0) n.is) refl

-- a marker that ends with its quote
pub quote_ends : (start : Bool) (s : List ℕ) → what start s ≡ Marker → s ≡ before is_stop s ++ 34 ∷ [] → Marks start s (Malformed ∷ [])
quote_ends start s e at =
    let free = free_before s in
    malformed e (λ u. not_both u.front (before is_stop s) u.rest [] u.free free (sym u.is ∙ at))
    (λ n. n.some (stop_same 34 n.front (before is_stop s) (n.name ++ n.rest) [] (λ k d l. (n.free k d l).0) (λ k d l. (free k d l).0) (sym n.is ∙ at)).1) refl

abbrev named_by : (s : List ℕ) (x : ℕ) (t rest : List ℕ) → s ≡ before is_stop s ++ 34 ∷ x ∷ t → following is_quote (x ∷ t) ≡ rest → IsClosed rest → Named s
named_by s x t rest at r closed =
    record {
      front = before is_stop s;
      name = before is_quote (x ∷ t);
      rest = rest;
      is = at ∙ ap (λ (v : List ℕ). before is_stop s ++ 34 ∷ v) (cut_at is_quote (x ∷ t) rest r);
      free = free_before s;
      unquoted = all_before (λ v. v ≢ 34) is_quote (λ v h. differs v 34 h) (x ∷ t);
      closed = closed;
      some = λ e. some_nothing (cut_at is_quote (x ∷ t) rest r ∙ e);
    }

abbrev with_name : Reader → (start : Bool) (s : List ℕ) → what start s ≡ Marker → (n : Named s) → Found start s
with_name more start s e n = option_map (λ f. (Name n.name (is_system n.rest) ∷ f.0, named e n f.0 f.1 refl)) (more false n.rest)

abbrev closed_by : Reader → (start : Bool) (s : List ℕ) → what start s ≡ Marker → (x : ℕ) (t : List ℕ) → s ≡ before is_stop s ++ 34 ∷ x ∷ t → (y : ℕ) (rest : List ℕ) → following is_quote (x ∷ t) ≡ y ∷ rest → (b : Bool) → (y == 34) ≡ b → Found start s
closed_by more start s e x t at y rest r false d = None
closed_by more start s e x t at y rest r true d = with_name more start s e (named_by s x t (y ∷ rest) at r (is y 34 d))

abbrev name_in : Reader → (start : Bool) (s : List ℕ) → what start s ≡ Marker → (x : ℕ) (t : List ℕ) → s ≡ before is_stop s ++ 34 ∷ x ∷ t → (rest : List ℕ) → following is_quote (x ∷ t) ≡ rest → Found start s
name_in more start s e x t at [] r = with_name more start s e (named_by s x t [] at r tt)
name_in more start s e x t at (y ∷ rest) r = closed_by more start s e x t at y rest r (y == 34) refl

abbrev after_quote : Reader → (start : Bool) (s : List ℕ) → what start s ≡ Marker → (t : List ℕ) → s ≡ before is_stop s ++ 34 ∷ t → Found start s
after_quote more start s e [] at = Some (Malformed ∷ [], quote_ends start s e at)
after_quote more start s e (x ∷ t) at = name_in more start s e x t at (following is_quote (x ∷ t)) refl

abbrev no_name : Reader → (start : Bool) (s : List ℕ) → what start s ≡ Marker → (t : List ℕ) → s ≡ before is_stop s ++ 10 ∷ t → Found start s
no_name more start s e t at =
    option_map (λ f. (f.0, unnamed e (record { front = before is_stop s; rest = t; is = at; free = free_before s }) f.1)) (more false (10 ∷ t))

abbrev stopped_by : Reader → (start : Bool) (s : List ℕ) → what start s ≡ Marker → (x : ℕ) (t : List ℕ) → s ≡ before is_stop s ++ x ∷ t → (a b : Bool) → (x == 34) ≡ a → (x == 10) ≡ b → Found start s
stopped_by more start s e x t at true b d l = after_quote more start s e t (at ∙ ap (λ v. before is_stop s ++ v ∷ t) (is x 34 d))
stopped_by more start s e x t at false true d l = no_name more start s e t (at ∙ ap (λ v. before is_stop s ++ v ∷ t) (is x 10 l))
stopped_by more start s e x t at false false d l = None

abbrev marker : Reader → (start : Bool) (s : List ℕ) → what start s ≡ Marker → (t : List ℕ) → following is_stop s ≡ t → Found start s
marker more start s e [] r = Some (Malformed ∷ [], no_end start s e r)
marker more start s e (x ∷ t) r = stopped_by more start s e x t (cut_at is_stop s (x ∷ t) r) (x == 34) (x == 10) refl refl

abbrev item : Reader → (start : Bool) (s : List ℕ) (w : What) → what start s ≡ w → Found start s
item more start s Short e = Some ([], at_end e refl)
item more start s Marker e = marker more start s e (following is_stop s) refl
item more start s Hidden e = hidden_line more start s e (following is_line_end s) refl
item more start s Inclusion e = Some (Refusal ∷ [], refused e refl)
item more start s Plain e = one_byte more start s e

-- the marks that are read in n steps
abbrev pub marks_in : ℕ → (start : Bool) (s : List ℕ) → Found start s
marks_in zero start s = None
marks_in (suc n) start s = item (marks_in n) start s (what start s) refl

claim : (start : Bool) (s : List ℕ) (f : Found start s) (marks : List Mark) → option_map (λ f. f.0) f ≡ Some marks → Marks start s marks
claim start s None marks e = absurd cc
claim start s (Some (found, are)) marks e =
    let same : found ≡ marks = cc in
    subst (Marks start s) same are

-- the marks that are read are those of the text
pub are_marks : (s : List ℕ) (marks : List Mark) → option_map (λ f. f.0) (marks_in (suc (length s)) true s) ≡ Some marks → Marks true s marks
are_marks s marks e = claim true s (marks_in (suc (length s)) true s) marks e
