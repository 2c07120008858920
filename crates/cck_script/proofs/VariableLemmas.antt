-- Variables, as one more is set.
use Rattle.std.proofs.Common.{nat_lt, eqb, ◌||◌, not, subst, is_some, ◌≡◌, ℕ, zero, suc, ◌<◌, ◌≤◌, ◌+◌, List, [], ◌∷◌, ◌++◌, refl, ap, sym, ◌∙◌, get_or, inl, inr, length, map, set, Bool, true, false, Option, Some, None, cond, arith}
use Rattle.std.proofs.lemmas.List.{append-nil, length-append, length-map, length-set, map-append}
use Rattle.std.proofs.lemmas.List.Sums.{passes_at_first, prefix_len-le-length}
use Rattle.std.specs.Global.{Vec}
use Rattle.std.specs.List.{list_any, position_or_len}
use Rattle.std.specs.BTreeMap.{BTreeMap, get}
use Rattle.std.specs.Option.{unwrap_or}
use Rattle.std.specs.Str.{bytes_eq}
use Rattle.std.proofs.lemmas.Bool.Decides.{nat_tests}
use Rattle.std.specs.Ordering.{is_eq}
use Rattle.std.proofs.lemmas.List.Folds.{list_any-append, list_any_at, position_or_len_push}
use Rattle.std.proofs.lemmas.Map.Text.{is_eq-slice_cmp}
use Rattle.std.proofs.lemmas.Slice.Eq.{bytes_eq-Decides}
use Rattle.std.proofs.Math.Bool.{or_comm, or-false}
use Rattle.std.proofs.lemmas.Bool.{cases_lt, eqb-false, eqb-true, or_parts}
use Rattle.cck_path.specs.Bytes.{Bytes, variables_of}
use Rattle.cck_path.specs.Variables.{Variable}
use Rattle.cck_path.proofs.TestLemmas.{bytes_eq-sym}
use Rattle.cck_script.specs.Surroundings.{ArePlacesOf, if_below, if_same, is_clear, name_cmp, names, new_name, variable_place, set_by, sets, since_clear, value_of, variable_of_command, variables, with_variable}
use Rattle.cck_script.specs.Lines.{Line}
use Rattle.cck_script.specs.Lines as line

-- ---- the place of a name among the variables

-- the names of variables
abbrev names_in : List (Vec ℕ × Vec ℕ) → List Bytes
names_in vs = map (λ v. v.0.items) vs

-- the place of a name among variables, or their number where it is new
abbrev place_in : Bytes → List (Vec ℕ × Vec ℕ) → ℕ
place_in name vs = position_or_len (bytes_eq name) (names_in vs)

module _ (name : Bytes) (new : Vec ℕ) (d : Vec ℕ × Vec ℕ) where
  set_step : (v : Vec ℕ × Vec ℕ) (vs : List (Vec ℕ × Vec ℕ)) (b : Bool) → bytes_eq v.0.items name ≡ b → (p : ℕ) → p ≡ cond (not b) (1 + place_in name vs) 0 → p < length (v ∷ vs)
      → ((q : ℕ) → q ≡ place_in name vs → q < length vs → variables_of (set vs q ((get_or vs q d).0, new)) ≡ with_variable name new.items (variables_of vs))
      → variables_of (set (v ∷ vs) p ((get_or (v ∷ vs) p d).0, new)) ≡ cond b ((v.0.items, new.items) ∷ variables_of vs) ((v.0.items, v.1.items) ∷ with_variable name new.items (variables_of vs))
  set_step v vs true e zero is lt next = refl
  set_step v vs true e (suc q) is lt next = absurd (omega arith)
  set_step v vs false e zero is lt next = absurd (omega arith)
  set_step v vs false e (suc q) is lt next = ap (λ l. (v.0.items, v.1.items) ∷ l) (next q (omega arith) (omega arith))

  -- the variable at the place of a known name is set
  set_at_place : (vs : List (Vec ℕ × Vec ℕ)) (p : ℕ) → p ≡ place_in name vs → p < length vs
      → variables_of (set vs p ((get_or vs p d).0, new)) ≡ with_variable name new.items (variables_of vs)
  set_at_place [] p is lt = absurd (omega arith)
  set_at_place (v ∷ vs) p is lt =
      set_step v vs (bytes_eq v.0.items name) refl p (is ∙ ap (λ b. cond (not b) (1 + place_in name vs) 0) (bytes_eq-sym name v.0.items)) lt (set_at_place vs)

  -- and the names stay
  names_kept : (vs : List (Vec ℕ × Vec ℕ)) (p : ℕ) → names_in (set vs p ((get_or vs p d).0, new)) ≡ names_in vs
  names_kept [] p = refl
  names_kept (v ∷ vs) zero = refl
  names_kept (v ∷ vs) (suc p) = ap (λ l. v.0.items ∷ l) (names_kept vs p)

-- what holds where a name is new
abbrev IsNew : Bytes → List (Vec ℕ × Vec ℕ) → Type 0
IsNew name vs = ((value : Bytes) → with_variable name value (variables_of vs) ≡ variables_of vs ++ (name, value) ∷ []) × (list_any (bytes_eq name) (names_in vs) ≡ false)

new_step : (name : Bytes) (v : Vec ℕ × Vec ℕ) (vs : List (Vec ℕ × Vec ℕ)) (b : Bool) → bytes_eq name v.0.items ≡ b → suc (length vs) ≤ cond (not b) (1 + place_in name vs) 0 → (length vs ≤ place_in name vs → IsNew name vs)
    → IsNew name (v ∷ vs)
new_step name v vs true e le next = absurd (omega arith)
new_step name v vs false e le next =
    let rest = next (omega arith) in (
      (λ value. ap (λ b. cond b ((v.0.items, value) ∷ variables_of vs) ((v.0.items, v.1.items) ∷ with_variable name value (variables_of vs))) (bytes_eq-sym v.0.items name ∙ e)
          ∙ ap (λ l. (v.0.items, v.1.items) ∷ l) (rest.0 value)),
      ap (λ b. b || list_any (bytes_eq name) (names_in vs)) e ∙ rest.1,
    )

-- a name without a place is new
is_new : (name : Bytes) (vs : List (Vec ℕ × Vec ℕ)) → length vs ≤ place_in name vs → IsNew name vs
is_new name [] le = (λ value. refl, refl)
is_new name (v ∷ vs) le = new_step name v vs (bytes_eq name v.0.items) refl le (is_new name vs)

is_known : (name : Bytes) (vs : List (Vec ℕ × Vec ℕ)) → place_in name vs < length vs → list_any (bytes_eq name) (names_in vs) ≡ true
is_known name vs lt =
    let within : place_in name vs < length (names_in vs) = omega (arith, length-map vs (λ (v : Vec ℕ × Vec ℕ). v.0.items), lt) in
    list_any_at (bytes_eq name) (names_in vs) (place_in name vs) [] within (passes_at_first (bytes_eq name) (names_in vs) [] within)

-- ---- the index of places

-- a place that is the one of these, or else their number
place_known : (n place at : ℕ) → at ≡ unwrap_or (if_below n place) n → at < n → at ≡ place
place_known n place at e lt = go (nat_lt place n) e
  where
    go : (b : Bool) → at ≡ unwrap_or (cond b (Some place) None) n → at ≡ place
    go true h = h
    go false h = absurd (omega arith)

place_new : (n place at : ℕ) → at ≡ unwrap_or (if_below n place) n → n ≤ at → n ≤ place
place_new n place at e le = go (nat_lt place n) refl e
  where
    go : (b : Bool) → nat_lt place n ≡ b → at ≡ unwrap_or (cond b (Some place) None) n → n ≤ place
    go true t h = absurd (grind (arith, nat_tests))
    go false t h = grind (arith, nat_tests)

some_below : (n place : ℕ) → place < n → Some place ≡ if_below n place
some_below n place lt = go (nat_lt place n) refl
  where
    go : (b : Bool) → nat_lt place n ≡ b → Some place ≡ cond b (Some place) None
    go true t = refl
    go false t = absurd (grind (arith, nat_tests))

none_below : (n place : ℕ) → n ≤ place → None ≡ if_below n place
none_below n place le = go (nat_lt place n) refl
  where
    go : (b : Bool) → nat_lt place n ≡ b → None ≡ cond b (Some place) None
    go true t = absurd (grind (arith, nat_tests))
    go false t = refl

-- the place of a name where one more variable is known, of that name or of another
place_more : (n place : ℕ) (b : Bool) → place ≤ n → (b ≡ true → n ≤ place)
    → cond b (Some n) (if_below n place) ≡ if_below (n + 1) (cond (eqb place n) (n + cond b 0 1) place)
place_more n place b le new = go b (eqb place n) refl new
  where
    go : (b e : Bool) → eqb place n ≡ e → (b ≡ true → n ≤ place) → cond b (Some n) (if_below n place) ≡ if_below (n + 1) (cond e (n + cond b 0 1) place)
    go true true t h = ap Some (omega arith) ∙ some_below (n + 1) (n + 0) (omega arith)
    go true false t h = let at_end = h refl in absurd (eqb-false place n t (omega arith))
    go false true t h = let at_end = eqb-true place n t in sym (none_below n place (omega arith)) ∙ none_below (n + 1) (n + 1) (omega arith)
    go false false t h =
        let within : place < n = elim (cases_lt place n) [ inl lt ↦ lt | inr ge ↦ absurd (eqb-false place n t (omega arith)) ] in
        sym (some_below n place within) ∙ some_below (n + 1) place (omega arith)

-- a variable of this name has this value in new, and these are the places of new
abbrev IsSetTo : Bytes → Bytes → List (Vec ℕ × Vec ℕ) → List (Vec ℕ × Vec ℕ) → BTreeMap (Vec ℕ) ℕ → Type 0
IsSetTo name value vs new places = (variables_of new ≡ with_variable name value (variables_of vs)) × ArePlacesOf new places

module _ (vs : List (Vec ℕ × Vec ℕ)) (places : BTreeMap (Vec ℕ) ℕ) (name : Vec ℕ) (at : ℕ)
    (found : at ≡ unwrap_or (get name_cmp places name) (length vs)) (are : ArePlacesOf vs places) where
  found_place : at ≡ unwrap_or (variable_place name.items vs) (length vs)
  found_place = found ∙ ap (λ o. unwrap_or o (length vs)) (are name)

  -- the variable of a known name has the new value, in its place
  pub set_known : (d : Vec ℕ × Vec ℕ) (new : Vec ℕ) → at < length vs → d ≡ get_or vs at d → IsSetTo name.items new.items vs (set vs at (d.0, new)) places
  set_known d new lt is =
      let place = place_known (length vs) (place_in name.items vs) at found_place lt in (
        ap (λ (v : Vec ℕ × Vec ℕ). variables_of (set vs at (v.0, new))) is ∙ set_at_place name.items new d vs at place (omega arith),
        λ q. are q ∙ ap (λ ns. if_below (length vs) (position_or_len (bytes_eq q.items) ns)) (sym (ap (λ (v : Vec ℕ × Vec ℕ). names_in (set vs at (v.0, new))) is ∙ names_kept name.items new d vs at))
            ∙ ap (λ n. if_below n (place_in q.items (set vs at (d.0, new)))) (sym (length-set vs at (d.0, new))),
      )

  -- the variable of a new name comes last
  pub set_new : (more : BTreeMap (Vec ℕ) ℕ) (after : List (Vec ℕ × Vec ℕ)) (copy new : Vec ℕ) → length vs ≤ at → after ≡ vs ++ (name, new) ∷ []
      → copy.items ≡ name.items → ((q : Vec ℕ) → get name_cmp more q ≡ cond (is_eq (name_cmp copy q)) (Some (length vs)) (get name_cmp places q)) → IsSetTo name.items new.items vs after more
  set_new more after copy new le is copied inserted =
      let beyond = place_new (length vs) (place_in name.items vs) at found_place le in
      (set, places_after beyond)
    where
      set : variables_of after ≡ with_variable name.items new.items (variables_of vs)
      set =
          ap variables_of is ∙ (map-append (λ (v : Vec ℕ × Vec ℕ). (v.0.items, v.1.items)) vs ((name, new) ∷ [])
          ∙ sym ((is_new name.items vs (place_new (length vs) (place_in name.items vs) at found_place le)).0 new.items))

      count : length (names_in vs) ≡ length vs
      count = length-map vs (λ (v : Vec ℕ × Vec ℕ). v.0.items)

      within : (q : Vec ℕ) → place_in q.items vs ≤ length vs
      within q = let most = prefix_len-le-length (λ n. not (bytes_eq q.items n)) (names_in vs) in omega (arith, count)

      same_name : (q : Vec ℕ) → is_eq (name_cmp copy q) ≡ bytes_eq q.items name.items
      same_name q = is_eq-slice_cmp copy.items q.items ∙ (ap (λ n. bytes_eq n q.items) copied ∙ bytes_eq-sym name.items q.items)

      new_at : (q : Vec ℕ) → length vs ≤ place_in name.items vs → bytes_eq q.items name.items ≡ true → length vs ≤ place_in q.items vs
      new_at q beyond e = subst (λ n. length vs ≤ place_in n vs) (sym ((bytes_eq-Decides q.items name.items).0 e)) beyond

      place_after : (q : Vec ℕ) → if_below (length vs + 1) (position_or_len (bytes_eq q.items) (names_in vs ++ name.items ∷ [])) ≡ variable_place q.items after
      place_after q =
          (λ i. if_below (sym (length-append vs ((name, new) ∷ [])) i) (position_or_len (bytes_eq q.items) (sym (map-append (λ (v : Vec ℕ × Vec ℕ). v.0.items) vs ((name, new) ∷ [])) i)))
          ∙ ap (variable_place q.items) (sym is)

      places_after : length vs ≤ place_in name.items vs → ArePlacesOf after more
      places_after beyond q =
          inserted q ∙ ((λ i. cond (same_name q i) (Some (length vs)) (are q i))
          ∙ (place_more (length vs) (place_in q.items vs) (bytes_eq q.items name.items) (within q) (new_at q beyond)
          ∙ (ap (λ n. if_below (length vs + 1) (cond (eqb (place_in q.items vs) n) (n + cond (bytes_eq q.items name.items) 0 1) (place_in q.items vs))) (sym count)
          ∙ (ap (if_below (length vs + 1)) (sym (position_or_len_push (bytes_eq q.items) (names_in vs) name.items)) ∙ place_after q))))

-- ---- the variables after some lines, as one more is set

-- a name is among others
abbrev named : Bytes → List Bytes → Bool
named n ns = list_any (bytes_eq n) ns

-- no name occurs twice
abbrev AreDistinct : List Bytes → Type 0
AreDistinct [] = Unit {0}
AreDistinct (n ∷ ns) = (named n ns ≡ false) × AreDistinct ns

distinct_more : (ns : List Bytes) (n : Bytes) → AreDistinct ns → named n ns ≡ false → AreDistinct (ns ++ n ∷ [])
distinct_more [] n d h = (refl, tt)
distinct_more (m ∷ ms) n d h = (
  (list_any-append (bytes_eq m) ms (n ∷ []) ∙ (λ i. d.0 i || (bytes_eq-sym m n i || false)) ∙ or-false (bytes_eq n m) ∙ (or_parts (bytes_eq n m) (named n ms) h).0),
  distinct_more ms n d.1 (or_parts (bytes_eq n m) (named n ms) h).1,
)

known_set : (n : Bytes) (set : Variable) (earlier : List Line) (b : Bool) → bytes_eq set.0 n ≡ b → list_any (sets set.0) earlier ≡ true
    → list_any (sets n) earlier ≡ (is_some (cond b (Some set.1) None) || list_any (sets n) earlier)
known_set n set earlier true e h = ap (λ m. list_any (sets m) earlier) (sym ((bytes_eq-Decides set.0 n).0 e)) ∙ h
known_set n set earlier false e h = refl

test_of : {X : Type 0} (b : Bool) (x : X) → is_some (cond b (Some x) None) ≡ b
test_of true x = refl
test_of false x = refl

new_set : (n : Bytes) (set : Variable) (earlier : List Line) (b : Bool) → list_any (sets set.0) earlier ≡ b → named n (names earlier) ≡ list_any (sets n) earlier
    → named n (names earlier ++ cond b [] (set.0 ∷ [])) ≡ (is_some (cond (bytes_eq set.0 n) (Some set.1) None) || list_any (sets n) earlier)
new_set n set earlier true e h = ap (named n) (append-nil (names earlier)) ∙ h ∙ known_set n set earlier (bytes_eq set.0 n) refl e
new_set n set earlier false e h =
    list_any-append (bytes_eq n) (names earlier) (set.0 ∷ []) ∙ (λ i. h i || (bytes_eq-sym n set.0 i || false)) ∙ or_comm (list_any (sets n) earlier) (bytes_eq set.0 n || false)
    ∙ ap (λ t. t || list_any (sets n) earlier) (or-false (bytes_eq set.0 n) ∙ sym (test_of (bytes_eq set.0 n) set.1))

named_more : (n : Bytes) (o : Option Variable) (earlier : List Line) → named n (names earlier) ≡ list_any (sets n) earlier
    → named n (names earlier ++ new_name o earlier) ≡ (is_some (if_same n o) || list_any (sets n) earlier)
named_more n None earlier h = ap (named n) (append-nil (names earlier)) ∙ h
named_more n (Some set) earlier h = new_set n set earlier (list_any (sets set.0) earlier) refl h

-- a name is among those that are set exactly where a line sets it
named_is_set : (n : Bytes) (lines : List Line) → named n (names lines) ≡ list_any (sets n) lines
named_is_set n [] = refl
named_is_set n (line ∷ earlier) = named_more n (variable_of_command line) earlier (named_is_set n earlier)

distinct_set : (set : Variable) (earlier : List Line) (b : Bool) → list_any (sets set.0) earlier ≡ b → AreDistinct (names earlier) → AreDistinct (names earlier ++ cond b [] (set.0 ∷ []))
distinct_set set earlier true e d = subst AreDistinct (sym (append-nil (names earlier))) d
distinct_set set earlier false e d = distinct_more (names earlier) set.0 d (named_is_set set.0 earlier ∙ e)

distinct_with : (o : Option Variable) (earlier : List Line) → AreDistinct (names earlier) → AreDistinct (names earlier ++ new_name o earlier)
distinct_with None earlier d = subst AreDistinct (sym (append-nil (names earlier))) d
distinct_with (Some set) earlier d = distinct_set set earlier (list_any (sets set.0) earlier) refl d

names_distinct : (lines : List Line) → AreDistinct (names lines)
names_distinct [] = tt
names_distinct (line ∷ earlier) = distinct_with (variable_of_command line) earlier (names_distinct earlier)

module _ (n v : Bytes) (f : Bytes → Bytes) where
  -- the value of a variable after one was set
  abbrev after : Bytes → Bytes
  after m = unwrap_or (cond (bytes_eq n m) (Some v) None) (f m)

  abbrev old_pair : Bytes → Variable
  old_pair m = (m, f m)

  abbrev new_pair : Bytes → Variable
  new_pair m = (m, after m)

  after_set : (m : Bytes) → bytes_eq n m ≡ true → v ≡ after m
  after_set m e = sym (ap (λ b. unwrap_or (cond b (Some v) None) (f m)) e)

  after_other : (m : Bytes) → bytes_eq n m ≡ false → f m ≡ after m
  after_other m e = sym (ap (λ b. unwrap_or (cond b (Some v) None) (f m)) e)

  others_stay : (ms : List Bytes) → named n ms ≡ false → map old_pair ms ≡ map new_pair ms
  others_stay [] h = refl
  others_stay (m ∷ ms) h = (λ i. (m, after_other m (or_parts (bytes_eq n m) (named n ms) h).0 i) ∷ others_stay ms (or_parts (bytes_eq n m) (named n ms) h).1 i)

  set_at : (m : Bytes) (ms : List Bytes) (b : Bool) → bytes_eq n m ≡ b → named m ms ≡ false
      → with_variable n v (map old_pair ms) ≡ map new_pair (ms ++ cond (named n ms) [] (n ∷ []))
      → cond b ((m, v) ∷ map old_pair ms) ((m, f m) ∷ with_variable n v (map old_pair ms)) ≡ map new_pair ((m ∷ ms) ++ cond (b || named n ms) [] (n ∷ []))
  set_at m ms true e d next =
      (λ i. (m, after_set m e i) ∷ others_stay ms (ap (λ k. named k ms) ((bytes_eq-Decides n m).0 e) ∙ d) i) ∙ ap (λ l. new_pair m ∷ map new_pair l) (sym (append-nil ms))
  set_at m ms false e d next = (λ i. (m, after_other m e i) ∷ next i)

  set_among : (ms : List Bytes) → AreDistinct ms → with_variable n v (map old_pair ms) ≡ map new_pair (ms ++ cond (named n ms) [] (n ∷ []))
  set_among [] d = (λ i. (n, after_set n ((bytes_eq-Decides n n).1 refl) i) ∷ [])
  set_among (m ∷ ms) d =
      ap (λ b. cond b ((m, v) ∷ map old_pair ms) ((m, f m) ∷ with_variable n v (map old_pair ms))) (bytes_eq-sym m n)
      ∙ set_at m ms (bytes_eq n m) refl d.0 (set_among ms d.1)

-- a variable that a line sets
pub variable_set : (lines : List Line) (name value : Bytes) → with_variable name value (variables lines) ≡ variables (line.Variable name value ∷ lines)
unfolding variables
variable_set lines name value =
    let ls = since_clear lines in
    set_among name value (value_of ls) (names ls) (names_distinct ls)
    ∙ ap (λ b. map (new_pair name value (value_of ls)) (names ls ++ cond b [] (name ∷ []))) (named_is_set name ls)

unset : (earlier : List Line) (line : Line) → variable_of_command line ≡ None → set_by earlier ≡ set_by (line ∷ earlier)
unset earlier line e =
    ap (map (λ m. (m, value_of earlier m))) (sym (append-nil (names earlier)))
    ∙ ap (λ o. map (λ m. (m, unwrap_or (if_same m o) (value_of earlier m))) (names earlier ++ new_name o earlier)) (sym e)

-- a line that sets no variable
pub variables_stay : (lines : List Line) (line : Line) → variable_of_command line ≡ None → is_clear line ≡ false → variables lines ≡ variables (line ∷ lines)
unfolding variables
variables_stay lines line e go_on =
    unset (since_clear lines) line e ∙ ap (λ b. set_by (cond b [] (line ∷ since_clear lines))) (sym go_on)
