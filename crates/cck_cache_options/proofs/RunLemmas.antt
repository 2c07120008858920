-- the row of an argument, looked for in runs
use Rattle.std.proofs.Common.{◌≡◌, ◌⊎◌, ℕ, zero, suc, ◌+◌, ◌<◌, Bool, true, false, cond, ◌&&◌, List, [], ◌∷◌, ◌++◌, Option, Some, None, refl, ap, sym, ◌∙◌, inl, inr, nat_eq, length, map, get_or, subst, take, append_assoc, arith}
use Rattle.std.specs.Prelude.{flat_map, fold}
use Rattle.std.specs.List.{AllByRecursion}
use Rattle.std.specs.Option.{is_some}
use Rattle.std.proofs.lemmas.Bool.{false≢true}
use Rattle.std.proofs.lemmas.Bool.Decides.{Decides-eqb}
use Rattle.std.proofs.lemmas.List.{append-nil, map_more, take_more}
use Rattle.std.proofs.lemmas.Grind.{flat_map-append, fold-append}
use Rattle.cck_cache_options.specs.declared.runs.Run.{Run}
use Rattle.cck_cache_options.specs.declared.runs.Runs.{Runs}
use Rattle.cck_cache_options.specs.declared.table.Row.{Row}
use Rattle.cck_cache_options.specs.Runs.{IsMore, IsOpened, IsRun, after_dash, run_entries}
use Rattle.cck_cache_options.specs.Table.{Entry, after_name, better, entries, entry, fits, is_longer, rest_fits}

-- options that an argument is not change nothing
passed_over : (argument : List ℕ) (xs : List Entry) (best : Option Entry) → AllByRecursion (λ o. fits o argument ≡ false) xs → fold (better argument) best xs ≡ best
passed_over argument [] best none = refl
passed_over argument (o ∷ xs) best none =
    ap (λ t. fold (better argument) (cond (t && is_longer o best) (Some o) best) xs) none.0 ∙ passed_over argument xs best none.1

record Begins (t : Bool) (after : Option (List ℕ)) (rest : List ℕ) : Type 0 where
  first : t ≡ true
  others : after ≡ Some rest

begins : (t : Bool) (after : Option (List ℕ)) (rest : List ℕ) → cond t after None ≡ Some rest → Begins t after rest
begins true after rest e = record { first = refl; others = e }
begins false after rest e = absurd (false≢true (ap is_some e))

none_given : {T : Type 0} (rest : List ℕ) → None ≡ Some rest → T
none_given rest e = absurd (false≢true (ap is_some e))

abbrev HasItsBytes : List ℕ → List ℕ → Type 0
HasItsBytes name argument = (after_dash name ≡ None) ⊎ (after_dash name ≡ after_dash argument)

-- an argument that begins with a name has its bytes
named : (name argument rest : List ℕ) → after_name name argument ≡ Some rest → HasItsBytes name argument
named [] argument rest e = inl refl
named (x ∷ []) argument rest e = inl refl
named (x ∷ y ∷ []) argument rest e = inl refl
named (x ∷ y ∷ z ∷ name) [] rest e = none_given rest e
named (x ∷ y ∷ z ∷ name) (p ∷ []) rest e = none_given rest (begins (nat_eq x p) None rest e).others
named (x ∷ y ∷ z ∷ name) (p ∷ q ∷ []) rest e =
    none_given rest (begins (nat_eq y q) None rest (begins (nat_eq x p) (cond (nat_eq y q) None None) rest e).others).others
named (x ∷ y ∷ z ∷ name) (p ∷ q ∷ r ∷ argument) rest e =
    let one = begins (nat_eq x p) (after_name (y ∷ z ∷ name) (q ∷ r ∷ argument)) rest e in
    let two = begins (nat_eq y q) (after_name (z ∷ name) (r ∷ argument)) rest one.others in
    let three = begins (nat_eq z r) (after_name name argument) rest two.others in
    inr (ap (λ (b : ℕ). Some (b, z)) ((Decides-eqb y q).0 two.first) ∙ ap (λ (b : ℕ). Some (q, b)) ((Decides-eqb z r).0 three.first))

fits_bytes : (o : Entry) (argument : List ℕ) → fits o argument ≡ true → HasItsBytes o.name argument
fits_bytes o argument e = by_rest (after_name o.name argument) refl e
  where
    by_rest : (r : Option (List ℕ)) → after_name o.name argument ≡ r → rest_fits o.form r ≡ true → HasItsBytes o.name argument
    by_rest None is q = absurd (false≢true q)
    by_rest (Some rest) is q = named o.name argument rest is

-- an argument of other bytes is no option of a run
unfit : (argument : List ℕ) (bytes : Option (ℕ × ℕ)) (xs : List Entry) → is_some bytes ≡ true → (bytes ≡ after_dash argument → ⊥)
    → AllByRecursion (λ o. after_dash o.name ≡ bytes) xs → AllByRecursion (λ o. fits o argument ≡ false) xs
unfit argument bytes [] some other all = tt
unfit argument bytes (o ∷ xs) some other all = (by_fit (fits o argument) refl, unfit argument bytes xs some other all.1)
  where
    by_bytes : HasItsBytes o.name argument → fits o argument ≡ false
    by_bytes (inl none) = absurd (false≢true (sym (ap is_some none) ∙ ap is_some all.0 ∙ some))
    by_bytes (inr same) = absurd (other (sym all.0 ∙ same))

    by_fit : (t : Bool) → fits o argument ≡ t → fits o argument ≡ false
    by_fit false e = e
    by_fit true e = by_bytes (fits_bytes o argument e)

pub other_run : (argument : List ℕ) (run : Run) (best : Option Entry) → is_some run.bytes ≡ true → (run.bytes ≡ after_dash argument → ⊥) → IsRun run
    → best ≡ fold (better argument) best (run_entries run)
other_run argument run best some other is_run =
    sym (passed_over argument (run_entries run) best (unfit argument run.bytes (run_entries run) some other is_run))

pub run_at : (runs : List Run) (i : ℕ) (d : Run) → i < length runs → AllByRecursion IsRun runs → IsRun (get_or runs i d)
run_at [] i d lt all = absurd (omega arith)
run_at (run ∷ runs) zero d lt all = all.0
run_at (run ∷ runs) (suc i) d lt all = run_at runs i d (omega arith) all.1

-- one more run
pub longest_more : (argument : List ℕ) (runs : List Run) (i : ℕ) (d : Run) (before after : Option Entry) → i < length runs
    → before ≡ fold (better argument) None (flat_map run_entries (take i runs)) → after ≡ fold (better argument) before (run_entries (get_or runs i d))
    → after ≡ fold (better argument) None (flat_map run_entries (take (i + 1) runs))
longest_more argument runs i d before after lt so more =
    let all = flat_map run_entries (take i runs) in
    let run = run_entries (get_or runs i d) in
    more ∙ ap (λ b. fold (better argument) b run) so ∙ sym (fold-append (better argument) None all run)
    ∙ ap (fold (better argument) None)
    (sym (ap (flat_map run_entries) (take_more runs i d lt) ∙ flat_map-append run_entries (take i runs) (get_or runs i d ∷ []) ∙ ap (λ l. all ++ l) (append-nil run)))

-- one more row
pushed : (bytes : Option (ℕ × ℕ)) (xs : List Row) (row : Row) → AllByRecursion (λ o. after_dash o.name ≡ bytes) (entries xs) → after_dash row.name.now ≡ bytes
    → AllByRecursion (λ o. after_dash o.name ≡ bytes) (entries (xs ++ row ∷ []))
pushed bytes [] row all one = (one, tt)
pushed bytes (x ∷ xs) row all one = (all.0, pushed bytes xs row all.1 one)

entries_pushed : (xs : List Row) (row : Row) → entries (xs ++ row ∷ []) ≡ entries xs ++ entry row ∷ []
entries_pushed [] row = refl
entries_pushed (x ∷ xs) row = ap (λ l. entry x ∷ l) (entries_pushed xs row)

pub row_more : (before opened after : Runs) (row : Row) (bytes : Option (ℕ × ℕ)) → IsOpened before bytes opened → bytes ≡ after_dash row.name.now
    → after.done.items ≡ opened.done.items → after.last.bytes ≡ opened.last.bytes → after.last.rows.items ≡ opened.last.rows.items ++ row ∷ []
    → IsMore before (entry row) after
row_more before opened after row bytes is named done kept rows =
    let front = flat_map run_entries opened.done.items in
    record {
      options =
          ap (λ (d : List Run). flat_map run_entries d ++ entries after.last.rows.items) done
          ∙ ap (λ (r : List Row). front ++ entries r) rows
          ∙ ap (λ (l : List Entry). front ++ l) (entries_pushed opened.last.rows.items row)
          ∙ sym (append_assoc front (entries opened.last.rows.items) (entry row ∷ []))
          ∙ ap (λ (l : List Entry). l ++ entry row ∷ []) is.options;
      runs = λ are.
          let were = is.runs are in
          let all = pushed opened.last.bytes opened.last.rows.items row were.1 (sym named ∙ sym is.bytes_are) in (
            subst (AllByRecursion IsRun) (sym done) were.0,
            subst (λ (r : List Row). AllByRecursion (λ (o : Entry). after_dash o.name ≡ after.last.bytes) (entries r)) (sym rows)
                (subst (λ (b : Option (ℕ × ℕ)). AllByRecursion (λ (o : Entry). after_dash o.name ≡ b) (entries (opened.last.rows.items ++ row ∷ []))) (sym kept) all),
          );
    }

-- one more row of a table
pub rows_more : (rows : List Row) (i : ℕ) (d : Row) (before after : List Entry) → i < length rows
    → before ≡ map entry (take i rows) → after ≡ before ++ entry (get_or rows i d) ∷ [] → after ≡ map entry (take (i + 1) rows)
rows_more rows i d before after lt so more =
    more ∙ ap (λ (l : List Entry). l ++ entry (get_or rows i d) ∷ []) so ∙ sym (map_more entry rows i d lt)
