-- The program's map, as a list of pairs.
use Rattle.std.proofs.Common.{◌≡◌, ℕ, Bool, true, false, cond, List, [], ◌∷◌, map, refl, ap, ap₂, ◌∙◌, Option, Some, String}
use Rattle.std.specs.BTreeMap.{insert_entry, is_at}
use Rattle.std.specs.Cmp.Lexicographic.{slice_cmp}
use Rattle.std.specs.FinMap.Entries.{by_order, find, put}
use Rattle.std.specs.Global.{Vec}
use Rattle.std.specs.Map.{lookup}
use Rattle.std.specs.Option.{option_map}
use Rattle.std.specs.Ordering.{eq_by_cmp, match_ordering, nat_cmp}
use Rattle.std.specs.String.{string_bytes, string_cmp}
use Rattle.std.specs.declared.alloc.Global.{Global}
use Rattle.std.specs.declared.cmp.Ordering.{Ordering}
use Rattle.std.specs.declared.cmp.Ordering.TheVariants.{Equal, Greater, Less}
use Rattle.cck_files.specs.ArmedCalls.{Armed}
use Rattle.cck_path.specs.Bytes.{Bytes}
use Rattle.cck_path.specs.TextOrder.{text_cmp}
use Rattle.cck_util.specs.MapStore.{State, stored_pair}

found_by : (b : Bool) (p : String Global × Vec ℕ) (o : Option (Vec ℕ)) (q : Option Bytes) → option_map (λ v. v.items) o ≡ q
    → option_map (λ v. v.items) (cond b (Some (p.1)) o) ≡ cond b (Some (p.1.items)) q
found_by true p o q e = refl
found_by false p o q e = e

-- what a look-up in it finds
pub found_in_map : (key : Bytes) (es : List (String Global × Vec ℕ)) → option_map (λ v. v.items) (lookup (is_at (λ k. slice_cmp nat_cmp key (string_bytes k))) es) ≡ find text_cmp key (map stored_pair es)
found_in_map key [] = refl
found_in_map key (e ∷ es) = found_by (eq_by_cmp text_cmp key (string_bytes (e.0))) e _ _ (found_in_map key es)

by : (r : Ordering) (k : String Global) (v : Vec ℕ) (e : String Global × Vec ℕ) (es : List (String Global × Vec ℕ)) (rest : List (Bytes × Bytes)) → map stored_pair (insert_entry string_cmp es k v) ≡ rest
    → map stored_pair (match_ordering r ((k, v) ∷ e ∷ es) ((e.0, v) ∷ es) (e ∷ insert_entry string_cmp es k v)) ≡ by_order r (stored_pair (k, v) ∷ map stored_pair (e ∷ es)) ((string_bytes (e.0), v.items) ∷ map stored_pair es) (stored_pair e ∷ rest)
by Less k v e es rest h = refl
by Equal k v e es rest h = refl
by Greater k v e es rest h = ap (λ (t : List (Bytes × Bytes)). stored_pair e ∷ t) h

-- what an insertion leaves
pub put_in_map : (es : List (String Global × Vec ℕ)) (k : String Global) (v : Vec ℕ) → map stored_pair (insert_entry string_cmp es k v) ≡ put text_cmp (string_bytes k) v.items (map stored_pair es)
put_in_map [] k v = refl
put_in_map (e ∷ es) k v = by (string_cmp k (e.0)) k v e es (put text_cmp (string_bytes k) v.items (map stored_pair es)) (put_in_map es k v)

-- the same with what was copied
pub kept_in_map : (es new : List (String Global × Vec ℕ)) (k : String Global) (v : Vec ℕ) (key bytes : Bytes) (failures forget : ℕ) (armed : Armed) → new ≡ insert_entry string_cmp es k v
    → string_bytes k ≡ key → v.items ≡ bytes
    → ◌≡◌ {A = State} (record { pairs = map stored_pair new; failures = failures; forget = forget; armed = armed }) (record { pairs = put text_cmp key bytes (map stored_pair es); failures = failures; forget = forget; armed = armed })
kept_in_map es new k v key bytes failures forget armed is same items =
    let pairs : map stored_pair new ≡ put text_cmp key bytes (map stored_pair es) =
    ap (map stored_pair) is ∙ put_in_map es k v ∙ ap₂ (λ a b. put text_cmp a b (map stored_pair es)) same items
    in λ i. record { pairs = pairs i; failures = failures; forget = forget; armed = armed }
