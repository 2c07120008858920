-- The calls of the witness: what is hashed for them, their keys, what is recorded of them, and their steps.
use Rattle.std.proofs.Common.{◌≡◌, ◌≢◌, ◌⊎◌, inl, inr, ◌<◌, ◌^◌, lit<, nat_lt, pos, w64, Bool, true, false, cond, List, [], ◌∷◌, length, refl, sym, ap, ap₂, ◌∙◌, ◌&&◌, subst, arith, ℕ, map, option_map, Some, None, Ok, codes}
use Rattle.std.specs.Prelude.{All, Contains}
use Rattle.std.specs.FinMap.{empty, entries, get, get-from_sorted, insert}
use Rattle.std.specs.FinMap.Entries.{find}
use Rattle.std.specs.Cmp.{tied_itself}
use Rattle.std.specs.Cmp.Lexicographic.{nat_list_cmp_total}
use Rattle.std.specs.List.{AllByRecursion, list_all}
use Rattle.std.specs.Option.{option_and_then}
use Rattle.std.specs.Result.{result_ok}
use Rattle.std.specs.Ordering.{eq_by_cmp, is_eq}
use Rattle.std.specs.Str.{bytes_eq, is_utf8}
use Rattle.std.proofs.lemmas.Bool.{and_parts, false≢true, ltb-true}
use Rattle.std.proofs.lemmas.Int.{fits_signed_from_abs}
use Rattle.std.proofs.lemmas.List.Elements.{All-nil, All-cons}
use Rattle.std.proofs.lemmas.Str.{IsUtf8-from_ascii, is_utf8-from_IsUtf8}
use Rattle.std.proofs.lemmas.Str.Ascii.{IsAscii-from_all}
use Rattle.std.proofs.lemmas.Option.{same_Some, none-some}
use Rattle.cck_compiler.specs.Arguments.{archs, is_multiarch}
use Rattle.cck_digest.specs.Digest.{digest_text, hex_text}
use Rattle.cck_digest.specs.Frames.{length_bytes}
use Rattle.cck_entry.specs.Entry.{Entry, EntryText}
use Rattle.cck_entry.specs.Find.{found_in}
use Rattle.cck_entry.specs.Results.{Fits, FitsMoment, FitsResult, KeyResult}
use Rattle.cck_entry.specs.Writing.{entry_bytes}
use Rattle.cck_files.specs.ArmedCalls.{new_armed}
use Rattle.cck_files.specs.FileMap.{FileNode, file_at, file_in, folder_at, folder_in, metadata_of}
use Rattle.cck_include.specs.Gathered.{Digested, include_of}
use Rattle.cck_include.specs.Include.{Include}
use Rattle.cck_include.specs.Recorded.{has_date, has_time, has_timestamp, is_timed, recorded}
use Rattle.cck_path.specs.Bytes.{Bytes}
use Rattle.cck_path.specs.Path.{Path, components, path_cmp}
use Rattle.cck_path.specs.Text.{join_path, path_text}
use Rattle.cck_path.specs.TextOrder.{text_cmp}
use Rattle.cck_compiler.specs.PreprocessorKey.{RequestParts, compiler_material, preprocessor_material}
use Rattle.cck_util.specs.MapStore.{State, map_store, empty_state}
use Rattle.cck_strip.specs.Cuts.{stripped}
use Rattle.cck_strip.specs.Text.{longest_prefix, text_site}
use Rattle.cck_util.specs.Key.{material}
use Rattle.cck_hasher.proofs.Elements.{first_in, one_of, only_one}
use Rattle.cck_hasher.proofs.Includes.{entries-alone, match_by_digest, same_ok}
use Rattle.c_cache_keys.proofs.KeySame.{of_both}
use Rattle.c_cache_keys.proofs.WalkExamples.{header_accepted, header_alone, header_named, input_meant}
use Rattle.cck_hasher.specs.Call.{Call, Fault, Keyed, calls_of}
use Rattle.cck_hasher.specs.Keys.{extra_texts, input_file, input_recorded, is_direct, key_material, plain_key, plain_parts, preprocessor_key_of, printed, request_parts, text_of, uses_cache}
use Rattle.c_cache_keys.specs.Hits.{CanStore}
use Rattle.c_cache_keys.specs.Premises.{IsHashed, CollisionFree, Premises, DeterministicPreprocessor, of_file, of_folder, of_key, of_time}
use Rattle.cck_hasher.specs.Step.{Opened, OwnPair, Step, asked, gives, matched, matching, nothing, puts}
use Rattle.cck_hasher.specs.Walk.{Accepted, AreRecorded, IsRecorded, Walk, input_path}
use Rattle.c_cache_keys.specs.Witness.{PremisesCanHold, file_of, first_call, header_text, witness_input_text, path_in_w, printed_text, second, second_call, sized, witness_call, witness_done, witness_files, witness_hash, witness_nodes, witness_run, witness_world}
use Rattle.cck_hasher.specs.World.{HasSize, setting}

abbrev pub input_node : FileNode
input_node = file_of witness_input_text

abbrev included_node : FileNode
included_node = file_of header_text

abbrev input_in_w : Path
input_in_w = path_in_w (codes "a.c")

abbrev included_in_w : Path
included_in_w = path_in_w (codes "h.h")

-- ---- the files

node_at : (p : Path) → get witness_files.nodes p ≡ find path_cmp p witness_nodes
node_at p = get-from_sorted path_cmp witness_nodes p tt

pub input_at : file_at witness_files input_in_w ≡ Ok input_node
unfolding file_at
input_at = ap file_in (node_at input_in_w)

pub included_at : file_at witness_files included_in_w ≡ Ok included_node
unfolding file_at
included_at = ap file_in (node_at included_in_w)

-- there are no others
each_file : (p : Path) (n : FileNode) → file_at witness_files p ≡ Ok n → (n ≡ input_node) ⊎ (n ≡ included_node)
unfolding file_at
each_file p n e = by (eq_by_cmp path_cmp p input_in_w) (eq_by_cmp path_cmp p included_in_w) (sym (ap file_in (node_at p)) ∙ e)
  where
    by : (a b : Bool) → file_in (cond a (Some input_node) (cond b (Some included_node) None)) ≡ Ok n → (n ≡ input_node) ⊎ (n ≡ included_node)
    by true b is = inl (sym (same_ok input_node n is))
    by false true is = inr (sym (same_ok included_node n is))
    by false false is = absurd cc

no_folder : (p : Path) → folder_at witness_files p ≡ Ok tt → ⊥
unfolding folder_at
no_folder p e = by (eq_by_cmp path_cmp p input_in_w) (eq_by_cmp path_cmp p included_in_w) (sym (ap folder_in (node_at p)) ∙ e)
  where
    by : (a b : Bool) → folder_in (cond a (Some input_node) (cond b (Some included_node) None)) ≡ Ok tt → ⊥
    by true b is = cc
    by false true is = cc
    by false false is = cc

pub input_read : (object : Bytes) → file_at witness_files (components (input_path (witness_call object))) ≡ Ok input_node
input_read object = ap (file_at witness_files) (input_meant witness_world (witness_call object) refl refl) ∙ input_at

input_digest : recorded (setting witness_world first_call) input_node ≡ Some (digest_text witness_hash witness_input_text)
unfolding recorded has_time has_date has_timestamp
input_digest = refl

included_digest : recorded (setting witness_world first_call) included_node ≡ Some (digest_text witness_hash header_text)
unfolding recorded has_time has_date has_timestamp
included_digest = refl

-- ---- the keys

abbrev witness_parts : RequestParts
witness_parts = request_parts witness_world first_call.request (input_path first_call)

abbrev witness_material : Bytes
witness_material = preprocessor_material witness_parts [] (digest_text witness_hash witness_input_text)

-- the place of an object is no part of the key
pub same_parts : (object : Bytes) → request_parts witness_world (witness_call object).request (input_path (witness_call object)) ≡ witness_parts
unfolding request_parts is_multiarch archs
same_parts object = refl

pub extra_is : (object : Bytes) → extra_texts witness_world (witness_call object) ≡ Some []
unfolding extra_texts
extra_is object = refl

used : (object : Bytes) → uses_cache witness_world (witness_call object).request ≡ true
unfolding uses_cache is_direct
used object = refl

input_is : (object : Bytes) → input_file witness_world (witness_call object) ≡ Some input_node
unfolding input_file
input_is object = ap result_ok (input_read object)

recorded_is : (object : Bytes) → input_recorded witness_world (witness_call object) ≡ Some (digest_text witness_hash witness_input_text)
unfolding input_recorded
recorded_is object = ap (option_and_then (recorded (setting witness_world first_call))) (input_is object) ∙ input_digest

material_is : (object : Bytes) → key_material witness_world (witness_call object) ≡ Some witness_material
unfolding key_material
material_is object =
    let c = witness_call object in
    let made : List Bytes → Bytes → Bytes = preprocessor_material (request_parts witness_world c.request (input_path c)) in
    ap (λ b. cond b (of_both made (extra_texts witness_world c) (input_recorded witness_world c)) None) (used object)
    ∙ ap₂ (of_both made) (extra_is object) (recorded_is object)
    ∙ ap (λ parts. Some (preprocessor_material parts [] (digest_text witness_hash witness_input_text))) (same_parts object)

abbrev pub witness_key : Bytes
witness_key = digest_text witness_hash witness_material

pub key_is : (object : Bytes) → preprocessor_key_of witness_world (witness_call object) ≡ Some witness_key
unfolding preprocessor_key_of
key_is object = ap (option_map (digest_text witness_hash)) (material_is object)

prints : printed witness_world first_call ≡ Some printed_text
unfolding printed
prints = refl

abbrev pub witness_object_key : Bytes
witness_object_key = digest_text witness_hash (material (plain_parts witness_world first_call.request [] printed_text))

plain_is : plain_key witness_world first_call ≡ Some witness_object_key
unfolding plain_key text_of
plain_is = ap₂ (of_both (λ extra text. digest_text witness_hash (material (plain_parts witness_world first_call.request extra text)))) (extra_is (codes "a.o")) prints

-- ---- what is hashed

material_size : length witness_material ≡ 170
unfolding preprocessor_material compiler_material request_parts join_path is_multiarch archs length_bytes
material_size = refl

-- the string that has a digest
abbrev hashed_of : Bytes → Bytes
hashed_of digest =
    cond (bytes_eq digest (digest_text witness_hash witness_input_text)) witness_input_text
    (cond (bytes_eq digest (digest_text witness_hash header_text)) header_text witness_material)

untimed : (n : FileNode) → (n ≡ input_node) ⊎ (n ≡ included_node) → is_timed n.contents ≡ false
unfolding has_date has_timestamp
untimed n (inl is) = ap (λ (v : FileNode). is_timed v.contents) is
untimed n (inr is) = ap (λ (v : FileNode). is_timed v.contents) is

pub plain_stamp : (p : Path) (n : FileNode) → file_at witness_files p ≡ Ok n → has_timestamp n.contents ≡ false
unfolding has_timestamp
plain_stamp p n file = elim (each_file p n file) [
  | inl is ↦ ap (λ (v : FileNode). has_timestamp v.contents) is
  | inr is ↦ ap (λ (v : FileNode). has_timestamp v.contents) is
]

of_contents : (n : FileNode) → (n ≡ input_node) ⊎ (n ≡ included_node) → hashed_of (digest_text witness_hash n.contents) ≡ n.contents
of_contents n (inl is) = subst (λ (v : FileNode). hashed_of (digest_text witness_hash v.contents) ≡ v.contents) (sym is) refl
of_contents n (inr is) = subst (λ (v : FileNode). hashed_of (digest_text witness_hash v.contents) ≡ v.contents) (sym is) refl

of_material : hashed_of witness_key ≡ witness_material
of_material = ap (λ n. hashed_of (hex_text (sized n))) material_size

material_is_determined : (object x : Bytes) → IsHashed witness_world (witness_call object) x → hashed_of (digest_text witness_hash x) ≡ x
material_is_determined object x (of_file p n file is) =
    ap (λ v. hashed_of (digest_text witness_hash v)) is ∙ of_contents n (each_file p n file) ∙ sym is
material_is_determined object x (of_folder p folder is) = absurd (no_folder p folder)
material_is_determined object x (of_time p n file timed is) =
    let not_timed : is_timed n.contents ≡ false = untimed n (each_file p n file) in
    let both : true ≡ false = sym timed ∙ not_timed in
    absurd cc
material_is_determined object x (of_key is) =
    let same : witness_material ≡ x = same_Some witness_material x (sym (material_is object) ∙ is) in
    ap (λ v. hashed_of (digest_text witness_hash v)) (sym same) ∙ of_material ∙ same

-- ---- the premises

abbrev both_calls : List (Call (Unit {0}))
both_calls = calls_of witness_run

one_call : (c : Call (Unit {0})) → Contains both_calls c → (object : Bytes) × (witness_call object ≡ c)
one_call c at = elim (one_of first_call c (second_call ∷ []) at) [
  | inl is ↦ (codes "a.o", is)
  | inr last ↦ (codes "b.o", only_one second_call c last)
]

no_shared_digest : CollisionFree witness_world both_calls
no_shared_digest c d x y at-c at-d of-c of-d same =
    let (first, is-c) = one_call c at-c in
    let (second, is-d) = one_call d at-d in
    sym (material_is_determined first x (subst (λ v. IsHashed witness_world v x) (sym is-c) of-c))
    ∙ ap hashed_of same ∙ material_is_determined second y (subst (λ v. IsHashed witness_world v y) (sym is-d) of-d)

prints_again : DeterministicPreprocessor witness_world both_calls
unfolding printed
prints_again c d text before is walk agree = is

pub premises : Premises witness_world both_calls
premises = record {
  hash = no_shared_digest;
  requests = λ off. absurd (false≢true (sym off));
  compiler = prints_again;
  options = record { skip_system_headers = refl; ignore_time_macros = refl; file_stat_matches = refl };
}

pub witness_size : HasSize witness_hash
witness_size fed = refl

-- ---- what is recorded

abbrev witness_digested : Digested
witness_digested = (digest_text witness_hash header_text, codes "/w/h.h")

abbrev pub witness_include : Include
witness_include = include_of (second 5) witness_digested (metadata_of included_node)

include_path : components (codes "/w/h.h") ≡ included_in_w
unfolding components
include_path = refl

accepted : Walk witness_world first_call printed_text Accepted
accepted = header_accepted witness_world first_call refl refl included_node included_at (refl, refl) (λ none. (none-some _ (sym none ∙ included_digest)))

are_recorded : AreRecorded witness_world first_call printed_text (witness_include ∷ [])
unfolding path_text
are_recorded = record {
  ordered = λ i j d less within. absurd (omega (arith, less, within));
  each = λ i at.
      let is : witness_include ≡ i = only_one witness_include i at in
      subst (IsRecorded witness_world first_call printed_text) is (record {
        path = included_in_w;
        named = header_named witness_world first_call refl refl;
        node = included_node;
        file = included_at;
        written = refl;
        digest = included_digest;
        size = refl;
        modified = refl;
        changed = refl;
      });
  all = λ p n named file.
      let is : p ≡ included_in_w = header_alone witness_world first_call refl refl p named in
      (witness_include, first_in witness_include [], ap path_text (sym is));
}

-- ---- the entry

abbrev pub witness_entry : Entry
witness_entry = insert empty witness_object_key (witness_include ∷ [])

abbrev pub only_result : KeyResult
only_result = (witness_object_key, witness_include ∷ [])

pub entry_is : entries witness_entry ≡ only_result ∷ []
entry_is = entries-alone witness_object_key (witness_include ∷ [])

abbrev pub witness_bytes : Bytes
witness_bytes = entry_bytes (only_result ∷ [])

each_ascii : (text : Bytes) → list_all (λ b. nat_lt b 128) text ≡ true → All (λ b. b < 128) text
each_ascii [] e = All-nil (λ b. b < 128)
each_ascii (b ∷ text) e =
    let parts = and_parts (nat_lt b 128) (list_all (λ b. nat_lt b 128) text) e in
    All-cons (λ b. b < 128) b text (ltb-true b 128 parts.0) (each_ascii text parts.1)

ascii_text : (text : Bytes) → list_all (λ b. nat_lt b 128) text ≡ true → is_utf8 text ≡ true
ascii_text text e = is_utf8-from_IsUtf8 text (IsUtf8-from_ascii text (IsAscii-from_all text (each_ascii text e)))

fits_second : FitsMoment (second 1)
fits_second = (fits_signed_from_abs w64 (pos 1) (lit< tt), lit< tt)

fits_include : Fits witness_include
fits_include = record {
  path = lit< tt;
  digest = lit< tt;
  digest_text = ascii_text (digest_text witness_hash header_text) refl;
  size = lit< tt;
  modified = fits_second;
  changed = fits_second;
}

key_size : length (material (plain_parts witness_world first_call.request [] printed_text)) ≡ 121
unfolding plain_parts stripped text_site longest_prefix material length_bytes
key_size = refl

key_is_text : is_utf8 witness_object_key ≡ true
key_is_text = ap (λ n. is_utf8 (hex_text (sized n))) key_size ∙ ascii_text (hex_text (sized 121)) refl

fits_result : FitsResult only_result
fits_result = record {
  key = lit< tt;
  key_text = key_is_text;
  count = lit< tt;
  includes = (fits_include, tt);
}

pub entry_text : EntryText witness_entry witness_bytes
entry_text = record {
  count = subst (λ (rs : List KeyResult). length rs < 2 ^ 64) (sym entry_is) (lit< tt);
  each = subst (AllByRecursion FitsResult) (sym entry_is) (fits_result, tt);
  text = ap entry_bytes (sym entry_is);
}

pub own_pair : OwnPair witness_world first_call witness_object_key witness_key witness_bytes
own_pair = record {
  is_key = key_is (codes "a.o");
  is_plain = plain_is;
  text = printed_text;
  is_text = prints;
  accepted = accepted;
  includes = witness_include ∷ [];
  recorded = are_recorded;
  some = λ e. cc;
  is_entry = entry_text;
}

pub matches_again : (object : Bytes) → matching witness_world (witness_call object) witness_include ≡ true
matches_again object = match_by_digest (setting witness_world first_call) witness_files witness_include included_in_w included_node include_path included_at refl included_digest

-- ---- the steps

-- a new store after n calls on it, where it holds these pairs
abbrev after_calls : ℕ → List (Bytes × Bytes) → State
after_calls calls pairs = record empty_state { pairs = pairs; armed = record new_armed { calls = calls } }

abbrev pub holds_entry : State
holds_entry = after_calls 2 ((witness_key, witness_bytes) ∷ [])

abbrev pub asked_again : State
asked_again = after_calls 3 holds_entry.pairs

opened : (object : Bytes) → Opened witness_world (witness_call object)
opened object = record {
  extra = λ none. (none-some _ (sym none ∙ extra_is object));
  input = λ _ none. (none-some _ (sym none ∙ input_is object));
}

module _ (F : Type 0) where
  pub first_step : Step witness_world map_store first_call F empty_state (Keyed witness_object_key true) holds_entry
  first_step =
      asked (opened (codes "a.o")) witness_key (key_is (codes "a.o")) refl (Ok None) (after_calls 1 []) (refl, refl, refl) None (nothing refl)
      (gives witness_object_key plain_is refl (puts witness_key witness_bytes own_pair (Ok tt) (refl, refl)))

  pub found_again : Some witness_bytes ≡ find text_cmp witness_key holds_entry.pairs
  found_again = sym (ap (λ o. cond (is_eq o) (Some witness_bytes) None) (tied_itself nat_list_cmp_total witness_key))

  pub second_step : Step witness_world map_store second_call F holds_entry (Keyed witness_object_key false) asked_again
  second_step =
      let all : list_all (matching witness_world second_call) (witness_include ∷ []) ≡ true = ap (λ b. b && true) (matches_again (codes "b.o")) in
      asked (opened (codes "b.o")) witness_key (key_is (codes "b.o")) refl (Ok (Some witness_bytes)) asked_again (refl, found_again, refl) (Some (Keyed witness_object_key false))
      (matched witness_bytes witness_object_key witness_entry (witness_include ∷ []) refl entry_text
      (subst (λ (rs : List KeyResult). Contains rs only_result) (sym entry_is) (first_in only_result [])) all
      (inl (ap (found_in (matching witness_world second_call)) entry_is ∙ ap (λ b. cond b (Some only_result) None) all))) (refl, refl)

pub no_fault : (c : Call (Unit {0})) → Fault (witness_done c) → ⊥
no_fault c (inl less) = omega (arith, less)
no_fault c (inr top) = omega (arith, top)

-- the key of the first call can be stored
pub can_store : CanStore witness_world (witness_done first_call) witness_key printed_text
can_store = record {
  key = key_is (codes "a.o");
  is_text = prints;
  accepted = accepted;
  path = included_in_w;
  named = header_named witness_world first_call refl refl;
  node = included_node;
  file = included_at;
  no_fault = no_fault first_call;
}

two_requests : first_call.request ≢ second_call.request
two_requests same =
    let both : codes "a.o" ∷ [] ≡ codes "b.o" ∷ [] = ap (λ request. map (λ output. output.path) request.arguments.outputs) same in
    let initial : ◌≡◌ {A = ℕ} 97 98 = cc in
    omega (arith, initial)

pub premises_can_hold : PremisesCanHold
premises_can_hold = record {
  two_requests = two_requests;
  size = witness_size;
  is_empty = λ k bytes held. (none-some _ held);
  premises = premises;
  no_fault = no_fault;
  key = witness_object_key;
  end = asked_again;
  run = (holds_entry, first_step (Fault (witness_done first_call)), (asked_again, second_step (Fault (witness_done second_call)), refl));
  no_store_failure = no_fault first_call;
}
