-- listings, part by part, and the bytes of what is listed
use Rattle.std.proofs.Common.{◌≡◌, ℕ, zero, suc, ◌+◌, ◌-◌, ◌/◌, ◌<◌, ◌≤◌, List, [], ◌∷◌, ◌++◌, Bool, true, false, Option, Some, None, length, take, drop, refl, sym, ap, ◌∙◌, append_assoc, append-nil, arith, length-append, length-drop, take-append-drop, map, codes, get_or, drop-cons}
use Rattle.std.proofs.lemmas.Grind.{flat_map-append}
use Rattle.std.specs.List.{flat_map}
use Rattle.std.proofs.lemmas.List.{length-take-le, length-map, map-append, take_more}
use Rattle.std.specs.Global.{Vec}
use Rattle.cck_explain_listing.specs.CutListing.{argument_cut_lines}
use Rattle.cck_path.specs.Bytes.{Bytes, lists_of}
use Rattle.cck_path.specs.Variables.{Variable}
use Rattle.cck_digest.specs.Frames.{frame, framed_list, framed_option, length_bytes}
use Rattle.cck_util.specs.Key.{KeyParts, cache_version, flag_byte, material}
use Rattle.cck_util.specs.Language.{language_name}
use Rattle.cck_util.specs.Variables.{variable_frames}
use Rattle.cck_explain.specs.Key.{PartsAreMaterial, arguments_cut_lines, frame_parts, frames_parts, item_name, length_part, list_parts, material_parts, option_parts, part, variables_parts}
use Rattle.cck_explain.specs.Listing.{Part, cut_into, bytes_of_parts, listed_parts, listed_part, part_line, part_lines, row_size, rows}

pub part_lines-append : (offset : ℕ) (xs ys : List Part)
    → part_lines offset (xs ++ ys) ≡ part_lines offset xs ++ part_lines (offset + length (bytes_of_parts xs)) ys
part_lines-append offset [] ys = ap (λ n. part_lines n ys) (omega arith)
part_lines-append offset (x ∷ xs) ys =
    let line = part_line offset x.name x.bytes in
    let n : (offset + length x.bytes) + length (bytes_of_parts xs) ≡ offset + length (bytes_of_parts (x ∷ xs)) = omega (arith, length-append x.bytes (bytes_of_parts xs)) in
    ap (λ l. line ++ l) (part_lines-append (offset + length x.bytes) xs ys
    ∙ ap (λ m. part_lines (offset + length x.bytes) xs ++ part_lines m ys) n)
    ∙ sym (append_assoc line (part_lines (offset + length x.bytes) xs) (part_lines (offset + length (bytes_of_parts (x ∷ xs))) ys))

pub bytes_of_parts-cut_into : (n : ℕ) (name bytes : Bytes) → bytes_of_parts (cut_into n name bytes) ≡ bytes
bytes_of_parts-cut_into zero name bytes = append-nil bytes
bytes_of_parts-cut_into (suc n) name bytes = ap (λ l. take row_size bytes ++ l) (bytes_of_parts-cut_into n name (drop row_size bytes)) ∙ take-append-drop row_size bytes

pub bytes_of_parts-listed_part : (is_full : Bool) (p : Part) → bytes_of_parts (listed_part is_full p) ≡ p.bytes
bytes_of_parts-listed_part false p = append-nil p.bytes
bytes_of_parts-listed_part true p = bytes_of_parts-cut_into ((length p.bytes - 1) / row_size) p.name p.bytes

bytes_of_parts-append : (xs ys : List Part) → bytes_of_parts (xs ++ ys) ≡ bytes_of_parts xs ++ bytes_of_parts ys
bytes_of_parts-append xs ys = flat_map-append (λ (p : Part). p.bytes) xs ys

pub bytes_of_parts-listed_parts : (is_full : Bool) (parts : List Part) → bytes_of_parts (listed_parts is_full parts) ≡ bytes_of_parts parts
bytes_of_parts-listed_parts is_full [] = refl
bytes_of_parts-listed_parts is_full (p ∷ parts) =
    bytes_of_parts-append (listed_part is_full p) (listed_parts is_full parts) ∙ ap (λ l. l ++ bytes_of_parts (listed_parts is_full parts)) (bytes_of_parts-listed_part is_full p)
    ∙ ap (λ l. p.bytes ++ l) (bytes_of_parts-listed_parts is_full parts)

-- the lines of a part and of the parts after it
pub one_part : (is_full : Bool) (offset : ℕ) (p : Part) (parts : List Part)
    → part_lines offset (listed_parts is_full (p ∷ parts)) ≡ part_lines offset (listed_part is_full p) ++ part_lines (offset + length p.bytes) (listed_parts is_full parts)
one_part is_full offset p parts =
    part_lines-append offset (listed_part is_full p) (listed_parts is_full parts)
    ∙ ap (λ l. part_lines offset (listed_part is_full p) ++ part_lines (offset + length l) (listed_parts is_full parts)) (bytes_of_parts-listed_part is_full p)

-- ---- rows

next_rows : (n : ℕ) → 256 < n → (n - 1) / 256 ≡ suc (((n - 256) - 1) / 256)
next_rows n h = omega (arith, h)

-- the first row of a part of more than 256 bytes, and the others
pub row_of_more : (offset : ℕ) (name bytes : Bytes) → 256 < length bytes
    → part_lines offset (rows (part name bytes))
    ≡ part_line offset name (take 256 bytes) ++ part_lines (offset + 256) (rows (part name (drop 256 bytes)))
row_of_more offset name bytes h =
    ap (λ n. part_lines offset (cut_into n name bytes)) (next_rows (length bytes) h ∙ ap (λ m. suc ((m - 1) / 256)) (sym (length-drop 256 bytes)))
    ∙ ap (λ m. part_line offset name (take 256 bytes) ++ part_lines (offset + m) (rows (part name (drop 256 bytes))))
    (length-take-le 256 bytes (omega (arith, h)))

no_rows : (n : ℕ) → n ≤ 256 → (n - 1) / 256 ≡ 0
no_rows n h = omega (arith, h)

-- the one row of a part of at most 256 bytes
pub row_of_rest : (offset : ℕ) (name bytes : Bytes) → length bytes ≤ 256
    → part_lines offset (rows (part name bytes)) ≡ part_line offset name bytes
row_of_rest offset name bytes h =
    ap (λ n. part_lines offset (cut_into n name bytes)) (no_rows (length bytes) h) ∙ append-nil (part_line offset name bytes)

-- ---- the parts of key material

both : (xs ys : List Part) (s t : Bytes) → bytes_of_parts xs ≡ s → bytes_of_parts ys ≡ t → bytes_of_parts (xs ++ ys) ≡ s ++ t
both xs ys s t e h = bytes_of_parts-append xs ys ∙ ap (λ l. l ++ bytes_of_parts ys) e ∙ ap (λ l. s ++ l) h

of_frame : (name bytes : Bytes) → bytes_of_parts (frame_parts name bytes) ≡ frame bytes
of_frame name bytes = ap (λ l. length_bytes (length bytes) ++ l) (append-nil bytes)

of_frames : (name : Bytes) (i : ℕ) (items : List Bytes) → bytes_of_parts (frames_parts name i items) ≡ flat_map frame items
of_frames name i [] = refl
of_frames name i (item ∷ items) =
    both (frame_parts (item_name name i) item) (frames_parts name (suc i) items) _ _ (of_frame (item_name name i) item) (of_frames name (suc i) items)

of_list : (name : Bytes) (items : List Bytes) → bytes_of_parts (list_parts name items) ≡ framed_list frame items
of_list name items = ap (λ l. length_bytes (length items) ++ l) (of_frames name 0 items)

of_option : (name : Bytes) (o : Option Bytes) → bytes_of_parts (option_parts name o) ≡ framed_option o
of_option name None = refl
of_option name (Some bytes) = ap (λ l. 1 ∷ l) (of_frame name bytes)

of_variables : (name : Bytes) (i : ℕ) (variables : List Variable) → bytes_of_parts (variables_parts name i variables) ≡ flat_map variable_frames variables
of_variables name i [] = refl
of_variables name i (v ∷ variables) =
    let name-part = frame_parts (item_name name i ++ codes ".name") (v.0) in
    let value-part = frame_parts (item_name name i ++ codes ".value") (v.1) in
    both (name-part ++ value-part) (variables_parts name (suc i) variables) _ _
    (both name-part value-part _ _ (of_frame (item_name name i ++ codes ".name") (v.0)) (of_frame (item_name name i ++ codes ".value") (v.1)))
    (of_variables name (suc i) variables)

of_material : (p : KeyParts) → bytes_of_parts (material_parts p) ≡ material p
unfolding material
of_material p =
    let version : List Part = frame_parts (codes "CACHE_VERSION") cache_version in
    let digest : List Part = frame_parts (codes "compiler_digest") p.compiler_digest in
    let plusplus : List Part = part (codes "plusplus") (flag_byte p.plusplus ∷ []) ∷ [] in
    let language : List Part = frame_parts (codes "language") (language_name p.language) in
    let arguments : List Part = list_parts (codes "arguments") p.arguments in
    let extra : List Part = list_parts (codes "extra_hashes") p.extra_hashes in
    let assembler : List Part = option_parts (codes "assembler_digest") p.assembler_digest in
    let variables : List Part = length_part (codes "env_vars") (length p.variables) ∷ variables_parts (codes "env_vars") 0 p.variables in
    let output : List Part = frame_parts (codes "preprocessor_output") p.output in
    both (version ++ digest ++ plusplus ++ language ++ arguments ++ extra ++ assembler ++ variables) output _ _
    (both (version ++ digest ++ plusplus ++ language ++ arguments ++ extra ++ assembler) variables _ _
    (both (version ++ digest ++ plusplus ++ language ++ arguments ++ extra) assembler _ _
    (both (version ++ digest ++ plusplus ++ language ++ arguments) extra _ _
    (both (version ++ digest ++ plusplus ++ language) arguments _ _
    (both (version ++ digest ++ plusplus) language _ _
    (both (version ++ digest) plusplus _ _
    (both version digest _ _
    (of_frame (codes "CACHE_VERSION") cache_version)
    (of_frame (codes "compiler_digest") p.compiler_digest))
    (refl))
    (of_frame (codes "language") (language_name p.language)))
    (of_list (codes "arguments") p.arguments))
    (of_list (codes "extra_hashes") p.extra_hashes))
    (of_option (codes "assembler_digest") p.assembler_digest))
    (ap (λ l. length_bytes (length p.variables) ++ l) (of_variables (codes "env_vars") 0 p.variables)))
    (of_frame (codes "preprocessor_output") p.output)

pub parts_are_material : PartsAreMaterial
parts_are_material is_full p = bytes_of_parts-listed_parts is_full (material_parts p) ∙ of_material p

-- ---- one more item

pub frames_parts-push : (name : Bytes) (i : ℕ) (items : List Bytes) (item : Bytes)
    → frames_parts name i (items ++ item ∷ []) ≡ frames_parts name i items ++ frame_parts (item_name name (i + length items)) item
frames_parts-push name i [] item = ap (λ n. frame_parts (item_name name n) item) (omega arith)
frames_parts-push name i (x ∷ items) item =
    ap (λ l. frame_parts (item_name name i) x ++ l)
    (frames_parts-push name (suc i) items item
    ∙ ap (λ n. frames_parts name (suc i) items ++ frame_parts (item_name name n) item) (omega arith))

-- the frames of one item more, whose value is found by two steps
pub frames_more : {X : Type 0} (h : X → Bytes) (g : Bytes → Bytes) (name : Bytes) (xs : List X) (i : ℕ) (x : X) (named bytes : Bytes)
    → i < length xs → x ≡ get_or xs i x → named ≡ item_name name i → bytes ≡ g (h x)
    → frames_parts name 0 (map g (map h (take (i + 1) xs))) ≡ frames_parts name 0 (map g (map h (take i xs))) ++ frame_parts named bytes
frames_more h g name xs i x named bytes lt at e f =
    let so-far = map g (map h (take i xs)) in
    let count : length so-far ≡ i = length-map (map h (take i xs)) g ∙ length-map (take i xs) h ∙ length-take-le i xs (omega (arith, lt)) in
    let size : 0 + length so-far ≡ i = omega (arith, count) in
    let more : take (i + 1) xs ≡ take i xs ++ x ∷ [] = take_more xs i x lt ∙ ap (λ y. take i xs ++ y ∷ []) (sym at) in
    ap (λ t. frames_parts name 0 (map g (map h t))) more
    ∙ ap (λ t. frames_parts name 0 (map g t)) (map-append h (take i xs) (x ∷ []))
    ∙ ap (frames_parts name 0) (map-append g (map h (take i xs)) (h x ∷ []))
    ∙ frames_parts-push name 0 so-far (g (h x))
    ∙ ap (λ n. frames_parts name 0 so-far ++ frame_parts (item_name name n) (g (h x))) size
    ∙ ap (λ n. frames_parts name 0 so-far ++ frame_parts n (g (h x))) (sym e)
    ∙ ap (λ b. frames_parts name 0 so-far ++ frame_parts named b) (sym f)

-- the lines of the parts from one on
pub lines_from : (is_full : Bool) (offset end : ℕ) (parts : List Part) (i : ℕ) (p : Part)
    → i < length parts → p ≡ get_or parts i p → end ≡ offset + length p.bytes
    → part_lines offset (listed_parts is_full (drop i parts))
    ≡ part_lines offset (listed_part is_full p) ++ part_lines end (listed_parts is_full (drop (i + 1) parts))
lines_from is_full offset end parts i p lt at e =
    let next : suc i ≡ i + 1 = omega arith in
    ap (λ l. part_lines offset (listed_parts is_full l)) (drop-cons parts i p lt ∙ ap (λ q. q ∷ drop (suc i) parts) (sym at) ∙ ap (λ n. p ∷ drop n parts) next)
    ∙ one_part is_full offset p (drop (i + 1) parts)
    ∙ ap (λ n. part_lines offset (listed_part is_full p) ++ part_lines n (listed_parts is_full (drop (i + 1) parts))) (sym e)

-- ---- cuts

-- the lines of the cuts of one argument more
pub one_argument : (basedirs : List Bytes) (arguments : List (Vec ℕ)) (i : ℕ) (argument : Vec ℕ) (lines after total named bytes : Bytes)
    → lines ++ arguments_cut_lines basedirs i (lists_of (drop i arguments)) ≡ total → i < length arguments → argument ≡ get_or arguments i argument
    → named ≡ item_name (codes "arguments") i → bytes ≡ argument.items → after ≡ lines ++ argument_cut_lines basedirs named bytes
    → after ++ arguments_cut_lines basedirs (i + 1) (lists_of (drop (i + 1) arguments)) ≡ total
one_argument basedirs arguments i argument lines after total named bytes so-far lt at e f is =
    let next : suc i ≡ i + 1 = omega arith in
    let split : drop i arguments ≡ argument ∷ drop (i + 1) arguments =
    drop-cons arguments i argument lt ∙ ap (λ q. q ∷ drop (suc i) arguments) (sym at) ∙ ap (λ n. argument ∷ drop n arguments) next in
    let others = lists_of (drop (i + 1) arguments) in
    let rest = arguments_cut_lines basedirs (i + 1) others in
    let one = argument_cut_lines basedirs (item_name (codes "arguments") i) argument.items in
    let all : arguments_cut_lines basedirs i (lists_of (drop i arguments)) ≡ one ++ rest =
    ap (λ l. arguments_cut_lines basedirs i (lists_of l)) split ∙ ap (λ n. one ++ arguments_cut_lines basedirs n others) next in
    let line : argument_cut_lines basedirs named bytes ≡ one =
    ap (λ n. argument_cut_lines basedirs n bytes) e ∙ ap (argument_cut_lines basedirs (item_name (codes "arguments") i)) f in
    ap (λ l. l ++ rest) (is ∙ ap (λ l. lines ++ l) line) ∙ append_assoc lines one rest ∙ sym (ap (λ l. lines ++ l) all) ∙ so-far
