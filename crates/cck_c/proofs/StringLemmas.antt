-- texts that are copied as strings, one after the other
use Rattle.std.proofs.Common.{◌≡◌, ◌∙◌, ◌+◌, ◌<◌, ◌++◌, ◌∷◌, ℕ, List, [], String, length, map, take, get_or, string_bytes, sym, ap, ap₂, subst}
use Rattle.std.specs.Str.{IsUtf8}
use Rattle.std.specs.declared.alloc.Global.{Global}
use Rattle.std.proofs.lemmas.List.{get_or_default, map_push, take_more}
use Rattle.cck_c.specs.Bytes.{texts_of}
use Rattle.cck_c.specs.declared.bytes.Bytes.{Bytes}

-- what is read at a place within the list does not depend on the default
pub utf8_at : (all : List Bytes) (i : ℕ) (e : Bytes) → i < length all → IsUtf8 (get_or all i e).bytes.now → (d : Bytes) → IsUtf8 (get_or all i d).bytes.now
utf8_at all i e within utf8 d = subst (λ (one : Bytes). IsUtf8 one.bytes.now) (get_or_default all i e d within) utf8

-- one more string
pub copied_on : (all : List Bytes) (i : ℕ) (e : Bytes) (strings : List (String Global)) (string : String Global) → i < length all
    → map string_bytes strings ≡ texts_of (take i all) → string_bytes string ≡ (get_or all i e).bytes.now
    → map string_bytes (strings ++ string ∷ []) ≡ texts_of (take (i + 1) all)
copied_on all i e strings string within so_far is =
    let push : List (List ℕ) → List ℕ → List (List ℕ) = λ front last. front ++ last ∷ [] in
    map_push string_bytes strings string ∙ ap₂ push so_far is
    ∙ sym (ap texts_of (take_more all i e within) ∙ map_push (λ (one : Bytes). one.bytes.now) (take i all) (get_or all i e))
