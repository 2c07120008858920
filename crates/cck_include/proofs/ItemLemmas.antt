-- what is before the marks that are left
use Rattle.std.proofs.Common.{◌≡◌, ◌≢◌, ℕ, ◌+◌, ◌<◌, Bool, true, false, ◌==◌, List, [], ◌∷◌, ◌++◌, length, drop, take, get_or, refl, sym, ap, ap₂, ◌∙◌, subst, arith, Some, None, inl, inr, length-append, append_assoc}
use Rattle.std.proofs.lemmas.Bool.{cases_lt}
use Rattle.std.proofs.lemmas.List.{drop_at, drop_more, length-drop}
use Rattle.memchr.specs.Find.{IsFirstByte, is_byte}
use Rattle.cck_include.specs.Marks.{Mark, Name, Refusal, Malformed, Short, Marker, Hidden, Inclusion, Plain, what, is_system, Unnamed, Named, Marks, at_end, unnamed, named, malformed, hidden, hidden_to_end, refused, plain}
use Rattle.cck_include.specs.Lines.{IsNamedAt, IsUnnamedTo}
use Rattle.cck_include.specs.Items.{IsItem}
use Rattle.cck_include.specs.Markers.{Unread, MarksLeft, Yields}
use Rattle.cck_include.proofs.OneList.{one_list}
use Rattle.cck_include.proofs.EachText.{no_bytes, what_marker, unnamed_shorter}
use Rattle.cck_include.proofs.Cuts.{byte_at, byte_nowhere}

-- what isn't short has a byte
pub some_byte : (starts_line : Bool) (text : List ℕ) → what starts_line text ≢ Short → 0 < length text
some_byte starts_line text h =
    elim (cases_lt 0 (length text)) [
      | inl some ↦ some
      | inr none ↦ absurd (h (no_bytes starts_line text none))
    ]

-- nothing is left after all of a text
none_left : (starts_line : Bool) (text : List ℕ) (marks : List Mark) → Marks starts_line (drop (length text) text) marks → marks ≡ []
none_left starts_line text marks left =
    one_list starts_line (drop (length text) text) marks [] left (at_end (no_bytes starts_line (drop (length text) text) (omega (arith, length-drop (length text) text))) refl)

pub plain_item : (starts_line : Bool) (text : List ℕ) (d : ℕ) → what starts_line text ≡ Plain → 0 < length text → IsItem starts_line text [] 1 (get_or text 0 d == 10)
plain_item starts_line text d is some = (omega arith, omega arith, λ marks left. plain is (get_or text 0 d) (drop 1 text) (drop_more text 0 d some) left)

pub inclusion_item : (starts_line : Bool) (text : List ℕ) → what starts_line text ≡ Inclusion → 0 < length text → IsItem starts_line text (Refusal ∷ []) (length text) false
inclusion_item starts_line text is some = (some, omega arith, λ marks left. refused is (ap (λ (ms : List Mark). Refusal ∷ ms) (none_left false text marks left)))

pub malformed_item : (starts_line : Bool) (text : List ℕ) → what starts_line text ≡ Marker → 0 < length text → (Unnamed text → ⊥) × (Named text → ⊥) → IsItem starts_line text (Malformed ∷ []) (length text) false
malformed_item starts_line text is some nothing =
    (some, omega arith, λ marks left. malformed is nothing.0 nothing.1 (ap (λ (ms : List Mark). Malformed ∷ ms) (none_left false text marks left)))

pub unnamed_item : (starts_line : Bool) (text : List ℕ) (end : ℕ) → what starts_line text ≡ Marker → IsUnnamedTo text end → IsItem starts_line text [] end false
unnamed_item starts_line text end is (marker, ends) =
    let hash = what_marker starts_line text is in
    let shorter = unnamed_shorter hash.0 text hash.1 marker in
    let long = length-append marker.front (10 ∷ marker.rest) in
    let following : drop end text ≡ 10 ∷ marker.rest = ap (drop end) marker.is ∙ drop_at marker.front (10 ∷ marker.rest) end (sym ends) in (
      omega (arith, shorter, long, ends, ap length marker.is),
      omega (arith, long, ends, ap length marker.is),
      λ marks left. unnamed is marker (subst (λ (rest : List ℕ). Marks false rest marks) following left),
    )

pub named_item : (starts_line : Bool) (text : List ℕ) (begin end : ℕ) (name : List ℕ) (is_system_in : Bool) → what starts_line text ≡ Marker
    → (marker : Named text) × IsNamedAt text begin end marker × (marker.name ≡ name) × (is_system marker.rest ≡ is_system_in) → IsItem starts_line text (Name name is_system_in ∷ []) end false
named_item starts_line text begin end name is_system_in is (marker, at, its_name, its_system) =
    let front = marker.front ++ 34 ∷ marker.name in
    let cut : text ≡ front ++ marker.rest = marker.is ∙ sym (append_assoc marker.front (34 ∷ marker.name) marker.rest) in
    let long : length front ≡ end = omega (arith, length-append marker.front (34 ∷ marker.name), at.begins, at.ends) in
    let following : drop end text ≡ marker.rest = ap (drop end) cut ∙ drop_at front marker.rest end long in (
      omega (arith, at.begins, at.ends),
      at.within,
      λ marks left. named is marker marks (subst (λ (rest : List ℕ). Marks false rest marks) following left) (ap₂ (λ n s. Name n s ∷ marks) (sym its_name) (sym its_system)),
    )

pub hidden_item : (starts_line : Bool) (text : List ℕ) (end : ℕ) → what starts_line text ≡ Hidden → IsFirstByte (is_byte 10) text (Some end) → IsItem starts_line text [] (end + 1) true
hidden_item starts_line text end is found =
    let cut = byte_at 10 text end found in (
      omega arith,
      omega (arith, cut.2),
      λ marks left. hidden is (take end text) (drop (end + 1) text) cut.0 cut.1 left,
    )

pub hidden_rest : (starts_line : Bool) (text : List ℕ) → what starts_line text ≡ Hidden → IsFirstByte (is_byte 10) text None → Marks starts_line text []
hidden_rest starts_line text is found = hidden_to_end is (byte_nowhere 10 text found) refl

pub nothing_left : (starts_line : Bool) (text : List ℕ) → what starts_line text ≡ Short → Marks starts_line text []
nothing_left starts_line text is = at_end is refl

-- two items in a row
pub gives_both : (old middle new : Unread) (first second : List Mark) → Yields old first middle → Yields middle second new → Yields old (first ++ second) new
gives_both old middle new first second f g = λ marks left. subst (λ (ms : List Mark). MarksLeft old ms) (sym (append_assoc first second marks)) (f (second ++ marks) (g marks left))

pub gives_nothing : (old : Unread) → Yields old [] old
gives_nothing old = λ marks left. left
