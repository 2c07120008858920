-- a text has no two lists of marks
use Rattle.std.proofs.Common.{◌≡◌, ◌≢◌, ℕ, suc, Bool, true, false, ◌==◌, List, [], ◌∷◌, ◌++◌, refl, sym, ap₂, ◌∙◌, subst, arith}
use Rattle.std.specs.Prelude.{All}
use Rattle.cck_include.specs.Marks.{Mark, Name, Refusal, Malformed, Short, Marker, Hidden, Inclusion, Plain, what, IsFree, IsOneLine, IsUnquoted, IsClosed, is_system, Unnamed, Named, Marks, at_end, unnamed, named, malformed, hidden, hidden_to_end, refused, plain}

first_same : {A : Type 0} (a b : A) (xs ys : List A) → a ∷ xs ≡ b ∷ ys → a ≡ b
first_same a b xs ys e = cc

others_same : {A : Type 0} (a b : A) (xs ys : List A) → a ∷ xs ≡ b ∷ ys → xs ≡ ys
others_same a b xs ys e = cc

here : (P : ℕ → Type 0) (x : ℕ) (xs : List ℕ) → All P (x ∷ xs) → P x
here P x xs h = h 0 x (omega arith)

there : (P : ℕ → Type 0) (x : ℕ) (xs : List ℕ) → All P (x ∷ xs) → All P xs
there P x xs h = λ k d l. h (suc k) d (omega arith)

-- the first place of a byte that none before it is
pub stop_same : (stop : ℕ) (a b x y : List ℕ) → All (λ v. v ≢ stop) a → All (λ v. v ≢ stop) b → a ++ stop ∷ x ≡ b ++ stop ∷ y → (a ≡ b) × (x ≡ y)
stop_same stop [] [] x y p q e = (refl, others_same stop stop x y e)
stop_same stop [] (c ∷ b) x y p q e = absurd (here (λ v. v ≢ stop) c b q (sym (first_same stop c x (b ++ stop ∷ y) e)))
stop_same stop (c ∷ a) [] x y p q e = absurd (here (λ v. v ≢ stop) c a p (first_same c stop (a ++ stop ∷ x) y e))
stop_same stop (c ∷ a) (d ∷ b) x y p q e =
    let more = stop_same stop a b x y (there (λ v. v ≢ stop) c a p) (there (λ v. v ≢ stop) d b q) (others_same c d (a ++ stop ∷ x) (b ++ stop ∷ y) e) in
    (ap₂ (λ v vs. v ∷ vs) (first_same c d (a ++ stop ∷ x) (b ++ stop ∷ y) e) more.0, more.1)

pub some_nothing : {A : Type 0} {v : A} {vs : List A} → v ∷ vs ≡ [] → ⊥
some_nothing e = cc

pub middle_some : {A : Type 0} (a : List A) (x : A) (b : List A) → a ++ x ∷ b ≡ [] → ⊥
middle_some [] x b e = some_nothing e
middle_some (y ∷ a) x b e = some_nothing e

-- a line with no such byte has no first place of it
pub no_stop : (stop : ℕ) (s a x : List ℕ) → All (λ v. v ≢ stop) s → s ≡ a ++ stop ∷ x → ⊥
no_stop stop [] [] x p e = some_nothing (sym e)
no_stop stop [] (c ∷ a) x p e = some_nothing (sym e)
no_stop stop (c ∷ s) [] x p e = here (λ v. v ≢ stop) c s p (first_same c stop s x e)
no_stop stop (c ∷ s) (d ∷ a) x p e = no_stop stop s a x (there (λ v. v ≢ stop) c s p) (others_same c d s (a ++ stop ∷ x) e)

-- before a quote and before a line's end the fronts differ
pub not_both : (a b x y : List ℕ) → IsFree a → IsFree b → a ++ 10 ∷ x ≡ b ++ 34 ∷ y → ⊥
not_both [] [] x y p q e = omega (arith, first_same 10 34 x y e)
not_both [] (c ∷ b) x y p q e = (here (λ v. (v ≢ 34) × (v ≢ 10)) c b q).1 (sym (first_same 10 c x (b ++ 34 ∷ y) e))
not_both (c ∷ a) [] x y p q e = (here (λ v. (v ≢ 34) × (v ≢ 10)) c a p).0 (first_same c 34 (a ++ 10 ∷ x) y e)
not_both (c ∷ a) (d ∷ b) x y p q e = not_both a b x y (there (λ v. (v ≢ 34) × (v ≢ 10)) c a p) (there (λ v. (v ≢ 34) × (v ≢ 10)) d b q) (others_same c d (a ++ 10 ∷ x) (b ++ 34 ∷ y) e)

-- a name runs to the first quote, or to the end
name_same : (n m r s : List ℕ) → IsUnquoted n → IsUnquoted m → IsClosed r → IsClosed s → n ++ r ≡ m ++ s → (n ≡ m) × (r ≡ s)
name_same [] [] r s p q c d e = (refl, e)
name_same [] (y ∷ m) [] s p q c d e = absurd (some_nothing (sym e))
name_same [] (y ∷ m) (x ∷ r) s p q c d e = absurd (here (λ v. v ≢ 34) y m q (sym (first_same x y r (m ++ s) e) ∙ c))
name_same (x ∷ n) [] r [] p q c d e = absurd (some_nothing e)
name_same (x ∷ n) [] r (y ∷ s) p q c d e = absurd (here (λ v. v ≢ 34) x n p (first_same x y (n ++ r) s e ∙ d))
name_same (x ∷ n) (y ∷ m) r s p q c d e =
    let more = name_same n m r s (there (λ v. v ≢ 34) x n p) (there (λ v. v ≢ 34) y m q) c d (others_same x y (n ++ r) (m ++ s) e) in
    (ap₂ (λ v vs. v ∷ vs) (first_same x y (n ++ r) (m ++ s) e) more.0, more.1)

pub unnamed_same : (s : List ℕ) (u v : Unnamed s) → (u.front ≡ v.front) × (u.rest ≡ v.rest)
unnamed_same s u v = stop_same 10 u.front v.front u.rest v.rest (λ k d l. (u.free k d l).1) (λ k d l. (v.free k d l).1) (sym u.is ∙ v.is)

pub named_same : (s : List ℕ) (u v : Named s) → (u.front ≡ v.front) × (u.name ≡ v.name) × (u.rest ≡ v.rest)
named_same s u v =
    let cut = stop_same 34 u.front v.front (u.name ++ u.rest) (v.name ++ v.rest) (λ k d l. (u.free k d l).0) (λ k d l. (v.free k d l).0) (sym u.is ∙ v.is) in
    let names = name_same u.name v.name u.rest v.rest u.unquoted v.unquoted u.closed v.closed cut.1 in
    (cut.0, names.0, names.1)

pub not_named : (s : List ℕ) → Unnamed s → Named s → ⊥
not_named s u n = not_both u.front n.front u.rest (n.name ++ n.rest) u.free n.free (sym u.is ∙ n.is)

one_at_end : (start : Bool) (s : List ℕ) (a b : List Mark) → what start s ≡ Short → a ≡ [] → Marks start s b → a ≡ b
one_at_end start s a b e z (at_end e' z') = z ∙ sym z'
one_at_end start s a b e z (unnamed e' u' m') = let apart : Short ≡ Marker = sym e ∙ e' in cc
one_at_end start s a b e z (named e' n' more' m' z') = let apart : Short ≡ Marker = sym e ∙ e' in cc
one_at_end start s a b e z (malformed e' nu' nn' z') = let apart : Short ≡ Marker = sym e ∙ e' in cc
one_at_end start s a b e z (hidden e' front' rest' is' free' m') = let apart : Short ≡ Hidden = sym e ∙ e' in cc
one_at_end start s a b e z (hidden_to_end e' free' z') = let apart : Short ≡ Hidden = sym e ∙ e' in cc
one_at_end start s a b e z (refused e' z') = let apart : Short ≡ Inclusion = sym e ∙ e' in cc
one_at_end start s a b e z (plain e' x' rest' is' m') = let apart : Short ≡ Plain = sym e ∙ e' in cc

one_unnamed : (start : Bool) (s : List ℕ) (a b : List Mark) → what start s ≡ Marker → (u : Unnamed s) → ((b : List Mark) → Marks false (10 ∷ u.rest) b → a ≡ b) → Marks start s b → a ≡ b
one_unnamed start s a b e u ih (at_end e' z') = let apart : Marker ≡ Short = sym e ∙ e' in cc
one_unnamed start s a b e u ih (unnamed e' u' m') = ih _ (subst (λ v. Marks false (10 ∷ v) b) (unnamed_same s u' u).1 m')
one_unnamed start s a b e u ih (named e' n' more' m' z') = absurd (not_named s u n')
one_unnamed start s a b e u ih (malformed e' nu' nn' z') = absurd (nu' u)
one_unnamed start s a b e u ih (hidden e' front' rest' is' free' m') = let apart : Marker ≡ Hidden = sym e ∙ e' in cc
one_unnamed start s a b e u ih (hidden_to_end e' free' z') = let apart : Marker ≡ Hidden = sym e ∙ e' in cc
one_unnamed start s a b e u ih (refused e' z') = let apart : Marker ≡ Inclusion = sym e ∙ e' in cc
one_unnamed start s a b e u ih (plain e' x' rest' is' m') = let apart : Marker ≡ Plain = sym e ∙ e' in cc

one_named : (start : Bool) (s : List ℕ) (a b : List Mark) → what start s ≡ Marker → (n : Named s) (more : List Mark) → ((b : List Mark) → Marks false n.rest b → more ≡ b) → a ≡ Name n.name (is_system n.rest) ∷ more → Marks start s b → a ≡ b
one_named start s a b e n more ih z (at_end e' z') = let apart : Marker ≡ Short = sym e ∙ e' in cc
one_named start s a b e n more ih z (unnamed e' u' m') = absurd (not_named s u' n)
one_named start s a b e n more ih z (named e' n' more' m' z') = (let same = named_same s n n' in z ∙ ap₂ (λ v vs. v ∷ vs) (ap₂ (λ v w. Name v (is_system w)) same.1 same.2) (ih _ (subst (λ v. Marks false v more') (sym same.2) m')) ∙ sym z')
one_named start s a b e n more ih z (malformed e' nu' nn' z') = absurd (nn' n)
one_named start s a b e n more ih z (hidden e' front' rest' is' free' m') = let apart : Marker ≡ Hidden = sym e ∙ e' in cc
one_named start s a b e n more ih z (hidden_to_end e' free' z') = let apart : Marker ≡ Hidden = sym e ∙ e' in cc
one_named start s a b e n more ih z (refused e' z') = let apart : Marker ≡ Inclusion = sym e ∙ e' in cc
one_named start s a b e n more ih z (plain e' x' rest' is' m') = let apart : Marker ≡ Plain = sym e ∙ e' in cc

one_malformed : (start : Bool) (s : List ℕ) (a b : List Mark) → what start s ≡ Marker → (Unnamed s → ⊥) → (Named s → ⊥) → a ≡ Malformed ∷ [] → Marks start s b → a ≡ b
one_malformed start s a b e nu nn z (at_end e' z') = let apart : Marker ≡ Short = sym e ∙ e' in cc
one_malformed start s a b e nu nn z (unnamed e' u' m') = absurd (nu u')
one_malformed start s a b e nu nn z (named e' n' more' m' z') = absurd (nn n')
one_malformed start s a b e nu nn z (malformed e' nu' nn' z') = z ∙ sym z'
one_malformed start s a b e nu nn z (hidden e' front' rest' is' free' m') = let apart : Marker ≡ Hidden = sym e ∙ e' in cc
one_malformed start s a b e nu nn z (hidden_to_end e' free' z') = let apart : Marker ≡ Hidden = sym e ∙ e' in cc
one_malformed start s a b e nu nn z (refused e' z') = let apart : Marker ≡ Inclusion = sym e ∙ e' in cc
one_malformed start s a b e nu nn z (plain e' x' rest' is' m') = let apart : Marker ≡ Plain = sym e ∙ e' in cc

one_hidden : (start : Bool) (s : List ℕ) (a b : List Mark) → what start s ≡ Hidden → (front rest : List ℕ) → s ≡ front ++ 10 ∷ rest → IsOneLine front → ((b : List Mark) → Marks true rest b → a ≡ b) → Marks start s b → a ≡ b
one_hidden start s a b e front rest is free ih (at_end e' z') = let apart : Hidden ≡ Short = sym e ∙ e' in cc
one_hidden start s a b e front rest is free ih (unnamed e' u' m') = let apart : Hidden ≡ Marker = sym e ∙ e' in cc
one_hidden start s a b e front rest is free ih (named e' n' more' m' z') = let apart : Hidden ≡ Marker = sym e ∙ e' in cc
one_hidden start s a b e front rest is free ih (malformed e' nu' nn' z') = let apart : Hidden ≡ Marker = sym e ∙ e' in cc
one_hidden start s a b e front rest is free ih (hidden e' front' rest' is' free' m') = ih _ (subst (λ v. Marks true v b) (sym (stop_same 10 front front' rest rest' free free' (sym is ∙ is')).1) m')
one_hidden start s a b e front rest is free ih (hidden_to_end e' free' z') = absurd (no_stop 10 s front rest free' is)
one_hidden start s a b e front rest is free ih (refused e' z') = let apart : Hidden ≡ Inclusion = sym e ∙ e' in cc
one_hidden start s a b e front rest is free ih (plain e' x' rest' is' m') = let apart : Hidden ≡ Plain = sym e ∙ e' in cc

one_hidden_to_end : (start : Bool) (s : List ℕ) (a b : List Mark) → what start s ≡ Hidden → IsOneLine s → a ≡ [] → Marks start s b → a ≡ b
one_hidden_to_end start s a b e free z (at_end e' z') = let apart : Hidden ≡ Short = sym e ∙ e' in cc
one_hidden_to_end start s a b e free z (unnamed e' u' m') = let apart : Hidden ≡ Marker = sym e ∙ e' in cc
one_hidden_to_end start s a b e free z (named e' n' more' m' z') = let apart : Hidden ≡ Marker = sym e ∙ e' in cc
one_hidden_to_end start s a b e free z (malformed e' nu' nn' z') = let apart : Hidden ≡ Marker = sym e ∙ e' in cc
one_hidden_to_end start s a b e free z (hidden e' front' rest' is' free' m') = absurd (no_stop 10 s front' rest' free is')
one_hidden_to_end start s a b e free z (hidden_to_end e' free' z') = z ∙ sym z'
one_hidden_to_end start s a b e free z (refused e' z') = let apart : Hidden ≡ Inclusion = sym e ∙ e' in cc
one_hidden_to_end start s a b e free z (plain e' x' rest' is' m') = let apart : Hidden ≡ Plain = sym e ∙ e' in cc

one_incbin : (start : Bool) (s : List ℕ) (a b : List Mark) → what start s ≡ Inclusion → a ≡ Refusal ∷ [] → Marks start s b → a ≡ b
one_incbin start s a b e z (at_end e' z') = let apart : Inclusion ≡ Short = sym e ∙ e' in cc
one_incbin start s a b e z (unnamed e' u' m') = let apart : Inclusion ≡ Marker = sym e ∙ e' in cc
one_incbin start s a b e z (named e' n' more' m' z') = let apart : Inclusion ≡ Marker = sym e ∙ e' in cc
one_incbin start s a b e z (malformed e' nu' nn' z') = let apart : Inclusion ≡ Marker = sym e ∙ e' in cc
one_incbin start s a b e z (hidden e' front' rest' is' free' m') = let apart : Inclusion ≡ Hidden = sym e ∙ e' in cc
one_incbin start s a b e z (hidden_to_end e' free' z') = let apart : Inclusion ≡ Hidden = sym e ∙ e' in cc
one_incbin start s a b e z (refused e' z') = z ∙ sym z'
one_incbin start s a b e z (plain e' x' rest' is' m') = let apart : Inclusion ≡ Plain = sym e ∙ e' in cc

one_plain : (start : Bool) (s : List ℕ) (a b : List Mark) → what start s ≡ Plain → (x : ℕ) (rest : List ℕ) → s ≡ x ∷ rest → ((b : List Mark) → Marks (x == 10) rest b → a ≡ b) → Marks start s b → a ≡ b
one_plain start s a b e x rest is ih (at_end e' z') = let apart : Plain ≡ Short = sym e ∙ e' in cc
one_plain start s a b e x rest is ih (unnamed e' u' m') = let apart : Plain ≡ Marker = sym e ∙ e' in cc
one_plain start s a b e x rest is ih (named e' n' more' m' z') = let apart : Plain ≡ Marker = sym e ∙ e' in cc
one_plain start s a b e x rest is ih (malformed e' nu' nn' z') = let apart : Plain ≡ Marker = sym e ∙ e' in cc
one_plain start s a b e x rest is ih (hidden e' front' rest' is' free' m') = let apart : Plain ≡ Hidden = sym e ∙ e' in cc
one_plain start s a b e x rest is ih (hidden_to_end e' free' z') = let apart : Plain ≡ Hidden = sym e ∙ e' in cc
one_plain start s a b e x rest is ih (refused e' z') = let apart : Plain ≡ Inclusion = sym e ∙ e' in cc
one_plain start s a b e x rest is ih (plain e' x' rest' is' m') = ih _ (subst (λ v. Marks (v == 10) rest b) (sym (first_same x x' rest rest' (sym is ∙ is'))) (subst (λ v. Marks (x' == 10) v b) (sym (others_same x x' rest rest' (sym is ∙ is'))) m'))

one : {start : Bool} {s : List ℕ} {a : List Mark} → Marks start s a → (b : List Mark) → Marks start s b → a ≡ b
one (at_end e z) b w = one_at_end _ _ _ b e z w
one (unnamed e u m) b w = one_unnamed _ _ _ b e u (λ c v. one m c v) w
one (named e n more m z) b w = one_named _ _ _ b e n more (λ c v. one m c v) z w
one (malformed e nu nn z) b w = one_malformed _ _ _ b e nu nn z w
one (hidden e front rest is free m) b w = one_hidden _ _ _ b e front rest is free (λ c v. one m c v) w
one (hidden_to_end e free z) b w = one_hidden_to_end _ _ _ b e free z w
one (refused e z) b w = one_incbin _ _ _ b e z w
one (plain e x rest is m) b w = one_plain _ _ _ b e x rest is (λ c v. one m c v) w

pub one_list : (start : Bool) (s : List ℕ) (a b : List Mark) → Marks start s a → Marks start s b → a ≡ b
one_list start s a b p q = one p b q
