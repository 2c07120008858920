-- The names of a set, one after the other, and the members of a list.
use Rattle.std.proofs.Common.{◌≡◌, ◌∙◌, ◌<◌, ◌≤◌, ◌+◌, ◌⊎◌, inl, inr, ℕ, List, [], Contains, IsTrue, get_or, length, map, sym, ap, subst, arith}
use Rattle.std.specs.BTreeSet.{BTreeSet}
use Rattle.std.specs.Global.{Vec}
use Rattle.std.proofs.lemmas.Bool.{cases_lt}
use Rattle.std.proofs.lemmas.List.{get_or-map, length-map}
use Rattle.cck_cache_text.specs.Sets.{has_key}
use Rattle.cck_cache_text.proofs.SetLemmas.{has_key_at, key_at}
use Rattle.cck_path.specs.Bytes.{Bytes}

-- an element of a list under a function
pub contains_map : {X Y : Type 0} (f : X → Y) (xs : List X) (x : X) → Contains xs x → Contains (map f xs) (f x)
contains_map f xs x at = (at.0, subst (λ (n : ℕ). at.0 < n) (sym (length-map xs f)) at.1, get_or-map f xs at.0 x (f x) at.1 ∙ ap f at.2)

-- one of the first names of a set
abbrev pub IsAmong : List (Vec ℕ) → ℕ → Bytes → Type 0
IsAmong keys n name = (i : ℕ) × (i < n) × (get_or (map (λ k. k.items) keys) i [] ≡ name)

pub no_name : (keys : List (Vec ℕ)) (name : Bytes) → IsAmong keys 0 name → ⊥
no_name keys name among = omega (arith, among.1)

pub more_names : (keys : List (Vec ℕ)) (n : ℕ) (name : Bytes) → IsAmong keys n name → IsAmong keys (n + 1) name
more_names keys n name (i, within, is) = (i, omega (arith, within), is)

-- it is among the first ones, or the next
pub next_name : (keys : List (Vec ℕ)) (n : ℕ) (name : Bytes) → IsAmong keys (n + 1) name → IsAmong keys n name ⊎ (get_or (map (λ k. k.items) keys) n [] ≡ name)
next_name keys n name (i, within, is) =
    elim (cases_lt i n) [
      | inl below ↦ inl (i, below, is)
      | inr above ↦ (let same : i ≡ n = omega arith in inr (subst (λ (k : ℕ). get_or (map (λ (k : Vec ℕ). k.items) keys) k [] ≡ name) same is))
    ]

-- the keys of a set
pub key_among : (keys : BTreeSet (Vec ℕ)) (name : Bytes) → IsTrue (has_key keys name) → IsAmong keys.keys (length keys.keys) name
key_among keys name has = key_at keys.keys name has

pub among_keys : (keys : BTreeSet (Vec ℕ)) (n : ℕ) (name : Bytes) → n ≤ length keys.keys → IsAmong keys.keys n name → IsTrue (has_key keys name)
among_keys keys n name all (i, within, is) = subst (λ (q : Bytes). IsTrue (has_key keys q)) is (has_key_at keys.keys i (omega (arith, within, all)))
