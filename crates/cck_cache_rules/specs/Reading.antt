-- what bytes are read as
use Rattle.std.specs.Borrow.{Bor}
use Rattle.std.specs.Prelude.{◌≡◌, ℕ, List, [], ◌∷◌, ◌++◌, map, Option, Some, None, option_to_list}
use Rattle.std.specs.Global.{Vec}

-- What is written is read, and nothing else is: this is written for the value that was read and for no other value, or for no value at all where none was read.
abbrev pub ReadsBack : {X Y : Type 0} → (X → Y) → Y → Option X → Type 0
ReadsBack {X} write written None = (x : X) → write x ≡ written → ⊥
ReadsBack {X} write written (Some found) = (write found ≡ written) × ((x : X) → write x ≡ written → x ≡ found)

-- The same of the values with a property alone.
abbrev pub ReadsBackOf : {X Y : Type 0} → (X → Type 0) → (X → Y) → Y → Option X → Type 0
ReadsBackOf {X} Is write written None = (x : X) → Is x → write x ≡ written → ⊥
ReadsBackOf {X} Is write written (Some found) = Is found × (write found ≡ written) × ((x : X) → Is x → write x ≡ written → x ≡ found)

-- no property
abbrev pub IsAny : {X : Type 0} → X → Type 0
IsAny x = Unit {0}

-- the bytes of each part
abbrev pub byte_lists : Vec (Vec ℕ) → List (List ℕ)
byte_lists parts = map (λ p. p.items) parts.items

-- the same of parts that are lent
abbrev pub lent_lists : Vec (Bor (List ℕ)) → List (List ℕ)
lent_lists parts = map (λ p. p.now) parts.items

-- What was read of these in order, each by itself. Those that are written for no value are passed.
pub data AreRead {X Y : Type 0} (write : X → Y) : List Y → List X → Type 0 where
  nothing_read : AreRead write [] []
  one_read : {all written : List Y} {found known : List X} (one : Y) (read : Option X) → AreRead write written known → ReadsBack write one read → all ≡ written ++ one ∷ [] → found ≡ known ++ option_to_list read → AreRead write all found
