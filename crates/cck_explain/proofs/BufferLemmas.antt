-- what is put into a writer through a buffer, one thing after the other
use Rattle.std.proofs.Common.{◌≡◌, ℕ, zero, suc, ◌+◌, [], ◌∷◌, ◌++◌, Option, length, take, refl, sym, ap, ◌∙◌, subst, append_assoc, append-nil, None, Some, IfSome}
use Rattle.std.proofs.KnownBytes.{Appends-nil, Appends-trans}
use Rattle.std.proofs.Math.Seq.{take-append-add}
use Rattle.std.specs.Io.KnownBytes.{Appends}
use Rattle.cck_path.specs.Bytes.{Bytes}
use Rattle.cck_command.specs.Printing.{AppendsBeginning}
use Rattle.cck_explain.specs.Buffer.{PutsWaiting}

-- nothing was put in
pub puts_nothing : (a : Option Bytes) (waiting : Bytes) → PutsWaiting a waiting a waiting []
puts_nothing a waiting = record { written = []; appends = Appends-nil a; all = append-nil waiting }

-- these bytes are in the buffer, and then some of it was written
pub puts_spilled : (a b : Option Bytes) (waiting left bytes : Bytes) → PutsWaiting a (waiting ++ bytes) b left [] → PutsWaiting a waiting b left bytes
puts_spilled a b waiting left bytes p = record { written = p.written; appends = p.appends; all = sym (append-nil (waiting ++ bytes)) ∙ p.all }

pub puts_trans : (a b c : Option Bytes) (waiting kept left xs ys : Bytes) → PutsWaiting a waiting b kept xs → PutsWaiting b kept c left ys → PutsWaiting a waiting c left (xs ++ ys)
puts_trans a b c waiting kept left xs ys p q = record {
  written = p.written ++ q.written;
  appends = Appends-trans a b c p.written q.written p.appends q.appends;
  all = sym (append_assoc waiting xs ys) ∙ ap (λ l. l ++ ys) p.all ∙ append_assoc p.written kept ys
      ∙ ap (λ l. p.written ++ l) q.all ∙ sym (append_assoc p.written q.written left);
}

-- a prefix of nothing
pub begun_nothing : (a : Option Bytes) (bytes : Bytes) → AppendsBeginning a a bytes
begun_nothing a bytes = (0, Appends-nil a)

shorter : (n : ℕ) (xs ys : Bytes) → (m : ℕ) × (take n xs ≡ take m (xs ++ ys))
shorter zero xs ys = (0, refl)
shorter (suc n) [] ys = (0, refl)
shorter (suc n) (x ∷ xs) ys = let rest = shorter n xs ys in (suc rest.0, ap (λ l. x ∷ l) rest.1)

-- a prefix of the front is a prefix of the whole
pub begun_sooner : (a b : Option Bytes) (xs ys : Bytes) → AppendsBeginning a b xs → AppendsBeginning a b (xs ++ ys)
begun_sooner a b xs ys begun = let more = shorter begun.0 xs ys in (more.0, subst (Appends a b) more.1 begun.1)

-- after some bytes a prefix of others was written
pub begun_later : (a b c : Option Bytes) (waiting kept xs ys : Bytes) → PutsWaiting a waiting b kept xs → AppendsBeginning b c (kept ++ ys) → AppendsBeginning a c (waiting ++ (xs ++ ys))
begun_later a b c waiting kept xs ys p begun =
    let whole : waiting ++ (xs ++ ys) ≡ p.written ++ (kept ++ ys) =
    sym (append_assoc waiting xs ys) ∙ ap (λ l. l ++ ys) p.all ∙ append_assoc p.written kept ys in
    let n = length p.written + begun.0 in (
      n,
      subst (Appends a c) (sym (ap (take n) whole ∙ take-append-add p.written (kept ++ ys) begun.0))
          (Appends-trans a b c p.written (take begun.0 (kept ++ ys)) p.appends begun.1),
    )

-- after some bytes a prefix of the next was written, and others follow
pub begun_between : (a b c : Option Bytes) (waiting kept xs ys zs : Bytes) → PutsWaiting a waiting b kept xs → AppendsBeginning b c (kept ++ ys)
    → AppendsBeginning a c (waiting ++ (xs ++ (ys ++ zs)))
begun_between a b c waiting kept xs ys zs p begun =
    begun_later a b c waiting kept xs (ys ++ zs) p (subst (AppendsBeginning b c) (append_assoc kept ys zs) (begun_sooner b c (kept ++ ys) zs begun))

-- what holds whatever is known
pub if_any : (o : Option Bytes) (P : Bytes → Type 0) → ((bytes : Bytes) → P bytes) → IfSome o P
if_any None P h = tt
if_any (Some bytes) P h = h bytes

-- what follows from what is known
pub if_known : (o : Option Bytes) (P Q : Bytes → Type 0) → IfSome o P → ((bytes : Bytes) → P bytes → Q bytes) → IfSome o Q
if_known None P Q p h = tt
if_known (Some bytes) P Q p h = h bytes p
