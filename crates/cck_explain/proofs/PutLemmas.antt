-- the lines of rows and of parts, put in one after the other
use Rattle.std.proofs.Common.{◌≡◌, ℕ, ◌+◌, ◌<◌, ◌≤◌, [], ◌++◌, Option, length, take, drop, refl, sym, ap, ◌∙◌, subst, append_assoc}
use Rattle.std.proofs.KnownBytes.{Appends-trans}
use Rattle.std.specs.Io.KnownBytes.{Appends}
use Rattle.cck_path.specs.Bytes.{Bytes}
use Rattle.cck_command.specs.Printing.{AppendsBeginning}
use Rattle.cck_explain.specs.Buffer.{PutsWaiting}
use Rattle.cck_explain.specs.Key.{part}
use Rattle.cck_explain.specs.Listing.{part_line, part_lines, rows}
use Rattle.cck_explain.proofs.BufferLemmas.{begun_between, begun_later, begun_nothing, begun_sooner, puts_trans}
use Rattle.cck_explain.proofs.ListingLemmas.{row_of_more, row_of_rest}

-- these lines were put in, and with the lines that are left they are the whole
pub record PutSoFar (old : Option Bytes) (waiting : Bytes) (now : Option Bytes) (kept rest whole : Bytes) : Type 0 where
  pub done : Bytes
  pub put : PutsWaiting old waiting now kept done
  pub all : done ++ rest ≡ whole

module _ (a b c : Option Bytes) (waiting kept left whole : Bytes) where
  -- one more
  pub so_far_more : (line rest more : Bytes) → PutSoFar a waiting b kept rest whole → rest ≡ line ++ more → PutsWaiting b kept c left line → PutSoFar a waiting c left more whole
  so_far_more line rest more so is p = record {
    done = so.done ++ line;
    put = puts_trans a b c waiting kept left so.done line so.put p;
    all = append_assoc so.done line more ∙ ap (λ l. so.done ++ l) (sym is) ∙ so.all;
  }

  -- the last
  pub so_far_last : (line rest : Bytes) → PutSoFar a waiting b kept rest whole → rest ≡ line → PutsWaiting b kept c left line → PutsWaiting a waiting c left whole
  so_far_last line rest so is p =
      subst (PutsWaiting a waiting c left) (ap (λ l. so.done ++ l) (sym is) ∙ so.all) (puts_trans a b c waiting kept left so.done line so.put p)

  -- an error in the next
  pub so_far_begun : (line rest more : Bytes) → PutSoFar a waiting b kept rest whole → rest ≡ line ++ more → AppendsBeginning b c (kept ++ line) → AppendsBeginning a c (waiting ++ whole)
  so_far_begun line rest more so is begun =
      subst (λ l. AppendsBeginning a c (waiting ++ l)) (ap (λ l. so.done ++ l) (sym is) ∙ so.all)
      (begun_between a b c waiting kept so.done line more so.put begun)

-- an error before the next
pub so_far_stopped : (a b : Option Bytes) (waiting kept rest whole : Bytes) → PutSoFar a waiting b kept rest whole → AppendsBeginning a b (waiting ++ whole)
so_far_stopped a b waiting kept rest whole so =
    subst (λ l. AppendsBeginning a b (waiting ++ l)) so.all
    (begun_later a b b waiting kept so.done rest so.put (begun_nothing b (kept ++ rest)))

-- the lines of a row and of the rows after it
pub of_row : (at : ℕ) (name named rest row next : Bytes) → 256 < length rest → named ≡ name → row ≡ take 256 rest → next ≡ drop 256 rest
    → part_lines at (rows (part name rest)) ≡ part_line at named row ++ part_lines (at + 256) (rows (part name next))
of_row at name named rest row next h n e f =
    row_of_more at name rest h
    ∙ ap (λ l. part_line at name l ++ part_lines (at + 256) (rows (part name (drop 256 rest)))) (sym e)
    ∙ ap (λ l. part_line at name row ++ part_lines (at + 256) (rows (part name l))) (sym f)
    ∙ ap (λ m. part_line at m row ++ part_lines (at + 256) (rows (part name next))) (sym n)

-- the line of the last row
pub of_last_row : (at : ℕ) (name named rest : Bytes) → length rest ≤ 256 → named ≡ name
    → part_lines at (rows (part name rest)) ≡ part_line at named rest
of_last_row at name named rest h n = row_of_rest at name rest h ∙ ap (λ m. part_line at m rest) (sym n)

-- From an empty buffer on: the first bytes, and then the others, which the buffer got and which were then written.
module _ (a b c : Option Bytes) (waiting kept all xs ys : Bytes) (none : waiting ≡ []) where
  pub flushed : PutsWaiting a waiting b kept xs → all ≡ kept ++ ys → Appends b c all → Appends a c (xs ++ ys)
  flushed p e q =
      let whole : p.written ++ (kept ++ ys) ≡ xs ++ ys =
      sym (append_assoc p.written kept ys) ∙ ap (λ l. l ++ ys) (sym p.all ∙ ap (λ l. l ++ xs) none) in
      subst (Appends a c) whole (Appends-trans a b c p.written (kept ++ ys) p.appends (subst (Appends b c) e q))

  pub flush_begun : PutsWaiting a waiting b kept xs → all ≡ kept ++ ys → AppendsBeginning b c all → AppendsBeginning a c (xs ++ ys)
  flush_begun p e q =
      subst (λ l. AppendsBeginning a c (l ++ (xs ++ ys))) none (begun_later a b c waiting kept xs ys p (subst (AppendsBeginning b c) e q))

-- the same with an error before the others are in the buffer, and with an error in the first bytes
module _ (a b : Option Bytes) (waiting kept xs ys : Bytes) (none : waiting ≡ []) where
  pub flush_stopped : PutsWaiting a waiting b kept xs → AppendsBeginning a b (xs ++ ys)
  flush_stopped p = flush_begun a b b waiting kept (kept ++ ys) xs ys none p refl (begun_nothing b (kept ++ ys))

  pub first_begun : AppendsBeginning a b (waiting ++ xs) → AppendsBeginning a b (xs ++ ys)
  first_begun q = begun_sooner a b xs ys (subst (λ l. AppendsBeginning a b (l ++ xs)) none q)
