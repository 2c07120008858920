-- fields that are read one after the other
use Rattle.std.proofs.Common.{◌≡◌, ℕ, suc, ◌+◌, ◌-◌, ◌<◌, ◌≤◌, true, false, cond, Option, Some, Result, Ok, Err, sym, ap, ◌∙◌, arith}
use Rattle.cck_path.specs.Bytes.{Bytes}
use Rattle.cck_explain_listing.specs.Fault.{Wrong, after_counted, after_include, after_includes, after_results, and_then, comes_next, text_in}
use Rattle.cck_explain_listing.specs.declared.fault.Cause.TheVariants.{KeyOrder}

module _ (count i : ℕ) where
  one_less : i < count → count - i ≡ suc (count - (i + 1))
  one_less lt = omega arith

  none_left : count ≤ i → count - i ≡ 0
  none_left h = omega arith

  -- an include
  module _ (bytes : Bytes) (total : Result Bytes Wrong) (so-far : after_includes (count - i) bytes ≡ total) where
    next_include : i < count → total ≡ and_then (after_include bytes) (after_includes (count - (i + 1)))
    unfolding after_includes
    next_include lt = sym so-far ∙ ap (λ n. after_includes n bytes) (one_less lt)

    pub include_read : (after : Bytes) → i < count → after_include bytes ≡ Ok after → after_includes (count - (i + 1)) after ≡ total
    include_read after lt is = sym (next_include lt ∙ ap (λ r. and_then r (after_includes (count - (i + 1)))) is)

    pub include_wrong : (w : Wrong) → i < count → after_include bytes ≡ Err w → total ≡ Err w
    include_wrong w lt is = next_include lt ∙ ap (λ r. and_then r (after_includes (count - (i + 1)))) is

    pub includes_read : count ≤ i → total ≡ Ok bytes
    unfolding after_includes
    includes_read h = sym so-far ∙ ap (λ n. after_includes n bytes) (none_left h)

  -- a result
  module _ (previous : Option Bytes) (bytes : Bytes) (total : Result Bytes Wrong) (so-far : after_results previous (count - i) bytes ≡ total) where
    -- what follows a key
    of_key : Bytes × Bytes → Result Bytes Wrong
    of_key key = cond (comes_next previous key.0) (and_then (after_counted key.1) (after_results (Some key.0) (count - (i + 1)))) (Err (bytes, KeyOrder))

    next_result : i < count → total ≡ and_then (text_in bytes) of_key
    unfolding after_results of_key
    next_result lt = sym so-far ∙ ap (λ n. after_results previous n bytes) (one_less lt)

    pub key_wrong : (w : Wrong) → i < count → text_in bytes ≡ Err w → total ≡ Err w
    key_wrong w lt is = next_result lt ∙ ap (λ r. and_then r of_key) is

    module _ (key rest : Bytes) (lt : i < count) (is : text_in bytes ≡ Ok (key, rest)) where
      after_key : total ≡ of_key (key, rest)
      after_key = next_result lt ∙ ap (λ r. and_then r of_key) is

      pub order_wrong : comes_next previous key ≡ false → total ≡ Err (bytes, KeyOrder)
      unfolding of_key
      order_wrong o = after_key ∙ ap (λ b. cond b (and_then (after_counted rest) (after_results (Some key) (count - (i + 1)))) (Err (bytes, KeyOrder))) o

      counted : comes_next previous key ≡ true → total ≡ and_then (after_counted rest) (after_results (Some key) (count - (i + 1)))
      unfolding of_key
      counted o = after_key ∙ ap (λ b. cond b (and_then (after_counted rest) (after_results (Some key) (count - (i + 1)))) (Err (bytes, KeyOrder))) o

      pub counted_wrong : (w : Wrong) → comes_next previous key ≡ true → after_counted rest ≡ Err w → total ≡ Err w
      counted_wrong w o c = counted o ∙ ap (λ r. and_then r (after_results (Some key) (count - (i + 1)))) c

      pub result_read : (after : Bytes) → comes_next previous key ≡ true → after_counted rest ≡ Ok after
          → after_results (Some key) (count - (i + 1)) after ≡ total
      result_read after o c = sym (counted o ∙ ap (λ r. and_then r (after_results (Some key) (count - (i + 1)))) c)

    pub results_read : count ≤ i → total ≡ Ok bytes
    unfolding after_results
    results_read h = sym so-far ∙ ap (λ n. after_results previous n bytes) (none_left h)
