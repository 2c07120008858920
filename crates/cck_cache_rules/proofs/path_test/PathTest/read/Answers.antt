use Rattle.std.proofs.Common.{◌++◌, ◌∙◌, ap, codes}
use Rattle.cck_digest.specs.Frames.{length_bytes}
use Rattle.cck_cache_rules.specs.PathTest.{Absent, Real, Searched, real_bytes}
use Rattle.cck_cache_rules.proofs.TestLemmas.{no_test, test_read}
use Rattle.cck_cache_rules.proofs.path_test.PathTest.read.Goals as goal

pub returns-in-Some : goal.returns-in-Some
returns-in-Some c =
    test_read c.args.bytes.now (Absent c.in_ok-to_vec.field-0.items)
    (ap (λ p. codes "absent " ++ p) (c.in_ok-to_vec.ensures.items_if_clones_equal (λ x y e. e)) ∙ c.in-Some.ensures.0)

pub returns-in-Some-read_searched : goal.returns-in-Some-read_searched
returns-in-Some-read_searched c =
    let path = c.in_ok-to_vec-4.field-0.items in
    test_read c.args.bytes.now (Searched path c.in-Some-read_searched.place)
    (ap (λ p. codes "searched " ++ (length_bytes c.in-Some-read_searched.place ++ p)) (c.in_ok-to_vec-4.ensures.items_if_clones_equal (λ x y e. e)) ∙ c.in-Some-read_searched.ensures.0)

pub returns-in_default-read_real : goal.returns-in_default-read_real
returns-in_default-read_real c =
    no_test c.args.bytes.now c.in_default.ensures c.in_default-after.ensures c.in_default-after-2.ensures c.in_default-read_searched.ensures c.in_default-after-3.ensures
    c.in_default-read_real.ensures

pub returns : goal.returns
returns c =
    let path = c.in_ok-to_vec-6.field-0.items in
    let real = c.in_ok-to_vec-7.field-0.items in
    test_read c.args.bytes.now (Real path real)
    ((λ i. real_bytes (c.in_ok-to_vec-7.ensures.items_if_clones_equal (λ x y e. e) i, c.in_ok-to_vec-6.ensures.items_if_clones_equal (λ x y e. e) i))
    ∙ c.in-Some-read_real.ensures.0)
