use Rattle.std.proofs.Common.{◌∙◌, ap, subst}
use Rattle.std.specs.Global.{Vec}
use Rattle.cck_cache_rules.specs.PathTest.{Plain, tests_of}
use Rattle.cck_cache_rules.specs.declared.path_test.PathTest.{PathTest}
use Rattle.cck_cache_rules.specs.declared.path_test.PathTest.TheVariants as program
use Rattle.cck_path.specs.Bytes.{Bytes}
use Rattle.cck_cache_files.specs.RealPaths.{GainsReal}
use Rattle.cck_cache_files.proofs.RealPathLemmas.{file_placed, one_pushed, path_placed}
use Rattle.cck_cache_files.proofs.real_paths.LinkTests.add.Goals as goal

pub returns-then-is_plain_file : goal.returns-then-is_plain_file
returns-then-is_plain_file g c is =
    let old = c.args.self.now in
    let new = c.add_real.new.self in
    let path = c.args.path.now in
    let copy = c.in_ok-to_vec.field-0 in
    let pushed = one_pushed old.plain.items c.push.new.self.items (program.Plain copy) (Plain path) (ap Plain (c.in_ok-to_vec.ensures.items_if_clones_equal (λ x y e. e))) c.in_ok-push.ensures.items in
    file_placed old new path (ap (λ (v : Vec PathTest). tests_of v.items) c.in_ok-known.ensures.plain ∙ pushed)
    (subst (λ (d : Bytes). GainsReal (tests_of old.real.items) d (tests_of new.real.items)) c.directory_of.ensures (c.in_ok-known.ensures.real is))

pub returns : goal.returns
returns g c is = path_placed c.args.self.now c.add_real-2.new.self c.args.path.now c.in_ok-known-2.ensures.plain (c.in_ok-known-2.ensures.real is)
