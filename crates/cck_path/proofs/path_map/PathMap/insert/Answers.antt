use Rattle.std.proofs.Common.{◌≡◌, ◌+◌, ◌<◌, ◌∙◌, Global, ℕ, List, Ok, true, sym, ap, subst, length, map, get_or, arith}
use Rattle.std.proofs.Math.ListN.{set}
use Rattle.std.proofs.lemmas.Bool.{false≢true}
use Rattle.std.proofs.lemmas.List.{length-set}
use Rattle.std.proofs.lemmas.List.Edits.{length-insert}
use Rattle.std.specs.FinMap.{contains_key, from_sorted, put}
use Rattle.std.specs.List as list
use Rattle.std.specs.Prelude.{Option, Vec, is_some}
use Rattle.std.specs.Vec.{with_item}
use Rattle.cck_path.specs.Path.{Path, components, path_cmp}
use Rattle.cck_path.specs.Blocks.{AreOrderedBlocks, HasNoEntry, IsPositionFor, NoneEmpty, entries_of, place_of, start_of}
use Rattle.cck_path.specs.PathMap.{pair_of}
use Rattle.cck_path.specs.declared.path_map.Entry.{Entry}
use Rattle.cck_path.proofs.BlockLemmas.{entry_is, gap_of, get_missing, set_in, some_set}
use Rattle.cck_path.proofs.PlaceLemmas.{in_order, inserted, put_at, put_in_gap}
use Rattle.cck_path.proofs.path_map.PathMap.insert.Goals as goal

module _ {V : Type 0} (bs : List (Vec (Entry V) Global)) (ordered : AreOrderedBlocks bs) (p : Path) where
  -- the block k with a new value at its place j
  abbrev with_value : Vec (Entry V) Global → ℕ → Entry V → V → Vec (Entry V) Global
  with_value block j old v = with_item block j (record { path = old.path; value = v })

  -- a new value of a path that has one
  replaced : (k j : ℕ) → IsPositionFor p bs k (Ok j) → (block : Vec (Entry V) Global) → block ≡ get_or bs k block → (old : Entry V) → old ≡ get_or block.items j old → (v : V)
      → (put path_cmp p v (map pair_of (entries_of bs)) ≡ map pair_of (entries_of (set bs k (with_value block j old v))))
      × (length (entries_of (set bs k (with_value block j old v))) ≡ length (entries_of bs))
      × NoneEmpty (set bs k (with_value block j old v))
  replaced k j position block is old at v =
      let i = start_of bs k + j in
      let new : Entry V = record { path = old.path; value = v } in
      let within = (position.in_block block).0 in
      let whole : entries_of (set bs k (with_value block j old v)) ≡ set (entries_of bs) i new
      = set_in bs k j block (with_value block j old v) new position.in_range within (ap (λ b. set b.items j new) is) in
      let inside : j < length block.items = subst (λ b. j < length b.items) (sym is) within in (
        put_at (entries_of bs) ordered.in_order p i position.place old (entry_is bs k j block old position.in_range is within at) v ∙ ap (map pair_of) (sym whole),
        ap length whole ∙ length-set (entries_of bs) i new,
        some_set bs k (with_value block j old v) ordered.none_empty (omega (arith, length-set block.items j new, inside)),
      )

  module _ (gap : Option (ℕ × ℕ)) (missing : HasNoEntry p bs gap) where
    -- a new path
    added : (e : Entry V) → components e.path.items ≡ p → (new : List (Entry V)) → new ≡ list.insert (entries_of bs) (place_of bs gap) e
        → (put path_cmp p e.value (map pair_of (entries_of bs)) ≡ map pair_of new) × (length new ≡ length (entries_of bs) + 1)
    added e same new is =
        let at = gap_of bs p gap missing in (
          put_in_gap (entries_of bs) p (place_of bs gap) at e.path same e.value ∙ ap (map pair_of) (sym is),
          ap length is ∙ length-insert (entries_of bs) (place_of bs gap) e at.in_range,
        )

    not_there : {A : Type 0} → contains_key (from_sorted {R = path_cmp} (map pair_of (entries_of bs))) p ≡ true → A
    not_there there = absurd (false≢true (ap is_some (get_missing bs ordered p gap missing) ∙ there))

pub invariant_of-self : goal.invariant_of-self
invariant_of-self g c =
    let bs = c.self.inside.blocks.items in
    let ordered = c.self.invariant.0 in
    let p = components c.args.path.now in
    let k = c.in-Ok.block in
    let j = c.in-Ok.at in
    let block = c.index_mut.result.now in
    let old = c.index_mut-in-Ok.result.now in
    let v = c.args.value in
    let position = subst (λ l. IsPositionFor p l k (Ok j)) c.deref.ensures.value c.in-Ok.ensures.found in
    let new = replaced bs ordered p k j position block c.index_mut.ensures.value old c.index_mut-in-Ok.ensures.value v in (
      record { in_order = in_order (entries_of bs) (entries_of (set bs k (with_value bs ordered p block j old v))) ordered.in_order p v new.0; none_empty = new.2 },
      c.self.invariant.1 ∙ sym new.1,
    )

pub returns-in-Ok-clause-set : goal.returns-in-Ok-clause-set
returns-in-Ok-clause-set g c =
    let bs = c.self.inside.blocks.items in
    let ordered = c.self.invariant.0 in
    let p = components c.args.path.now in
    let k = c.in-Ok.block in
    let j = c.in-Ok.at in
    let block = c.index_mut.result.now in
    let old = c.index_mut-in-Ok.result.now in
    let v = c.args.value in
    let position = subst (λ l. IsPositionFor p l k (Ok j)) c.deref.ensures.value c.in-Ok.ensures.found in
    let new = replaced bs ordered p k j position block c.index_mut.ensures.value old c.index_mut-in-Ok.ensures.value v in
    rw (← c.self.view_is) (inserted (entries_of bs) (entries_of (set bs k (with_value bs ordered p block j old v))) ordered.in_order p v new.0)

pub returns-in_default-clause-replaced : goal.returns-in_default-clause-replaced
returns-in_default-clause-replaced g c there =
    let p = components c.args.path.now in
    not_there c.self.inside.blocks.items c.self.invariant.0 p c.in-Err.gap (subst (λ l. HasNoEntry p l c.in-Err.gap) c.deref.ensures.value c.in-Err.ensures.missing) (rw c.self.view_is there)

pub returns-in_err-path-clause-replaced : goal.returns-in_err-path-clause-replaced
returns-in_err-path-clause-replaced g c there =
    let p = components c.args.path.now in
    not_there c.self.inside.blocks.items c.self.invariant.0 p c.in-Err.gap (subst (λ l. HasNoEntry p l c.in-Err.gap) c.deref.ensures.value c.in-Err.ensures.missing) (rw c.self.view_is there)

pub returns-in_err-insert_at-clause-replaced : goal.returns-in_err-insert_at-clause-replaced
returns-in_err-insert_at-clause-replaced g c there =
    let p = components c.args.path.now in
    not_there c.self.inside.blocks.items c.self.invariant.0 p c.in-Err.gap (subst (λ l. HasNoEntry p l c.in-Err.gap) c.deref.ensures.value c.in-Err.ensures.missing) (rw c.self.view_is there)

pub invariant_of-self-2 : goal.invariant_of-self-2
invariant_of-self-2 g c =
    let bs = c.self.inside.blocks.items in
    let ordered = c.self.invariant.0 in
    let p = components c.args.path.now in
    let new = entries_of c.insert_at.new.blocks.items in
    let missing = subst (λ l. HasNoEntry p l c.in-Err.gap) c.deref.ensures.value c.in-Err.ensures.missing in
    let more = added bs ordered p c.in-Err.gap missing (record { path = c.in_ok-path.path; value = c.args.value }) (ap components (c.in_ok-path.ensures.items_if_clones_equal (λ x y e. e))) new c.in_ok-insert_at.ensures.inserted in (
      record { in_order = in_order (entries_of bs) new ordered.in_order p c.args.value more.0; none_empty = c.in_ok-insert_at.ensures.none_empty },
      omega (arith, more.1, c.self.invariant.1),
    )

pub returns-clause-set : goal.returns-clause-set
returns-clause-set g c =
    let bs = c.self.inside.blocks.items in
    let ordered = c.self.invariant.0 in
    let p = components c.args.path.now in
    let new = entries_of c.insert_at.new.blocks.items in
    let missing = subst (λ l. HasNoEntry p l c.in-Err.gap) c.deref.ensures.value c.in-Err.ensures.missing in
    let more = added bs ordered p c.in-Err.gap missing (record { path = c.in_ok-path.path; value = c.args.value }) (ap components (c.in_ok-path.ensures.items_if_clones_equal (λ x y e. e))) new c.in_ok-insert_at.ensures.inserted in
    rw (← c.self.view_is) (inserted (entries_of bs) new ordered.in_order p c.args.value more.0)
