use Rattle.std.proofs.Common.{◌≡◌, ℕ, List, [], ◌∷◌, ◌++◌, ◌+◌, ◌-◌, ◌∙◌, append_assoc, ap, subst, sym, take, drop, get_or, length, nat_eq, arith}
use Rattle.std.specs.List.{common_prefix_len, flat_map}
use Rattle.std.proofs.Math.Seq.{take-length}
use Rattle.std.proofs.lemmas.List.{length-drop, length-map, map_push, take_all, take_more}
use Rattle.cck_digest.specs.Frames.{length_bytes}
use Rattle.cck_cache_rules.proofs.FrontCodingLemmas.{front_bytes_more, front_coded_length, last_more, last_of}
use Rattle.cck_cache_rules.specs.FrontCoding.{front_bytes, front_coded, short_frame, short_length}
use Rattle.cck_path.specs.Bytes.{lists_of}
use Rattle.cck_cache_rules.proofs.front_coding.hash_front_coded.Goals as goal

pub loop-text-preserved : goal.loop-text-preserved
loop-text-preserved g c =
    let texts = c.args.texts.now in
    let i = c.loop-text.text-index in
    let text = c.text-item.result in
    let done = lists_of (take i texts) in
    let more : lists_of (take (i + 1) texts) ≡ done ++ text.items ∷ [] =
    ap lists_of (take_more texts i text c.loop-text-test.true) ∙ map_push (λ v. v.items) (take i texts) (get_or texts i text) ∙ ap (λ v. done ++ v.items ∷ []) (sym c.text-item.is) in
    let n = c.common_prefix_len-shared.result in
    let before = c.loop-text.before.now in
    let is : n ≡ common_prefix_len nat_eq before text.items = c.common_prefix_len-shared.ensures.count ∙ ap (λ (t : List ℕ). common_prefix_len nat_eq before t) c.deref.ensures.value in
    let whole : take (length c.deref-in-loop-text.result.now - n) (drop n c.deref-in-loop-text.result.now) ≡ drop n c.deref-in-loop-text.result.now =
    take_all _ (drop n c.deref-in-loop-text.result.now) (omega (arith, length-drop n c.deref-in-loop-text.result.now)) in
    record {
      fed = λ fed h.
          let after = c.hash_short_frame.ensures _ (c.hash_short_length.ensures _ (c.loop-text.invariant.fed fed h)) in
          subst (λ (bytes : List ℕ). g.H.HashState.holds c.hash_short_frame.new.digest bytes)
          (ap (λ (t : List ℕ). (((fed ++ flat_map front_bytes (front_coded [] done)) ++ short_length n) ++ short_frame t)) (whole ∙ ap (λ (t : List ℕ). drop n t) c.deref-in-loop-text.ensures.value)
          ∙ front_bytes_more fed done before text.items n c.loop-text.invariant.last is
          ∙ ap (λ all. fed ++ flat_map front_bytes (front_coded [] all)) (sym more))
          after;
      last = c.deref-before.ensures.value ∙ sym (ap (last_of []) more ∙ last_more [] done text.items);
    }

pub returns : goal.returns
returns g c fed h =
    let texts = c.args.texts.now in
    let all : take c.loop-text.text-index texts ≡ texts =
    ap (λ n. take n texts) (omega (arith, c.loop-text-test.false, c.loop-text.auto.text-index-end)) ∙ take-length texts in
    let count : length texts ≡ length (front_coded [] (lists_of texts)) = sym (front_coded_length [] (lists_of texts) ∙ length-map texts (λ v. v.items)) in
    subst (λ (bytes : List ℕ). g.H.HashState.holds c.loop-text.digest bytes)
    (ap (λ ts. (fed ++ length_bytes (length texts)) ++ flat_map front_bytes (front_coded [] (lists_of ts))) all
    ∙ append_assoc fed (length_bytes (length texts)) (flat_map front_bytes (front_coded [] (lists_of texts)))
    ∙ ap (λ n. fed ++ (length_bytes n ++ flat_map front_bytes (front_coded [] (lists_of texts)))) count)
    (c.loop-text.invariant.fed (fed ++ length_bytes (length texts)) (c.hash_length.ensures fed h))
