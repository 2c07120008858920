use Rattle.std.proofs.Common.{◌≡◌, ℕ, ◌<◌, List, [], IsTrue, true, false, map, length, take, get_or, refl, sym, ap, ◌∙◌, arith}
use Rattle.std.proofs.lemmas.List.{get_or-map, get_or-take, length-take-le, take-map}
use Rattle.cck_cache_text.specs.Absent.{path_in}
use Rattle.cck_cache_text.specs.Sets.{has_key}
use Rattle.cck_cache_text.proofs.AbsentLemmas.{before_found, nothing_before}
use Rattle.cck_cache_text.proofs.absent.add_before.Goals as goal

false_true : false ≡ true → ⊥
false_true e = cc

pub returns-in_default-clause-found : goal.returns-in_default-clause-found
returns-in_default-clause-found c =
    let at : c.deref.result.now ≡ get_or (map (λ d. d.items) c.args.directories.now) c.args.place [] =
    c.deref.ensures.value ∙ (ap (λ d. d.items) c.index-directories-place.is ∙ sym (get_or-map (λ d. d.items) c.args.directories.now c.args.place c.index-directories-place.result [] c.requires))
    in
    (λ t. absurd (false_true t), λ w. absurd (c.in_default.ensures w.0 (ap (λ d. path_in d w.0) at ∙ w.1)))

pub returns-in_default-clause-added : goal.returns-in_default-clause-added
returns-in_default-clause-added c =
    let at : c.deref.result.now ≡ get_or (map (λ d. d.items) c.args.directories.now) c.args.place [] =
    c.deref.ensures.value ∙ (ap (λ d. d.items) c.index-directories-place.is ∙ sym (get_or-map (λ d. d.items) c.args.directories.now c.args.place c.index-directories-place.result [] c.requires))
    in
    nothing_before (has_key c.args.named.now.directories) (has_key c.args.named.now.names) (λ rest. IsTrue (has_key c.args.quoted.now rest)) (map (λ d. d.items) c.args.directories.now) c.args.place c.args.name.now c.args.paths.now
    (λ rest e. c.in_default.ensures rest (ap (λ d. path_in d rest) at ∙ e))

pub returns-clause-found : goal.returns-clause-found
returns-clause-found c =
    let at : c.deref.result.now ≡ get_or (map (λ d. d.items) c.args.directories.now) c.args.place [] =
    c.deref.ensures.value ∙ (ap (λ d. d.items) c.index-directories-place.is ∙ sym (get_or-map (λ d. d.items) c.args.directories.now c.args.place c.index-directories-place.result [] c.requires))
    in
    (λ t. (c.in-Some.rest.now, ap (λ d. path_in d c.in-Some.rest.now) (sym at) ∙ c.in-Some.ensures.0), λ w. refl)

pub returns-clause-added : goal.returns-clause-added
returns-clause-added c =
    let directories = c.args.directories.now in
    let place = c.args.place in
    let rest = c.in-Some.rest.now in
    let within : place < length directories = c.requires in
    let at : c.deref.result.now ≡ get_or (map (λ d. d.items) directories) place [] =
    c.deref.ensures.value ∙ (ap (λ d. d.items) c.index-directories-place.is ∙ sym (get_or-map (λ d. d.items) directories place c.index-directories-place.result [] c.requires))
    in
    before_found (has_key c.args.named.now.directories) (has_key c.args.named.now.names) (λ rest. IsTrue (has_key c.args.quoted.now rest)) (map (λ d. d.items) directories) (map (λ d. d.items) (take place directories)) place c.args.name.now rest
    (ap (λ d. path_in d rest) (sym at) ∙ c.in-Some.ensures.0)
    (λ other e. c.in-Some.ensures.1 other (ap (λ d. path_in d other) at ∙ e))
    (length (take place directories))
    (length-take-le place directories (omega arith))
    (λ k lt. ap (λ (l : List (List ℕ)). get_or l k []) (sym (take-map (λ d. d.items) place directories)) ∙ get_or-take place (map (λ d. d.items) directories) k [] lt)
    c.args.paths.now c.add_if_quoted.new.paths c.add_in.new.paths c.in_ok-add_if_quoted.ensures c.in_ok-add_in.ensures
