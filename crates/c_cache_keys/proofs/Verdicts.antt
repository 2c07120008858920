-- The verdict on the text of a call, and what follows for what is stored of a computed key.
use Rattle.std.proofs.Common.{◌≡◌, ◌≢◌, ◌⊎◌, inl, inr, true, List, [], ◌∷◌, Some, None, refl, sym, ◌∙◌, subst}
use Rattle.std.specs.Prelude.{Contains}
use Rattle.std.proofs.lemmas.Option.{none-some, same_Some}
use Rattle.cck_include.specs.Include.{Include}
use Rattle.cck_include.proofs.OneList.{one_list}
use Rattle.cck_path.specs.Bytes.{Bytes}
use Rattle.cck_util.specs.Store.{Store, Stored}
use Rattle.cck_hasher.proofs.Decisions.{one_decision}
use Rattle.cck_hasher.proofs.Elements.{first_in, none_in}
use Rattle.cck_hasher.specs.Call.{Call}
use Rattle.cck_hasher.specs.Keys.{preprocessor_key_of, printed}
use Rattle.cck_hasher.specs.Step.{OwnPair, Stores, faulted, no_key, none_recorded, puts, refused}
use Rattle.cck_hasher.specs.Walk.{Accepted, Errs, IsNamed, MarksDecide, NotAccepted, Verdict, Walk}
use Rattle.cck_hasher.specs.World.{World}

no_element : {X : Type 0} (xs : List X) → ((x : X) → Contains xs x → ⊥) → xs ≡ []
no_element [] none = refl
no_element (x ∷ xs) none = absurd (none x (first_in x xs))

pub refused_accepted : NotAccepted ≡ Accepted → ⊥
refused_accepted e = cc

pub accepted_errs : Accepted ≡ Errs → ⊥
accepted_errs e = cc

pub refused_errs : NotAccepted ≡ Errs → ⊥
refused_errs e = cc

module _ {V : Type 0} (w : World V) (c : Call V) where
  -- a text has one verdict
  pub one_verdict : (text : Bytes) (u v : Verdict) → Walk w c text u → Walk w c text v → u ≡ v
  one_verdict text u v (marks, are, a) (marks', are', b) =
      one_decision w c marks u v a (subst (λ ms. MarksDecide w c ms v) (one_list true text marks' marks are' are) b)

  -- and so have equal texts that are printed
  pub verdict_on : (text other : Bytes) (u v : Verdict) → printed w c ≡ Some text → printed w c ≡ Some other → Walk w c text u → Walk w c other v → u ≡ v
  verdict_on text other u v is is' a b = one_verdict text u v a (subst (λ t. Walk w c t v) (same_Some other text (sym is' ∙ is)) b)

module _ {V S : Type 0} (w : World V) (st : Store S) (c : Call V) (F : Type 0) (key : Bytes) (s t : S) where
  -- no key is computed where a malformed marker decides and there was no fault
  never_errs : Stores w st c F key s t → (text : Bytes) → preprocessor_key_of w c ≢ None → printed w c ≡ Some text → Walk w c text Errs → F
  never_errs (puts k bytes own stored put) text some is errs = absurd (accepted_errs (verdict_on w c own.text text Accepted Errs own.is_text is own.accepted errs))
  never_errs (no_key none same) text some is errs = absurd (some none)
  never_errs (refused other is' walk same) text some is errs = absurd (refused_errs (verdict_on w c other text NotAccepted Errs is' is walk errs))
  never_errs (none_recorded other is' walk none same) text some is errs = absurd (accepted_errs (verdict_on w c other text Accepted Errs is' is walk errs))
  never_errs (faulted fault same) text some is errs = fault

  abbrev Puts : Type 0
  Puts = (k : Bytes) × (bytes : Bytes) × OwnPair w c key k bytes × (stored : Stored) × st.put s k bytes stored t

  -- the call has no own pair of this key
  abbrev NothingNew : Type 0
  NothingNew = (k bytes : Bytes) → OwnPair w c key k bytes → ⊥

  -- where nothing is put, there was a fault or there is no own pair
  puts_or_nothing_new : Stores w st c F key s t → Puts ⊎ ((t ≡ s) × (F ⊎ NothingNew))
  puts_or_nothing_new (puts k bytes own stored put) = inl (k, bytes, own, stored, put)
  puts_or_nothing_new (no_key none same) = inr (same, inr (λ k bytes own. none-some _ (sym none ∙ own.is_key)))
  puts_or_nothing_new (refused text is walk same) =
      inr (same, inr (λ k bytes own. refused_accepted (verdict_on w c text own.text NotAccepted Accepted is own.is_text walk own.accepted)))
  puts_or_nothing_new (none_recorded text is walk none same) = inr (same, inr (λ k bytes own. own.some (no_element own.includes (by k bytes own))))
    where
      by : (k bytes : Bytes) (own : OwnPair w c key k bytes) (i : Include) → Contains own.includes i → ⊥
      by k bytes own i at =
          let r = own.recorded.each i at in
          let (j, at', written) = none.all r.path r.node (subst (λ v. IsNamed w c v r.path) (same_Some own.text text (sym own.is_text ∙ is)) r.named) r.file in
          none_in j at'
  puts_or_nothing_new (faulted fault same) = inr (same, inl fault)
