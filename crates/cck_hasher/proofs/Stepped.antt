-- One call, from its parts.
use Rattle.std.proofs.Common.{◌≡◌, ℕ, ◌≤◌, false, inl, inr, refl, sym, subst, arith, Option, Some, None, Ok, Err, String, option_map}
use Rattle.std.specs.String.{string_bytes}
use Rattle.std.specs.declared.alloc.Global.{Global}
use Rattle.cck_files.proofs.CallsLemmas.{rose_earlier, rose_later}
use Rattle.cck_files.specs.Calls.{Rose}
use Rattle.cck_digest.specs.declared.key_error.KeyError.{KeyError}
use Rattle.cck_util.specs.Store.{Store}
use Rattle.cck_hasher.proofs.Widen.{wide_gives, wide_makes}
use Rattle.cck_hasher.specs.Asking.{IsFound, IsFoundBy, asked_of}
use Rattle.cck_hasher.specs.Call.{CallResult, Call, Keyed, ReturnsError, Memory}
use Rattle.cck_hasher.specs.Opening.{IsOpening, text_of}
use Rattle.cck_hasher.specs.Seen.{why_of}
use Rattle.cck_hasher.specs.Step.{Makes, Step, StopsOpening, asked, made, matching, opening_lacks, stopped}
use Rattle.cck_hasher.specs.World.{World}
use Rattle.cck_hasher.specs.declared.hasher.opening.Opening.{Opening}

some_none : {r : CallResult} → Some r ≡ None → ⊥
some_none e = cc

module _ {V S : Type 0} (w : World V) (st : Store S) (c : Call V) (F : Type 0) where
  -- the call returns an error before the store is asked
  pub step_stopped : (s : S) (e : KeyError) → StopsOpening w c F (why_of e) → Step w st c F s (ReturnsError (why_of e)) s
  step_stopped s e h = stopped (why_of e) h refl refl

  -- memory runs out before that
  pub step_starved : (s : S) → Step w st c F s (ReturnsError Memory) s
  step_starved s = stopped Memory opening_lacks refl refl

module _ {V S : Type 0} (w : World V) (st : Store S) (c : Call V) (o : Opening) (opens : IsOpening w c o) where
  -- what is found under the preprocessor key of the first part is found under the call's key
  found_under : (F : Type 0) (s t : S) (a : Option CallResult) → IsFoundBy st (option_map text_of o.key) c.control (matching w c) F s a t → IsFound w st c F s a t
  found_under F s t a h = subst (λ key. IsFoundBy st key c.control (matching w c) F s a t) (sym opens.key) h

  found_as : (F : Type 0) (s t : S) (r found : Option (String Global)) → r ≡ found → IsFoundBy st (option_map text_of o.key) c.control (matching w c) F s (asked_of (Ok r)) t
      → IsFound w st c F s (asked_of (Ok found)) t
  found_as F s t r found is h = subst (λ r. IsFound w st c F s (asked_of (Ok r)) t) is (found_under F s t (asked_of (Ok r)) h)

  module _ (first second last : ℕ) (up : first ≤ second) (s t : S) where
    -- a stored key is returned
    pub step_hit : (r : Option (String Global)) (key : String Global) → r ≡ Some key → IsFoundBy st (option_map text_of o.key) c.control (matching w c) (Rose second last) s (asked_of (Ok r)) t
        → Step w st c (Rose first last) s (Keyed (string_bytes key) false) t
    step_hit r key is h = by (found_as (Rose second last) s t r (Some key) is h)
      where
        by : IsFound w st c (Rose second last) s (Some (Keyed (string_bytes key) false)) t → Step w st c (Rose first last) s (Keyed (string_bytes key) false) t
        by (inl not) = absurd (some_none not.1)
        by (inr (k, is-k, control, asks)) =
            asked opens.opened k is-k control asks.from_store t asks.got (Some (Keyed (string_bytes key) false))
            (wide_gives (matching w c) (Rose second last) (Rose first last) (rose_earlier first second last up) asks.from_store (Some (Keyed (string_bytes key) false)) asks.gives) (refl, refl)

    -- asking the store fails
    pub step_failed : (e : KeyError) → IsFoundBy st (option_map text_of o.key) c.control (matching w c) (Rose second last) s (asked_of (Err e)) t
        → Step w st c (Rose first last) s (ReturnsError (why_of e)) t
    step_failed e h = by (found_under (Rose second last) s t (Some (ReturnsError (why_of e))) h)
      where
        by : IsFound w st c (Rose second last) s (Some (ReturnsError (why_of e))) t → Step w st c (Rose first last) s (ReturnsError (why_of e)) t
        by (inl not) = absurd (some_none not.1)
        by (inr (k, is-k, control, asks)) =
            asked opens.opened k is-k control asks.from_store t asks.got (Some (ReturnsError (why_of e)))
            (wide_gives (matching w c) (Rose second last) (Rose first last) (rose_earlier first second last up) asks.from_store (Some (ReturnsError (why_of e))) asks.gives) (refl, refl)

    -- the key is computed
    pub step_made : (third : ℕ) → second ≤ third → third ≤ last → (mid : S) (found : Option (String Global)) → found ≡ None
        → IsFoundBy st (option_map text_of o.key) c.control (matching w c) (Rose second third) s (asked_of (Ok found)) mid → (r : CallResult) → Makes w st c (Rose third last) mid r t
        → Step w st c (Rose first last) s r t
    step_made third more rest mid found is h r makes =
        by (found_as (Rose second third) s mid found None is h) (wide_makes w c (Rose third last) (Rose first last) (rose_earlier first third last (omega (up, more, arith))) st mid r t makes)
      where
        by : IsFound w st c (Rose second third) s None mid → Makes w st c (Rose first last) mid r t → Step w st c (Rose first last) s r t
        by (inl not) wide = made opens.opened not.0 (subst (λ m. Makes w st c (Rose first last) m r t) not.2 wide)
        by (inr (k, is-k, control, asks)) wide =
            asked opens.opened k is-k control asks.from_store mid asks.got None
            (wide_gives (matching w c) (Rose second third) (Rose first last) (λ rose. rose_earlier first second last up (rose_later second third last rest rose)) asks.from_store None asks.gives) wide
