-- What holds for the faults of a part of a call holds for those of the whole call.
use Rattle.std.proofs.Common.{inl, inr, Bool, Option}
use Rattle.cck_include.specs.Include.{Include}
use Rattle.cck_util.specs.Store.{Returned, Store}
use Rattle.cck_hasher.specs.Call.{CallResult, Call, Why}
use Rattle.cck_hasher.specs.Step.{Gives, Makes, Stores, StopsMaking, StopsOpening, damaged, extra_fault, faulted, gives, input_fault, lacked, making_lacks, marker, matched, no_bytes, no_extra, no_input, no_key, no_text, no_used_input, none_recorded, nothing, opening_lacks, puts, refused, stops, store_failed, store_lacked, text_fault, unmatched, used_input_fault}
use Rattle.cck_path.specs.Bytes.{Bytes}
use Rattle.cck_hasher.specs.World.{World}

pub wide_gives : (test : Include → Bool) (F G : Type 0) → (F → G) → (a : Returned) (o : Option CallResult) → Gives test F a o → Gives test G a o
wide_gives test F G more a o (store_failed is) = store_failed is
wide_gives test F G more a o (store_lacked is) = store_lacked is
wide_gives test F G more a o (nothing is) = nothing is
wide_gives test F G more a o (no_bytes is) = no_bytes is
wide_gives test F G more a o (matched bytes key e list is text at all which) =
    matched bytes key e list is text at all (elim which [ inl exact ↦ inl exact | inr fault ↦ inr (more fault) ])
wide_gives test F G more a o (unmatched bytes e is text which) = unmatched bytes e is text (elim which [ inl none ↦ inl none | inr fault ↦ inr (more fault) ])
wide_gives test F G more a o (damaged bytes is some none) = damaged bytes is some none
wide_gives test F G more a o (lacked bytes is) = lacked bytes is

module _ {V : Type 0} (w : World V) (c : Call V) (F G : Type 0) (more : F → G) where
  pub wide_opening : (why : Why) → StopsOpening w c F why → StopsOpening w c G why
  wide_opening why opening_lacks = opening_lacks
  wide_opening why (no_extra none) = no_extra none
  wide_opening why (extra_fault fault) = extra_fault (more fault)
  wide_opening why (no_used_input extra used none) = no_used_input extra used none
  wide_opening why (used_input_fault used fault) = used_input_fault used (more fault)

  pub wide_making : (why : Why) → StopsMaking w c F why → StopsMaking w c G why
  wide_making why making_lacks = making_lacks
  wide_making why (no_text needs none) = no_text needs none
  wide_making why (text_fault needs fault) = text_fault needs (more fault)
  wide_making why (no_input needs none) = no_input needs none
  wide_making why (input_fault needs fault) = input_fault needs (more fault)
  wide_making why (marker key text prints errs) = marker key text prints errs

  wide_stores : {S : Type 0} (st : Store S) (key : Bytes) (s t : S) → Stores w st c F key s t → Stores w st c G key s t
  wide_stores st key s t (puts k bytes own stored put) = puts k bytes own stored put
  wide_stores st key s t (no_key none same) = no_key none same
  wide_stores st key s t (refused text prints walk same) = refused text prints walk same
  wide_stores st key s t (none_recorded text prints walk none same) = none_recorded text prints walk none same
  wide_stores st key s t (faulted fault same) = faulted (more fault) same

  pub wide_makes : {S : Type 0} (st : Store S) (s : S) (r : CallResult) (t : S) → Makes w st c F s r t → Makes w st c G s r t
  wide_makes st s r t (stops why cause is same) = stops why (wide_making why cause) is same
  wide_makes st s r t (gives key is-plain is stores) = gives key is-plain is (wide_stores st key s t stores)
