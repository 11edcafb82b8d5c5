-- Equality of errors is lawful, and each error equals itself.
use Rattle.std.specs.Prelude.{◌≡◌, Bool, nat_eq}
use Rattle.std.specs.Cmp.{IsEquivalence, IsPartialEquivalence, partial_equiv_from_equiv, and_equiv, on_equiv, nat_eq_equiv, int_eq_equiv}
use Rattle.std.specs.Cmp.Lexicographic.{pointwise, lists_equiv, options_equiv}
use Rattle.std.specs.Option.{option_eq}
use Rattle.std.specs.Ordering.{on, eq_of_both, int_eq}
use Rattle.std.specs.contracts.io.ErrorKind.{the_type}
use denote.Enum.Bare.{sameb}
use denote.Enum.Declared.{tag_of}
use Rattle.sled_codec.specs.declared.result.Error.{Error}
use Rattle.sled_codec.specs.Errors.{variant_of, lid_in, blob_in, text_of, fault_of, place_of}

-- errors are equal where all that tells them apart is
abbrev pub error_eq : Error → Error → Bool
error_eq =
    eq_of_both (on variant_of nat_eq)
    (eq_of_both (on lid_in (option_eq nat_eq))
    (eq_of_both (on blob_in (option_eq int_eq))
    (eq_of_both (on text_of (pointwise nat_eq))
    (eq_of_both (on fault_of (option_eq (sameb the_type))) (on place_of int_eq)))))

kinds_equiv : IsEquivalence (sameb the_type)
kinds_equiv = on_equiv (tag_of the_type) nat_eq_equiv

pub error_equiv : IsEquivalence error_eq
error_equiv =
    and_equiv (on_equiv variant_of nat_eq_equiv)
    (and_equiv (on_equiv lid_in (options_equiv nat_eq_equiv))
    (and_equiv (on_equiv blob_in (options_equiv int_eq_equiv))
    (and_equiv (on_equiv text_of (lists_equiv nat_eq_equiv))
    (and_equiv (on_equiv fault_of (options_equiv kinds_equiv)) (on_equiv place_of int_eq_equiv)))))

pub error_per : IsPartialEquivalence error_eq
error_per = partial_equiv_from_equiv error_equiv

-- what tells errors apart is the same
pub record SameError (e copy : Error) : Type 0 where
  pub variants : variant_of copy ≡ variant_of e
  pub lids : lid_in copy ≡ lid_in e
  pub blobs : blob_in copy ≡ blob_in e
  pub texts : text_of copy ≡ text_of e
  pub faults : fault_of copy ≡ fault_of e
  pub places : place_of copy ≡ place_of e
