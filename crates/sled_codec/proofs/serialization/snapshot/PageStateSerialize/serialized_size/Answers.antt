-- The byte that counts, and the entries behind it.
use Rattle.std.proofs.Common.{◌≡◌, ◌∙◌, sym, ap, subst, List, arith, length}
use Rattle.std.specs.List.{flat_map}
use Rattle.sled_codec.specs.Spelling.{FitsEach, short_signed, short_pointer}
use Rattle.sled_codec.specs.Snapshots.{Entry, short_entry, FitsEntry}
use Rattle.sled_codec.specs.SnapshotLaws.{length-short_signed, length-short_pointer}
use Rattle.sled_codec.proofs.PageFronts.{as_seen, frags_fit, base_small, frags_small, length-short_present}
use Rattle.sled_codec.proofs.serialization.snapshot.PageStateSerialize.serialized_size.Goals as goal

pub overflow_add-result : goal.overflow_add-result
overflow_add-result c =
    let one : c.serialized_size.result ≡ length (short_entry c.in-Present.base) = c.serialized_size.ensures in
    let few = base_small c.in-Present.base c.in-Present.frags.items (rw c.in-Present.is at c.requires) in
    omega (arith, one, few)

pub size_of_each-requires : goal.size_of_each-requires
size_of_each-requires c =
    subst (FitsEach FitsEntry short_entry) (sym (as_seen c.deref.result.now c.in-Present.frags.items c.deref.ensures.value))
    (frags_fit c.in-Present.base c.in-Present.frags.items (rw c.in-Present.is at c.requires))

-- the sizes of both parts
sizes : (c : goal.After-size_of_each) → (c.serialized_size.result ≡ length (short_entry c.in-Present.base)) × (c.size_of_each.result ≡ length (flat_map short_entry c.in-Present.frags.items))
sizes c = (
  c.serialized_size.ensures,
  c.size_of_each.ensures ∙ ap (λ (es : List Entry). length (flat_map short_entry es)) (as_seen c.deref.result.now c.in-Present.frags.items c.deref.ensures.value),
)

pub overflow_add-result-in-Present : goal.overflow_add-result-in-Present
overflow_add-result-in-Present c =
    let fits = rw c.in-Present.is at c.requires in
    let parts = sizes c in
    omega (arith, parts.0, parts.1, base_small c.in-Present.base c.in-Present.frags.items fits, frags_small c.in-Present.base c.in-Present.frags.items fits)

pub overflow_add-result-in-Free-2 : goal.overflow_add-result-in-Free-2
overflow_add-result-in-Free-2 c =
    let fits = rw c.in-Free.is at c.requires in
    let place : c.serialized_size-in-Free.result ≡ length (short_signed c.in-Free.place) = c.serialized_size-in-Free.ensures in
    let pointer : c.serialized_size-in-Free-2.result ≡ length (short_pointer c.in-Free.pointer) = c.serialized_size-in-Free-2.ensures in
    omega (arith, place, pointer, length-short_signed c.in-Free.place, length-short_pointer c.in-Free.pointer fits.1)

pub returns-in-Present : goal.returns-in-Present
returns-in-Present c =
    let parts = sizes c in
    rw c.in-Present.is (omega (arith, parts.0, parts.1, length-short_present c.in-Present.base c.in-Present.frags.items))
