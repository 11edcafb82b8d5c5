-- A page has a spelling where its entries have one, and there are few enough.
use Rattle.std.proofs.Common.{◌≡◌, ◌∙◌, sym, subst, ◌<◌, ◌≤◌, nat_le, true, List, arith, length}
use borrow.Author.Tests.{leb-true}
use Rattle.sled_codec.specs.Spelling.{FitsEach}
use Rattle.sled_codec.specs.Snapshots.{Entry, FitsEntry, short_entry}
use Rattle.sled_codec.proofs.PageFronts.{as_seen, frags_fit}
use Rattle.sled_codec.proofs.serialization.snapshot.PageStateSerialize.can_serialize.Goals as goal
use Rattle.sled_codec.proofs.serialization.snapshot.PageStateSerialize.can_serialize.Goals.{then-len-le-MAX_FRAGS, else-len-le-MAX_FRAGS}

pub returns-then-can_serialize : goal.returns-then-can_serialize
returns-then-can_serialize c =
    let base = c.in-Present.base in
    let frags : List Entry = c.in-Present.frags.items in
    let seen = as_seen c.deref.result.now frags c.deref.ensures.value in
    let tested : (c.len.result ≤ 254) × FitsEntry base = elim c.if-len-le-MAX_FRAGS.branch [
      | then-len-le-MAX_FRAGS w ↦ (w.if-len-le-MAX_FRAGS.true, w.can_serialize.ensures.0 (sym w.value-is ∙ c.if-can_serialize.true))
      | else-len-le-MAX_FRAGS w ↦ let test : nat_le c.len.result 254 ≡ true = sym w.value-is ∙ c.if-can_serialize.true in
          absurd (omega (arith, leb-true c.len.result 254 test, w.if-len-le-MAX_FRAGS.false))
    ] in
    let few : length frags < 255 = omega (arith, tested.0) in
    rw c.in-Present.is (
      λ t.
          let each : FitsEach FitsEntry short_entry frags = subst (FitsEach FitsEntry short_entry) seen (c.can_serialize_each.ensures.0 t) in
          (few, tested.1, each.0),
      λ fits. c.can_serialize_each.ensures.1 (subst (FitsEach FitsEntry short_entry) (sym seen) (frags_fit base frags fits)),
    )
