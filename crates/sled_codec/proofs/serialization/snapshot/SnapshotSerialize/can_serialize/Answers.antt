-- A snapshot has a spelling where its parts have one, and they are short enough together.
use Rattle.std.proofs.Common.{◌≡◌, ◌∙◌, sym, ap, subst, ◌+◌, ℕ, true, false, Option, Some, None, is_some, List, length, map, refl, arith}
use Rattle.std.specs.Option.{SomeIff}
use Rattle.std.specs.List.{flat_map}
use Rattle.sled_codec.specs.Spelling.{FitsEach}
use Rattle.sled_codec.specs.declared.serialization.snapshot.PageState.{PageState}
use Rattle.sled_codec.specs.Snapshots.{model_of, page_of, FitsPage, short_page, short_snapshot}
use Rattle.sled_codec.specs.SnapshotLaws.{short_coords, length-short_snapshot, fits_coords}
use Rattle.sled_codec.proofs.serialization.snapshot.SnapshotSerialize.can_serialize.Goals as goal
use Rattle.sled_codec.proofs.serialization.snapshot.SnapshotSerialize.can_serialize.Goals.{then-not-can_serialize-via-then-not-can_serialize, then-not-can_serialize-via-else-not-can_serialize+then-not-can_serialize_each}

pub returns-then-not-can_serialize : goal.returns-then-not-can_serialize
returns-then-not-can_serialize c =
    elim c.then-not-can_serialize.branch [
      | then-not-can_serialize-via-then-not-can_serialize w ↦ (
        λ t. cc,
        λ fits.
            let yes = c.can_serialize.ensures.1 (fits_coords (model_of c.args.self.now) fits.stable fits.active) in
            let off = w.if-not-can_serialize.true in
            cc,
      )
      | then-not-can_serialize-via-else-not-can_serialize+then-not-can_serialize_each w ↦ (
        λ t. cc,
        λ fits.
            let long = length-short_snapshot (model_of c.args.self.now) in
            let each : FitsEach FitsPage short_page (map page_of c.args.self.now.pt.items) = (fits.pages, omega (arith, long, fits.small)) in
            let yes = w.can_serialize_each.ensures.1 (subst (λ (ps : List PageState). FitsEach FitsPage short_page (map page_of ps)) (sym w.deref.ensures.value) each) in
            let off = w.if-not-can_serialize_each.true in
            cc,
      )
    ]

-- a sum is there where it fits
fits_iff : (P : Type 0) (v : ℕ) (o : Option ℕ) → SomeIff o P v → (is_some o ≡ true → P) × (P → is_some o ≡ true)
fits_iff P v None none = (λ t. let clash : false ≡ true = t in cc, λ p. absurd (none p))
fits_iff P v (Some x) some = (λ t. some.0, λ p. refl)

pub returns : goal.returns
returns c =
    let s = model_of c.args.self.now in
    let long = length-short_snapshot s in
    let front : c.serialized_size-front.result ≡ length (short_coords s) = c.serialized_size-front.ensures in
    let back : c.size_of_each.result ≡ length (flat_map short_page s.pages) = c.size_of_each.ensures ∙ ap (λ (ps : List PageState). length (flat_map short_page (map page_of ps))) c.deref-2.ensures.value in
    let coords = c.can_serialize.ensures.0 c.if-not-can_serialize.false in
    let each : FitsEach FitsPage short_page s.pages = subst (λ (ps : List PageState). FitsEach FitsPage short_page (map page_of ps)) c.deref.ensures.value (c.can_serialize_each.ensures.0 c.if-not-can_serialize_each.false) in
    let fit : c.serialized_size-front.result + c.size_of_each.result ≡ length (short_snapshot s) = omega (arith, front, back, long) in (
      λ t. record {
        stable = coords.0;
        active = coords.1;
        pages = each.0;
        small = omega (arith, fit, (fits_iff _ _ c.checked_add.result c.checked_add.ensures).0 (sym c.is_some.ensures ∙ t));
      },
      λ fits. c.is_some.ensures ∙ (fits_iff _ _ c.checked_add.result c.checked_add.ensures).1 (omega (arith, fit, fits.small)),
    )
