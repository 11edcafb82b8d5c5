-- The byte that counts is written, and the entries behind it.
use Rattle.std.proofs.Common.{◌≡◌, ◌∙◌, sym, ap, subst, ℕ, ◌+◌, ◌≤◌, List, [], ◌∷◌, ◌++◌, length, arith, length-append}
use Rattle.std.specs.List.{All, flat_map}
use Rattle.sled_codec.specs.Spelling.{short_signed, short_pointer}
use Rattle.sled_codec.specs.Written.{written, written_twice}
use Rattle.sled_codec.specs.Snapshots.{Entry, short_entry, FitsEntry}
use Rattle.sled_codec.proofs.PageFronts.{as_seen, length-short_present, length-short_free}
use Rattle.sled_codec.proofs.serialization.snapshot.PageStateSerialize.serialize_into.Goals as goal

pub serialize_each-requires-clause-fits : goal.serialize_each-requires-clause-fits
serialize_each-requires-clause-fits c =
    let fits = rw c.in-Present.is at c.requires.fits in
    subst (All FitsEntry) (sym (as_seen c.deref.result.now c.in-Present.frags.items c.deref.ensures.value)) fits.2

pub serialize_each-requires-clause-room : goal.serialize_each-requires-clause-room
serialize_each-requires-clause-room c =
    let base = c.in-Present.base in
    let frags : List Entry = c.in-Present.frags.items in
    let room = rw c.in-Present.is at c.requires.room in
    let next : c.serialize_into-next-in-Present.result ≡ c.serialize_into-next.result + length (short_entry base) = c.serialize_into-next-in-Present.ensures.next in
    subst (λ (es : List Entry). c.serialize_into-next-in-Present.result + length (flat_map short_entry es) ≤ length c.serialize_into-next-in-Present.new.buf) (sym (as_seen c.deref.result.now frags c.deref.ensures.value))
    (omega (arith, room, next, length-short_present base frags, c.serialize_into-next.ensures.next))

pub returns-in-Present-clause-next : goal.returns-in-Present-clause-next
returns-in-Present-clause-next c =
    let base = c.in-Present.base in
    let frags : List Entry = c.in-Present.frags.items in
    let next : c.serialize_into-next-in-Present.result ≡ c.serialize_into-next.result + length (short_entry base) = c.serialize_into-next-in-Present.ensures.next in
    let last : c.serialize_each.result ≡ c.serialize_into-next-in-Present.result + length (flat_map short_entry frags) = c.serialize_each.ensures.next ∙ ap (λ (es : List Entry). c.serialize_into-next-in-Present.result + length (flat_map short_entry es)) (as_seen c.deref.result.now frags c.deref.ensures.value) in
    rw c.in-Present.is (omega (arith, next, last, length-short_present base frags, c.serialize_into-next.ensures.next))

pub returns-in-Present-clause-bytes : goal.returns-in-Present-clause-bytes
returns-in-Present-clause-bytes c =
    let buf : List ℕ = c.args.buf.now in
    let at : ℕ = c.args.at in
    let frags : List Entry = c.in-Present.frags.items in
    let count : List ℕ = (1 + length frags) ∷ [] in
    let base : List ℕ = short_entry c.in-Present.base in
    let others : List ℕ = flat_map short_entry frags in
    let seen = as_seen c.deref.result.now frags c.deref.ensures.value in
    let room = rw c.in-Present.is at c.requires.room in
    let whole = length-short_present c.in-Present.base frags in
    let counted : 1 + c.len.result ≡ 1 + length frags = omega (arith, c.len.ensures) in
    let one : c.serialize_into-next.new.buf ≡ written buf at count = c.serialize_into-next.ensures.bytes ∙ ap (λ n. written buf at (n ∷ [])) counted in
    let long : length (count ++ base) ≡ 1 + length base = length-append count base in
    let next : c.serialize_into-next-in-Present.result ≡ c.serialize_into-next.result + length base = c.serialize_into-next-in-Present.ensures.next in
    let two : c.serialize_into-next-in-Present.new.buf ≡ written buf at (count ++ base) =
    c.serialize_into-next-in-Present.ensures.bytes
    ∙ ap (λ (l : List ℕ). written l c.serialize_into-next.result base) one
    ∙ written_twice buf at count (omega (arith, room, whole)) base _ c.serialize_into-next.ensures.next in
    rw c.in-Present.is
    (c.serialize_each.ensures.bytes
    ∙ ap (λ (es : List Entry). written c.serialize_into-next-in-Present.new.buf c.serialize_into-next-in-Present.result (flat_map short_entry es)) seen
    ∙ ap (λ (l : List ℕ). written l c.serialize_into-next-in-Present.result others) two
    ∙ written_twice buf at (count ++ base) (omega (arith, room, whole, long)) others _ (omega (arith, next, long, c.serialize_into-next.ensures.next)))

pub returns-in-Free-clause-bytes : goal.returns-in-Free-clause-bytes
returns-in-Free-clause-bytes c =
    let buf : List ℕ = c.args.buf.now in
    let at : ℕ = c.args.at in
    let zero : List ℕ = 0 ∷ [] in
    let place : List ℕ = short_signed c.in-Free.place in
    let pointer : List ℕ = short_pointer c.in-Free.pointer in
    let room = rw c.in-Free.is at c.requires.room in
    let whole = length-short_free c.in-Free.place c.in-Free.pointer in
    let long : length (zero ++ place) ≡ 1 + length place = length-append zero place in
    let two : c.serialize_into-next-in-Free-2.new.buf ≡ written buf at (zero ++ place) =
    c.serialize_into-next-in-Free-2.ensures.bytes
    ∙ ap (λ (l : List ℕ). written l c.serialize_into-next-in-Free.result place) c.serialize_into-next-in-Free.ensures.bytes
    ∙ written_twice buf at zero (omega (arith, room, whole)) place _ c.serialize_into-next-in-Free.ensures.next in
    rw c.in-Free.is
    (c.serialize_into.ensures.bytes
    ∙ ap (λ (l : List ℕ). written l c.serialize_into-next-in-Free-2.result pointer) two
    ∙ written_twice buf at (zero ++ place) (omega (arith, room, whole, long)) pointer _ (omega (arith, long, c.serialize_into-next-in-Free.ensures.next, c.serialize_into-next-in-Free-2.ensures.next)))
