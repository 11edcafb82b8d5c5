-- A turn writes a name and its number behind those before it.
use Rattle.std.proofs.Common.{◌≡◌, ◌∙◌, sym, ap, ◌+◌, ◌++◌, ◌∷◌, [], ℕ, List, length, map, arith, length-append, append_assoc}
use Rattle.std.specs.declared.vec.Vec.{Vec}
use Rattle.std.specs.declared.alloc.Global.{Global}
use Rattle.std.specs.List.{flat_map}
use Rattle.sled_codec.specs.Spelling.{short_bytes, short_number}
use Rattle.sled_codec.specs.Written.{written, written_twice}
use Rattle.sled_codec.specs.Metas.{Named, named, short_named, short_meta, numbers_of}
use Rattle.sled_codec.proofs.Names.{one_done, bytes_done, length_done, within_all, all_done, entries_in, length_named}
use Rattle.sled_codec.proofs.serialization.meta.MetaSerialize.serialize_into.Goals as goal

pub serialize_into-next-requires-clause-room : goal.serialize_into-next-requires-clause-room
serialize_into-next-requires-clause-room c =
    let so_far = c.loop-name.invariant in
    let all = map named c.args.self.now.inner.entries in
    let e : Vec ℕ Global × ℕ = (c.in-Some.name.now, c.in-Some.page.now) in
    let most = within_all named all so_far.0 c.loop-name.name-iterator c.next.new.self e so_far.1 c.in-Some.ensures.steps in
    let entries = entries_in c.args.self.now.inner c.into_iter-name-iterator.ensures.into_iter_gives.5 in
    let whole : length (short_meta (numbers_of c.args.self.now)) ≡ length (flat_map short_named all) = ap (λ (ps : List Named). length (flat_map short_named ps)) entries in
    omega (arith, most, whole, so_far.2, length_named (named e), c.requires.room, c.loop-name.auto.buf)

pub serialize_into-next-requires-in-loop-name-clause-room : goal.serialize_into-next-requires-in-loop-name-clause-room
serialize_into-next-requires-in-loop-name-clause-room c =
    let so_far = c.loop-name.invariant in
    let all = map named c.args.self.now.inner.entries in
    let e : Vec ℕ Global × ℕ = (c.in-Some.name.now, c.in-Some.page.now) in
    let most = within_all named all so_far.0 c.loop-name.name-iterator c.next.new.self e so_far.1 c.in-Some.ensures.steps in
    let entries = entries_in c.args.self.now.inner c.into_iter-name-iterator.ensures.into_iter_gives.5 in
    let whole : length (short_meta (numbers_of c.args.self.now)) ≡ length (flat_map short_named all) = ap (λ (ps : List Named). length (flat_map short_named ps)) entries in
    omega (arith, most, whole, so_far.2, length_named (named e), c.requires.room, c.loop-name.auto.buf, c.serialize_into-next.ensures.next)

pub loop-name-preserved : goal.loop-name-preserved
loop-name-preserved c =
    let so_far = c.loop-name.invariant in
    let all = map named c.args.self.now.inner.entries in
    let e : Vec ℕ Global × ℕ = (c.in-Some.name.now, c.in-Some.page.now) in
    let buf : List ℕ = c.args.buf.now in
    let at : ℕ = c.args.at in
    let done : List ℕ = flat_map short_named so_far.0 in
    let name : List ℕ = short_bytes c.in-Some.name.now.items in
    let page : List ℕ = short_number c.in-Some.page.now in
    let most = within_all named all so_far.0 c.loop-name.name-iterator c.next.new.self e so_far.1 c.in-Some.ensures.steps in
    let entries = entries_in c.args.self.now.inner c.into_iter-name-iterator.ensures.into_iter_gives.5 in
    let whole : length (short_meta (numbers_of c.args.self.now)) ≡ length (flat_map short_named all) = ap (λ (ps : List Named). length (flat_map short_named ps)) entries in
    let bytes = bytes_done named all so_far.0 c.loop-name.name-iterator c.next.new.self e so_far.1 c.in-Some.ensures.steps in
    let long = length_done named all so_far.0 c.loop-name.name-iterator c.next.new.self e so_far.1 c.in-Some.ensures.steps in
    let both : length (done ++ name) ≡ length done + length name = length-append done name in
    let one : c.serialize_into-next.new.buf ≡ written buf at (done ++ name) =
    c.serialize_into-next.ensures.bytes
    ∙ ap (λ (l : List ℕ). written l c.loop-name.next name) so_far.3
    ∙ written_twice buf at done (omega (arith, most, whole, c.requires.room)) name _ so_far.2 in (
      so_far.0 ++ named e ∷ [],
      one_done named all so_far.0 c.loop-name.name-iterator c.next.new.self e so_far.1 c.in-Some.ensures.steps,
      omega (arith, long, so_far.2, length_named (named e), c.serialize_into-next.ensures.next, c.serialize_into-next-in-loop-name.ensures.next),
      c.serialize_into-next-in-loop-name.ensures.bytes
          ∙ ap (λ (l : List ℕ). written l c.serialize_into-next.result page) one
          ∙ written_twice buf at (done ++ name) (omega (arith, most, whole, both, length_named (named e), c.requires.room)) page _ (omega (arith, both, so_far.2, c.serialize_into-next.ensures.next))
          ∙ ap (written buf at) (append_assoc done name page ∙ sym bytes),
    )

-- at the end all are written
ended : (c : goal.In-None) → flat_map short_named c.loop-name.invariant.0 ≡ short_meta (numbers_of c.args.self.now)
ended c =
    let so_far = c.loop-name.invariant in
    let all = all_done named (map named c.args.self.now.inner.entries) so_far.0 c.loop-name.name-iterator so_far.1 c.in-None.ensures.steps.0 in
    let entries = entries_in c.args.self.now.inner c.into_iter-name-iterator.ensures.into_iter_gives.5 in
    ap (flat_map short_named) (all ∙ sym entries)

pub returns-clause-next : goal.returns-clause-next
returns-clause-next c = c.loop-name.invariant.2 ∙ ap (λ (l : List ℕ). c.args.at + length l) (ended c)

pub returns-clause-bytes : goal.returns-clause-bytes
returns-clause-bytes c = c.loop-name.invariant.3 ∙ ap (written c.args.buf.now c.args.at) (ended c)
