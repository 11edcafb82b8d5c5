-- What is written one behind another is the placeholder, and what is summed behind its header.
use Rattle.std.proofs.Common.{rules, take, drop, length-drop, ◌-◌, ◌≡◌, ◌∙◌, ◌+◌, ap, arith, refl, length, List, ℕ}
use Rattle.std.proofs.lemmas.List.{take_all}
use Rattle.sled_codec.specs.Written.{written}
use Rattle.sled_core.proofs.Reserve.Placeholders.{placed_is, summed_is}
use Rattle.sled_core.proofs.iobuf.record.put_placeholder.Given as given
use Rattle.sled_core.proofs.iobuf.record.put_placeholder.Goals as goal

-- the item, where the tail is written behind it
behind : (g : given.Over) (c : goal.After-sum g) → c.copy_in.new.buf ≡ written c.serialize_into.new.buf (c.args.at + c.args.head.now.len + length (g.T.Serialize.short (g.T.Serialize.meaning c.args.item.now))) (drop 4 c.args.head.now.bytes)
behind g c =
    let head : List ℕ = c.args.head.now.bytes in
    let long : length head ≡ 32 = search rules in
    let tail : take 28 (drop 4 head) ≡ drop 4 head = take_all 28 (drop 4 head) (omega (arith, length-drop 4 head, long)) in
    c.copy_in.ensures.bytes
    ∙ ap (λ (l : List ℕ). written c.serialize_into.new.buf (c.args.at + c.args.head.now.len + c.args.item_len) l) tail
    ∙ ap (λ n. written c.serialize_into.new.buf (c.args.at + c.args.head.now.len + n) (drop 4 head)) c.requires.len

pub returns-clause-sum : goal.returns-clause-sum
returns-clause-sum g c =
    let head = c.args.head.now in
    let item : List ℕ = g.T.Serialize.short (g.T.Serialize.meaning c.args.item.now) in
    let counted : c.args.item_len ≡ length item = c.requires.len in
    c.sum.ensures
    ∙ ap g.C.Checksum.sum_of (summed_is c.args.buf.now c.put_head.new.buf c.serialize_into.new.buf c.copy_in.new.buf head.bytes item c.args.at head.len (search rules) head.within head.long
    (let room = c.requires.room in omega (arith, room, counted)) c.put_head.ensures.front c.put_head.ensures.len c.serialize_into.ensures.bytes (behind g c)
    (c.args.at + head.len) (c.args.at + head.len + c.args.item_len + head.len - 4) refl (omega (arith, counted)))

pub returns-clause-bytes : goal.returns-clause-bytes
returns-clause-bytes g c =
    let head = c.args.head.now in
    let item : List ℕ = g.T.Serialize.short (g.T.Serialize.meaning c.args.item.now) in
    let counted : c.args.item_len ≡ length item = c.requires.len in
    placed_is c.args.buf.now c.put_head.new.buf c.serialize_into.new.buf c.copy_in.new.buf head.bytes item c.args.at head.len (search rules) head.within head.long
    (let room = c.requires.room in omega (arith, room, counted)) c.put_head.ensures.front c.put_head.ensures.len c.serialize_into.ensures.bytes (behind g c)
    (c.args.at + head.len + c.args.item_len) (omega (arith, counted))
