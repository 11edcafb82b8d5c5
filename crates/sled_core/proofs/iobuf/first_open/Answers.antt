use Rattle.std.proofs.Common.{◌≡◌, ◌<◌, ◌+◌, ◌∙◌, ap, sym, rules, ℕ, List, Some, Bool, true, false, if◌then◌else◌, length, drop, get_or}
use Rattle.std.proofs.lemmas.List.{drop_all}
use Rattle.sled_core.specs.declared.iobuf.Reserved.{Reserved}
use Rattle.sled_core.specs.Buffers.{first_open_in, open_state}
use Rattle.sled_core.proofs.Reserve.OpenCounts.{first_drop}
use Rattle.sled_core.proofs.Reserve.Parts.{there_is}
use Rattle.sled_core.proofs.iobuf.first_open.Goals as goal

-- what is left from an index on begins with what is there
left_at : (rs : List Reserved) (i : ℕ) (r : Reserved) (o : Bool) → i < length rs → r ≡ get_or rs i r → o ≡ open_state r.state → first_open_in (drop i rs) ≡ (if o then Some r.from else first_open_in (drop (i + 1) rs))
left_at rs i r o below is tests = first_drop rs i r (there_is rs i r below is) ∙ ap (λ (b : Bool). if b then Some r.from else first_open_in (drop (i + 1) rs)) (sym tests)

pub loop-i-preserved : goal.loop-i-preserved
loop-i-preserved c = c.loop-i.invariant ∙ left_at c.args.reserved.now.items c.loop-i.i c.index-r.result.now false (search rules) c.index-r.ensures c.if-is_open.ensures

pub returns-then-is_open : goal.returns-then-is_open
returns-then-is_open c = sym (c.loop-i.invariant ∙ left_at c.args.reserved.now.items c.loop-i.i c.index-r.result.now true (search rules) c.index-r.ensures c.if-is_open.ensures)

pub returns : goal.returns
returns c = sym (c.loop-i.invariant ∙ ap first_open_in (drop_all c.loop-i.i c.args.reserved.now.items (search rules)))
