use Rattle.std.proofs.Common.{◌≡◌, ◌≤◌, ◌+◌, ◌∙◌, ap, sym, arith, ℕ, List, Some, None, drop, length, pos, w64}
use Rattle.std.specs.List.{All}
use Rattle.std.proofs.lemmas.Int.{to_z_pos}
use Rattle.std.proofs.lemmas.List.Elements.{All-drop}
use Rattle.sled_core.specs.declared.iobuf.Reserved.{Reserved}
use Rattle.sled_core.specs.Buffers.{first_open_in}
use Rattle.sled_core.proofs.Reserve.OpenCounts.{first_within}
use Rattle.sled_core.proofs.iobuf.IoBuf.least_open.Goals as goal

-- the first one that is open lies within the bytes
lies_within : (n from at : ℕ) (rs : List Reserved) → All (λ r. r.from + r.len ≤ n) rs → first_open_in (drop from rs) ≡ Some at → at ≤ n
lies_within n from at rs all is = first_within n (drop from rs) at (All-drop (λ (r : Reserved). r.from + r.len ≤ n) from rs all) is

pub overflow_add-result : goal.overflow_add-result
overflow_add-result c =
    let low = lies_within (length c.args.self.now.bytes.items) c.args.from c.in-Some.at c.args.self.now.reserved.items c.args.self.now.within (sym c.first_open.ensures ∙ c.in-Some.is) in
    let small = c.requires.place in
    omega (arith, low, small)

pub overflow_cast-result : goal.overflow_cast-result
overflow_cast-result c =
    let low = lies_within (length c.args.self.now.bytes.items) c.args.from c.in-Some.at c.args.self.now.reserved.items c.args.self.now.within (sym c.first_open.ensures ∙ c.in-Some.is) in
    let small = c.requires.place in
    omega (arith, low, small)

pub returns-in-Some : goal.returns-in-Some
returns-in-Some c = λ at there.
    let is : first_open_in (drop c.args.from c.args.self.now.reserved.items) ≡ Some c.in-Some.at = sym c.first_open.ensures ∙ c.in-Some.is in
    let low = lies_within (length c.args.self.now.bytes.items) c.args.from c.in-Some.at c.args.self.now.reserved.items c.args.self.now.within is in
    let small = c.requires.place in
    let both : Some c.in-Some.at ≡ Some at = sym is ∙ there in
    let same : c.in-Some.at ≡ at = cc in
    to_z_pos w64 (c.args.site.now.place + c.in-Some.at) (omega (arith, low, small)) ∙ ap (λ n. pos (c.args.site.now.place + n)) same

pub returns-in-None : goal.returns-in-None
returns-in-None c = λ at there.
    let never : None ≡ Some at = sym c.in-None.is ∙ c.first_open.ensures ∙ there in
    cc
