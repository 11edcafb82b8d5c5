-- A buffer begins with the header exactly where it begins its segment.
use Rattle.std.proofs.Common.{rules, w64, SFits, ◌≡◌, ◌∙◌, ◌==◌, ap, sym, arith, true, false, if◌then◌else◌, Bool, Some, None}
use Rattle.std.proofs.lemmas.Bool.Decides.{nat_tests}
use Rattle.sled_core.specs.HeaderMark.{mark_at, mark_in}
use Rattle.sled_core.proofs.logger.joined_marks.mark_at.Goals as goal
use Rattle.std.proofs.lemmas.Int.{to_z-of_z}

pub mark_in-requires : goal.mark_in-requires
mark_in-requires g c = c.requires (let none = c.if-from-gt0.false in omega (arith, none))

pub returns-then-from-gt0 : goal.returns-then-from-gt0
unfolding mark_at
returns-then-from-gt0 g c =
    let some = c.if-from-gt0.true in
    let not : (c.args.from == 0) ≡ false = grind (arith, nat_tests, some) in
    sym (ap (λ (o : Bool). if o then Some (mark_in c.args.bytes.now) else None) not)

pub returns : goal.returns
unfolding mark_at
returns g c =
    let none = c.if-from-gt0.false in
    let is : (c.args.from == 0) ≡ true = grind (arith, nat_tests, none) in
    let fits : SFits w64 c.mark_in.result = search rules in
    ap Some (to_z-of_z w64 c.mark_in.result fits ∙ c.mark_in.ensures)
    ∙ sym (ap (λ (o : Bool). if o then Some (mark_in c.args.bytes.now) else None) is)
