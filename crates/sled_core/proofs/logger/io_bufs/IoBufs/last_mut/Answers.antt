-- It is the one at the number of those behind the first.
use Rattle.std.proofs.Common.{◌≡◌, ap, refl, subst, rules, length, Some}
use Rattle.std.specs.List.{slice_get}
use Rattle.sled_core.specs.inside.Begun.{open_segments, with_nth}
use Rattle.sled_core.proofs.logger.io_bufs.IoBufs.last_mut.Goals as goal

pub returns : goal.returns
returns c =
    let now = c.args.self.now in
    let many : c.len-n.result ≡ length now.behind.items = search rules in (
      (refl, λ s. ap (λ n. with_nth now n s) many),
      record { lends = tt; value = subst (λ n. slice_get (open_segments now) n ≡ Some c.segment_mut.result.now) many c.segment_mut.ensures.value },
    )
