-- The mark is that of the places which are read off the first 20 bytes.
use Rattle.std.proofs.Common.{◌∙◌, rules, drop, sym, ap, FitsSigned}
use Rattle.std.specs.Int.{w64}
use Rattle.std.proofs.lemmas.Int.{to_z-of_z}
use Rattle.sled_core.proofs.Reached.ReadMark.{places_mark}
use Rattle.sled_core.proofs.logger.joined_marks.mark_in.Goals as goal

pub returns : goal.returns
returns g c =
    let h = c.from_bytes.result in
    let fits : FitsSigned w64 h.max_stable_lsn = search rules in
    to_z-of_z w64 h.max_stable_lsn fits
    ∙ sym (places_mark c.args.bytes.now h.lsn h.max_stable_lsn fits (ap (drop 4) (sym c.copy_from_slice.ensures.after) ∙ c.from_bytes.ensures.places))
