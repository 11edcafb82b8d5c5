use Rattle.std.proofs.Common.{rules, ◌≡◌, ◌∙◌, ℤ, inl, refl, FitsSigned}
use Rattle.std.specs.Int.{w64, cast_signed, cast_unsigned}
use Rattle.std.proofs.lemmas.Int.{to_z-of_z}
use Rattle.sled_codec.specs.Snapshots.{model_of}
use Rattle.sled_log.specs.WritesBack.{snapshot_number_of, short_file}
use Rattle.sled_log.proofs.PageTable.TableLemmas.{on_ok}
use Rattle.sled_log.proofs.WriteBack.WriteLemmas.{has_published, publishes}
use Rattle.sled_log.proofs.snapshot.write_back.publish_new.Given.{Over}
use Rattle.sled_log.proofs.snapshot.write_back.publish_new.Goals as goal

pub returns-then-not-can_serialize-clause-calls : goal.returns-then-not-can_serialize-clause-calls
returns-then-not-can_serialize-clause-calls g c =
    inl refl

pub returns-in_err-bytes-clause-calls : goal.returns-in_err-bytes-clause-calls
returns-in_err-bytes-clause-calls g c =
    inl refl

-- what is published is the file of the snapshot, under its number
module _ (g : Over) (c : goal.After-drop-bytes-2 g) where
  abbrev number : ℤ
  number = cast_signed w64 (cast_unsigned w64 c.unwrap_or-number.result)

  is_number : number ≡ snapshot_number_of (model_of c.args.snapshot.now)
  is_number =
      let fits : FitsSigned w64 c.unwrap_or-number.result = search rules in
      to_z-of_z w64 c.unwrap_or-number.result fits ∙ c.unwrap_or-number.ensures

  is_file : c.deref.result.now ≡ short_file g.C.Checksum.sum_of (model_of c.args.snapshot.now)
  is_file = c.deref.ensures.value ∙ c.in_ok-bytes.ensures.bytes

pub returns-clause-done : goal.returns-clause-done
returns-clause-done g c =
    on_ok c.remove_others.result _ _
    (has_published g.C.Checksum.sum_of (model_of c.args.snapshot.now) c.deref.result.now (number g c) (is_file g c) (is_number g c) (g.D.Device.trace c.args.config.now.device) (g.D.Device.trace c.publish.new.device) (g.D.Device.trace c.remove_others.new.device) c.in_ok-publish.ensures.done)
    c.remove_others.ensures.done

pub returns-clause-calls : goal.returns-clause-calls
returns-clause-calls g c =
    publishes g.C.Checksum.sum_of (model_of c.args.snapshot.now) c.deref.result.now (number g c) (is_file g c) (is_number g c) (g.D.Device.trace c.args.config.now.device) (g.D.Device.trace c.publish.new.device) (g.D.Device.trace c.remove_others.new.device) c.in_ok-publish.ensures.done
    (c.can_serialize.ensures.0 c.if-not-can_serialize.false) c.remove_others.ensures.calls
