-- The table is kept where a log is open.
use Rattle.std.proofs.Common.{◌∙◌, List, Some, ap, map, sym, subst}
use Rattle.std.specs.Prelude.{IsSome}
use Rattle.sled_codec.specs.PageTables.{IsTable}
use Rattle.sled_codec.specs.Snapshots.{page_of}
use Rattle.sled_codec.specs.declared.serialization.snapshot.PageState.{PageState}
use Rattle.sled_log.specs.RunStates.{top}
use Rattle.sled_log.specs.RunPhases.{view_by}
use Rattle.sled_log.proofs.Sessions.SessionLemmas.{stands_open, stands_closed}
use Rattle.sled_log.proofs.session.Session.pages.Goals as goal

pub returns-in-Open : goal.returns-in-Open
returns-in-Open g c = record {
  table = λ stopped a at.
      let view = view_by g.D.Device.trace g.D.Device.faults stopped in
      subst (λ (l : List PageState). IsSome a.log × IsTable (map page_of l) a.history top) (sym c.deref.ensures.value)
      (stands_open view g.C.Checksum.sum_of c.args.self.now a c.in-Open.opened (sym c.in_ok-opened.ensures.value ∙ ap Some c.in-Open.is) at);
}

pub returns-in-Closed : goal.returns-in-Closed
returns-in-Closed g c = record {
  table = λ stopped a at.
      let view = view_by g.D.Device.trace g.D.Device.faults stopped in
      stands_closed view g.C.Checksum.sum_of c.args.self.now a c.in-Closed.field-0 (sym c.in_ok-opened.ensures.value ∙ ap Some c.in-Closed.is) at;
}
