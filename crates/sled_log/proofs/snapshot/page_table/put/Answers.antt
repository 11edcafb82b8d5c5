use Rattle.std.proofs.Common.{◌∙◌, ap, set}
use Rattle.std.proofs.lemmas.List.{map-set}
use Rattle.sled_codec.specs.Snapshots.{page_of}
use Rattle.sled_log.proofs.snapshot.page_table.put.Goals as goal

pub returns-clause-table : goal.returns-clause-table
returns-clause-table c =
    map-set page_of c.grow.new.pages.items c.args.page c.args.state ∙ ap (λ l. set l c.args.page (page_of c.args.state)) c.in_ok-grow.ensures.pages
