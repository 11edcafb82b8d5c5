use Rattle.std.proofs.Common.{rules, ◌≤◌, ◌≡◌, length, None, ◌∙◌, ap}
use Rattle.std.proofs.Math.Seq.{map-set_same}
use Rattle.std.specs.List.{slice_get}
use Rattle.std.proofs.lemmas.Option.{slice_get_past}
use Rattle.sled_codec.specs.Snapshots.{page_of}
use Rattle.sled_log.specs.Endings.{HasRoomOn}
use Rattle.sled_log.proofs.PageTable.TableLemmas.{on_ok}
use Rattle.sled_log.proofs.Sessions.Endings.{room_there}
use Rattle.sled_log.proofs.session.known.room_to_link.Goals as goal

pub returns-in-Some-clause-kept : goal.returns-in-Some-clause-kept
returns-in-Some-clause-kept c =
    map-set_same page_of c.args.pages.now.items c.args.page c.room_on.new.state c.in-Some.state.now (c.room_on.ensures.kept ∙ ap page_of (search rules))

pub returns-in-Some-clause-room : goal.returns-in-Some-clause-room
returns-in-Some-clause-room c =
    on_ok c.room_on.result (HasRoomOn c.room_on.new.state) _
    (λ room s at. room_there c.args.pages.now.items c.args.page c.in-Some.state.now c.room_on.new.state s (search rules) (search rules) room at) c.room_on.ensures.room

pub returns-in-None-clause-room : goal.returns-in-None-clause-room
returns-in-None-clause-room c = λ s at.
    let none : length c.args.pages.now.items ≤ c.args.page = search rules in
    let past : slice_get c.args.pages.now.items c.args.page ≡ None = slice_get_past c.args.pages.now.items c.args.page none in
    absurd cc
