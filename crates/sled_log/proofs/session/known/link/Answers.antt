use Rattle.std.proofs.Common.{rules}
use Rattle.sled_log.specs.Endings.{put_on}
use Rattle.sled_log.proofs.Sessions.Endings.{set_seen}
use Rattle.sled_log.proofs.session.known.link.Goals as goal

pub returns-in-Some : goal.returns-in-Some
returns-in-Some c = set_seen c.args.pages.now.items c.args.page c.in-Some.state.now c.push_on.new.state (put_on c.args.entry) (search rules) (search rules) c.push_on.ensures
