use Rattle.std.proofs.Common.{rules}
use Rattle.sled_log.proofs.Sessions.Endings.{put_known}
use Rattle.sled_log.proofs.session.known.put.Goals as goal

pub returns-in-Some : goal.returns-in-Some
returns-in-Some c = put_known c.args.pages.now.items c.args.page c.args.state (search rules)
