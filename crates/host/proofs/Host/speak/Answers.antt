use Rattle.host.proofs.Knowing.{speaks, frame-room}
use Rattle.host.proofs.Host.speak.Goals as goal

pub returns-clause-means : goal.returns-clause-means
returns-clause-means c B ok h =
    let s = c.args.self.now in
    speaks s.size B s.stage _ c.args.first.now _ c.args.second.now _ c.args.frame.now _ _ _ s.bounds c.say.ensures ok h

pub returns-clause-room : goal.returns-clause-room
returns-clause-room c =
    let s = c.args.self.now in
    frame-room s.size s.stage _ c.args.first.now _ c.args.second.now _ c.args.frame.now _ _ _ _ c.say.auto.frame c.say.ensures
