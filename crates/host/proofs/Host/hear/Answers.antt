use Rattle.host.proofs.Knowing.{learns}
use Rattle.host.proofs.Host.hear.Goals as goal

pub returns-clause-means : goal.returns-clause-means
returns-clause-means c B i ys els l hi t h =
    let s = c.args.self.now in
    learns s.size B i s.stage _ c.args.reply.now c.args.first.now _ ys _ _ els l s.bounds hi t h c.listen.ensures
